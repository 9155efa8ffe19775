-- The model engine. 01 "Whole runs", "Handlers and steps"; 02, M-104, M-107 and M-112: "Demand 3's lists may hold such
-- changes, the model engine making them too". It is fed the programs and each call's kind and arguments, never an
-- answer: first one call under a program, then turns, each a call or a change of programs, and lists of them.
use Rattle.std.specs.Prelude.{ℕ, ◌+◌, Bool, true, false, List, [], ◌∷◌, length, get_or, take, ltb, leb}
use Rattle.lib_base.specs.Basics.{pick}
use Rattle.spec_language.specs.Syntax.{Program}
use Rattle.spec_language.specs.Dependence.{size, events}
use Rattle.spec_language.specs.Rights.{may_send, may_see}
use Rattle.spec_language.specs.Code.{off, code}
use Rattle.spec_semantics.specs.Meaning.{fresh, at}
use Rattle.spec_execution.specs.Execution.{Values, execute, emptied, masked_after, copying_back_after}
use Rattle.spec_model.specs.Carried.{carried}

-- ---- what it keeps

-- an arrival taken in: its number, its event, and the player who sent it (02, M-107: "the hand and the step answers
-- keep it")
pub record Arrival : Type 0 where
  pub number : ℕ
  pub event : ℕ
  pub player : ℕ

abbrev pub arrival : ℕ → ℕ → ℕ → Arrival
arrival n e who = record { number = n; event = e; player = who }

-- nothing runs, or an arrival runs with its count of instructions done
pub data Running : Type 0 where
  rest : Running
  busy : Arrival → ℕ → Running

-- the number taken in, the waiting arrivals, the running one, and the values (01: board, scratch, evaluation stack, the
-- later handlers' places; 02, M-104: the mark)
pub data Engine : Type 0 where
  engine : ℕ → List Arrival → Running → Values → Engine

-- "It begins with a fresh round's board, none taken in and all else empty."
abbrev pub initial : Program → Engine
initial p = engine 0 [] rest (emptied (fresh p))

-- the queue (01: hand): "the waiting arrivals and the running one"
abbrev pub queue : List Arrival → Running → List Arrival
queue waiting rest = waiting
queue waiting (busy a c) = a ∷ waiting

-- ---- calls and answers

-- 02, M-107: "Each arrival, board reading and preview now carries its player": the event and the player; the behaviour
-- and the player
pub data Call : Type 0 where
  arrive : ℕ → ℕ → Call
  step : Call
  board : ℕ → ℕ → Call

pub data Answer : Type 0 where
  refused : ℕ → Answer  -- by this number
  told_taken_in : Answer  -- an arrival
  shows : ℕ → Answer  -- a board reading: the behaviour's value
  idle : Answer  -- a step, and the four that follow
  ran : Answer  -- one instruction
  started : Arrival → Answer  -- the next starts
  preempted : Arrival → Answer  -- the next starts, and the running one goes back to the hand (01: breaks in)
  committed : Arrival → Bool → Answer  -- one instruction, the last; and whether the event ran over (02, M-104)

-- an answer, and the engine after the call
pub record Outcome : Type 0 where
  pub answer : Answer
  pub after : Engine

abbrev pub outcome : Answer → Engine → Outcome
outcome a w = record { answer = a; after = w }

-- ---- the choice. "Next means highest rank, then lowest arrival number."

-- the next of the waiting, and the others
pub record Chosen : Type 0 where
  pub next : Arrival
  pub others : List Arrival

module _ (p : Program) where
  -- 01: rank
  abbrev pub priority : ℕ → ℕ
  priority e = get_or p.priorities e 0

  abbrev pub rank : Arrival → ℕ
  rank a = priority a.event

  -- b goes before a
  abbrev pub before : Arrival → Arrival → Bool
  before b a = pick (ltb (rank a) (rank b)) true (pick (ltb (rank b) (rank a)) false (ltb b.number a.number))

  abbrev pub aside : Arrival → Chosen → Chosen
  aside x c = record { next = c.next; others = x ∷ c.others }

  abbrev pub choose : Arrival → List Arrival → Chosen
  choose a [] = record { next = a; others = [] }
  choose a (b ∷ l) = pick (before b a) (aside a (choose b l)) (aside b (choose a l))

  -- ---- masking and copy-back follow from the count

  abbrev pub masked : Arrival → ℕ → Bool
  masked a c = masked_after (take c (code p a.event))

  abbrev pub in_copy_back : Running → Bool
  in_copy_back rest = false
  in_copy_back (busy a c) = copying_back_after (take c (code p a.event))

  -- ---- a step

  -- "A start takes the next out of the waiting, its count 0, with scratch, stack and places empty."
  abbrev pub begin : ℕ → Chosen → Values → Engine
  begin t c d = engine t c.others (busy c.next 0) (emptied d.store)

  -- "An instruction is the one at that count in the event's list, and the count grows by one; after the last, nothing
  -- runs." M-104: "the committing step's answer carries a mark"
  abbrev pub advance : ℕ → List Arrival → Arrival → ℕ → Values → Outcome
  advance t waiting a c d =
      pick (ltb (c + 1) (length (code p a.event)))
      (outcome ran (engine t waiting (busy a (c + 1)) (execute (get_or (code p a.event) c off) d)))
      (outcome (committed a (execute (get_or (code p a.event) c off) d).mark) (engine t waiting rest (execute (get_or (code p a.event) c off) d)))

  -- something waits, the next being c, and a runs: it goes back to the hand under its old number where something
  -- outranks it, unmasked
  abbrev pub contest : ℕ → List Arrival → Chosen → Arrival → ℕ → Values → Outcome
  contest t waiting c a n d =
      pick (masked a n) (advance t waiting a n d)
      (pick (ltb (rank a) (rank c.next)) (outcome (preempted c.next) (begin t (aside a c) d)) (advance t waiting a n d))

  abbrev pub stepped : ℕ → List Arrival → Running → Values → Outcome
  stepped t [] rest d = outcome idle (engine t [] rest d)
  stepped t (b ∷ l) rest d = outcome (started (choose b l).next) (begin t (choose b l) d)
  stepped t [] (busy a n) d = advance t [] a n d
  stepped t (b ∷ l) (busy a n) d = contest t (b ∷ l) (choose b l) a n d

  -- ---- an arrival and a board reading

  -- M-107: "24 when the player is above 7, after 14 ..; 25 when the right is missing, after 15 for an arrival, .. and
  -- after 18 for a behaviour"
  abbrev pub arrived : ℕ → ℕ → ℕ → List Arrival → Running → Values → Outcome
  arrived e who t waiting r d =
      pick (leb 8 who) (outcome (refused 24) (engine t waiting r d))
      (pick (leb (events p) e) (outcome (refused 15) (engine t waiting r d))
      (pick (may_send p who e)
      (pick (leb 64 (length (queue waiting r))) (outcome (refused 16) (engine t waiting r d))
      (pick (leb 1000000 t) (outcome (refused 17) (engine t waiting r d))
      (outcome told_taken_in (engine (t + 1) (arrival t e who ∷ waiting) r d))))
      (outcome (refused 25) (engine t waiting r d))))

  abbrev pub read : ℕ → ℕ → Running → Values → Answer
  read i who r d =
      pick (leb 8 who) (refused 24)
      (pick (leb (size p) i) (refused 18)
      (pick (may_see p who i)
      (pick (in_copy_back r) (refused 19)
      (shows (at d.store i)))
      (refused 25)))

  -- ---- one call

  unfoldable pub act : Call → Engine → Outcome
  act (arrive e who) (engine t waiting r d) = arrived e who t waiting r d
  act step (engine t waiting r d) = stepped t waiting r d
  act (board i who) (engine t waiting r d) = outcome (read i who r d) (engine t waiting r d)

  -- calls one after the other under this program: a preview makes them on its copy
  unfoldable pub run : List Call → Engine → Engine
  run [] w = w
  run (c ∷ cs) w = run cs (act c w).after

-- ---- turns

-- a call, or a change: "A round is carried to a newly compiled table.", this program's
pub data Turn : Type 0 where
  call : Call → Turn
  change : Program → Turn

-- the program in force, and the engine
pub data State : Type 0 where
  state : Program → Engine → State

-- a call's answer, and that of a refused change; a change that is made answers that alone
pub data Reply : Type 0 where
  says : Answer → Reply
  carried_over : Reply

pub record TurnOutcome : Type 0 where
  pub reply : Reply
  pub after : State

abbrev pub turn_outcome : Reply → State → TurnOutcome
turn_outcome r s = record { reply = r; after = s }

-- every event of these arrivals is declared
abbrev pub declared_in : Program → List Arrival → Bool
declared_in q [] = true
declared_in q (a ∷ l) = pick (ltb a.event (events q)) (declared_in q l) false

-- "Actives that are active in both keep their value, other actives take the new start, passives are worked out anew.
-- The hand, its players, arrival numbers and the number taken in remain; the running event goes back to the hand.":
-- nothing runs, and scratch, stack and places are empty
abbrev pub carried_to : Program → Program → Engine → Engine
carried_to p q (engine t waiting r d) = engine t (queue waiting r) rest (emptied (carried p q d.store))

-- "During copy-back it is refused by 19 .. 28 when the hand holds an event that the new sheet doesn't declare, checked
-- after 19": a refusal changes nothing
abbrev pub changed : Program → Program → Engine → TurnOutcome
changed p q (engine t waiting r d) =
    pick (in_copy_back p r) (turn_outcome (says (refused 19)) (state p (engine t waiting r d)))
    (pick (declared_in q (queue waiting r)) (turn_outcome carried_over (state q (carried_to p q (engine t waiting r d))))
    (turn_outcome (says (refused 28)) (state p (engine t waiting r d))))

-- ---- one turn, and a list of turns

unfoldable pub turn : Turn → State → TurnOutcome
turn (call c) (state p w) = turn_outcome (says (act p c w).answer) (state p (act p c w).after)
turn (change q) (state p w) = changed p q w

unfoldable pub run_turns : List Turn → State → State
run_turns [] s = s
run_turns (t ∷ ts) s = run_turns ts (turn t s).after

unfoldable pub replies : List Turn → State → List Reply
replies [] s = []
replies (t ∷ ts) s = (turn t s).reply ∷ replies ts (turn t s).after

-- a round that start has just made fresh
abbrev pub begun : Program → State
begun p = state p (initial p)
