-- What a row of turns takes in, of the model engine: rows one after the other, and rows of steps, which take nothing
-- in. A row keeps that what is taken in is a beginning of an order.
use Rattle.lib_base.proofs.Prelude.{ℕ, ◌≤◌, ◌<◌, ◌+◌, suc, zero, ◌≡◌, refl, ◌∙◌, sym, ap, List, [], ◌∷◌, ◌++◌, map}
use Rattle.lib_base.proofs.Prelude.{append_assoc, append-nil, length, get_or, take, length-append, take-suc, arith}
use Rattle.spec_model.specs.Model.{Arrival, arrival, board, Turn, call, change, State, Reply, says, carried_over, turn, run_turns, replies}
use Rattle.spec_model.specs.Claims.{if_taken_in, taken_turns}
use Rattle.spec_model.proofs.States.{number_in}
use Rattle.spec_model.proofs.Moves.{Effect, nothing, took, commit, effect}
use Rattle.spec_model.proofs.Calls.{gathered, counted, taken_gathered}
use Rattle.spec_model.proofs.History.{take_turn, count_turn, number_turn}
use Rattle.refine_frames.specs.Frames.{step_calls}
use Rattle.engine_order.specs.Orders.{EventOrder, entry_event, entry_player, entries_from, first_entries}

-- ---- one turn, and rows

one_takes : (t : Turn) (r : Reply) (n : ℕ) (l : ℕ → List Arrival) → if_taken_in t r n l ≡ take_turn t r n [] ++ l (count_turn t r n)
one_takes (call c) (says x) n l = taken_gathered c x n [] l
one_takes (call c) carried_over n l = refl
one_takes (change q) r n l = refl

-- what the turns take in from a state on
abbrev pub taken_by : List Turn → State → List Arrival
taken_by ts s = taken_turns ts (replies ts s) (number_in s)

pub first_takes : (t : Turn) (ts : List Turn) (s : State) → taken_by (t ∷ ts) s ≡ take_turn t (turn t s).reply (number_in s) [] ++ taken_by ts (turn t s).after
unfolding taken_turns replies
first_takes t ts s =
    one_takes t (turn t s).reply (number_in s) (taken_turns ts (replies ts (turn t s).after))
    ∙ ap (λ (n : ℕ). take_turn t (turn t s).reply (number_in s) [] ++ taken_turns ts (replies ts (turn t s).after) n) (sym (number_turn t s))

pub none_takes : (s : State) → taken_by [] s ≡ []
unfolding taken_turns
none_takes s = refl

pub rows_take : (ts us : List Turn) (s : State) → taken_by (ts ++ us) s ≡ taken_by ts s ++ taken_by us (run_turns ts s)
unfolding run_turns
rows_take [] us s = ap (λ (l : List Arrival). l ++ taken_by us s) (sym (none_takes s))
rows_take (t ∷ ts) us s =
    let a : List Arrival = take_turn t (turn t s).reply (number_in s) [] in
    let v : State = (turn t s).after in
    first_takes t (ts ++ us) s ∙ ap (λ (l : List Arrival). a ++ l) (rows_take ts us v) ∙ sym (append_assoc a (taken_by ts v) (taken_by us (run_turns ts v)))
    ∙ ap (λ (l : List Arrival). l ++ taken_by us (run_turns ts v)) (sym (first_takes t ts s))

-- ---- the number taken in grows by them

effect_grows : (x : Effect) (n : ℕ) → n + length (gathered x []) ≡ counted x n
effect_grows nothing n = omega arith
effect_grows (took a) n = omega arith
effect_grows (commit a) n = omega arith

turn_grows : (t : Turn) (r : Reply) (n : ℕ) → n + length (take_turn t r n []) ≡ count_turn t r n
turn_grows (call c) (says x) n = effect_grows (effect c x n) n
turn_grows (call c) carried_over n = omega arith
turn_grows (change q) r n = omega arith

pub row_grows : (ts : List Turn) (s : State) → number_in (run_turns ts s) ≡ number_in s + length (taken_by ts s)
unfolding run_turns
row_grows [] s = rw (none_takes s) (omega arith)
row_grows (t ∷ ts) s =
    let a : List Arrival = take_turn t (turn t s).reply (number_in s) [] in
    let v : State = (turn t s).after in
    let e : length (taken_by (t ∷ ts) s) ≡ length a + length (taken_by ts v) = ap (λ (l : List Arrival). length l) (first_takes t ts s) ∙ length-append a (taken_by ts v) in
    rw e (row_grows ts v ∙ rw (number_turn t s) (omega (arith, turn_grows t (turn t s).reply (number_in s))))

-- ---- steps and board readings take nothing in

pub steps_take_none : (k : ℕ) (rs : List Reply) (n : ℕ) → taken_turns (map call (step_calls k)) rs n ≡ []
unfolding taken_turns
steps_take_none zero rs n = refl
steps_take_none (suc k) [] n = refl
steps_take_none (suc k) (says a ∷ rs) n = steps_take_none k rs n
steps_take_none (suc k) (carried_over ∷ rs) n = steps_take_none k rs n

pub board_takes_none : (i who : ℕ) (r : Reply) (n : ℕ) → taken_turns (call (board i who) ∷ []) (r ∷ []) n ≡ []
unfolding taken_turns
board_takes_none i who (says a) n = refl
board_takes_none i who carried_over n = refl

-- ---- a beginning of an order

-- from s on the turns take in what comes next in the order: n of it are taken in before them
pub record Onward (order : EventOrder) (s : State) (ts : List Turn) : Type 0 where
  pub taken : first_entries (number_in s) order ++ taken_by ts s ≡ first_entries (number_in (run_turns ts s)) order
  pub within : number_in (run_turns ts s) ≤ length order

pub takes_none : (order : EventOrder) (s : State) (ts : List Turn) → taken_by ts s ≡ [] → number_in s ≤ length order → Onward order s ts
takes_none order s ts e h =
    let n : number_in (run_turns ts s) ≡ number_in s = row_grows ts s ∙ rw e (omega arith) in
    record {
      taken = rw (e, n) (append-nil (first_entries (number_in s) order));
      within = rw n h;
    }

entries_append : (n : ℕ) (a b : EventOrder) → entries_from n (a ++ b) ≡ entries_from n a ++ entries_from (n + length a) b
unfolding entries_from
entries_append n [] b = let z : n + 0 ≡ n = omega arith in rw z
entries_append n (x ∷ a) b =
    let z : suc n + length a ≡ n + suc (length a) = omega arith in
    ap (λ (l : List Arrival). arrival n x.0 x.1 ∷ l) (entries_append (suc n) a b ∙ ap (λ (k : ℕ). entries_from (suc n) a ++ entries_from k b) z)

length_taken : (k : ℕ) (l : EventOrder) → k ≤ length l → length (take k l) ≡ k
length_taken zero l h = refl
length_taken (suc k) [] h = absurd (omega arith)
length_taken (suc k) (x ∷ l) h = ap suc (length_taken k l (omega arith))

one_more : (n : ℕ) (order : EventOrder) → n < length order → first_entries (suc n) order ≡ first_entries n order ++ (arrival n (entry_event order n) (entry_player order n) ∷ [])
unfolding entries_from
one_more n order h =
    let z : 0 + length (take n order) ≡ n = omega (arith, length_taken n order (omega arith)) in
    ap (entries_from 0) (take-suc order n (0, 0) h) ∙ entries_append 0 (take n order) (get_or order n (0, 0) ∷ [])
    ∙ ap (λ (k : ℕ). first_entries n order ++ entries_from k (get_or order n (0, 0) ∷ [])) z

pub takes_next : (order : EventOrder) (s : State) (ts : List Turn) (n : ℕ) → n < length order → number_in s ≡ n
    → taken_by ts s ≡ arrival n (entry_event order n) (entry_player order n) ∷ [] → Onward order s ts
takes_next order s ts n h at e =
    let z : number_in (run_turns ts s) ≡ suc n = row_grows ts s ∙ rw (e, at) (omega arith) in
    record {
      taken = rw (e, at, z) (sym (one_more n order h));
      within = rw z h;
    }

pub onward_rows : (order : EventOrder) (s : State) (ts us : List Turn) → run_turns (ts ++ us) s ≡ run_turns us (run_turns ts s)
    → Onward order s ts → Onward order (run_turns ts s) us → Onward order s (ts ++ us)
onward_rows order s ts us same a b = record {
  taken = rw (same, rows_take ts us s) (sym (append_assoc (first_entries (number_in s) order) (taken_by ts s) (taken_by us (run_turns ts s)))
      ∙ ap (λ (l : List Arrival). l ++ taken_by us (run_turns ts s)) a.taken ∙ b.taken);
  within = rw same b.within;
}
