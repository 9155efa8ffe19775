-- No two answers to one kind of call have the same number: each is read back from it. Answer by answer.
use Rattle.lib_base.proofs.Prelude.{ℕ, ◌≤◌, ◌<◌, ◌+◌, ◌-◌, ◌%◌, ◌/◌, ◌≡◌, refl, ◌∙◌, sym, ap, subst, true, false, Bool}
use Rattle.lib_base.proofs.Prelude.{◌≢◌, List, [], ◌∷◌, length, eqb, ltb, leb, ne_eqb, le-ltb, lt-ltb, lt-leb, le-leb}
use Rattle.lib_base.proofs.Prelude.{arith}
use Rattle.lib_base.specs.Basics.{pick}
use Rattle.lib_base.proofs.Tools.{by_test, all_perm}
use Rattle.spec_language.specs.Syntax.{Program}
use Rattle.spec_language.specs.Dependence.{size, events}
use Rattle.spec_language.specs.Code.{code}
use Rattle.spec_language.specs.Rights.{may_send, may_see}
use Rattle.spec_language.specs.Refusals as refusals
use Rattle.spec_execution.specs.Execution.{Values}
use Rattle.spec_model.specs.Model.{Arrival, rest, busy, Engine, engine, queue, Call, arrive, step, board, Answer, refused, told_taken_in, shows, idle, ran, started, preempted, committed, Outcome, rank, masked, in_copy_back, choose, advance, act}
use Rattle.spec_model.proofs.Choice.{choose_perm}
use Rattle.spec_model.proofs.Reached.{Fine, Reached}
use Rattle.run_dispatch.specs.Said.{said}
use Rattle.run_advance.specs.Mark.{over_mark}
use Rattle.refine_calls.specs.Refinement.{coded, step_answer, decoded, told_on}

-- ---- the answers to an arrival, to a step and to a board reading, events being below 256, arrivals below 2^40 and
-- players below 16

abbrev pub ToArrive : Answer → Type 0
ToArrive (refused n) = 0 < n
ToArrive told_taken_in = Unit {0}
ToArrive (shows v) = ⊥
ToArrive idle = ⊥
ToArrive ran = ⊥
ToArrive (started a) = ⊥
ToArrive (preempted a) = ⊥
ToArrive (committed a m) = ⊥

abbrev pub Small : Arrival → Type 0
Small a = (a.event < 256) × (a.number < 1099511627776) × (a.player < 16)

abbrev pub ToStep : Answer → Type 0
ToStep (refused n) = ⊥
ToStep told_taken_in = ⊥
ToStep (shows v) = ⊥
ToStep idle = Unit {0}
ToStep ran = Unit {0}
ToStep (started a) = Small a
ToStep (preempted a) = Small a
ToStep (committed a m) = Small a

abbrev pub ToBoard : Answer → Type 0
ToBoard (refused n) = n < 4294967296
ToBoard told_taken_in = ⊥
ToBoard (shows v) = Unit {0}
ToBoard idle = ⊥
ToBoard ran = ⊥
ToBoard (started a) = ⊥
ToBoard (preempted a) = ⊥
ToBoard (committed a m) = ⊥

abbrev pub To : Call → Answer → Type 0
To (arrive e who) a = ToArrive a
To step a = ToStep a
To (board i who) a = ToBoard a

-- ---- reading back

said_kind : (k n e who : ℕ) → k < 16 → said k n e who % 16 ≡ k
unfolding said
said_kind k n e who b = omega arith

said_number : (k n e who : ℕ) → e < 256 → who < 16 → k < 16 → n < 1099511627776 → said k n e who / 65536 % 1099511627776 ≡ n
unfolding said
said_number k n e who h g b c = omega arith

said_event : (k n e who : ℕ) → e < 256 → who < 16 → k < 16 → said k n e who / 256 % 256 ≡ e
unfolding said
said_event k n e who h g b = omega arith

said_player : (k n e who : ℕ) → who < 16 → k < 16 → said k n e who / 16 % 16 ≡ who
unfolding said
said_player k n e who g b = omega arith

said_large : (k n e who : ℕ) → 2 ≤ k → k < 14 → (said k n e who ≢ 0) × (said k n e who ≢ 1) × (said k n e who ≢ 14)
unfolding said
said_large k n e who h b = (omega arith, omega arith, omega arith)

said_below : (k n e who : ℕ) → e < 256 → who < 16 → k < 16 → n < 1099511627776 → said k n e who < over_mark
unfolding said
said_below k n e who h g b c = omega arith

-- what is said of an arrival with kind k, without a mark
step_said : (k : ℕ) (a : Arrival) → 2 ≤ k → k < 14 → Small a
    → step_answer (said k a.number a.event a.player) ≡ pick (eqb k 2) (started a) (pick (eqb k 3) (committed a false) (preempted a))
step_said k a h less c =
    let b : k < 16 = omega arith in
    let v = said k a.number a.event a.player in
    let z = said_large k a.number a.event a.player h less in
    rw (
      ne_eqb v 14 z.2,
      ne_eqb v 0 z.0,
      ne_eqb v 1 z.1,
      said_kind k a.number a.event a.player b,
      said_number k a.number a.event a.player c.0 c.2 b c.1,
      said_event k a.number a.event a.player c.0 c.2 b,
      said_player k a.number a.event a.player c.2 b,
      lt-leb over_mark v (said_below k a.number a.event a.player c.0 c.2 b c.1),
    )

-- a mark is no part of the arrival's number, nor of the event's, nor of the player's
past_number : (v : ℕ) → (over_mark + v) / 65536 % 1099511627776 ≡ v / 65536 % 1099511627776
past_number v = let q : (over_mark + v) / 65536 ≡ 1099511627776 + v / 65536 = omega arith in rw q (omega arith)

past_event : (v : ℕ) → (over_mark + v) / 256 % 256 ≡ v / 256 % 256
past_event v = let q : (over_mark + v) / 256 ≡ 281474976710656 + v / 256 = omega arith in rw q (omega arith)

past_player : (v : ℕ) → (over_mark + v) / 16 % 16 ≡ v / 16 % 16
past_player v = let q : (over_mark + v) / 16 ≡ 4503599627370496 + v / 16 = omega arith in rw q (omega arith)

-- and of a commit with one
step_marked : (a : Arrival) → Small a → step_answer (over_mark + said 3 a.number a.event a.player) ≡ committed a true
step_marked a c =
    let v = said 3 a.number a.event a.player in
    let k : v % 16 ≡ 3 = said_kind 3 a.number a.event a.player (omega arith) in
    let n : v / 65536 % 1099511627776 ≡ a.number = said_number 3 a.number a.event a.player c.0 c.2 (omega arith) c.1 in
    let e : v / 256 % 256 ≡ a.event = said_event 3 a.number a.event a.player c.0 c.2 (omega arith) in
    let u : v / 16 % 16 ≡ a.player = said_player 3 a.number a.event a.player c.2 (omega arith) in
    let kind : (over_mark + v) % 16 ≡ 3 = omega arith in
    let number : (over_mark + v) / 65536 % 1099511627776 ≡ a.number = past_number v ∙ n in
    let event : (over_mark + v) / 256 % 256 ≡ a.event = past_event v ∙ e in
    let player : (over_mark + v) / 16 % 16 ≡ a.player = past_player v ∙ u in
    rw (
      ne_eqb (over_mark + v) 14 (omega arith),
      ne_eqb (over_mark + v) 0 (omega arith),
      ne_eqb (over_mark + v) 1 (omega arith),
      kind,
      number,
      event,
      player,
      le-leb over_mark (over_mark + v) (omega arith),
    )

pub decoded_arrive : (e who : ℕ) (a : Answer) → ToArrive a → decoded (arrive e who) (coded a) ≡ a
decoded_arrive e who (refused n) h = let z : n ≢ 0 = omega arith in rw (ne_eqb n 0 z)
decoded_arrive e who told_taken_in h = refl
decoded_arrive e who (shows v) h = absurd h
decoded_arrive e who idle h = absurd h
decoded_arrive e who ran h = absurd h
decoded_arrive e who (started a) h = absurd h
decoded_arrive e who (preempted a) h = absurd h
decoded_arrive e who (committed a m) h = absurd h

pub decoded_step : (a : Answer) → ToStep a → decoded step (coded a) ≡ a
decoded_step (refused n) h = absurd h
decoded_step told_taken_in h = absurd h
decoded_step (shows v) h = absurd h
decoded_step idle h = refl
decoded_step ran h = refl
decoded_step (started a) h = step_said 2 a (omega arith) (omega arith) h
decoded_step (preempted a) h = step_said 4 a (omega arith) (omega arith) h
decoded_step (committed a false) h = step_said 3 a (omega arith) (omega arith) h
decoded_step (committed a true) h = step_marked a h

pub decoded_board : (i who : ℕ) (a : Answer) → ToBoard a → decoded (board i who) (coded a) ≡ a
decoded_board i who (refused n) h = rw (lt-ltb n 4294967296 h)
decoded_board i who told_taken_in h = absurd h
decoded_board i who (shows v) h =
    let z : 4294967296 + v - 4294967296 ≡ v = omega arith in
    rw (le-ltb (4294967296 + v) 4294967296 (omega arith), z)
decoded_board i who idle h = absurd h
decoded_board i who ran h = absurd h
decoded_board i who (started a) h = absurd h
decoded_board i who (preempted a) h = absurd h
decoded_board i who (committed a m) h = absurd h

pub decoded_coded : (c : Call) (a : Answer) → To c a → decoded c (coded a) ≡ a
decoded_coded (arrive e who) a h = decoded_arrive e who a h
decoded_coded step a h = decoded_step a h
decoded_coded (board i who) a h = decoded_board i who a h

-- two answers to one kind of call with the same number are one
pub coded_injective : (c : Call) (a b : Answer) → To c a → To c b → coded a ≡ coded b → a ≡ b
coded_injective c a b h k e = sym (decoded_coded c a h) ∙ ap (decoded c) e ∙ decoded_coded c b k

-- a step's 14 is the refusal, and no answer of the model engine's has that number
pub foreign_read : decoded step refusals.foreign ≡ refused refusals.foreign
foreign_read = refl

pub foreign_apart : (a : Answer) → ToStep a → coded a ≢ refusals.foreign
foreign_apart a h e = subst ToStep (sym (decoded_step a h) ∙ ap (decoded step) e) h

-- ---- what the others are told: 02, M-107: "without the mark"

-- a kind and an arrival are told as they are
said_told : (k : ℕ) (a : Arrival) → k < 16 → Small a → told_on (said k a.number a.event a.player) ≡ said k a.number a.event a.player
said_told k a b h = let z = said_below k a.number a.event a.player h.0 h.2 b h.1 in omega arith

past : (v : ℕ) → told_on (over_mark + v) ≡ told_on v
past v = omega arith

pub commit_told : (a : Arrival) (m : Bool) → ToStep (committed a m) → told_on (coded (committed a m)) ≡ coded (committed a false)
commit_told a false h = said_told 3 a (omega arith) h
commit_told a true h = past (said 3 a.number a.event a.player) ∙ said_told 3 a (omega arith) h

pub other_told : (x : Answer) → ToStep x → ((a : Arrival) (m : Bool) → x ≢ committed a m) → told_on (coded x) ≡ coded x
other_told (refused n) h c = absurd h
other_told told_taken_in h c = absurd h
other_told (shows v) h c = absurd h
other_told idle h c = refl
other_told ran h c = refl
other_told (started a) h c = said_told 2 a (omega arith) h
other_told (preempted a) h c = said_told 4 a (omega arith) h
other_told (committed a m) h c = absurd (c a m refl)

-- ---- the model's answers are such

module _ (p : Program) (few : events p ≤ 256) where
  advance_to : (t : ℕ) (q : List Arrival) (a : Arrival) (n : ℕ) (d : Values) → Fine p t a → t ≤ 1000000 → ToStep (advance p t q a n d).answer
  advance_to t q a n d h b = by_test (λ (o : Outcome). ToStep o.answer) (ltb (n + 1) (length (code p a.event))) (λ _. tt) (λ _. omega arith)

  pub answer_to_law : (c : Call) (w : Engine) → Reached p w → To c (act p c w).answer
  unfolding act
  answer_to_law (arrive e who) (engine t q r d) i =
      by_test (λ (o : Outcome). ToArrive o.answer) (leb 8 who) (λ _. omega arith)
      (λ _. by_test (λ (o : Outcome). ToArrive o.answer) (leb (events p) e) (λ _. omega arith)
      (λ _. by_test (λ (o : Outcome). ToArrive o.answer) (may_send p who e)
      (λ _. by_test (λ (o : Outcome). ToArrive o.answer) (leb 64 (length (queue q r))) (λ _. omega arith)
      (λ _. by_test (λ (o : Outcome). ToArrive o.answer) (leb 1000000 t) (λ _. omega arith) (λ _. tt)))
      (λ _. omega arith)))
  answer_to_law step (engine t [] rest d) i = tt
  answer_to_law step (engine t (b ∷ l) rest d) i = let f = all_perm (Fine p t) (choose_perm p b l) i.fine in omega (arith, f.0, i.bounded)
  answer_to_law step (engine t [] (busy a n) d) i = advance_to t [] a n d i.fine.0 i.bounded
  answer_to_law step (engine t (b ∷ l) (busy a n) d) i =
      let f = all_perm (Fine p t) (choose_perm p b l) i.fine.1 in
      by_test (λ (o : Outcome). ToStep o.answer) (masked p a n) (λ _. advance_to t (b ∷ l) a n d i.fine.0 i.bounded)
      (λ _. by_test (λ (o : Outcome). ToStep o.answer) (ltb (rank p a) (rank p (choose p b l).next)) (λ _. omega (arith, f.0, i.bounded))
      (λ _. advance_to t (b ∷ l) a n d i.fine.0 i.bounded))
  answer_to_law (board j who) (engine t q r d) i =
      by_test ToBoard (leb 8 who) (λ _. omega arith)
      (λ _. by_test ToBoard (leb (size p) j) (λ _. omega arith)
      (λ _. by_test ToBoard (may_see p who j) (λ _. by_test ToBoard (in_copy_back p r) (λ _. omega arith) (λ _. tt)) (λ _. omega arith)))
