-- The loops over who is met, the bytes of the order, and what the check finds. A mark is 0 or 1, so that the sum fits.
use Rattle.lib_base.proofs.Prelude.{ℕ, ◌≤◌, ◌<◌, ◌+◌, ◌-◌, ◌≡◌, refl, ◌∙◌, sym, ap, subst, true, false, Bool, ◌||◌}
use Rattle.lib_base.proofs.Prelude.{◌&&◌, not, or-false, and-false, and-true, ◌≢◌, by_cases, List, length}
use Rattle.lib_base.proofs.Prelude.{take, get_or-take, length-take-le, eqb, dec_lt, ne_eqb, le-ltb, lt-ltb, eq-eqb, arith}
use Rattle.lib_base.proofs.Prelude.{not-true, not-false, eqb-false, eqb-true}
use Rattle.lib_base.specs.Basics.{pick}
use Rattle.lib_bits.specs.Bits.{bit}
use Rattle.lib_bits.proofs.BitLaws.{bit_none}
use Rattle.spec_language.specs.Refusals.{cycle}
use Rattle.draft_form.specs.Draft.{draft_length, entry_of}
use Rattle.check_graph.specs.Matrix.{cell}
use Rattle.check_graph.specs.Placing.{placed, order_on, ordered}
use Rattle.check_graph.specs.Sets.{bytes_of, marks_of}
use Rattle.check_graph.proofs.OrderIs.{order_written, written_take, ordered_same, order_count_law, order_member}
use Rattle.check_graph.proofs.SetLaws.{length_marks, cell_bytes_law, marked_is}
use Rattle.check_faults.specs.Checks.{matrix_on, RowsAre, RowsInside}
use Rattle.check_faults.proofs.RowLaws.{rows_same}
use Rattle.std.specs.Prelude.{Option, Some, None}
use Rattle.back_schedule.specs.Ordering.{met_mark, MetAre, order_under, OrderHolds, OrderListed, count_turns, is_ordered, Checked}

-- ---- who is met, and the order

-- the set after one of the behaviours that is met at once, and after another
module _ (set i v j : ℕ) where
  pub met_one : not (eqb (met_mark v) 0) ≡ true → bit set j || eqb j i ≡ bit set j || (not (eqb (met_mark v) 0) && eqb j i)
  met_one h = rw h refl

  pub met_none : not (eqb (met_mark v) 0) ≡ false → bit set j ≡ bit set j || (not (eqb (met_mark v) 0) && eqb j i)
  met_none h = rw h (sym (or-false (bit set j)))

pub record Marking (d : List ℕ) (e set i : ℕ) : Type 0 where
  pub so_far : (j : ℕ) → j < i → bit set j ≡ not (eqb (met_mark (entry_of d e j)) 0)
  pub past : (j : ℕ) → i ≤ j → bit set j ≡ false

pub marking_start : (d : List ℕ) (e : ℕ) → Marking d e 0 0
marking_start d e = record { so_far = λ j h. absurd (omega arith); past = λ j h. bit_none j }

pub marking_turn : {d : List ℕ} {e set set' i v : ℕ} → Marking d e set i → v ≡ entry_of d e i
    → ((j : ℕ) → bit set' j ≡ bit set j || (not (eqb (met_mark v) 0) && eqb j i)) → Marking d e set' (i + 1)
marking_turn {d} {e} {set} {set'} {i} {v} t q k = record {
  so_far = λ j c. by_cases (dec_lt j i)
      (λ p. k j ∙ rw (ne_eqb j i (omega arith), and-false (not (eqb (met_mark v) 0)), or-false (bit set j)) (t.so_far j p))
      (λ p. let x : j ≡ i = omega arith in k j ∙ rw (x, t.past i (omega arith), eq-eqb i i refl, ← q, and-true (not (eqb (met_mark v) 0))));
  past = λ j c. k j ∙ rw (ne_eqb j i (omega arith), and-false (not (eqb (met_mark v) 0)), or-false (bit set j)) (t.past j (omega arith));
}

pub marking_end : {d : List ℕ} {e n set i : ℕ} → Marking d e set i → n ≤ i → MetAre d e n set
marking_end t h = record { each_mark = λ j c. t.so_far j (omega arith) }

-- the bytes that `order_of` writes, from the rows of event e and who is met
pub order_holds : (d : List ℕ) (e n : ℕ) (rows : List ℕ) (met count set : ℕ) (out out' : List ℕ) → length d ≡ draft_length → n ≤ 64 → RowsInside d e n
    → RowsAre d e n rows → MetAre d e n met → length out ≡ 64 → placed count (marks_of set) out' ≡ order_on (bytes_of rows) n n (marks_of met) 0 out → length out' ≡ 64
    → OrderHolds out' count n (order_under d e n)
unfolding order_under
order_holds d e n rows met count set out out' dl small inside w k o r l' =
    let m = bytes_of rows in
    let marks = marks_of met in
    let l = length_marks met in
    record {
      taken =
          written_take (ordered m n marks) out count (marks_of set) out' (order_written m marks out n l o small count (marks_of set) out' r)
          ∙ ordered_same m marks n (λ i j. cell (matrix_on d e n) i j) (λ i. not (eqb (met_mark (entry_of d e i)) 0))
          (λ i j a b. cell_bytes_law rows i j (omega arith) (omega arith) ∙ rows_same d dl e n small inside w i j a b)
          (λ i b. marked_is met i (omega arith) ∙ k.each_mark i b);
      listed = record {
        long = omega (arith, order_count_law m marks out n l o small count (marks_of set) out' r);
        below = order_member m marks out n l o small count (marks_of set) out' r;
      };
    }

-- ---- the check

-- a turn from its mark
pub turn_none : (v : ℕ) {w : ℕ} → v ≡ w → not (eqb (met_mark v) 0) ≡ true → 1 - met_mark w ≡ 0
turn_none v q h = let z : met_mark v ≢ 0 = eqb-false (met_mark v) 0 (not-true _ h) in rw (← q) (omega arith)

pub turn_one : (v : ℕ) {w : ℕ} → v ≡ w → not (eqb (met_mark v) 0) ≡ false → 1 - met_mark w ≡ 1
turn_one v q h = let z : met_mark v ≡ 0 = eqb-true (met_mark v) 0 (not-false _ h) in rw (← q, z) refl

-- the bytes of the order by themselves
pub listed_alone : {o : List ℕ} {count n : ℕ} → OrderListed o count n → OrderListed (take count o) (length (take count o)) n
listed_alone {o} {count} h =
    let l : length (take count o) ≡ count = length-take-le count o h.long in
    record { long = omega arith; below = λ j b. rw (get_or-take count o j 0 (omega (arith, l))) (h.below j (omega (arith, l))) }

holds_count : {o is : List ℕ} {count n : ℕ} → OrderHolds o count n is → length is ≡ count
holds_count {o} {is} {count} h = rw (← h.taken) (length-take-le count o h.listed.long)

pub left_out : (d : List ℕ) (e n : ℕ) {o : List ℕ} {count t : ℕ} → OrderHolds o count n (order_under d e n) → t ≡ count_turns d e n → count < t → is_ordered d e n ≡ false
unfolding is_ordered
left_out d e n h q b = rw (holds_count h, ← q) (ap not (lt-ltb _ _ b))

pub all_in : (d : List ℕ) (e n : ℕ) {o : List ℕ} {count t : ℕ} → OrderHolds o count n (order_under d e n) → t ≡ count_turns d e n → t ≤ count → is_ordered d e n ≡ true
unfolding is_ordered
all_in d e n h q b = rw (holds_count h, ← q) (ap not (le-ltb _ _ b))

-- what is answered of a circle, and of an order with all
pub circle_checked : (d : List ℕ) (e n : ℕ) (o : List ℕ) → is_ordered d e n ≡ false → Checked d e n None o
circle_checked d e n o h = (rw h, λ q. absurd (omega arith))

pub order_checked : (d : List ℕ) (e n : ℕ) (o : List ℕ) (count : ℕ) → is_ordered d e n ≡ true → OrderHolds o count n (order_under d e n) → Checked d e n (Some count) o
order_checked d e n o count h k = (rw h, λ q. k)

-- and back: the number tells whether all stand in it
told_circle : (b : Bool) → cycle ≡ pick b 0 cycle → b ≡ false
told_circle true q = absurd (omega arith)
told_circle false q = refl

told_order : (b : Bool) → 0 ≡ pick b 0 cycle → b ≡ true
told_order true q = refl
told_order false q = absurd (omega arith)

-- what was found, once its case is known
module _ (d : List ℕ) (e n : ℕ) (a : Option ℕ) (o : List ℕ) (h : Checked d e n a o) where
  pub found_none : a ≡ None → is_ordered d e n ≡ false
  found_none q = told_circle (is_ordered d e n) (subst (λ (x : Option ℕ). Checked d e n x o) q h).0

  pub found_all : (count : ℕ) → a ≡ Some count → (is_ordered d e n ≡ true) × OrderHolds o count n (order_under d e n)
  found_all count q =
      let k : Checked d e n (Some count) o = subst (λ (x : Option ℕ). Checked d e n x o) q h in
      (told_order (is_ordered d e n) k.0, k.1 refl)
