-- The call's number tells the outcome: lines and columns of a text that is read are small, so that kind, line and
-- column come apart again.
use Rattle.lib_base.proofs.Prelude.{ℕ, ◌≤◌, ◌<◌, ◌+◌, suc, zero, ◌≡◌, refl, ◌∙◌, sym, ap, List, [], ◌∷◌, map, length}
use Rattle.lib_base.proofs.Prelude.{eqb, ltb, ltb-false, arith}
use Rattle.lib_base.specs.Basics.{pick}
use Rattle.lib_base.proofs.Tools.{by_test}
use Rattle.spec_language.specs.Sheet.{Entry, Sheet}
use Rattle.spec_language.specs.Reading.{sheet}
use Rattle.spec_language.specs.Grammar.{encode}
use Rattle.source_language.specs.Text.{Parameter, TextEvent, TextBehaviour, Text, text}
use Rattle.source_language.specs.Faults.{Kind, outside, too_large, off_scale, too_many_fault, declared_twice_fault, second_handler_fault, too_deep, unknown_name, no_such_cell_fault, long_sheet_fault, short_buffer_fault, long_text_fault, OrFault, fault, fine, and_then}
use Rattle.source_language.specs.Meaning.{meaning_of_name, entries_of, signal_of, sheet_of}
use Rattle.source_language.specs.Reader.{read_text}
use Rattle.source_language.specs.Answer.{line_from, column_from, TextOutcome, written, turned_down}
use Rattle.source_language.specs.Assembled.{length_judged, assembled, sheet_delivered, assemble_on}
use Rattle.source_coding.specs.Faults.{fault_number, outcome_number}
use Rattle.source_assemble.specs.AssembleNumber.{assemble_number}
use Rattle.source_assemble.proofs.Within.{first_pass_within, names_within}

-- ---- kinds

pub kind_some : (k : Kind) → 0 < fault_number k
kind_some outside = omega arith
kind_some too_large = omega arith
kind_some off_scale = omega arith
kind_some too_many_fault = omega arith
kind_some declared_twice_fault = omega arith
kind_some second_handler_fault = omega arith
kind_some too_deep = omega arith
kind_some unknown_name = omega arith
kind_some no_such_cell_fault = omega arith
kind_some long_sheet_fault = omega arith
kind_some short_buffer_fault = omega arith
kind_some long_text_fault = omega arith

kind_of : ℕ → Kind
kind_of n =
    pick (eqb n (fault_number outside)) outside
    (pick (eqb n (fault_number too_large)) too_large
    (pick (eqb n (fault_number off_scale)) off_scale
    (pick (eqb n (fault_number too_many_fault)) too_many_fault
    (pick (eqb n (fault_number declared_twice_fault)) declared_twice_fault
    (pick (eqb n (fault_number second_handler_fault)) second_handler_fault
    (pick (eqb n (fault_number too_deep)) too_deep
    (pick (eqb n (fault_number unknown_name)) unknown_name
    (pick (eqb n (fault_number no_such_cell_fault)) no_such_cell_fault
    (pick (eqb n (fault_number long_sheet_fault)) long_sheet_fault
    (pick (eqb n (fault_number short_buffer_fault)) short_buffer_fault long_text_fault))))))))))

kind_back : (k : Kind) → kind_of (fault_number k) ≡ k
unfolding kind_of
kind_back outside = refl
kind_back too_large = refl
kind_back off_scale = refl
kind_back too_many_fault = refl
kind_back declared_twice_fault = refl
kind_back second_handler_fault = refl
kind_back too_deep = refl
kind_back unknown_name = refl
kind_back no_such_cell_fault = refl
kind_back long_sheet_fault = refl
kind_back short_buffer_fault = refl
kind_back long_text_fault = refl

one_kind : (j k : Kind) → fault_number j ≡ fault_number k → j ≡ k
one_kind j k e = sym (kind_back j) ∙ ap kind_of e ∙ kind_back k

-- ---- lines, columns and lengths

line_few : (l p : ℕ) (bs : List ℕ) → line_from l p bs ≤ l + p
unfolding line_from
line_few l zero bs = omega arith
line_few l (suc p) [] = omega arith
line_few l (suc p) (b ∷ bs) =
    by_test (λ n. line_from n p bs ≤ l + suc p) (eqb b 10) (λ e. omega (arith, line_few (suc l) p bs)) (λ e. omega (arith, line_few l p bs))

column_few : (c p : ℕ) (bs : List ℕ) → column_from c p bs ≤ suc c + p
unfolding column_from
column_few c zero bs = omega arith
column_few c (suc p) [] = omega arith
column_few c (suc p) (b ∷ bs) =
    by_test (λ n. column_from n p bs ≤ suc c + suc p) (eqb b 10) (λ e. omega (arith, column_few 1 p bs)) (λ e. omega (arith, column_few (suc c) p bs))

-- a fault early in a text, or a short sheet
abbrev Told : OrFault (List ℕ) → Type 0
Told (fault k p) = p ≤ 65536
Told (fine l) = length l ≤ 8192

module _ (bytes : List ℕ) (room : ℕ) where
  judged_told : length bytes ≤ 65536 → (s : Sheet) → Told (length_judged (length bytes) room s)
  judged_told few s =
      by_test Told (ltb 8192 (length (encode s))) (λ e. few)
      (λ e. by_test Told (ltb room (length (encode s))) (λ d. few) (λ d. ltb-false 8192 (length (encode s)) e))

  module _ (few : length bytes ≤ 65536) where
    entries_told : (ps : List Parameter) (es : List TextEvent) (bs : List TextBehaviour) → read_text bytes ≡ fine (text ps es bs)
        → (r : OrFault (List Entry)) → entries_of es (meaning_of_name 0 ps bs) bs ≡ r
        → Told (and_then (and_then r (λ xs. fine (sheet (map signal_of es) xs))) (length_judged (length bytes) room))
    entries_told ps es bs e (fault k p) f = omega (arith, names_within bytes ps es bs e (meaning_of_name 0 ps bs) k p f)
    entries_told ps es bs e (fine xs) f = judged_told few (sheet (map signal_of es) xs)

    read_told : (x : OrFault Text) → read_text bytes ≡ x → Told (and_then x (λ t. and_then (sheet_of t) (length_judged (length bytes) room)))
    unfolding sheet_of
    read_told (fault k p) e = omega (arith, first_pass_within bytes k p e)
    read_told (fine (text ps es bs)) e = entries_told ps es bs e (entries_of es (meaning_of_name 0 ps bs) bs) refl

  all_told : Told (assembled bytes room)
  unfolding assembled
  all_told =
      by_test Told (ltb 65536 (length bytes)) (λ e. omega arith) (λ e. read_told (ltb-false 65536 (length bytes) e) (read_text bytes) refl)

-- ---- outcomes

abbrev Small : TextOutcome → Type 0
Small (written n) = n ≤ 8192
Small (turned_down k l c) = (l ≤ 65537) × (c ≤ 65538)

outcome_small : (bytes buffer : List ℕ) → Small (assemble_on bytes buffer).0
unfolding assemble_on
outcome_small bytes buffer = go (assembled bytes (length buffer)) (all_told bytes (length buffer))
  where
    go : (r : OrFault (List ℕ)) → Told r → Small (sheet_delivered bytes buffer r).0
    go (fault k p) h = (omega (arith, line_few 1 p bytes), omega (arith, column_few 1 p bytes))
    go (fine l) h = h

apart : (o u : TextOutcome) → Small o → Small u → outcome_number o ≡ outcome_number u → o ≡ u
apart (written m) (written n) h g e = let q : m ≡ n = omega arith in ap written q
apart (written m) (turned_down k l c) h g e = absurd (omega (arith, kind_some k))
apart (turned_down k l c) (written n) h g e = absurd (omega (arith, kind_some k))
apart (turned_down j l c) (turned_down k m d) h g e =
    let p : fault_number j ≡ fault_number k = omega arith in
    let q : l ≡ m = omega arith in
    let r : c ≡ d = omega arith in
    rw (one_kind j k p, q, r)

pub told_apart : (a p b q : List ℕ) → (assemble_number a p).0 ≡ (assemble_number b q).0 → (assemble_on a p).0 ≡ (assemble_on b q).0
unfolding assemble_number
told_apart a p b q e = apart (assemble_on a p).0 (assemble_on b q).0 (outcome_small a p) (outcome_small b q) e
