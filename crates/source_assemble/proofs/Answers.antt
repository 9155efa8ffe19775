-- What the two runs find is what `assemble_on` answers. A fault has its kind and its place; a fault of the
-- first pass is `read_text`'s; with the names that the first run found each name means what the text declares, so that
-- the second run finds the fault of `sheet_of`, or writes its sheet.
use Rattle.std.specs.Prelude.{Option, None, Some, Err}
use Rattle.source_coding.specs.declared.faults.Fault.{Fault}
use Rattle.source_coding.proofs.KindNumbers.{number_of_kind}
use Rattle.lib_base.proofs.Prelude.{ℕ, ◌≤◌, ◌<◌, ◌+◌, suc, zero, ◌≡◌, refl, ◌∙◌, sym, ap, List}
use Rattle.lib_base.proofs.Prelude.{◌++◌, map, length, take, drop, replicate, length-take-le}
use Rattle.lib_base.proofs.Prelude.{ltb, le-ltb, lt-ltb, ltb-false, arith}
use Rattle.lib_base.specs.Basics.{All}
use Rattle.lib_base.proofs.Tools.{split}
use Rattle.text_formula.specs.Answer.{answered}
use Rattle.spec_language.specs.Sheet.{Entry}
use Rattle.spec_language.specs.Reading.{sheet}
use Rattle.spec_language.specs.Grammar.{encode}
use Rattle.source_language.specs.Text.{Parameter, TextEvent, TextBehaviour, Text, text}
use Rattle.source_language.specs.Faults.{Kind, long_sheet_fault, short_buffer_fault, long_text_fault, OrFault, fault, fine, and_then}
use Rattle.source_language.specs.Meaning.{NameMeaning, meaning_of_name, entries_of, signal_of, sheet_of}
use Rattle.source_language.specs.Reader.{read_text}
use Rattle.source_language.specs.Answer.{line_from, column_from, turned_down}
use Rattle.source_language.specs.Assembled.{length_judged, assembled, assemble_on}
use Rattle.source_coding.specs.Faults.{outcome_number}
use Rattle.source_coding.specs.FaultWords.{fault_of, fault_in}
use Rattle.source_coding.specs.Places.{meaning_in}
use Rattle.source_coding.specs.Sizes.{text_size}
use Rattle.source_coding.proofs.Lengths.{sheet_takes}
use Rattle.source_names.specs.Known.{meaning_by}
use Rattle.source_index.specs.Index.{MeaningsPut, AllFound}
use Rattle.source_index.proofs.Laws.{known_sorted, known_plain}
use Rattle.source_behaviours.specs.Whole.{read_so, NamesUsable, LookupUsable, TextRead}
use Rattle.source_hint.specs.Hint.{HintUsable, HintRight}
use Rattle.source_assemble.specs.AssembleNumber.{assemble_number}
use Rattle.source_assemble.specs.Assemble.{place_told, fault_numbered, TellsFault, NamesResolved, sheet_answer, ReadRight}
use Rattle.source_assemble.proofs.Within.{first_pass_within, names_within}

-- ---- a fault

pub tells : (k : Kind) (p long : ℕ) → p ≤ long → long ≤ 65536 → TellsFault long (fault_of k p)
tells k p long h few = record { a_place = h; low = omega arith }

told_is : (bytes : List ℕ) (k : Kind) (p : ℕ) → fault_numbered bytes (fault_of k p) ≡ outcome_number (turned_down k (line_from 1 p bytes) (column_from 1 p bytes))
unfolding place_told
told_is bytes k p = rw (number_of_kind k)

pub fault_answer : (bytes buffer : List ℕ) (k : Kind) (p : ℕ) → p ≤ 65536 → assembled bytes (length buffer) ≡ fault k p
    → answered (fault_numbered bytes (fault_of k p)) buffer ≡ assemble_number bytes buffer
unfolding assemble_number assemble_on
fault_answer bytes buffer k p h e = rw (e, told_is bytes k p)

pub long_answer : (bytes buffer : List ℕ) → 65536 < length bytes → answered (fault_numbered bytes (fault_of long_text_fault 65536)) buffer ≡ assemble_number bytes buffer
unfolding assembled
long_answer bytes buffer h = fault_answer bytes buffer long_text_fault 65536 (omega arith) (rw (lt-ltb 65536 (length bytes) h))

pub sheet_answer_law : (bytes buffer s out : List ℕ) (n : ℕ) → assembled bytes (length buffer) ≡ fine s → n ≡ length s → take n out ≡ s
    → answered (4294967296 + n) (take n out ++ drop n buffer) ≡ assemble_number bytes buffer
unfolding assemble_number assemble_on
sheet_answer_law bytes buffer s out n e q w = rw (e, w, q)

-- the copy of a sheet's n bytes
pub copied : (bytes buffer out q : List ℕ) (n : ℕ) → n ≤ 8192 → n ≤ length buffer → q ≡ take n out → answered (4294967296 + n) (q ++ drop n buffer) ≡ sheet_answer bytes n out buffer
copied bytes buffer out q n few room e = rw (le-ltb 8192 n few, le-ltb (length buffer) n room, e)

-- as many zeros are low numbers
pub zeros_low : (n : ℕ) → All (λ i. i ≤ 64) (replicate n 0)
zeros_low zero = tt
zeros_low (suc n) = (omega arith, zeros_low n)

pub zeros_mean : (n : ℕ) → All (λ m. m < 8320) (replicate n 0)
zeros_mean zero = tt
zeros_mean (suc n) = (omega arith, zeros_mean n)

-- ---- names in order, and as they are declared

pub part_few : (n : ℕ) (l : List ℕ) → n ≤ 72 → length l ≡ 72 → length (take n l) ≤ 72
part_few n l h e = omega (arith, length-take-le n l (omega arith))

alike : {find other : List ℕ → NameMeaning} → ((s : List ℕ) → find s ≡ other s) → find ≡ other
alike e = λ i s. e s i

module _ (bytes names : List ℕ) (params : ℕ) (firsts : List ℕ) (usable : NamesUsable names params firsts) where
  pub few_names : length names ≤ 72
  few_names = omega (arith, usable.few_parameters, usable.few_names)

  pub known_in_order : (places before meanings : List ℕ) → length places ≡ 72
      → MeaningsPut bytes names params firsts (take (length names) places) (length (take (length names) places)) before meanings
      → AllFound bytes names (take (length names) places) (length names)
      → LookupUsable (take (length names) places) (length names) meanings
      × (meaning_by bytes (take (length names) places) (length names) meanings ≡ meaning_in bytes names params firsts)
  known_in_order places before meanings long put found =
      let l : length (take (length names) places) ≡ length names = length-take-le (length names) places (omega (arith, few_names)) in (
        record { some_sorted = omega arith; low = put.low },
        alike (λ s.
            ap (λ (n : ℕ). meaning_by bytes (take (length names) places) n meanings s) (sym l)
            ∙ known_sorted bytes names params firsts usable.few_parameters usable.low (take (length names) places) before meanings l put found s),
      )

  pub known_as_declared : (before meanings : List ℕ) → MeaningsPut bytes names params firsts names (length names) before meanings
      → LookupUsable names 0 meanings × (meaning_by bytes names 0 meanings ≡ meaning_in bytes names params firsts)
  known_as_declared before meanings put = (
    record { some_sorted = omega arith; low = put.low },
    alike (λ s. known_plain bytes names params firsts usable.few_parameters usable.low before meanings put s),
  )

-- ---- the first run

-- what it leaves to the second
pub record NamesLeft (bytes names starts : List ℕ) (params count : ℕ) (x : OrFault Text) : Type 0 where
  pub counted : count ≤ 72
  pub usable : NamesUsable (take count names) params starts
  pub known : NamesResolved bytes (meaning_in bytes (take count names) params starts) x

module _ (bytes : List ℕ) (find : List ℕ → NameMeaning) (o p names starts : List ℕ) (end params count : ℕ) (w : Option Fault) where
  left_by : (x : OrFault Text) → TextRead bytes find o p names starts (read_so end params count w) x → NamesLeft bytes names starts params count x
  left_by (fault k at) t = absurd t
  left_by (fine (text ps es bs)) t = record { counted = t.counted; usable = t.usable; known = t.known }

  pub names_left : TextRead bytes find o p names starts (read_so end params count w) (read_text bytes) → NamesLeft bytes names starts params count (read_text bytes)
  names_left = left_by (read_text bytes)

module _ (bytes buffer : List ℕ) (few : length bytes ≤ 65536) where
  abbrev Told : Fault → Type 0
  Told w = TellsFault (length bytes) w × (answered (fault_numbered bytes w) buffer ≡ assemble_number bytes buffer)

  told : (k : Kind) (p : ℕ) (w : Fault) → p ≤ length bytes → assembled bytes (length buffer) ≡ fault k p → w ≡ fault_of k p → Told w
  told k p w h e q = rw q (tells k p (length bytes) h few, fault_answer bytes buffer k p (omega arith) e)

  first_fault_law : (x : OrFault Text) → read_text bytes ≡ x → (find : List ℕ → NameMeaning) (o p names starts : List ℕ) (w : Fault) → TextRead bytes find o p names starts (Err w) x
      → Told w
  unfolding assembled
  first_fault_law (fault k at) e find o p names starts w q =
      told k at w (first_pass_within bytes k at e) (rw (le-ltb 65536 (length bytes) few, e)) q
  first_fault_law (fine x) e find o p names starts w q = absurd q

  pub fault_found : (find : List ℕ → NameMeaning) (o p names starts : List ℕ) (w : Fault) → TextRead bytes find o p names starts (Err w) (read_text bytes) → Told w
  fault_found = first_fault_law (read_text bytes) refl

  -- ---- the second run

  module _ (ps : List Parameter) (es : List TextEvent) (bs : List TextBehaviour) (reads : read_text bytes ≡ fine (text ps es bs)) where
    abbrev Entries : OrFault (List Entry)
    Entries = entries_of es (meaning_of_name 0 ps bs) bs

    judged : (r : OrFault (List Entry)) → Entries ≡ r → (room : ℕ)
        → assembled bytes room ≡ and_then (and_then r (λ xs. fine (sheet (map signal_of es) xs))) (length_judged (length bytes) room)
    unfolding assembled sheet_of
    judged r e room = rw (le-ltb 65536 (length bytes) few, reads, e)

    name_fault : (r : OrFault (List Entry)) → Entries ≡ r → (w : Fault) → Some w ≡ fault_in r → Told w
    name_fault (fault k p) e w q = told k p w (names_within bytes ps es bs reads (meaning_of_name 0 ps bs) k p e) (judged (fault k p) e (length buffer)) cc
    name_fault (fine xs) e w q = let z : ◌≡◌ {A = ℕ} 0 1 = cc in absurd (omega arith)

    written_out : (xs : List Entry) → Entries ≡ fine xs → (out : List ℕ) (n : ℕ) → n ≡ text_size (text ps es bs) → (n ≤ 8192 → take n out ≡ encode (sheet (map signal_of es) xs))
        → sheet_answer bytes n out buffer ≡ assemble_number bytes buffer
    written_out xs e out n q k =
        let size : n ≡ length (encode (sheet (map signal_of es) xs)) = q ∙ sym (sheet_takes (meaning_of_name 0 ps bs) ps es bs xs e) in
        let j = judged (fine xs) e (length buffer) in
        split (ltb 8192 n)
        (λ a. rw a (fault_answer bytes buffer long_sheet_fault (length bytes) few (j ∙ rw (← size, a))))
        (λ a. split (ltb (length buffer) n)
        (λ b. rw (a, b) (fault_answer bytes buffer short_buffer_fault (length bytes) few (j ∙ rw (← size, a, b))))
        (λ b. rw (a, b) (sheet_answer_law bytes buffer (encode (sheet (map signal_of es) xs)) out n (j ∙ rw (← size, a, b)) size (k (ltb-false 8192 n a)))))

  -- names are found as the text declares them
  same_entries : (find : List ℕ → NameMeaning) (ps : List Parameter) (es : List TextEvent) (bs : List TextBehaviour) → ((s : List ℕ) → find s ≡ meaning_of_name 0 ps bs s)
      → entries_of es find bs ≡ entries_of es (meaning_of_name 0 ps bs) bs
  same_entries find ps es bs known = ap (λ (f : List ℕ → NameMeaning). entries_of es f bs) (alike known)

  module _ (find : List ℕ → NameMeaning) (o p names starts : List ℕ) (end params' count : ℕ) (w : Option Fault) where
    abbrev SecondRun : OrFault Text → Type 0
    SecondRun x = TextRead bytes find o p names starts (read_so end params' count w) x

    fault_of_name : (x : OrFault Text) → read_text bytes ≡ x → NamesResolved bytes find x → SecondRun x → (f : Fault) → w ≡ Some f → Told f
    fault_of_name (fault k at) e known t f h = absurd known
    fault_of_name (fine (text ps es bs)) e known t f h =
        let same = same_entries find ps es bs known in
        name_fault ps es bs e (entries_of es (meaning_of_name 0 ps bs) bs) refl f (sym h ∙ t.fault ∙ rw same)

    pub name_found : NamesResolved bytes find (read_text bytes) → SecondRun (read_text bytes) → (f : Fault) → w ≡ Some f → Told f
    name_found = fault_of_name (read_text bytes) refl

    -- a fault is one
    fault_some : (k : Kind) (at : ℕ) → w ≡ Some (fault_of k at) → w ≡ None → ⊥
    fault_some k at q z = let y : ◌≡◌ {A = ℕ} 0 1 = cc in omega arith

    all_written : (ps : List Parameter) (es : List TextEvent) (bs : List TextBehaviour) → read_text bytes ≡ fine (text ps es bs)
        → ((s : List ℕ) → find s ≡ meaning_of_name 0 ps bs s) → SecondRun (fine (text ps es bs)) → length o ≡ 8192 → w ≡ None
        → (r : OrFault (List Entry)) → entries_of es (meaning_of_name 0 ps bs) bs ≡ r → sheet_answer bytes end p buffer ≡ assemble_number bytes buffer
    all_written ps es bs e known t long z (fault k at) f =
        let same = same_entries find ps es bs known in absurd (fault_some k at (t.fault ∙ rw (same, f)) z)
    all_written ps es bs e known t long z (fine xs) f =
        let same = same_entries find ps es bs known in
        written_out ps es bs e xs f p end t.size (λ h. t.written xs (same ∙ f) (omega arith))

    sheet_of_law : (x : OrFault Text) → read_text bytes ≡ x → NamesResolved bytes find x → SecondRun x → length o ≡ 8192 → w ≡ None
        → sheet_answer bytes end p buffer ≡ assemble_number bytes buffer
    sheet_of_law (fault k at) e known t long z = absurd known
    sheet_of_law (fine (text ps es bs)) e known t long z = all_written ps es bs e known t long z (entries_of es (meaning_of_name 0 ps bs) bs) refl

    pub sheet_written : NamesResolved bytes find (read_text bytes) → SecondRun (read_text bytes) → length o ≡ 8192 → w ≡ None
        → sheet_answer bytes end p buffer ≡ assemble_number bytes buffer
    sheet_written = sheet_of_law (read_text bytes) refl

    -- with the right names
    pub read_right : length o ≡ 8192 → NamesResolved bytes find (read_text bytes) → SecondRun (read_text bytes) → ReadRight bytes buffer p end w
    read_right long known t =
        record { tells = λ f h. (name_found known t f h).0; at_fault = λ f h. (name_found known t f h).1; sheet = sheet_written known t long }

-- the names of a hint that the text turns out to declare
pub right_names : (bytes names : List ℕ) (params : ℕ) (firsts declared : List ℕ) (parameters : ℕ) (starts : List ℕ) → HintRight names params firsts declared parameters starts
    → NamesResolved bytes (meaning_in bytes declared parameters starts) (read_text bytes) → NamesResolved bytes (meaning_in bytes names params firsts) (read_text bytes)
right_names bytes names params firsts declared parameters starts h known = rw (h.same_names, h.same_parameters, h.same_firsts) known

-- ---- the hint

pub hint_usable : (params count : ℕ) (names starts : List ℕ) → length names ≡ 72 → HintUsable (record { params = params; count = count }) starts → NamesUsable (take count names) params starts
hint_usable params count names starts long h =
    record {
      few_parameters = h.few_parameters;
      few_names = omega (arith, length-take-le count names (omega (arith, h.few_names, h.few_parameters)), h.few_names);
      all_firsts = h.all_firsts;
      low = h.low;
    }
