-- What `assemble_on` answers, in terms of grammar, limits and meaning alone: the reader stands in none of these
-- statements. From the reader's exactness (`Readings`).
use Rattle.lib_base.proofs.Prelude.{ℕ, ◌≤◌, ◌<◌, ◌≡◌, refl, ◌∙◌, sym, List, ◌++◌, length, drop, ltb, le-ltb, lt-ltb}
use Rattle.lib_base.proofs.Prelude.{ltb-false, arith}
use Rattle.lib_base.proofs.Tools.{by_test}
use Rattle.spec_language.specs.Sheet.{Sheet, fill}
use Rattle.spec_language.specs.Grammar.{encode, SheetFits}
use Rattle.spec_language.specs.Accepted.{Known}
use Rattle.source_language.specs.Text.{Text}
use Rattle.source_language.specs.Faults.{Kind, long_text_fault, long_sheet_fault, short_buffer_fault, OrFault, fault, fine, and_then}
use Rattle.source_language.specs.Grammar.{TextSays}
use Rattle.source_language.specs.Meaning.{sheet_of}
use Rattle.source_language.specs.Renaming.{KeepsApart, text_as}
use Rattle.source_language.specs.Reader.{read_text}
use Rattle.source_language.specs.Answer.{written, turned_down, TextMeans, SheetWritten, refused_at}
use Rattle.source_language.specs.Assembled.{length_judged, assembled, sheet_delivered, assemble_on}
use Rattle.source_language.proofs.Readings.{text-reads, text_only}
use Rattle.source_language.proofs.Unique.{says_one}
use Rattle.source_language.proofs.Fits.{sheet_of_text}
use Rattle.source_language.proofs.Renamed.{names_do_not_matter, text_as_law}

-- ---- a text that means a sheet

pub one_sheet : (bytes : List ℕ) (s t : Sheet) → TextMeans bytes s → TextMeans bytes t → s ≡ t
one_sheet bytes s t a b =
    let q : a.reading ≡ b.reading = says_one a.says_so b.says_so in
    let h : fine s ≡ fine t = sym a.resolved ∙ (rw q b.resolved) in cc

judged : (bytes : List ℕ) (s : Sheet) (room : ℕ) → TextMeans bytes s → assembled bytes room ≡ length_judged (length bytes) room s
unfolding assembled
judged bytes s room m = rw (le-ltb 65536 (length bytes) m.long_enough, text-reads m.says_so m.fits, m.resolved)

pub within : (bytes buffer : List ℕ) (s : Sheet) → TextMeans bytes s → length (encode s) ≤ 8192 → length (encode s) ≤ length buffer
    → assemble_on bytes buffer ≡ (written (length (encode s)), encode s ++ drop (length (encode s)) buffer)
unfolding assemble_on
within bytes buffer s m h r =
    rw (judged bytes s (length buffer) m, le-ltb 8192 (length (encode s)) h, le-ltb (length buffer) (length (encode s)) r)

pub too_long_sheet : (bytes buffer : List ℕ) (s : Sheet) → TextMeans bytes s → 8192 < length (encode s) → assemble_on bytes buffer ≡ refused_at long_sheet_fault (length bytes) bytes buffer
unfolding assemble_on
too_long_sheet bytes buffer s m h = rw (judged bytes s (length buffer) m, lt-ltb 8192 (length (encode s)) h)

pub too_short : (bytes buffer : List ℕ) (s : Sheet) → TextMeans bytes s → length (encode s) ≤ 8192 → length buffer < length (encode s)
    → assemble_on bytes buffer ≡ refused_at short_buffer_fault (length bytes) bytes buffer
unfolding assemble_on
too_short bytes buffer s m h r =
    rw (judged bytes s (length buffer) m, le-ltb 8192 (length (encode s)) h, lt-ltb (length buffer) (length (encode s)) r)

pub too_long_text : (bytes buffer : List ℕ) → 65536 < length bytes → assemble_on bytes buffer ≡ refused_at long_text_fault 65536 bytes buffer
unfolding assemble_on assembled
too_long_text bytes buffer h = rw (lt-ltb 65536 (length bytes) h)

-- ---- and no other is assembled

abbrev Given : List ℕ → ℕ → OrFault (List ℕ) → Type 0
Given bytes room (fault k p) = Unit {0}
Given bytes room (fine l) = (s : Sheet) × TextMeans bytes s × (l ≡ encode s) × (length l ≤ 8192) × (length l ≤ room)

length_given : (bytes : List ℕ) (room : ℕ) (s : Sheet) → TextMeans bytes s → Given bytes room (length_judged (length bytes) room s)
length_given bytes room s m =
    by_test (Given bytes room) (ltb 8192 (length (encode s))) (λ e. tt)
    (λ e. by_test (Given bytes room) (ltb room (length (encode s))) (λ d. tt)
    (λ d. (s, m, refl, ltb-false 8192 (length (encode s)) e, ltb-false room (length (encode s)) d)))

sheet_given : (bytes : List ℕ) (room : ℕ) → length bytes ≤ 65536 → (x : Text) → read_text bytes ≡ fine x → (r : OrFault Sheet) → sheet_of x ≡ r
    → Given bytes room (and_then r (length_judged (length bytes) room))
sheet_given bytes room h x e (fault k p) q = tt
sheet_given bytes room h x e (fine s) q =
    let t = text_only bytes x e in
    length_given bytes room s (record { reading = x; long_enough = h; says_so = t.0; fits = t.1; resolved = q })

text_given : (bytes : List ℕ) (room : ℕ) → length bytes ≤ 65536 → (r : OrFault Text) → read_text bytes ≡ r
    → Given bytes room (and_then r (λ x. and_then (sheet_of x) (length_judged (length bytes) room)))
text_given bytes room h (fault k p) e = tt
text_given bytes room h (fine x) e = sheet_given bytes room h x e (sheet_of x) refl

assembled_given : (bytes : List ℕ) (room : ℕ) → Given bytes room (assembled bytes room)
unfolding assembled
assembled_given bytes room =
    by_test (Given bytes room) (ltb 65536 (length bytes)) (λ e. tt) (λ e. text_given bytes room (ltb-false 65536 (length bytes) e) (read_text bytes) refl)

delivered_given : (bytes buffer : List ℕ) (n : ℕ) (r : OrFault (List ℕ)) → Given bytes (length buffer) r → (sheet_delivered bytes buffer r).0 ≡ written n
    → SheetWritten bytes buffer n
delivered_given bytes buffer n (fault k p) h e = let q : ◌≡◌ {A = ℕ} 0 1 = cc e in absurd (omega arith)
delivered_given bytes buffer n (fine l) h e =
    let q : n ≡ length l = cc e in
    let p : length l ≡ length (encode h.0) = rw h.2 in
    record { sheet = h.0; meant = h.1; length_is = q ∙ p; few_bytes = omega (arith, h.3); room = omega (arith, h.4) }

pub only : (bytes buffer : List ℕ) (n : ℕ) → (assemble_on bytes buffer).0 ≡ written n → SheetWritten bytes buffer n
unfolding assemble_on
only bytes buffer n e = delivered_given bytes buffer n (assembled bytes (length buffer)) (assembled_given bytes (length buffer)) e

-- a text that is turned down changes nothing
pub unchanged : (bytes buffer : List ℕ) (k : Kind) (l c : ℕ) → (assemble_on bytes buffer).0 ≡ turned_down k l c → (assemble_on bytes buffer).1 ≡ buffer
unfolding assemble_on
unchanged bytes buffer k l c = go (assembled bytes (length buffer))
  where
    go : (r : OrFault (List ℕ)) → (sheet_delivered bytes buffer r).0 ≡ turned_down k l c → (sheet_delivered bytes buffer r).1 ≡ buffer
    go (fault j p) e = refl
    go (fine s) e = let q : ◌≡◌ {A = ℕ} 0 1 = cc e in absurd (omega arith)

-- ---- what is assembled is compile's to take

pub meant_fits : (bytes : List ℕ) (s : Sheet) → TextMeans bytes s → length (encode s) ≤ 8192 → SheetFits s
meant_fits bytes s m = (sheet_of_text m.says_so m.fits m.resolved).fits

pub meant_known : (bytes : List ℕ) (s : Sheet) → TextMeans bytes s → (v : ℕ → ℕ) → Known (fill v s)
meant_known bytes s m = (sheet_of_text m.says_so m.fits m.resolved).known

-- ---- other names

pub renamed : (f h : List ℕ → List ℕ) (g : ℕ → ℕ) → KeepsApart f → KeepsApart h → (a b : List ℕ) (s : Sheet) (m : TextMeans a s) → length b ≤ 65536
    → TextSays b (text_as f h g m.reading) → TextMeans b s
renamed f h g c d a b s m l q = record {
  reading = text_as f h g m.reading;
  long_enough = l;
  says_so = q;
  fits = text_as_law f h g c d m.reading m.fits;
  resolved = names_do_not_matter f h g c d m.reading ∙ rw m.resolved;
}
