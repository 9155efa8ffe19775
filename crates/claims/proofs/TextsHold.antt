-- What is promised of texts holds: each part is a theorem of source_language or of source_rendering.
use Rattle.lib_base.proofs.Prelude.{ℕ, ◌≤◌, ◌<◌, ◌+◌, ◌≡◌, ◌∙◌, sym, ◌≢◌, List, [], ◌++◌, length, drop, replicate}
use Rattle.lib_base.proofs.Prelude.{ne_eqb, le-ltb, lt-ltb, eq-eqb, arith}
use Rattle.spec_language.specs.Sheet.{Sheet}
use Rattle.spec_language.specs.Grammar.{encode, SheetFits}
use Rattle.spec_language.specs.Reading.{got, read_sheet}
use Rattle.text_formula.specs.Answer.{answered}
use Rattle.spec_grammar.proofs.Programs.{reads_back}
use Rattle.back_compile.specs.Number.{number_on}
use Rattle.back_compile.proofs.AcceptedExactly.{accepted_exactly}
use Rattle.lib_word.specs.Word.{get}
use Rattle.source_language.specs.Answer.{written, TextMeans}
use Rattle.source_language.specs.Assembled.{assemble_on}
use Rattle.source_language.specs.Faults.{short_buffer_fault}
use Rattle.source_coding.specs.Faults.{fault_number}
use Rattle.source_rendering.specs.Describe.{described}
use Rattle.source_describe.specs.Describing.{text_delivered, describe_on}
use Rattle.source_assemble.proofs.Numbers.{told_apart}
use Rattle.source_language.specs.Scanner.{scan_text}
use Rattle.source_language.proofs.Scans.{scanned, scan_is}
use Rattle.source_language.proofs.Unique.{says_one}
use Rattle.source_language.proofs.Answers as answers
use Rattle.source_rendering.proofs.RoundTrip.{round_trip}
use Rattle.claims.specs.Demand2.{AreBytes}
use Rattle.claims.specs.Texts.{SheetDescribed, Texts}

-- ---- sheets back to text

module _ (bytes buffer : List ℕ) where
  no_other : number_on bytes (replicate 32 0) ≢ 0 → describe_on bytes buffer ≡ answered (number_on bytes (replicate 32 0)) buffer
  unfolding describe_on
  no_other h = rw (ne_eqb (number_on bytes (replicate 32 0)) 0 h)

  module _ (s : Sheet) (e : encode s ≡ bytes) (f : SheetFits s) (h : number_on bytes (replicate 32 0) ≡ 0) where
    described_so : describe_on bytes buffer ≡ text_delivered (described s) buffer
    unfolding describe_on
    described_so = let r : read_sheet bytes ≡ got s [] = rw (← e) (reads_back s f) in rw (eq-eqb (number_on bytes (replicate 32 0)) 0 h, r)

    with_room : length (described s) ≤ length buffer
        → describe_on bytes buffer ≡ answered (4294967296 + length (described s)) (described s ++ drop (length (described s)) buffer)
    with_room room = described_so ∙ rw (le-ltb (length buffer) (length (described s)) room)

    without_room : length buffer < length (described s) → describe_on bytes buffer ≡ answered (fault_number short_buffer_fault) buffer
    without_room room = described_so ∙ rw (lt-ltb (length buffer) (length (described s)) room)

read_again : (bytes : List ℕ) (s : Sheet) → encode s ≡ bytes → TextMeans (described s) s → length (encode s) ≤ 8192 → (buffer : List ℕ) → length bytes ≤ length buffer
    → assemble_on (described s) buffer ≡ (written (length bytes), bytes ++ drop (length bytes) buffer)
read_again bytes s e m few buffer room = rw (← e) (answers.within (described s) buffer s m few (rw e room))

describes : (bytes : List ℕ) → AreBytes bytes → number_on bytes (replicate 32 0) ≡ 0 → SheetDescribed bytes
unfolding number_on
describes bytes b h =
    let k = (accepted_exactly bytes (replicate 32 0) (replicate 34816 0) b (omega arith)).0 h in
    let s = k.0 in
    let m = round_trip (get (replicate 32 0)) s k.2.fits k.2.known in
    record {
      sheet = s;
      of_bytes = k.1;
      accepted = k.2;
      text_written = λ buffer. with_room bytes buffer s k.1 k.2.fits h;
      too_short = λ buffer. without_room bytes buffer s k.1 k.2.fits h;
      text_within = m.long_enough;
      back = read_again bytes s k.1 m k.2.fits.few_bytes;
    }

pub texts : Texts
texts = record {
  some_tokens = λ bytes. (scan_text bytes, scanned bytes);
  one_scan = λ bytes ts us p q. sym (scan_is bytes ts p) ∙ scan_is bytes us q;
  one_reading = λ bytes x y. says_one;
  one_sheet = answers.one_sheet;
  assembled = answers.within;
  no_other = answers.only;
  unchanged = answers.unchanged;
  long_text = answers.too_long_text;
  long_sheet = answers.too_long_sheet;
  short_buffer = answers.too_short;
  fits = answers.meant_fits;
  known = λ bytes s m ps. answers.meant_known bytes s m (get ps);
  renamed = answers.renamed;
  every_sheet = λ v lent s a. round_trip v s a.fits a.known;
  told_apart = told_apart;
  describes = describes;
  describes_no_other = no_other;
  read_back = λ v lent s a buffer room. answers.within (described s) buffer s (round_trip v s a.fits a.known) a.fits.few_bytes room;
}
