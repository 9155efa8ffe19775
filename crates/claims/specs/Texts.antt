-- A sheet as its setter writes it (docs/SHEETS.md): each sentence that is promised of texts, and the part that states
-- it, of grammar, limits and meaning as source_language defines them apart from its reader, and of `assemble_on`.
use Rattle.std.specs.Prelude.{ℕ, ◌+◌, ◌≤◌, ◌<◌, ◌≡◌, ◌≢◌, List, ◌++◌, length, drop, replicate}
use Rattle.lib_word.specs.Word.{get}
use Rattle.spec_language.specs.Sheet.{Sheet}
use Rattle.spec_language.specs.Grammar.{encode, SheetFits}
use Rattle.spec_language.specs.Accepted.{Known, SheetAccepted}
use Rattle.spec_language.specs.Answers.{told}
use Rattle.back_compile.specs.Number.{number_on}
use Rattle.back_compile.specs.Compiled.{program_of}
use Rattle.text_formula.specs.Answer.{answered}
use Rattle.source_language.specs.Tokens.{SheetToken, TokensOfText}
use Rattle.source_language.specs.Text.{Text}
use Rattle.source_language.specs.Faults.{Kind, long_text_fault, long_sheet_fault, short_buffer_fault}
use Rattle.source_language.specs.Grammar.{TextSays}
use Rattle.source_language.specs.Renaming.{KeepsApart, text_as}
use Rattle.source_coding.specs.Faults.{fault_number}
use Rattle.source_rendering.specs.Describe.{described}
use Rattle.source_assemble.specs.AssembleNumber.{assemble_number}
use Rattle.source_describe.specs.Describing.{describe_on}
use Rattle.source_language.specs.Answer.{written, turned_down, TextMeans, refused_at, SheetWritten}
use Rattle.source_language.specs.Assembled.{assemble_on}
use Rattle.claims.specs.Demand2.{AreBytes}

-- a sheet's bytes that compile accepts with 32 zero bytes lent: `describe` writes the sheet's text at the start of a
-- lent buffer, whose other bytes stay, or nothing where it is too short; read by `assemble` it gives the very bytes
pub record SheetDescribed (bytes : List ℕ) : Type 0 where
  pub sheet : Sheet
  pub of_bytes : encode sheet ≡ bytes
  pub accepted : SheetAccepted (get (replicate 32 0)) 32 sheet
  pub text_written : (buffer : List ℕ) → length (described sheet) ≤ length buffer
      → describe_on bytes buffer ≡ answered (told (length (described sheet))) (described sheet ++ drop (length (described sheet)) buffer)
  pub too_short : (buffer : List ℕ) → length buffer < length (described sheet) → describe_on bytes buffer ≡ answered (fault_number short_buffer_fault) buffer
  pub text_within : length (described sheet) ≤ 65536
  pub back : (buffer : List ℕ) → length bytes ≤ length buffer
      → assemble_on (described sheet) buffer ≡ (written (length bytes), bytes ++ drop (length bytes) buffer)

pub record Texts : Type 0 where
  -- "A token is as long as it can be": each text is made of one list of tokens, each with its place
  pub some_tokens : (bytes : List ℕ) → (ts : List SheetToken) × TokensOfText (length bytes) bytes ts
  pub one_scan : (bytes : List ℕ) (ts us : List SheetToken) → TokensOfText (length bytes) bytes ts → TokensOfText (length bytes) bytes us → ts ≡ us
  -- "the grammar is written apart from the reader, each text has one reading", whatever the limits, and so one sheet
  pub one_reading : (bytes : List ℕ) (x y : Text) → TextSays bytes x → TextSays bytes y → x ≡ y
  pub one_sheet : (bytes : List ℕ) (s t : Sheet) → TextMeans bytes s → TextMeans bytes t → s ≡ t
  -- "text to a sheet's bytes at the start of a lent buffer, whose other bytes stay, and its length"
  pub assembled : (bytes buffer : List ℕ) (s : Sheet) → TextMeans bytes s → length (encode s) ≤ 8192 → length (encode s) ≤ length buffer
      → assemble_on bytes buffer ≡ (written (length (encode s)), encode s ++ drop (length (encode s)) buffer)
  -- "all others are turned down"
  pub no_other : (bytes buffer : List ℕ) (n : ℕ) → (assemble_on bytes buffer).0 ≡ written n → SheetWritten bytes buffer n
  -- "or a refusal .., nothing changed"
  pub unchanged : (bytes buffer : List ℕ) (k : Kind) (l c : ℕ) → (assemble_on bytes buffer).0 ≡ turned_down k l c → (assemble_on bytes buffer).1 ≡ buffer
  -- "A text has at most 65,536 bytes; a longer one is turned down before anything else", at the first byte that is too
  -- many. "Then a sheet over 8,192 bytes; last a buffer that is too short", at the end of the text
  pub long_text : (bytes buffer : List ℕ) → 65536 < length bytes → assemble_on bytes buffer ≡ refused_at long_text_fault 65536 bytes buffer
  pub long_sheet : (bytes buffer : List ℕ) (s : Sheet) → TextMeans bytes s → 8192 < length (encode s)
      → assemble_on bytes buffer ≡ refused_at long_sheet_fault (length bytes) bytes buffer
  pub short_buffer : (bytes buffer : List ℕ) (s : Sheet) → TextMeans bytes s → length (encode s) ≤ 8192 → length buffer < length (encode s)
      → assemble_on bytes buffer ≡ refused_at short_buffer_fault (length bytes) bytes buffer
  -- the call's number tells all of this, whatever was lent: how many bytes, or kind, line and column
  pub told_apart : (a p b q : List ℕ) → (assemble_number a p).0 ≡ (assemble_number b q).0 → (assemble_on a p).0 ≡ (assemble_on b q).0
  -- "what assemble writes is accepted by compile but for 12, 13 and 20, and means what the text says": it is within the
  -- grammar and the limits, 3 among them, so that it is read (`AcceptedExactly`), and its names are known, so that of
  -- compile's order (`Demand1`) only 20, where too few parameters are lent, 12 and 13 are left
  pub fits : (bytes : List ℕ) (s : Sheet) → TextMeans bytes s → length (encode s) ≤ 8192 → SheetFits s
  pub known : (bytes : List ℕ) (s : Sheet) → TextMeans bytes s → (ps : List ℕ) → Known (program_of ps s)
  -- "names do not matter (renaming consistently gives the same bytes)": f for parameters and behaviours, h for events,
  -- g for the places, which longer names move
  pub renamed : (f h : List ℕ → List ℕ) (g : ℕ → ℕ) → KeepsApart f → KeepsApart h → (a b : List ℕ) (s : Sheet) (m : TextMeans a s) → length b ≤ 65536
      → TextSays b (text_as f h g m.reading) → TextMeans b s
  -- "It can say every sheet that compile accepts."; "describe's text is read by assemble to the very bytes, for every
  -- accepted sheet"; "No accepted sheet's text is longer than a text may be."
  pub every_sheet : (v : ℕ → ℕ) (lent : ℕ) (s : Sheet) → SheetAccepted v lent s → TextMeans (described s) s
  pub read_back : (v : ℕ → ℕ) (lent : ℕ) (s : Sheet) → SheetAccepted v lent s → (buffer : List ℕ) → length (encode s) ≤ length buffer
      → assemble_on (described s) buffer ≡ (written (length (encode s)), encode s ++ drop (length (encode s)) buffer)
  -- "sheets back to text": an accepted sheet's text, read again to the very bytes; "or a refusal .., nothing changed":
  -- compile's number for every other
  pub describes : (bytes : List ℕ) → AreBytes bytes → number_on bytes (replicate 32 0) ≡ 0 → SheetDescribed bytes
  pub describes_no_other : (bytes buffer : List ℕ) → number_on bytes (replicate 32 0) ≢ 0
      → describe_on bytes buffer ≡ answered (number_on bytes (replicate 32 0)) buffer
