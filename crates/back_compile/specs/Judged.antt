-- What is known of a sheet once it is judged, all but the table: what the draft is that the judging leaves, and what
-- compile then answers with any table of full size.
use Rattle.std.specs.Prelude.{ℕ, ◌≤◌, ◌≡◌, ◌≢◌, Bool, true, List, [], length, Result, Ok, Err}
use Rattle.spec_language.specs.Sheet.{Sheet}
use Rattle.spec_language.specs.Reading.{got, read_sheet}
use Rattle.format_image.specs.Table.{put_words}
use Rattle.draft_form.specs.Draft.{DraftOf, SheetDraft}
use Rattle.check_faults.specs.Faults.{known}
use Rattle.check_faults.specs.Checks.{cyclic_on}
use Rattle.back_table.specs.TableWords.{table_words, Planned}
use Rattle.back_compile.specs.Verdict.{judge, judge_read, compile_on}
use Rattle.back_compile.specs.Compiled.{compiled, program_of}
use Rattle.spec_language.specs.Numbers.{refusal_number}
use Rattle.front_sheet.specs.declared.Counts.{Counts}
use Rattle.back_compile.specs.declared.Turndown.{Turndown}
use Rattle.back_compile.specs.declared.Turndown.TheVariants.{Circular, Refused}

-- ---- a judgement of the bytes s, with the bytes ps lent for their parameters; d is the draft that it leaves

-- the bytes are a sheet's, and the draft is that of its program, with no name unknown
pub record Drafts (s ps : List ℕ) (ev bs : ℕ) (d : List ℕ) : Type 0 where
  pub sheet : Sheet
  pub read : read_sheet s ≡ got sheet []
  pub nodes : ℕ
  pub draft : DraftOf ev bs nodes d
  pub own : draft.program ≡ program_of ps sheet
  pub names : known draft.program ≡ true

-- accepted: the table can be written from the draft, and is compile's
pub record Passes (s ps : List ℕ) (ev bs : ℕ) (d : List ℕ) : Type 0 where
  pub drafts : Drafts s ps ev bs d
  pub planned : Planned d ev bs
  pub compiles : (t : List ℕ) → 34816 ≤ length t → compile_on s ps t ≡ compiled 0 (put_words t 0 (table_words d ev bs))

-- a circle: the draft shows one
pub record CircleDraft (s ps : List ℕ) (ev bs : ℕ) (d : List ℕ) : Type 0 where
  pub drafts : Drafts s ps ev bs d
  pub cycles : cyclic_on d ev bs ≡ true
  pub refused : (t : List ℕ) → 34816 ≤ length t → compile_on s ps t ≡ compiled 12 t

-- refused by another number
pub record Falls (s ps : List ℕ) (k : ℕ) : Type 0 where
  pub some : k ≢ 0
  pub other : k ≢ 12
  pub refused : (t : List ℕ) → 34816 ≤ length t → compile_on s ps t ≡ compiled k t

abbrev pub Judgement : Type 0
Judgement = Result Counts Turndown

abbrev pub Finding : List ℕ → List ℕ → List ℕ → Judgement → Type 0
Finding s ps d (Ok n) = Passes s ps n.events n.behaviours d
Finding s ps d (Err (Circular n)) = CircleDraft s ps n.events n.behaviours d
Finding s ps d (Err (Refused r)) = Falls s ps (refusal_number r)

pub record JudgedAs (s ps d : List ℕ) (a : Judgement) : Type 0 where
  pub finding : Finding s ps d a

-- compile's number
abbrev pub answer_of : Judgement → ℕ
answer_of (Ok n) = 0
answer_of (Err (Circular n)) = 12
answer_of (Err (Refused r)) = refusal_number r

-- ---- the steps

-- the answer r and the table t' are those for whatever program d is the draft of
pub record Judged (ev bs n : ℕ) (d : List ℕ) (lacking : Bool) (t : List ℕ) (r : ℕ) (t' : List ℕ) : Type 0 where
  pub each_program : (c : DraftOf ev bs n d) → compiled r t' ≡ judge c.program lacking t

-- and those for whatever sheet d is the draft of, its parameters not filled in, with the bytes ps lent for them
pub record SheetJudged (ev bs n : ℕ) (d ps t : List ℕ) (r : ℕ) (t' : List ℕ) : Type 0 where
  pub each_sheet : (o : SheetDraft ev bs n d) → compiled r t' ≡ judge_read (got o.sheet []) ps t
