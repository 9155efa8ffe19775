-- What the reader hands on is judged as the sheet is: by the theorem on the reader's draft (crate front_correct).
use Rattle.lib_base.proofs.Prelude.{ℕ, ◌≤◌, ◌<◌, suc, ◌≡◌, ◌∙◌, sym, ap, List, [], ◌∷◌, length, get_or, arith}
use Rattle.lib_base.specs.Basics.{All}
use Rattle.spec_language.specs.Sheet.{Sheet}
use Rattle.spec_language.specs.Reading.{Got, bad, read_sheet}
use Rattle.std.specs.Prelude.{Err}
use Rattle.spec_language.specs.Numbers.{refusal_number}
use Rattle.spec_language.specs.declared.refusals.Refusal.{Refusal}
use Rattle.front_sheet.specs.Whole.{ready, finished, read_on}
use Rattle.front_correct.proofs.Drafts.{empty, drafted_as}
use Rattle.back_compile.specs.Verdict.{judge_read}
use Rattle.back_compile.specs.Compiled.{compiled}
use Rattle.back_compile.specs.Judged.{SheetJudged}

-- the bytes of a slice
pub all_bytes : (s : List ℕ) → ((i : ℕ) → i < length s → get_or s i 0 < 256) → All (λ b. b < 256) s
all_bytes [] h = tt
all_bytes (b ∷ s) h = (h 0 (omega arith), all_bytes s (λ i c. h (suc i) (omega arith)))

module _ (s : List ℕ) (bytes : All (λ b. b < 256) s) (hi : length s ≤ 8192) where
  -- a fault is the sheet's
  pub read_fault : (k : Refusal) (d ps t : List ℕ) → finished (Err k) d ≡ read_on s empty → compiled (refusal_number k) t ≡ judge_read (read_sheet s) ps t
  read_fault k d ps t q = let e : read_sheet s ≡ bad (refusal_number k) = drafted_as s bytes hi (Err k) d (sym q) in rw e

  -- the draft judged is the sheet judged
  pub read_judged : (ev bs n : ℕ) (d ps t : List ℕ) (r : ℕ) (t' : List ℕ) → finished (ready ev bs n) d ≡ read_on s empty → SheetJudged ev bs n d ps t r t'
      → compiled r t' ≡ judge_read (read_sheet s) ps t
  read_judged ev bs n d ps t r t' q j =
      let o = drafted_as s bytes hi (ready ev bs n) d (sym q) in
      j.each_sheet o.0 ∙ ap (λ (g : Got Sheet). judge_read g ps t) (sym o.1)
