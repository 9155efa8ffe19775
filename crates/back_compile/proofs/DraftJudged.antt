-- A draft judged: each answer is a branch of `judge` for the draft's program, by the theorems on the checks and on the
-- table (crates check_faults, table).
use Rattle.lib_base.proofs.Prelude.{ℕ, ◌≤◌, ◌<◌, ◌≡◌, ◌∙◌, sym, ap, true, false, Bool, List, arith}
use Rattle.format_image.specs.Table.{table_of, put_words}
use Rattle.draft_form.specs.Draft.{DraftOf}
use Rattle.check_faults.specs.Checks.{names_known, cyclic_on}
use Rattle.check_faults.proofs.DraftChecks.{draft_names, draft_cyclic}
use Rattle.back_table.specs.TableWords.{count_before, table_words}
use Rattle.back_table.proofs.TableIs.{count_all_is, draft_table}
use Rattle.back_compile.specs.Verdict.{judge}
use Rattle.back_compile.specs.Compiled.{compiled}
use Rattle.back_compile.proofs.JudgeLaws.{judge_unknown, judge_lacking, judge_cycle, judge_long, judge_passes}

module _ {ev bs n : ℕ} {d : List ℕ} (c : DraftOf ev bs n d) (t : List ℕ) where
  pub draft_unknown : (l : Bool) → names_known d bs n ≡ false → compiled 11 t ≡ judge c.program l t
  draft_unknown l k = sym (judge_unknown c.program t l (sym (draft_names c) ∙ k))

  pub draft_lacking : (l : Bool) → l ≡ true → names_known d bs n ≡ true → compiled 20 t ≡ judge c.program l t
  draft_lacking l e k = rw e (sym (judge_lacking c.program t (sym (draft_names c) ∙ k)))

  pub draft_circular : (l : Bool) → l ≡ false → names_known d bs n ≡ true → cyclic_on d ev bs ≡ true → compiled 12 t ≡ judge c.program l t
  draft_circular l e k a = rw e (sym (judge_cycle c.program t (sym (draft_names c) ∙ k) (sym (draft_cyclic c) ∙ a)))

  pub draft_overlong : (l : Bool) → l ≡ false → names_known d bs n ≡ true → cyclic_on d ev bs ≡ false → 4096 < count_before d bs ev → compiled 13 t ≡ judge c.program l t
  draft_overlong l e k a h =
      rw e (sym (judge_long c.program t (sym (draft_names c) ∙ k) (sym (draft_cyclic c) ∙ a) (omega (arith, count_all_is c k))))

  pub draft_passes : (l : Bool) → l ≡ false → names_known d bs n ≡ true → cyclic_on d ev bs ≡ false → count_before d bs ev ≤ 4096 → (t' : List ℕ) → t' ≡ put_words t 0 (table_words d ev bs)
      → compiled 0 t' ≡ judge c.program l t
  unfolding table_of
  draft_passes l e k a h t' q =
      rw e
      (ap (compiled 0) (q ∙ ap (put_words t 0) (draft_table c k a))
      ∙ sym (judge_passes c.program t (sym (draft_names c) ∙ k) (sym (draft_cyclic c) ∙ a) (omega (arith, count_all_is c k))))
