-- 02, M-109: which instructions each step gives. The words that the copy, phase one, phase two and the copy-back write
-- for an event are those of the four parts of its code, and in a row they are the code: from what each entry of the
-- draft holds. With a cycle the check on dependence fails; without, it passes, and the code is written.
use Rattle.lib_base.proofs.Prelude.{ℕ, ◌≤◌, ◌<◌, ◌≡◌, List, [], ◌∷◌, ◌++◌}
use Rattle.spec_language.specs.Syntax.{Program}
use Rattle.spec_language.specs.Dependence.{Response, follows, takes, defers, keeps, size, response, Acyclic}
use Rattle.spec_language.specs.Order.{phase_one}
use Rattle.spec_language.specs.Fits.{Fits}
use Rattle.spec_language.specs.Accepted.{Known}
use Rattle.spec_language.specs.Code.{on, copy, restore, of_c, by_number, copy_part, first_part, second_part, restore_part, code}
use Rattle.format_image.specs.Table.{code_words}
use Rattle.draft_form.specs.Draft.{entry_of, used_by, Drafted}
use Rattle.draft_form.proofs.DraftLaws.{Entry, entry_of_law}
use Rattle.back_counts.proofs.CountIs.{copied_is}
use Rattle.back_schedule.specs.Ordering.{order_under}
use Rattle.back_schedule.proofs.OrderingIs.{order_is, ordered_exactly}
use Rattle.back_emit.specs.Words.{member_words}
use Rattle.back_emit.proofs.ExprWords.{code_words_append}
use Rattle.back_phases.proofs.PhasesAre.{each_code, first_are, second_are}
use Rattle.back_event.specs.Handlers.{masked_words, event_words, code_of}
use Rattle.back_event.specs.Steps.{EventParts}

copy_is : (d : List ℕ) (e i : ℕ) (r : Response) → Entry (used_by d i) (entry_of d e i) r → member_words d e 768 i ≡ code_words (of_c copy i r)
unfolding member_words code_words
copy_is d e i (follows x) k = rw (copied_is (used_by d i) (entry_of d e i) (follows x) k)
copy_is d e i (takes x) k = rw (copied_is (used_by d i) (entry_of d e i) (takes x) k)
copy_is d e i (defers x) k = rw (copied_is (used_by d i) (entry_of d e i) (defers x) k)
copy_is d e i keeps k = rw (copied_is (used_by d i) (entry_of d e i) keeps k)

restore_is : (d : List ℕ) (e i : ℕ) (r : Response) → Entry (used_by d i) (entry_of d e i) r → member_words d e 1024 i ≡ code_words (of_c restore i r)
unfolding member_words code_words
restore_is d e i (follows x) k = rw (copied_is (used_by d i) (entry_of d e i) (follows x) k)
restore_is d e i (takes x) k = rw (copied_is (used_by d i) (entry_of d e i) (takes x) k)
restore_is d e i (defers x) k = rw (copied_is (used_by d i) (entry_of d e i) (defers x) k)
restore_is d e i keeps k = rw (copied_is (used_by d i) (entry_of d e i) keeps k)

module _ (p : Program) (d : List ℕ) (n : ℕ) (dr : Drafted p d n) (fits : Fits p) (known : Known p) (e : ℕ) (b : e ≤ 32) where
  held : (i : ℕ) → i < size p → Entry (used_by d i) (entry_of d e i) (response p e i)
  held i h = entry_of_law p d n dr e i b h

  copies_are : masked_words d e 768 (size p) ≡ code_words (copy_part p e)
  unfolding masked_words copy_part code_words
  copies_are =
      rw (
        each_code (size p) (member_words d e 768) (λ i. of_c copy i (response p e i)) (λ i h. copy_is d e i (response p e i) (held i h)),
        code_words_append (by_number p e (of_c copy)) (on ∷ []),
      )

  restores_are : masked_words d e 1024 (size p) ≡ code_words (restore_part p e)
  unfolding masked_words restore_part code_words
  restores_are =
      rw (
        each_code (size p) (member_words d e 1024) (λ i. of_c restore i (response p e i)) (λ i h. restore_is d e i (response p e i) (held i h)),
        code_words_append (by_number p e (of_c restore)) (on ∷ []),
      )

  row : event_words d e (size p) (phase_one p e) ≡ code_words (copy_part p e ++ (first_part p e ++ (second_part p e ++ restore_part p e)))
  unfolding event_words
  row =
      rw (
        copies_are,
        first_are p d n dr fits known e b,
        second_are p d n dr fits known e b,
        restores_are,
        code_words_append (copy_part p e) (first_part p e ++ (second_part p e ++ restore_part p e)),
        code_words_append (first_part p e) (second_part p e ++ restore_part p e),
        code_words_append (second_part p e) (restore_part p e),
      )

  pub steps_are : EventParts p d e
  steps_are =
      let o : order_under d e (size p) ≡ phase_one p e = order_is p d n dr fits e b in
      record {
        copies = copies_are;
        first = rw o (first_are p d n dr fits known e b);
        second = rw o (second_are p d n dr fits known e b);
        restores = restores_are;
        in_a_row = rw o row;
        checked = ordered_exactly p d n dr fits e b known;
      }

  -- without a cycle, what compile_event writes is the event's code
  pub code_words_law : Acyclic p e → code_of d (size p) e ≡ code_words (code p e)
  unfolding code_of code
  code_words_law a = rw (steps_are.checked.1 a) steps_are.in_a_row
