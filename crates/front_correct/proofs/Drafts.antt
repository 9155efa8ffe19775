-- What the reader leaves in the draft is the sheet that the grammar says, its parameters not filled in, and a fault is
-- the grammar's.
use Rattle.std.specs.Prelude.{Result, Ok, Err}
use Rattle.std.proofs.lemmas.Result.{err_from_is_err_and}
use Rattle.spec_language.specs.Numbers.{refusal_number}
use Rattle.lib_base.proofs.Prelude.{ℕ, ◌≤◌, ◌<◌, ◌≡◌, refl, ◌∙◌, ap, List, [], length, replicate, length-replicate}
use lib.ListN.{get_or-replicate}
use Rattle.lib_base.specs.Basics.{All}
use Rattle.spec_language.specs.Sheet.{Sheet}
use Rattle.spec_language.specs.Reading.{Got, bad, got, read_sheet}
use Rattle.spec_language.specs.Grammar.{SheetFits}
use Rattle.spec_grammar.proofs.Programs.{reads_only}
use Rattle.draft_form.specs.Draft.{draft_length, SheetDraft}
use Rattle.spec_language.specs.declared.refusals.Refusal.{Refusal}
use Rattle.front_sheet.specs.declared.Counts.{Counts}
use Rattle.front_sheet.specs.Whole.{Finish, finished, read_on}
use Rattle.front_correct.proofs.Sofar.{all_read, all_held}
use Rattle.front_correct.proofs.Programs.{SameProgram, same_program}

-- what an answer of the reader says of the bytes s, with the draft d that it leaves
abbrev pub Outcome : List ℕ → Result Counts Refusal → List ℕ → Type 0
Outcome s (Err r) d = read_sheet s ≡ bad (refusal_number r)
Outcome s (Ok c) d = (of : SheetDraft c.events c.behaviours c.nodes d) × (read_sheet s ≡ got of.sheet [])

-- the draft before reading
abbrev pub empty : List ℕ
empty = replicate draft_length 0

module _ (s : List ℕ) (bytes : All (λ b. b < 256) s) (most : length s ≤ 8192) where
  same : SameProgram (read_sheet s) (read_on s empty)
  same = same_program s most empty (length-replicate {A = ℕ} draft_length 0) (λ j h. get_or-replicate {A = ℕ} draft_length j 0 0 h)

  outcome : (g : Got Sheet) (o : Finish) → read_sheet s ≡ g → SameProgram g o → Outcome s o.0 o.1
  outcome (bad k) o q h = let p = err_from_is_err_and o.0 h in rw (p.1, p.2) q
  outcome (got p r) o q h =
      let t : read_sheet s ≡ got p [] = q ∙ ap (λ (l : List ℕ). got p l) h.0 in
      let f : SheetFits p = (reads_only s bytes most p [] t).1 in
      rw h.2 (
        record {
          sheet = p;
          fits = f;
          events_are = refl;
          size_is = refl;
          drafted = all_read o.1 h.1 h.3 p.signals p.entries h.4 (length p.signals) f.each f.few_behaviours;
          held = all_held o.1 h.1 h.3 p.signals p.entries h.4;
          pool = h.4.pool;
        },
        t,
      )

  pub drafted : Outcome s (read_on s empty).0 (read_on s empty).1
  drafted = outcome (read_sheet s) (read_on s empty) refl same

  -- the same for an answer and a draft that are known by an equation
  pub drafted_as : (a : Result Counts Refusal) (d : List ℕ) → read_on s empty ≡ finished a d → Outcome s a d
  drafted_as a d e = go (read_on s empty) e drafted
    where
      go : (o : Finish) → o ≡ finished a d → Outcome s o.0 o.1 → Outcome s a d
      go o q h = rw q at h
