-- What `agree_on` answers of every sheet: the sheet that compile accepts is the one read, and its program is within the
-- limits under which the tests decide.
use Rattle.lib_base.proofs.Prelude.{ℕ, ◌<◌, ◌≡◌, ◌∙◌, sym, ap, ◌≢◌, List, [], length, replicate, ne_eqb}
use Rattle.lib_base.specs.Basics.{All}
use Rattle.lib_word.specs.Word.{get}
use Rattle.spec_language.specs.Sheet.{Sheet}
use Rattle.spec_language.specs.Reading.{got, read_sheet}
use Rattle.spec_language.specs.Grammar.{encode}
use Rattle.spec_language.specs.Accepted.{SheetAccepted}
use Rattle.spec_language.specs.Valid.{Accepted}
use Rattle.spec_language.proofs.SheetLaws.{filling_accepted}
use Rattle.spec_grammar.proofs.Programs.{reads_back}
use Rattle.draft_params.proofs.Fills.{get_small}
use Rattle.back_compile.specs.Number.{number_on}
use Rattle.back_compile.specs.Compiled.{Compiled, program_of}
use Rattle.back_compile.proofs.AcceptedExactly.{accepted_exactly}
use Rattle.ask_agree.specs.Agree.{clash_in, agree_on}
use Rattle.ask_agree.specs.Claims.{AgreeAnswer, AgreeAnswers}
use Rattle.ask_agree.proofs.Decides.{zero_says, zero_is, named_is_true}
use Rattle.back_compile.proofs.Judging.{room}

module _ (s ps : List ℕ) (bytes : All (λ b. b < 256) s) (x : Sheet) (e : encode x ≡ s) (taken : SheetAccepted (get ps) (length ps) x) where
  -- compile's number is 0
  pub number_zero : number_on s ps ≡ 0
  unfolding number_on
  number_zero = ap (λ (o : Compiled). o.0) ((accepted_exactly s ps (replicate 34816 0) bytes room).1 x e taken)

  -- and the answer is by its program
  pub agree_is : agree_on s ps ≡ clash_in (program_of ps x)
  unfolding agree_on
  agree_is = let r : read_sheet s ≡ got x [] = rw e at (reads_back x taken.fits) in rw (number_zero, r)

  module _ (words : All (λ b. b < 256) ps) where
    pub accepted : Accepted (program_of ps x)
    accepted = filling_accepted (get ps) (λ n _. get_small ps words n) (length ps) x taken

    answered : AgreeAnswer s ps x
    answered =
        let p = program_of ps x in
        let k = accepted in
        record {
          zero_if = λ h. agree_is ∙ zero_is p k.fits.each k.known k.fits.few_behaviours h;
          only_if = λ z. zero_says p k.fits.each k.known k.fits.few_behaviours (sym agree_is ∙ z);
          named = λ h. named_is_true p k.fits.each k.known k.fits.few_behaviours (agree_on s ps) (sym agree_is) h;
        }

-- a sheet that compile turns down
pub turned_down : (s ps : List ℕ) → number_on s ps ≢ 0 → agree_on s ps ≡ number_on s ps
unfolding agree_on
turned_down s ps h = rw (ne_eqb (number_on s ps) 0 h)

pub answers : AgreeAnswers
answers s ps bytes words = (λ x e taken. answered s ps bytes x e taken words, turned_down s ps)
