-- What `agree_for_on` answers of every sheet: the sheet that compile accepts is the one read, and its program is within
-- the limits under which the tests decide.
use Rattle.lib_base.proofs.Prelude.{ℕ, ◌≤◌, ◌<◌, ◌≡◌, ◌∙◌, sym, ◌≢◌, List, [], length, ne_eqb, lt-leb, le-leb, arith}
use Rattle.lib_base.specs.Basics.{All}
use Rattle.lib_word.specs.Word.{get}
use Rattle.spec_language.specs.Syntax.{Program}
use Rattle.spec_language.specs.Sheet.{Sheet}
use Rattle.spec_language.specs.Reading.{got, read_sheet}
use Rattle.spec_language.specs.Refusals.{no_behaviour}
use Rattle.spec_language.specs.Dependence.{size}
use Rattle.spec_language.specs.Grammar.{encode}
use Rattle.spec_language.specs.Accepted.{SheetAccepted}
use Rattle.spec_language.specs.Valid.{Accepted}
use Rattle.spec_grammar.proofs.Programs.{reads_back}
use Rattle.ask_commute.specs.Meets.{Cone}
use Rattle.ask_commute.proofs.Cones.{Settled}
use Rattle.back_compile.specs.Number.{number_on}
use Rattle.back_compile.specs.Compiled.{program_of}
use Rattle.refine_lists.proofs.Sheets.{program_accepted}
use Rattle.ask_agree.specs.Answer.{packed_difference}
use Rattle.ask_agree.proofs.Answers.{number_zero, answers}
use Rattle.ask_meets.specs.Meeting.{in_cone}
use Rattle.ask_agree_for.specs.AgreeFor.{encounter_in, agree_for_in, agree_for_on}
use Rattle.ask_agree_for.proofs.Decides.{zero_settles, zero_says, zero_is, named_is_true}
use Rattle.engine_agree_for.specs.OneBehaviour.{AgreeForAnswer, AgreeForAnswers, ZeroForEach}
use Rattle.engine_agree_for.proofs.ConeDecides.{cone_says, cone_is, independent_none}

module _ (s ps : List ℕ) (bytes : All (λ b. b < 256) s) (words : All (λ b. b < 256) ps) (x : Sheet) (e : encode x ≡ s)
    (taken : SheetAccepted (get ps) (length ps) x) where
  abbrev p : Program
  p = program_of ps x

  ok : Accepted p
  ok = program_accepted ps words x taken

  -- the answer is by its program
  pub answer_is : (b : ℕ) → agree_for_on s ps b ≡ agree_for_in p b
  unfolding agree_for_on
  answer_is b = let r : read_sheet s ≡ got x [] = rw e at (reads_back x taken.fits) in rw (number_zero s ps bytes x e taken, r)

  none_such : (b : ℕ) → size p ≤ b → agree_for_on s ps b ≡ no_behaviour
  unfolding agree_for_in
  none_such b h = answer_is b ∙ rw (le-leb (size p) b h)

  in_cone_law : (b : ℕ) → b < size p → agree_for_on s ps b ≡ encounter_in p (in_cone p b)
  unfolding agree_for_in
  in_cone_law b h = answer_is b ∙ rw (lt-leb (size p) b h)

  module _ (b : ℕ) (h : b < size p) where
    pub settled : agree_for_on s ps b ≡ 0 → Settled p (Cone p b)
    settled z =
        zero_settles p ok.fits.each ok.known ok.fits.few_behaviours (in_cone p b) (Cone p b) (cone_says p ok.fits.each ok.known b)
        (cone_is p ok.fits.each ok.known b) (sym (in_cone_law b h) ∙ z)

  answered : (b : ℕ) → AgreeForAnswer s ps b x
  answered b =
      let yes = cone_says p ok.fits.each ok.known b in
      let no = cone_is p ok.fits.each ok.known b in
      record {
        none_such = none_such b;
        zero_if = λ h n. in_cone_law b h ∙ zero_is p ok.fits.each ok.known ok.fits.few_behaviours (in_cone p b) (Cone p b) yes no n;
        only_if = λ h z. zero_says p ok.fits.each ok.known ok.fits.few_behaviours (in_cone p b) (Cone p b) yes no (sym (in_cone_law b h) ∙ z);
        named = λ h n. named_is_true p ok.fits.each ok.known ok.fits.few_behaviours (in_cone p b) (Cone p b) yes no (agree_for_on s ps b) (sym (in_cone_law b h)) n;
        implied = λ h z. in_cone_law b h
            ∙ zero_is p ok.fits.each ok.known ok.fits.few_behaviours (in_cone p b) (Cone p b) yes no
            (independent_none p (Cone p b) (((answers s ps bytes words).0 x e taken).only_if z));
      }

  -- of a behaviour's number the answer is never 18: it is 0, or 29 and more
  a_behaviour : (b : ℕ) → b < size p → agree_for_on s ps b ≢ no_behaviour
  unfolding packed_difference
  a_behaviour b h q =
      let n = (answered b).named h (λ z. let k : 0 ≡ 18 = sym z ∙ q in omega arith) in
      let k : 18 ≡ packed_difference n.first n.second n.behaviour = sym q ∙ n.is in
      omega arith

  pub zero_settled : ZeroForEach s ps → (b : ℕ) → b < size p → Settled p (Cone p b)
  zero_settled z b h = settled b h (z b (a_behaviour b h))

-- a sheet that compile turns down
turned_down : (s ps : List ℕ) (b : ℕ) → number_on s ps ≢ 0 → agree_for_on s ps b ≡ number_on s ps
unfolding agree_for_on
turned_down s ps b h = rw (ne_eqb (number_on s ps) 0 h)

pub for_answers : AgreeForAnswers
for_answers s ps b bytes words = (λ x e taken. answered s ps bytes words x e taken b, turned_down s ps b)
