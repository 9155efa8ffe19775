-- What `pair_on` answers of every sheet: the sheet that compile accepts is the one read, and its program is within the
-- limits under which the tests decide.
use Rattle.lib_base.proofs.Prelude.{ℕ, ◌≤◌, ◌<◌, ◌≡◌, ◌∙◌, sym, ◌≢◌, by_cases, ◌⊎◌, ⊎_elim, inr, inl, List, [], length}
use Rattle.lib_base.proofs.Prelude.{dec_lt, ne_eqb, le-ltb, lt-ltb, arith}
use Rattle.lib_base.specs.Basics.{All}
use Rattle.lib_word.specs.Word.{get}
use Rattle.spec_language.specs.Syntax.{Program}
use Rattle.spec_language.specs.Sheet.{Sheet}
use Rattle.spec_language.specs.Reading.{got, read_sheet}
use Rattle.spec_language.specs.Grammar.{encode}
use Rattle.spec_language.specs.Accepted.{SheetAccepted}
use Rattle.spec_language.specs.Valid.{Accepted}
use Rattle.spec_language.specs.Refusals.{undeclared_event}
use Rattle.spec_language.specs.Dependence.{events, Independent}
use Rattle.spec_grammar.proofs.Programs.{reads_back}
use Rattle.back_compile.specs.Number.{number_on}
use Rattle.back_compile.specs.Compiled.{program_of}
use Rattle.ask_agree.proofs.Answers.{number_zero, accepted}
use Rattle.ask_pair.specs.Pair.{pair_of, pair_in, pair_on}
use Rattle.ask_pair.specs.Claims.{PairNamed, PairAnswer, PairAnswers}
use Rattle.ask_pair.proofs.Decides.{zero_is, told}

module _ (s ps : List ℕ) (bytes : All (λ b. b < 256) s) (words : All (λ b. b < 256) ps) (x : Sheet) (q : encode x ≡ s)
    (taken : SheetAccepted (get ps) (length ps) x) (e f : ℕ) where
  abbrev p : Program
  p = program_of ps x

  ok : Accepted p
  ok = accepted s ps bytes x q taken words

  -- the answer is by its program
  answer_is : pair_on s ps e f ≡ pair_in p e f
  unfolding pair_on
  answer_is = let r : read_sheet s ≡ got x [] = rw q at (reads_back x taken.fits) in rw (number_zero s ps bytes x q taken, r)

  undeclared : (events p ≤ e) ⊎ (events p ≤ f) → pair_in p e f ≡ undeclared_event
  unfolding pair_in
  undeclared (inl h) = rw (le-ltb e (events p) h)
  undeclared (inr h) =
      by_cases (dec_lt e (events p)) (λ a. rw (lt-ltb e (events p) a, le-ltb f (events p) h)) (λ a. let b : events p ≤ e = omega arith in rw (le-ltb e (events p) b))

  module _ (a : e < events p) (b : f < events p) where
    declared_is : pair_on s ps e f ≡ pair_of p e f
    unfolding pair_in
    declared_is = answer_is ∙ rw (lt-ltb e (events p) a, lt-ltb f (events p) b)

    one_of : ((pair_on s ps e f ≡ 0) × Independent p e f) ⊎ ((4294967296 ≤ pair_on s ps e f) × PairNamed p e f (pair_on s ps e f))
    one_of = told p ok.fits.each ok.known ok.fits.few_behaviours e f (pair_on s ps e f) (sym declared_is)

    zero_when : Independent p e f → pair_on s ps e f ≡ 0
    zero_when h = declared_is ∙ zero_is p ok.fits.each ok.known ok.fits.few_behaviours e f h

    only_when : pair_on s ps e f ≡ 0 → Independent p e f
    only_when z = ⊎_elim (λ w. w.1) (λ w. absurd (omega (arith, w.0))) one_of

    names : pair_on s ps e f ≢ 0 → PairNamed p e f (pair_on s ps e f)
    names h = ⊎_elim (λ w. absurd (h w.0)) (λ w. w.1) one_of

    not_15 : pair_on s ps e f ≡ undeclared_event → ⊥
    not_15 z = ⊎_elim (λ w. omega (arith, w.0)) (λ w. omega (arith, w.0)) one_of

  undeclared_when : pair_on s ps e f ≡ undeclared_event → (events p ≤ e) ⊎ (events p ≤ f)
  undeclared_when z =
      by_cases (dec_lt e (events p)) (λ a. by_cases (dec_lt f (events p)) (λ b. absurd (not_15 a b z)) (λ b. inr (omega arith))) (λ a. inl (omega arith))

  answered : PairAnswer s ps e f x
  answered = record {
    undeclared_if = λ h. answer_is ∙ undeclared h;
    undeclared_only = undeclared_when;
    zero_if = zero_when;
    only_if = only_when;
    named = names;
  }

-- a sheet that compile turns down
turned_down : (s ps : List ℕ) (e f : ℕ) → number_on s ps ≢ 0 → pair_on s ps e f ≡ number_on s ps
unfolding pair_on
turned_down s ps e f h = rw (ne_eqb (number_on s ps) 0 h)

pub pair_answers : PairAnswers
pair_answers s ps e f bytes words = (λ x q taken. answered s ps bytes words x q taken e f, turned_down s ps e f)
