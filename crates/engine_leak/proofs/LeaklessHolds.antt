-- `leak` answers 0 exactly under M-107's condition, so that the rule for a player needs no other; with changes, by
-- induction on them, each new sheet being sealed because `leak` answers 0 for it.
use Rattle.lib_base.proofs.Prelude.{ℕ, ◌<◌, ◌≡◌, ◌∙◌, sym, ap, subst, ◌≢◌, by_cases, List, [], ◌∷◌, map, length}
use Rattle.lib_base.proofs.Prelude.{replicate, dec_lt, ne_eqb, le-ltb, lt-ltb, arith}
use Rattle.lib_base.specs.Basics.{All}
use Rattle.lib_word.specs.Word.{get}
use Rattle.spec_language.specs.Syntax.{Program}
use Rattle.spec_language.specs.Sheet.{Sheet, fill}
use Rattle.spec_language.specs.Reading.{got, read_sheet}
use Rattle.spec_language.specs.Grammar.{encode}
use Rattle.spec_language.specs.Accepted.{SheetAccepted}
use Rattle.spec_language.specs.Refusals.{no_player}
use Rattle.spec_grammar.proofs.Programs.{reads_back}
use Rattle.back_compile.specs.Number.{number_on}
use Rattle.back_compile.specs.Compiled.{Compiled, program_of}
use Rattle.back_compile.proofs.AcceptedExactly.{accepted_exactly}
use Rattle.refine_lists.proofs.Sheets.{program_accepted}
use Rattle.refine_lists.proofs.FromSheets.{prepared_bytes}
use Rattle.spec_model.specs.Model.{Call, change, begun}
use Rattle.refine_lists.specs.Lists.{SheetTurn, calling, mending, Compiles, Means, fresh_round_on, Prepared}
use Rattle.secrecy_model.specs.Sight.{Sealed}
use Rattle.secrecy_engine.specs.Heard.{TwoSheets, HeardAlike, AlikeAt}
use Rattle.secrecy_engine.proofs.HeardHolds.{at_changes, rule_on, of_calls}
use Rattle.ask_leak.specs.Leak.{leak_in, leak_on}
use Rattle.engine_leak.specs.Leakless.{LeakAnswer, LeakAnswers, SealedToo, RuleWithChanges, WithNoCondition}
use Rattle.engine_leak.proofs.Decides.{zero_says, zero_is, named_is_true}
use Rattle.back_compile.proofs.Judging.{room}

module _ (s ps : List ℕ) (bytes : All (λ b. b < 256) s) (x : Sheet) (e : encode x ≡ s) (taken : SheetAccepted (get ps) (length ps) x) where
  number_zero : number_on s ps ≡ 0
  unfolding number_on
  number_zero = ap (λ (o : Compiled). o.0) ((accepted_exactly s ps (replicate 34816 0) bytes room).1 x e taken)

  leak_is : (player : ℕ) → player < 8 → leak_on s ps player ≡ leak_in (program_of ps x) player
  unfolding leak_on
  leak_is player b = let r : read_sheet s ≡ got x [] = rw e at (reads_back x taken.fits) in rw (number_zero, le-ltb 7 player (omega arith), r)

  above_seven : (player : ℕ) → 7 < player → leak_on s ps player ≡ 24
  unfolding leak_on
  above_seven player b = rw (number_zero, lt-ltb 7 player b)

  module _ (words : All (λ b. b < 256) ps) (player : ℕ) (few : player < 8) where
    pub answered : LeakAnswer s ps player x
    answered =
        let p = program_of ps x in
        let k = program_accepted ps words x taken in
        record {
          zero_if = λ h. leak_is player few ∙ zero_is p k.fits.each k.known player h;
          only_if = λ z. zero_says p k.fits.each k.known player (sym (leak_is player few) ∙ z);
          named = λ h. named_is_true p k.fits.each k.known player (leak_on s ps player) (sym (leak_is player few)) h;
        }

  -- 0 says that the player is one of eight
  pub sealed_by : All (λ b. b < 256) ps → (player : ℕ) → leak_on s ps player ≡ 0 → Sealed (program_of ps x) player
  sealed_by words player z =
      by_cases (dec_lt player 8) (λ b. (answered words player b).only_if z)
      (λ b. absurd (omega (arith, sym (above_seven player (omega arith)) ∙ z)))

above : (s ps : List ℕ) (player : ℕ) → number_on s ps ≡ 0 → 7 < player → leak_on s ps player ≡ no_player
unfolding leak_on
above s ps player q h = rw (q, lt-ltb 7 player h)

turned_down : (s ps : List ℕ) (player : ℕ) → number_on s ps ≢ 0 → leak_on s ps player ≡ number_on s ps
unfolding leak_on
turned_down s ps player h = rw (ne_eqb (number_on s ps) 0 h)

pub answers : LeakAnswers
answers s ps player bytes words = (λ x e taken b. answered s ps bytes x e taken words player b, above s ps player, turned_down s ps player)

-- ---- the rule

prepared_sealed : (s ps t l : List ℕ) (x : Sheet) → Prepared s ps t l x → (player : ℕ) → leak_on s ps player ≡ 0 → Sealed (program_of ps x) player
prepared_sealed s ps t l x r player z = sealed_by s ps (prepared_bytes s ps t l x r) x r.sent_as r.taken r.param_bytes player z

-- as M-107 words it, of the same calls in both rounds
pub rule_of_calls : (player : ℕ) (s z ps qs t₀ l₀ t₁ l₁ : List ℕ) (x y : Sheet) → TwoSheets player s z ps qs t₀ l₀ t₁ l₁ x y → leak_on s ps player ≡ 0
    → (cs : List Call) → HeardAlike player (fresh_round_on s ps t₀ l₀) (map calling cs) (fresh_round_on z qs t₁ l₁) (map calling cs)
rule_of_calls player s z ps qs t₀ l₀ t₁ l₁ x y two free cs =
    of_calls player s z ps qs t₀ l₀ t₁ l₁ x y two (prepared_sealed s ps t₀ l₀ x two.one player free) cs

-- ---- at each change

-- what is known of a turn of the first list
abbrev Free : ℕ → SheetTurn → Type 0
Free player a = Compiles a × SealedToo player a

all_free : (player : ℕ) (xs : List SheetTurn) → All Compiles xs → All (SealedToo player) xs → All (Free player) xs
all_free player [] k q = tt
all_free player (x ∷ xs) k q = ((k.0, q.0), all_free player xs k.1 q.1)

sealed_new : (player : ℕ) (a b : SheetTurn) (p : Program) (v w : ℕ → ℕ) (s t : Sheet) → Free player a → Compiles b → Means a (change (fill v s)) → Means b (change (fill w t))
    → AlikeAt player p v w s t → AlikeAt player p v w s t × Sealed (fill v s) player
sealed_new player (calling c) b p v w s t k m e f h = absurd e
sealed_new player (mending d ps u) b p v w s t k m e f h =
    (h, subst (λ (q : Program). Sealed q player) (sym e.3) (sealed_by d ps k.0.0 e.0 e.1 e.2 k.0.1 player k.1))

with_changes : RuleWithChanges
with_changes player s z ps qs t₀ l₀ t₁ l₁ x y two free l h xs ys k m e f q =
    rule_on player s z ps qs t₀ l₀ t₁ l₁ x y two (prepared_sealed s ps t₀ l₀ x two.one player free) l
    (at_changes (Free player) Compiles (AlikeAt player) _ (sealed_new player) l (begun (program_of ps x)) (begun (program_of qs y)) h xs ys (all_free player xs k q) m e f)
    xs ys k m e f

pub with_no_condition : WithNoCondition
with_no_condition = record { answers = answers; rule = with_changes }
