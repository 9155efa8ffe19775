-- The rule for a player holds of the exported functions: by demand 3 (crate refine_lists) their numbers are those of
-- the two model engines, and of these the rule holds (crate secrecy_model). Calls alone are pairs of themselves.
use Prim.Native.Nat.{ℕ, ◌+◌}
use mathlib.Core.Path.{refl, sym, ap, ◌∙◌, subst}
use mathlib.Core.List.Forall₂
use mathlib.Core.List.{List, [], ◌∷◌, map, zip_with, Forall₂-cons}
use Rattle.lib_base.specs.Basics.{All}
use Rattle.lib_word.specs.Word.{get}
use Rattle.spec_language.specs.Syntax.{Program}
use Rattle.spec_language.specs.Sheet.{Sheet, fill}
use Rattle.spec_language.specs.Valid.{Accepted}
use Rattle.spec_model.specs.Model.{Call, call, change, State, turn, replies, begun}
use Rattle.spec_model.specs.Claims.{in_force}
use Rattle.back_compile.specs.Compiled.{program_of}
use Rattle.refine_calls.specs.Refinement.{coded}
use Rattle.refine_lists.specs.Lists.{SheetTurn, calling, mending, Compiles, Means, AllMean, fresh_round_on}
use Rattle.refine_lists.proofs.Sheets.{program_accepted}
use Rattle.refine_lists.proofs.FromSheets.{prepared_accepted, list_of, previewed_after}
use Rattle.secrecy_model.specs.Sight.{Sealed, Pair, both, each, in_one, in_other, AtChanges}
use Rattle.secrecy_model.specs.ModelRule.{Condition, ConditionAt}
use Rattle.secrecy_model.proofs.RuleHolds.{players_rule}
use Rattle.secrecy_engine.specs.Heard.{TwoSheets, hears_in, HeardAlike, AlikeAt, RuleOn}
use Rattle.secrecy_engine.proofs.Told.{renumbered, turns_heard, same_kinds}

condition : (player : ℕ) (s z ps qs t₀ l₀ t₁ l₁ : List ℕ) (x y : Sheet) → TwoSheets player s z ps qs t₀ l₀ t₁ l₁ x y → Sealed (program_of ps x) player
    → Condition player (get ps) (get qs) x y
condition player s z ps qs t₀ l₀ t₁ l₁ x y h k =
    record {
      alike = h.alike;
      sealed = k;
      filled = h.filled;
      one = prepared_accepted s ps t₀ l₀ x h.one;
      other = subst Accepted h.filled (prepared_accepted z qs t₁ l₁ y h.other);
    }

-- ---- what is known of the sheets of each change

-- K of the turns of the first list, and M of those of the other
module _ (K M : SheetTurn → Type 0) (P Q : Program → (ℕ → ℕ) → (ℕ → ℕ) → Sheet → Sheet → Type 0)
    (go : (a b : SheetTurn) (p : Program) (v w : ℕ → ℕ) (s t : Sheet) → K a → M b → Means a (change (fill v s)) → Means b (change (fill w t)) → P p v w s t → Q p v w s t) where
  pub at_changes : (l : List Pair) (x y : State) → AtChanges P l x y
      → (xs ys : List SheetTurn) → All K xs → All M ys → AllMean xs (map in_one l) → AllMean ys (map in_other l) → AtChanges Q l x y
  at_changes [] x y h xs ys k m e f = tt
  at_changes (c ∷ l) x y h [] ys k m e f = elim e [ ]
  at_changes (c ∷ l) x y h (a ∷ xs) [] k m e f = elim f [ ]
  at_changes (both c ∷ l) x y h (a ∷ xs) (b ∷ ys) k m e f =
      at_changes l (turn (call c) x).after (turn (call c) y).after h xs ys k.1 m.1 (Forall₂-cons.0 e).1 (Forall₂-cons.0 f).1
  at_changes (each v w s t ∷ l) x y h (a ∷ xs) (b ∷ ys) k m e f = (
    λ made. go a b (in_force x) v w s t k.0 m.0 (Forall₂-cons.0 e).0 (Forall₂-cons.0 f).0 (h.0 made),
    at_changes l (turn (change (fill v s)) x).after (turn (change (fill w t)) y).after h.1 xs ys k.1 m.1 (Forall₂-cons.0 e).1 (Forall₂-cons.0 f).1,
  )

-- the program of a change is accepted
change_accepted : (a : SheetTurn) (p : Program) → Compiles a → Means a (change p) → Accepted p
change_accepted (calling c) p k e = absurd e
change_accepted (mending s ps t) p k e = subst Accepted (sym e.3) (program_accepted ps k.1 e.0 e.2)

conditions : (player : ℕ) (a b : SheetTurn) (p : Program) (v w : ℕ → ℕ) (s t : Sheet) → Compiles a → Compiles b → Means a (change (fill v s)) → Means b (change (fill w t))
    → AlikeAt player p v w s t × Sealed (fill v s) player → ConditionAt player p v w s t
conditions player a b p v w s t k m e f h = (
  record {
    alike = h.0.0;
    sealed = h.1;
    filled = h.0.1;
    one = change_accepted a (fill v s) k e;
    other = subst Accepted h.0.1 (change_accepted b (fill w t) m f);
  },
  h.0.2,
)

pub rule_on : RuleOn
rule_on player s z ps qs t₀ l₀ t₁ l₁ x y h k l f xs ys kx ky mx my =
    let p = list_of s ps t₀ l₀ x h.one xs kx (map in_one l) mx in
    let q = list_of z qs t₁ l₁ y h.other ys ky (map in_other l) my in
    let same = players_rule player (get ps) (get qs) x y (condition player s z ps qs t₀ l₀ t₁ l₁ x y h k) l
    (at_changes Compiles Compiles _ (ConditionAt player) (conditions player) l (begun (program_of ps x)) (begun (program_of qs y)) f xs ys kx ky mx my) in
    record {
      turns =
          ap (zip_with (hears_in player) xs) p.answers
          ∙ turns_heard player mx (replies (map in_one l) (begun (program_of ps x)))
          ∙ ap (zip_with (renumbered player) (map in_one l)) same.turns
          ∙ same_kinds player l _
          ∙ sym (turns_heard player my (replies (map in_other l) (begun (program_of qs y))))
          ∙ sym (ap (zip_with (hears_in player) ys) q.answers);
      preview = λ e i.
          previewed_after s ps t₀ l₀ x h.one xs kx (map in_one l) mx e i player
          ∙ ap coded (same.preview e i)
          ∙ sym (previewed_after z qs t₁ l₁ y h.other ys ky (map in_other l) my e i player);
      forecast = p.forecast ∙ ap (λ (n : ℕ). 4294967296 + n) same.forecast ∙ sym q.forecast;
    }

-- ---- calls alone

calls_fit : (P : Program → (ℕ → ℕ) → (ℕ → ℕ) → Sheet → Sheet → Type 0) (cs : List Call) (x y : State) → AtChanges P (map both cs) x y
calls_fit P [] x y = tt
calls_fit P (c ∷ cs) x y = calls_fit P cs (turn (call c) x).after (turn (call c) y).after

calls_compile : (cs : List Call) → All Compiles (map calling cs)
calls_compile [] = tt
calls_compile (c ∷ cs) = (tt, calls_compile cs)

calls_one : (cs : List Call) → AllMean (map calling cs) (map in_one (map both cs))
calls_one [] = Forall₂.nil
calls_one (c ∷ cs) = Forall₂.cons refl (calls_one cs)

calls_other : (cs : List Call) → AllMean (map calling cs) (map in_other (map both cs))
calls_other [] = Forall₂.nil
calls_other (c ∷ cs) = Forall₂.cons refl (calls_other cs)

-- as M-107 words it, of the same calls in both rounds
pub of_calls : (player : ℕ) (s z ps qs t₀ l₀ t₁ l₁ : List ℕ) (x y : Sheet) → TwoSheets player s z ps qs t₀ l₀ t₁ l₁ x y → Sealed (program_of ps x) player
    → (cs : List Call) → HeardAlike player (fresh_round_on s ps t₀ l₀) (map calling cs) (fresh_round_on z qs t₁ l₁) (map calling cs)
of_calls player s z ps qs t₀ l₀ t₁ l₁ x y h k cs =
    rule_on player s z ps qs t₀ l₀ t₁ l₁ x y h k (map both cs)
    (calls_fit (λ p v w a b. AlikeAt player p v w a b × Sealed (fill v a) player) cs (begun (program_of ps x)) (begun (program_of qs y)))
    (map calling cs) (map calling cs) (calls_compile cs) (calls_compile cs) (calls_one cs) (calls_other cs)
