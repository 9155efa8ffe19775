-- The filling leaves the stack's depth, and a stretch that fits lies within 4,096, so that the instructions may run;
-- each return is one branch of the definition. A stretch that answers not 0 answers 14.
use Rattle.lib_base.proofs.Prelude.{ℕ, suc, zero, ◌+◌, ◌*◌, ◌/◌, ◌%◌, ◌≤◌, ◌≡◌, ◌≢◌, ◌∙◌, sym, subst, true, false, Bool, List, eqb, rules, arith}
use Rattle.lib_word.specs.Word.{get}
use Rattle.spec_language.specs.Refusals as refusals
use Rattle.format_layout.specs.Layout.{passives_start, passives_length, depth}
use Rattle.format_layout.specs.Foreign.{code_fits}
use Rattle.format_layout.proofs.BoundsLaws.{code_bound}
use Rattle.format_layout.specs.Round.{CallResult, call_result}
use Rattle.run_stretch.specs.Stretch.{stretch_from}
use Rattle.run_stretch.proofs.Foreign.{foreign_stretch}
use Rattle.run_carry.specs.Carry.{filled_store, worked_out, carry_on}
use Rattle.run_carry.proofs.CarryLaws.{filled_head}
use Rattle.run_carry.proofs.carry_on.Goals as goal

shallow : (old t l m₀ : List ℕ) {m : List ℕ} → m ≡ filled_store old t l m₀ 64 → get m₀ 6 ≤ 64 → get m 6 ≤ 64
shallow old t l m₀ e h = rw (e, filled_head old t l m₀ 64 6 (omega arith)) h

module _ (old t l m₀ : List ℕ) {m : List ℕ} {k n : ℕ} {x : Bool} (e : m ≡ filled_store old t l m₀ 64)
    (p : k ≡ passives_start t) (q : n ≡ passives_length t) (f : x ≡ code_fits k n) where
  outside : x ≡ false → call_result refusals.foreign m ≡ carry_on old t l m₀
  unfolding carry_on worked_out
  outside h = rw (← p, ← q, ← e, ← f, h)

  inside : {r : CallResult} → x ≡ true → r ≡ stretch_from t k n m → r ≡ carry_on old t l m₀
  unfolding carry_on worked_out
  inside h g = rw (← p, ← q, ← e, ← f, h) g

stopped : (t : List ℕ) (k n : ℕ) (m : List ℕ) {a : ℕ} {o : List ℕ} → a ≢ 0 → call_result a o ≡ stretch_from t k n m
    → call_result refusals.foreign o ≡ stretch_from t k n m
stopped t k n m {a} z g =
    let e : a ≡ refusals.foreign = subst (λ (r : CallResult). r.0 ≢ 0 → r.0 ≡ refusals.foreign) (sym g) (foreign_stretch t k n m) z in
    rw e at g

pub execute_from-requires : goal.execute_from-requires
execute_from-requires c =
    let s = shallow _ _ _ _ c.fill.ensures c.requires.depth_word_bound in
    let b = code_bound _ _ (sym c.code_fits.ensures ∙ c.if-not-code_fits.false) in
    search rules

pub returns-then-not-code_fits : goal.returns-then-not-code_fits
returns-then-not-code_fits c =
    outside _ _ _ _ c.fill.ensures c.get_word-start.ensures c.get_word-length.ensures c.code_fits.ensures c.if-not-code_fits.true

pub returns-then-execute_from-ne0 : goal.returns-then-execute_from-ne0
returns-then-execute_from-ne0 c =
    inside _ _ _ _ c.fill.ensures c.get_word-start.ensures c.get_word-length.ensures c.code_fits.ensures c.if-not-code_fits.false
    (stopped _ _ _ _ c.if-execute_from-ne0.true c.execute_from.ensures)

pub returns : goal.returns
returns c =
    inside _ _ _ _ c.fill.ensures c.get_word-start.ensures c.get_word-length.ensures c.code_fits.ensures c.if-not-code_fits.false
    (rw c.if-execute_from-ne0.false at c.execute_from.ensures)
