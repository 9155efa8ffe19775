-- `table_fits` is `table_fits`: each branch follows the definition's test. The bounds are then `table_bounds`.
use Rattle.lib_base.proofs.Prelude.{ℕ, ◌≤◌, ◌<◌, ◌≡◌, ◌∙◌, sym, true, false, Bool, List, length, rules, arith}
use Rattle.lib_base.proofs.Pick.{code}
use Rattle.lib_word.specs.Word.{get}
use Rattle.format_layout.specs.Foreign.{codes_fit, table_with, table_fits}
use Rattle.format_layout.specs.Bounds.{TableBounds}
use Rattle.format_layout.proofs.BoundsLaws.{table_bounds}
use Rattle.format_layout.proofs.table_fits.Statement.{statement}
use Rattle.format_layout.proofs.table_fits.Tie as tie

told : (t : List ℕ) {x : Bool} → x ≡ table_fits t → (x ≡ table_fits t) × (x ≡ true → TableBounds t)
told t e = (e, λ h. table_bounds t (sym e ∙ h))

-- what was read, and what is answered then
many_events : (t : List ℕ) {n : ℕ} → 34816 ≤ length t → n ≡ get t 0 → 32 < n → false ≡ table_fits t
unfolding table_fits table_with
many_events t l e h = let k : 32 < get t 0 = omega arith in search code depth 12

many_behaviours : (t : List ℕ) {n b : ℕ} → 34816 ≤ length t → n ≡ get t 0 → n ≤ 32 → b ≡ get t 1 → 64 < b → false ≡ table_fits t
unfolding table_fits table_with
many_behaviours t l e h f g = let k : get t 0 ≤ 32 = omega arith in let j : 64 < get t 1 = omega arith in search code depth 12

few : (t : List ℕ) {n b : ℕ} {x : Bool} → 34816 ≤ length t → n ≡ get t 0 → n ≤ 32 → b ≡ get t 1 → b ≤ 64 → x ≡ codes_fit t n → x ≡ table_fits t
unfolding table_fits table_with
few t l e h f g p =
    let k : get t 0 ≤ 32 = omega arith in
    let j : get t 1 ≤ 64 = omega arith in
    let q = rw e at p in
    search code depth 12

pub table_fits_spec : {M : Type 1} → statement M
unfolding table_fits
table_fits_spec =
    tie.close
    (tie.spec
    (λ c. told _ (search code depth 12))
    (λ c κs. search rules)
    (λ c. told _ (many_events _ (search rules) c.before.get_word-events.ensures (search rules)))
    (λ c κs. search rules)
    (λ c. told _ (many_behaviours _ (search rules) c.before.before.before.get_word-events.ensures (search rules) c.before.get_word.ensures (search rules)))
    (λ c κs. search rules)
    (λ c.
    told _
    (few _ (search rules) c.before.before.before.before.get_word-events.ensures (search rules) c.before.before.get_word.ensures (search rules) c.codes_fit.ensures)))
