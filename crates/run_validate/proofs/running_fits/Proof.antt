-- `running_fits` is `running_fits` of what is read: each branch follows the definition's test.
use Rattle.lib_base.proofs.Prelude.{ℕ, ◌≤◌, ◌<◌, ◌*◌, ◌≡◌, true, false, Bool, ◌≢◌, List, ltb, ne_eqb, le-ltb, lt-ltb}
use Rattle.lib_base.proofs.Prelude.{not-true, not-false, rules, arith}
use Rattle.lib_word.specs.Word.{get_at, get}
use Rattle.format_layout.specs.Layout.{event_of, event_word}
use Rattle.format_layout.specs.Foreign.{hand_fits, running_fits}
use Rattle.run_validate.proofs.running_fits.Statement.{statement}
use Rattle.run_validate.proofs.running_fits.Tie as tie

none : (n known w c len : ℕ) {f g : ℕ} → f ≡ g → f ≡ 0 → true ≡ running_fits n g (hand_fits known w) c len
unfolding running_fits
none n known w c len e h = rw (← e, h)

no_room : (n known w c len : ℕ) {f g : ℕ} → f ≡ g → f ≢ 0 → 64 ≤ n → false ≡ running_fits n g (hand_fits known w) c len
unfolding running_fits
no_room n known w c len {f} {g} e h k =
    let z = ne_eqb f 0 h in
    let j : 63 < n = omega arith in
    rw (← e, z, lt-ltb 63 n j)

unknown : (l : List ℕ) (n known c len : ℕ) {f g w : ℕ} {x : Bool} → f ≡ g → f ≢ 0 → n < 64 → w ≡ get_at l (3 * 4)
    → x ≡ hand_fits known w → x ≡ false → false ≡ running_fits n g (hand_fits known (get l 3)) c len
unfolding running_fits get
unknown l n known c len {f} {g} {w} e h k p q r =
    let z = ne_eqb f 0 h in
    let j : n ≤ 63 = omega arith in
    rw (← e, z, le-ltb 63 n j, ← p, ← q, r)

runs : (t l : List ℕ) (n known : ℕ) {f g w c d e len : ℕ} {x : Bool} → f ≡ g → f ≢ 0 → n < 64 → w ≡ get_at l (3 * 4)
    → x ≡ hand_fits known w → x ≡ true → c ≡ d → e ≡ event_of (get l 3) → len ≡ event_word t e 2
    → ltb c len ≡ running_fits n g (hand_fits known (get l 3)) d (event_word t (event_of (get l 3)) 2)
unfolding running_fits get
runs t l n known {f} {g} {w} e h k p q r s o m =
    let z = ne_eqb f 0 h in
    let j : n ≤ 63 = omega arith in
    rw (← e, z, le-ltb 63 n j, ← o, ← m, ← s, ← p, ← q, r)

returns_3 : tie.Need-returns-then-not-hand_fits
returns_3 c =
    let at_if1 = c.before.before.before.before in
    unknown _ _ _ _ _ at_if1.before.get_word.ensures at_if1.if-get_word-eq0.false (search rules)
    c.before.before.get_little-swapped.ensures c.before.hand_fits.ensures c.if-not-hand_fits.true

returns_4 : tie.Need-returns
returns_4 c =
    let at_little = c.before.before.before.before.before in
    runs _ _ _ _ at_little.before.before.before.get_word.ensures at_little.before.before.if-get_word-eq0.false
    (search rules) at_little.get_little-swapped.ensures c.before.before.before.before.hand_fits.ensures
    c.before.before.before.if-not-hand_fits.false c.get_word-2.ensures
    c.before.before.event_at-event.ensures c.before.event_word-length.ensures

pub running_fits_spec : {M : Type 1} → statement M
running_fits_spec =
    tie.close
    (tie.spec (search rules)
    (λ c. none _ _ _ _ _ c.before.get_word.ensures c.if-get_word-eq0.true)
    (λ c. no_room _ _ _ _ _ c.before.before.get_word.ensures c.before.if-get_word-eq0.false (search rules))
    (search rules) (search rules) (search rules) returns_3 (search rules) (search rules) (search rules) returns_4)
