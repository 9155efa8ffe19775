-- Laws of writes in a row, which make up a field from its header and its value and are left out where they do not fit,
-- of the shift's loop, and of a head put before its arguments.
use Rattle.lib_base.proofs.Prelude.{ℕ, ◌≤◌, ◌<◌, ◌+◌, ◌-◌, suc, ◌%◌, ◌/◌, ◌≡◌, refl, ◌∙◌, sym, ap, List, [], ◌∷◌, ◌++◌}
use Rattle.lib_base.proofs.Prelude.{append_assoc, length, take, drop, set, length-append, length-drop}
use Rattle.lib_base.proofs.Prelude.{take-length, take-append-drop, length-take-le, sets}
use Rattle.lib_base.proofs.Prelude.{take-append-le, ltb, add-one, le-ltb, lt-ltb, arith}
use native.Mathlib.Numerals.{add-two, add-three, add-four}
use lib.Seq.{slice, sets-eq, length-sets, drop-append-le, length-slice, take-take, take_at, drop_at}
use Rattle.lib_base.proofs.Tools.{by_test}
use Rattle.lib_word.specs.Halves.{put_half}
use Rattle.spec_language.specs.Grammar.{field, word}
use Rattle.std.specs.Int as int
use Rattle.std.proofs.Math.Seq.{paste}
use Rattle.std.proofs.lemmas.List.{drop-take}
use Rattle.sheet_write.specs.Writes.{fitted, header, shifted, as_application, as_field}

-- ---- writes in a row

-- those that all fit stand behind what was there
sets_taken : (o : List ℕ) (n : ℕ) (vs : List ℕ) → n + length vs ≤ length o → take (n + length vs) (sets o n vs) ≡ take n o ++ vs
sets_taken o n vs h =
    ap (take (n + length vs)) (sets-eq vs o n h)
    ∙ take_at (take n o ++ vs) (drop (n + length vs) o) (n + length vs) (simp (length-append, length-take-le n o (omega arith)))

-- one row after another is a row
sets_onward : (o : List ℕ) (n : ℕ) (u v : List ℕ) → sets (sets o n u) (n + length u) v ≡ sets o n (u ++ v)
sets_onward o n [] v = let e : n + 0 ≡ n = omega arith in rw e
sets_onward o n (a ∷ u) v =
    let e : n + suc (length u) ≡ suc n + length u = omega arith in
    rw e (sets_onward (set o n a) (suc n) u v)

pub header_written : (o : List ℕ) (n t l : ℕ) → put_half (set o n t) (n + 1) l ≡ sets o n (header t l)
unfolding put_half
header_written o n t l = let e : n + 1 + 1 ≡ n + 2 = omega arith in rw e (simp (add-one, add-two))

-- a header and the value behind it are a field
pub field_written : (o : List ℕ) (n t : ℕ) (v : List ℕ) → sets (sets o n (header t (length v))) (n + 3) v ≡ sets o n (field t v)
field_written o n t v = sets_onward o n (header t (length v)) v

-- the bytes of a slice put there at once
pub value_pasted : (o : List ℕ) (n t : ℕ) (v : List ℕ) → n + 3 + length v ≤ length o
    → paste (sets o n (header t (length v))) (n + 3) v (length v) ≡ sets o n (field t v)
value_pasted o n t v h =
    let s : List ℕ = sets o n (header t (length v)) in
    let l : n + 3 + length v ≤ length s = rw (length-sets o n (header t (length v))) h in
    ap (λ (x : List ℕ). take (n + 3) s ++ x ++ drop (n + 3 + length v) s) (take-length v) ∙ sym (sets-eq v s (n + 3) l) ∙ field_written o n t v

-- the library's bytes of a word
pub word_is : (w : ℕ) → w < 4294967296 → int.to_be_bytes int.w32 w ≡ word w
word_is w h = let high : w / 16777216 % 256 ≡ w / 16777216 = omega arith in rw high

-- ---- where they fit

pub fits : (o : List ℕ) (n : ℕ) (v : List ℕ) → n + length v ≤ length o → fitted o n v ≡ sets o n v
unfolding fitted
fits o n v h = rw (le-ltb (length o) (n + length v) h)

pub left_out : (o : List ℕ) (n : ℕ) (v : List ℕ) → length o < n + length v → fitted o n v ≡ o
unfolding fitted
left_out o n v h = rw (lt-ltb (length o) (n + length v) h)

pub fitted_taken : (o : List ℕ) (n : ℕ) (v : List ℕ) → n + length v ≤ length o → take (n + length v) (fitted o n v) ≡ take n o ++ v
fitted_taken o n v h = rw (fits o n v h) (sets_taken o n v h)

pub fitted_long : (o : List ℕ) (n : ℕ) (v : List ℕ) → length (fitted o n v) ≡ length o
unfolding fitted
fitted_long o n v = by_test (λ (l : List ℕ). length l ≡ length o) (ltb (length o) (n + length v)) (λ e. refl) (λ e. length-sets o n v)

pub none_fitted : (o : List ℕ) (n : ℕ) → fitted o n [] ≡ o
unfolding fitted
none_fitted o n = by_test (λ (l : List ℕ). l ≡ o) (ltb (length o) (n + 0)) (λ e. refl) (λ e. refl)

-- ---- the fields of numbers

-- a handler's event and phase
pub handler_written : (o : List ℕ) (n a b : ℕ) → set (set o (n + 3) a) (n + 4) b ≡ sets o (n + 3) (a ∷ b ∷ [])
handler_written o n a b = simp (add-three, add-four)

-- ---- a header in front of its value

pub enclosed : (t n end : ℕ) (o : List ℕ) → n + 3 ≤ end → end ≤ length o → sets o n (header t (end - n - 3)) ≡ as_field t n end o
unfolding as_field
enclosed t n end o h g =
    let v : List ℕ = slice (n + 3) end o in
    let l : length v ≡ end - n - 3 = length-slice (n + 3) end o g ∙ omega arith in
    let d : drop (n + 3) o ≡ v ++ drop end o =
    ap (drop (n + 3)) (sym (take-append-drop end o)) ∙ drop-append-le (n + 3) (take end o) (drop end o) (rw (length-take-le end o g) h) in
    let e : n + length (field t v) ≡ end = omega arith in
    rw (le-ltb (length o) end g)
    (sets-eq (header t (end - n - 3)) o n (omega arith)
    ∙ rw (d, ← l) (simp append_assoc)
    ∙ sym (rw e at (sets-eq (field t v) o n (omega arith))))

-- a value that was written behind three bytes is in a field
pub enclosed_taken : (t n end : ℕ) (o p v : List ℕ) → n + 3 ≤ end → end ≤ length o → length p ≡ length o → take end p ≡ take (n + 3) o ++ v
    → take end (as_field t n end p) ≡ take n o ++ field t v
unfolding as_field
enclosed_taken t n end o p v h g l e =
    let k : length (take (n + 3) o) ≡ n + 3 = length-take-le (n + 3) o (omega arith) in
    let q : slice (n + 3) end p ≡ v = ap (drop (n + 3)) e ∙ drop_at (take (n + 3) o) v (n + 3) k in
    let m : end ≡ n + length (field t v) =
    (let a : length (take (n + 3) o ++ v) ≡ end = ap length (sym e) ∙ length-take-le end p (omega arith) in
    let b : length (take (n + 3) o ++ v) ≡ n + 3 + length v = simp (length-append, k) in
    omega arith) in
    let b : take n p ≡ take n o =
    sym (take-take n end p (omega arith))
    ∙ ap (take n) e
    ∙ take-append-le n (take (n + 3) o) v (rw k (omega arith))
    ∙ take-take n (n + 3) o (omega arith) in
    rw (le-ltb (length p) end (omega arith), q, m) (sets_taken p n (field t v) (omega arith) ∙ rw b)

-- ---- the shift

pub shift_is : (start end : ℕ) (o : List ℕ) → start ≤ end → paste o (start + 4) (drop start o) (end - start) ≡ shifted start end o
unfolding shifted
shift_is start end o h =
    let e : start + 4 + (end - start) ≡ end + 4 = omega arith in
    let w : start + (end - start) ≡ end = omega arith in
    let q : take (end - start) (drop start o) ≡ slice start end o = sym (drop-take start (end - start) o) ∙ ap (λ (k : ℕ). slice start k o) w in
    rw (q, e) (append_assoc (take (start + 4) o) (slice start end o) (drop (end + 4) o))

pub shifted_long : (start end : ℕ) (o : List ℕ) → start ≤ end → end + 4 ≤ length o → length (shifted start end o) ≡ length o
unfolding shifted
shifted_long start end o h g =
    simp (length-append, length-take-le (start + 4) o (omega arith), length-slice start end o (omega arith), length-drop) (omega arith)

-- ---- an application's head

-- the head and the bytes moved behind it are the field
head_placed : (start end f : ℕ) (o : List ℕ) → start ≤ end → end + 4 ≤ length o
    → take start (shifted start end o) ++ (18 ∷ ((end - start + 1) / 256) ∷ ((end - start + 1) % 256) ∷ f ∷ []) ++ drop (start + 4) (shifted start end o)
    ≡ take start o ++ field 18 (f ∷ slice start end o) ++ drop (start + length (field 18 (f ∷ slice start end o))) o
unfolding shifted
head_placed start end f o h g =
    let v : List ℕ = slice start end o in
    let r : List ℕ = v ++ drop (end + 4) o in
    let n : suc (length v) ≡ end - start + 1 = omega (arith, length-slice start end o (omega arith)) in
    let t : take start (take (start + 4) o ++ r) ≡ take start o =
    take-append-le start (take (start + 4) o) r (rw (length-take-le (start + 4) o (omega arith)) (omega arith)) ∙ take-take start (start + 4) o (omega arith) in
    let d : drop (start + 4) (take (start + 4) o ++ r) ≡ r = drop_at (take (start + 4) o) r (start + 4) (length-take-le (start + 4) o (omega arith)) in
    let e : start + suc (suc (suc (suc (length v)))) ≡ end + 4 = omega arith in
    rw (t, d, e, n) (simp append_assoc)

pub head_written : (start end f : ℕ) (o : List ℕ) → start ≤ end → end + 4 ≤ length o
    → set (sets (shifted start end o) start (header 18 (end - start + 1))) (start + 3) f ≡ as_application f start end o
unfolding as_application
head_written start end f o h g =
    let l : length (shifted start end o) ≡ length o = shifted_long start end o h g in
    let n : start + length (field 18 (f ∷ slice start end o)) ≡ end + 4 = omega (arith, length-slice start end o (omega arith)) in
    let hd : List ℕ = 18 ∷ ((end - start + 1) / 256) ∷ ((end - start + 1) % 256) ∷ f ∷ [] in
    rw (le-ltb (length o) (end + 4) g, add-three start)
    (sets-eq hd (shifted start end o) start (omega arith)
    ∙ head_placed start end f o h g
    ∙ sym (sets-eq (field 18 (f ∷ slice start end o)) o start (omega arith)))

-- around the bytes v, which stand from n to the end
pub applied_taken : (n end f : ℕ) (v o p : List ℕ) → take end p ≡ take n o ++ v → end ≡ n + length v → n ≤ length o → end + 4 ≤ length p
    → take (end + 4) (as_application f n end p) ≡ take n o ++ field 18 (f ∷ v)
unfolding as_application
applied_taken n end f v o p e s h g =
    let l : length (take n o) ≡ n = length-take-le n o h in
    let q : slice n end p ≡ v = ap (drop n) e ∙ drop_at (take n o) v n l in
    let t : take n p ≡ take n o = sym (take-take n end p (omega arith)) ∙ ap (take n) e ∙ take_at (take n o) v n l in
    let m : end + 4 ≡ n + length (field 18 (f ∷ v)) = omega arith in
    rw (le-ltb (length p) (end + 4) g, q, m) (sets_taken p n (field 18 (f ∷ v)) (omega arith) ∙ rw t)
