-- The field reader: it reads back every field, and what it reads is a field. By its tests in turn; the rest is
-- arithmetic on the length and `take`/`drop` at the seam.
use Rattle.lib_base.proofs.Prelude.{ℕ, ◌≤◌, ◌<◌, ◌+◌, suc, ◌*◌, ◌%◌, ◌/◌, ◌≡◌, sym, ap, true, Bool, not, List, [], ◌∷◌}
use Rattle.lib_base.proofs.Prelude.{◌++◌, length, get_or, take, drop, length-append, take-append-drop, length-take-le}
use Rattle.lib_base.proofs.Prelude.{take-append_seam, ltb, le-ltb, ltb-false, not-false, arith}
use native.Mathlib.Numerals.{add-three}
use lib.Seq.{drop-append_seam}
use Rattle.lib_base.specs.Basics.{All}
use Rattle.lib_base.proofs.Tools.{by_test, all_split}
use Rattle.spec_language.specs.Grammar.{field}
use Rattle.spec_language.specs.Reading.{Got, bad, filling, field_at}

-- ---- reading back

-- a field at the front is read
pub field-reads : {A : Type 0} (due : ℕ → Bool) (t : ℕ) (v rest : List ℕ) (f : ℕ → List ℕ → Got A) → due t ≡ true
    → field_at due (field t v ++ rest) f ≡ filling (f t v) rest
unfolding field_at
field-reads due t v rest f e =
    let size : length v / 256 * 256 + length v % 256 ≡ length v = omega arith in
    let fits : length v + 3 ≤ suc (suc (suc (length (v ++ rest)))) = simp length-append (omega arith) in
    rw (
      e,
      size,
      le-ltb (suc (suc (suc (length (v ++ rest))))) 3 (omega arith),
      le-ltb (suc (suc (suc (length (v ++ rest))))) (length v + 3) fits,
      add-three (length v),
      take-append_seam v rest,
      drop-append_seam v rest,
    )

-- ---- what is read

abbrev pub Bytes : List ℕ → Type 0
Bytes l = All (λ b. b < 256) l

-- the length that a field's header states
abbrev stated : List ℕ → ℕ
stated s = get_or s 1 0 * 256 + get_or s 2 0

-- bytes with a header, and as many as it states, are that field and the rest
field_there : (s : List ℕ) → 3 ≤ length s → stated s + 3 ≤ length s → Bytes s
    → s ≡ field (get_or s 0 0) (take (stated s) (drop 3 s)) ++ drop (stated s + 3) s
field_there [] a b y = absurd (omega arith)
field_there (t ∷ []) a b y = absurd (omega arith)
field_there (t ∷ (h ∷ [])) a b y = absurd (omega arith)
field_there (t ∷ (h ∷ (l ∷ bs))) a b y =
    let size : length (take (h * 256 + l) bs) ≡ h * 256 + l = length-take-le (h * 256 + l) bs (omega arith) in
    let high : (h * 256 + l) / 256 ≡ h = omega arith in
    let low : (h * 256 + l) % 256 ≡ l = omega arith in
    rw (size, high, low, add-three (h * 256 + l)) (ap (λ (u : List ℕ). t ∷ h ∷ l ∷ u) (sym (take-append-drop (h * 256 + l) bs)))

-- to prove P where a field is due: of a fault, and of what is made of a field with a tag that is due
pub field_of : {A : Type 0} (P : Got A → Type 0) (due : ℕ → Bool) (s : List ℕ) (f : ℕ → List ℕ → Got A)
    → ((m : ℕ) → 4 ≤ m → m ≤ 10 → P (bad m))
    → ((t : ℕ) (v rest : List ℕ) → due t ≡ true → (Bytes s → s ≡ field t v ++ rest) → P (filling (f t v) rest)) → P (field_at due s f)
unfolding field_at
field_of P due s f faulty good =
    by_test P (ltb (length s) 3) (λ e. faulty 4 (omega arith) (omega arith))
    (λ e. by_test P (not (due (get_or s 0 0))) (λ d. faulty 5 (omega arith) (omega arith))
    (λ d. by_test P (ltb (length s) (stated s + 3)) (λ c. faulty 4 (omega arith) (omega arith))
    (λ c. good (get_or s 0 0) (take (stated s) (drop 3 s)) (drop (stated s + 3) s) (not-false (due (get_or s 0 0)) d)
    (field_there s (ltb-false (length s) 3 e) (ltb-false (length s) (stated s + 3) c)))))

-- the value and the rest of a field of bytes are bytes
pub field_bytes_law : (t : ℕ) (v rest s : List ℕ) → Bytes s → s ≡ field t v ++ rest → Bytes v × Bytes rest
field_bytes_law t v rest s b e = all_split (λ b. b < 256) v rest (rw e at b).1.1.1
