-- Where the tree reader and the reader by positions meet: a field, the end of a value, and what is left over.
-- Both readers make the same tests in the same order, so one walk follows both.
use Rattle.std.specs.Prelude.{Ok, Err}
use Rattle.spec_language.specs.Numbers.{refusal_number}
use Rattle.spec_language.specs.declared.refusals.Refusal.{Refusal}
use Rattle.spec_language.specs.declared.refusals.Refusal.TheVariants.{Torn, WrongTag}
use Rattle.lib_base.proofs.Prelude.{ℕ, ◌≤◌, ◌+◌, ◌-◌, ◌≡◌, refl, ◌∙◌, sym, ap, true, false, Bool, ◌||◌, List, []}
use Rattle.lib_base.proofs.Prelude.{length, get_or, take, drop, length-drop, length-take-le, get_or-drop, take_all, eqb}
use Rattle.lib_base.proofs.Prelude.{ltb, ne_eqb, eqb-true, le-ltb, lt-ltb, eq-eqb, ltb-false, eqb-false, ltb-true}
use Rattle.lib_base.proofs.Prelude.{lt-leb, le-leb, arith}
use Rattle.lib_base.specs.Basics.{pick}
use Rattle.lib_base.proofs.Tools.{split, by_two}
use Rattle.spec_language.specs.Refusals.{wrong_length}
use Rattle.spec_language.specs.Reading.{Got, bad, sized, filling, field_at, is_term}
use Rattle.spec_grammar.proofs.Handlers.{stops}
use Rattle.sheet_field.specs.Field.{Field, stated, field_of, part_of}
use Rattle.front_field.specs.Expression.{rest_from}

-- the bytes of a field's value, and the size of the field
abbrev pub value_in : List ℕ → List ℕ
value_in s = take (stated s) (drop 3 s)

abbrev pub span : List ℕ → ℕ
span s = stated s + 3

-- two tests in one, and in turn
pub by_either : {A B : Type 0} (P : A → B → Type 0) (a b : Bool) {x y : A} {u v : B} → P x u → (a ≡ false → b ≡ false → P y v) → P (pick (a || b) x y) (pick a u (pick b u v))
by_either P true b h k = h
by_either P false true h k = h
by_either P false false h k = k refl refl

-- ---- the tags due, as both readers test them

abbrev pub between : ℕ → ℕ → ℕ → Bool
between lo hi t = pick (ltb t lo) false (pick (ltb hi t) false true)

pub one_tag : (a t : ℕ) → eqb a t ≡ between a a t
one_tag a t =
    split (ltb t a) (λ e. rw e (ne_eqb a t (omega (arith, ltb-true t a e))))
    (λ e. split (ltb a t) (λ d. rw (e, d) (ne_eqb a t (omega (arith, ltb-true a t d))))
    (λ d. rw (e, d) (eq-eqb a t (omega (arith, ltb-false t a e, ltb-false a t d)))))

pub term_tag : (t : ℕ) → is_term t ≡ between 16 19 t
term_tag t =
    split (ltb t 16) (λ e. rw (e, lt-leb 16 t (ltb-true t 16 e)))
    (λ e. split (ltb 19 t) (λ d. rw (e, d, lt-leb t 19 (ltb-true 19 t d), le-leb 16 t (ltb-false t 16 e)))
    (λ d. rw (e, d, le-leb 16 t (ltb-false t 16 e), le-leb t 19 (ltb-false 19 t d))))

-- ---- a field

-- both are past the header
length_test : (s : List ℕ) (n : ℕ) → 3 ≤ length s → ltb (length s - 3) n ≡ ltb (length s) (n + 3)
length_test s n h =
    split (ltb (length s) (n + 3))
    (λ e. rw e (lt-ltb (length s - 3) n (omega (arith, ltb-true (length s) (n + 3) e))))
    (λ e. rw e (le-ltb (length s - 3) n (omega (arith, ltb-false (length s) (n + 3) e))))

-- to prove P of both where a field is due: of each fault, and of what both make of the field at the front of s
pub same_field : {A B : Type 0} (P : Got A → B → Type 0) (due : ℕ → Bool) (lo hi : ℕ) (s : List ℕ)
    (f : ℕ → List ℕ → Got A) (g : Field → List ℕ → B) → due (get_or s 0 0) ≡ between lo hi (get_or s 0 0) → ((r : Refusal) → P (bad (refusal_number r)) (g (Err r) []))
    → (span s ≤ length s → due (get_or s 0 0) ≡ true → P (filling (f (get_or s 0 0) (value_in s)) (drop (span s) s)) (g (Ok (record { tag = get_or s 0 0; size = stated s })) (value_in s)))
    → P (field_at due s f) (g (field_of s lo hi) (part_of s (field_of s lo hi)))
unfolding field_at field_of
same_field P due lo hi s f g same bads goods =
    split (ltb (length s) 3) (λ e. rw e (bads Torn))
    (λ e. split (ltb (get_or s 0 0) lo) (λ d. let q : due (get_or s 0 0) ≡ false = same ∙ rw d in rw (e, q, d) (bads WrongTag))
    (λ d. split (ltb hi (get_or s 0 0)) (λ c. let q : due (get_or s 0 0) ≡ false = same ∙ rw (d, c) in rw (e, q, d, c) (bads WrongTag))
    (λ c.
    let q : due (get_or s 0 0) ≡ true = same ∙ rw (d, c) in
    let z = length_test s (stated s) (ltb-false (length s) 3 e) in
    split (ltb (length s) (span s)) (λ b. rw (e, q, d, c, z, b) (bads Torn)) (λ b. rw (e, q, d, c, z, b) (goods (ltb-false (length s) (span s) b) q)))))

pub value_length : (s : List ℕ) → span s ≤ length s → length (value_in s) + 3 ≡ span s
value_length s h =
    let e : length (drop 3 s) ≡ length s - 3 = length-drop 3 s in
    let q : length (value_in s) ≡ stated s = length-take-le (stated s) (drop 3 s) (omega arith) in
    omega arith

-- the rest of a value
pub rest_drop : (at : ℕ) (v : List ℕ) → rest_from at v ≡ drop at v
rest_drop at v = take_all (length v - at) (drop at v) (omega (arith, length-drop at v))

-- both readers test for the end
pub end_test : (at : ℕ) (v : List ℕ) → at ≤ length v → eqb (length (drop at v)) 0 ≡ eqb at (length v)
end_test at v h =
    split (eqb at (length v))
    (λ e. eq-eqb (length (drop at v)) 0 (omega (arith, eqb-true at (length v) e, length-drop at v)) ∙ sym e)
    (λ e. ne_eqb (length (drop at v)) 0 (λ q. eqb-false at (length v) e (omega (arith, length-drop at v))) ∙ sym e)

-- nothing is left over at the end, and only there
pub whole_at : {A B : Type 0} (P : Got A → B → Type 0) (g : Got A) (v : List ℕ) (at : ℕ) (a b : B) → at ≤ length v
    → (at ≡ length v → P g a) → P (bad wrong_length) b → P (sized 0 (drop at v) g) (pick (eqb at (length v)) a b)
whole_at P g v at a b h y n = rw (end_test at v h) (by_two P (eqb at (length v)) (λ e. y (eqb-true at (length v) e)) (λ e. n))

-- and for the end of a behaviour's own part, which is there or at a tag 08 (02, M-107)
front_byte : (at : ℕ) (v : List ℕ) → get_or (drop at v) 0 0 ≡ get_or v at 0
front_byte at v = get_or-drop at v 0 0 ∙ ap (λ (i : ℕ). get_or v i 0) (omega arith)

pub ends_test : {A B : Type 0} (P : A → B → Type 0) (at : ℕ) (v : List ℕ) (a b : A) (a' b' : B) → at ≤ length v → P a a' → ((at ≡ length v → ⊥) → P b b')
    → P (pick (stops (drop at v)) a b) (pick (eqb at (length v)) a' (pick (eqb (get_or v at 0) 8) a' b'))
ends_test P at v a b a' b' h f g =
    rw (end_test at v h, front_byte at v)
    (split (eqb at (length v)) (λ e. rw e f) (λ e. rw e (by_two P (eqb (get_or v at 0) 8) (λ c. f) (λ c. g (eqb-false at (length v) e)))))
