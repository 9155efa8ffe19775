-- A list read in a loop, as `many_of` reads it: the bound of its members does not matter where it is as large as the
-- tokens are many, since each member takes one (`many_enough`), so a turn of the loop is one of `many_of`
-- (`many_turn`).
use Rattle.lib_base.proofs.Prelude.{ℕ, ◌≤◌, ◌<◌, suc, zero, ◌≡◌, refl, ◌∙◌, sym, ap, true, false, Bool, false≢true}
use Rattle.lib_base.proofs.Prelude.{List, [], ◌∷◌, ◌++◌, append_assoc, append-nil, length, arith}
use Rattle.lib_base.specs.Basics.{pick}
use Rattle.source_language.specs.Tokens.{SheetToken}
use Rattle.source_language.specs.Faults.{Kind}
use Rattle.source_language.specs.Reader.{Phrased, bad, got, then_phrase, sign_at, many_of}

-- where something is read, fewer than so many tokens are left
abbrev pub Leaves : {A : Type 0} → ℕ → Phrased A → Type 0
Leaves n (bad k p) = Unit {0}
Leaves n (got x us) = length us < n

pub leaves_then : {A B : Type 0} (n m : ℕ) (x : Phrased A) (f : A → List SheetToken → Phrased B) → Leaves n x
    → ((a : A) (us : List SheetToken) → length us < n → Leaves m (f a us)) → Leaves m (then_phrase x f)
leaves_then n m (bad k p) f h g = tt
leaves_then n m (got a us) f h g = g a us h

-- these members come before those that were read
abbrev pub prepended : {A : Type 0} → List A → Phrased (List A) → Phrased (List A)
prepended xs r = then_phrase r (λ ys us. got (xs ++ ys) us)

pub prepended_cons : {A : Type 0} (xs : List A) (x : A) (r : Phrased (List A)) → prepended xs (then_phrase r (λ ys us. got (x ∷ ys) us)) ≡ prepended (xs ++ (x ∷ [])) r
prepended_cons xs x (bad k p) = refl
prepended_cons xs x (got ys us) = ap (λ zs. got zs us) (sym (append_assoc xs (x ∷ []) ys))

pub prepended_none : {A : Type 0} (r : Phrased (List A)) → r ≡ prepended [] r
prepended_none (bad k p) = refl
prepended_none (got ys us) = refl

-- a member is read, and on
abbrev on_from : {A : Type 0} → (A → List SheetToken → Phrased (List A)) → Bool → List SheetToken → Phrased A → Phrased (List A)
on_from go b ts r = pick b (then_phrase r (λ x us. then_phrase (go x us) (λ xs vs. got (x ∷ xs) vs))) (got [] ts)

on_alike : {A : Type 0} (n : ℕ) (f g : A → List SheetToken → Phrased (List A)) (b : Bool) (ts : List SheetToken) (r : Phrased A) → Leaves n r
    → ((x : A) (us : List SheetToken) → length us < n → f x us ≡ g x us) → on_from f b ts r ≡ on_from g b ts r
on_alike n f g false ts r h k = refl
on_alike n f g true ts (bad i p) h k = refl
on_alike n f g true ts (got x us) h k = ap (λ q. then_phrase q (λ xs vs. got (x ∷ xs) vs)) (k x us h)

module _ {A S : Type 0} (starts : ℕ → Bool) (one : S → List SheetToken → Phrased A) (next : S → A → S) (quiet : starts 0 ≡ false)
    (takes : (s : S) (ts : List SheetToken) → Leaves (length ts) (one s ts)) where
  -- where no member starts, the list ends, whatever the bound
  pub many_ends : (k : ℕ) (s : S) (ts : List SheetToken) → starts (sign_at ts) ≡ false → many_of starts one next k s ts ≡ got [] ts
  unfolding many_of
  many_ends zero s ts e = refl
  many_ends (suc k) s ts e = rw e

  none_starts : (ts : List SheetToken) → length ts ≤ 0 → starts (sign_at ts) ≡ false
  none_starts [] h = quiet
  none_starts (t ∷ ts) h = absurd (omega arith)

  pub many_enough : (k l : ℕ) (s : S) (ts : List SheetToken) → length ts ≤ k → length ts ≤ l → many_of starts one next k s ts ≡ many_of starts one next l s ts
  unfolding many_of
  many_enough zero l s ts h g = sym (many_ends l s ts (none_starts ts h))
  many_enough (suc k) zero s ts h g = many_ends (suc k) s ts (none_starts ts g)
  many_enough (suc k) (suc l) s ts h g =
      on_alike (length ts) (λ x us. many_of starts one next k (next s x) us) (λ x us. many_of starts one next l (next s x) us) (starts (sign_at ts)) ts
      (one s ts) (takes s ts) (λ x us b. many_enough k l (next s x) us (omega arith) (omega arith))

  many_opens : (s : S) (ts : List SheetToken) → starts (sign_at ts) ≡ true
      → many_of starts one next (length ts) s ts
      ≡ then_phrase (one s ts) (λ x us. then_phrase (many_of starts one next (length us) (next s x) us) (λ xs vs. got (x ∷ xs) vs))
  unfolding many_of
  many_opens s [] e = absurd (false≢true (sym quiet ∙ e))
  many_opens s (t ∷ ts) e =
      on_alike (length (t ∷ ts)) (λ x us. many_of starts one next (length ts) (next s x) us) (λ x us. many_of starts one next (length us) (next s x) us)
      (starts (sign_at (t ∷ ts))) (t ∷ ts) (one s (t ∷ ts)) (takes s (t ∷ ts)) (λ x us b. many_enough (length ts) (length us) (next s x) us (omega arith) (omega arith))
      ∙ rw e

  pub many_turn : (xs : List A) (s : S) (ts : List SheetToken) (x : A) (us : List SheetToken) → starts (sign_at ts) ≡ true → one s ts ≡ got x us
      → prepended xs (many_of starts one next (length ts) s ts) ≡ prepended (xs ++ (x ∷ [])) (many_of starts one next (length us) (next s x) us)
  many_turn xs s ts x us e g = rw (many_opens s ts e, g) (prepended_cons xs x (many_of starts one next (length us) (next s x) us))

  pub many_faults : (xs : List A) (s : S) (ts : List SheetToken) (k : Kind) (p : ℕ) → starts (sign_at ts) ≡ true → one s ts ≡ bad k p
      → prepended xs (many_of starts one next (length ts) s ts) ≡ bad k p
  many_faults xs s ts k p e g = rw (many_opens s ts e, g)

  pub many_over : (xs : List A) (k : ℕ) (s : S) (ts : List SheetToken) → starts (sign_at ts) ≡ false → prepended xs (many_of starts one next k s ts) ≡ got xs ts
  many_over xs k s ts e = rw (many_ends k s ts e) (ap (λ ys. got ys ts) (append-nil xs))
