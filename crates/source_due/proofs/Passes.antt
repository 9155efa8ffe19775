-- What the reader makes of what was found due, and of a fault: each by the first of the tokens.
use Rattle.lib_base.proofs.Prelude.{ℕ, ◌≡◌, refl, ap, true, false, Bool, List, ◌∷◌, ltb, ne_eqb, le-ltb, eq-eqb, []}
use Rattle.lib_base.proofs.Prelude.{arith}
use Rattle.lib_base.specs.Basics.{pick}
use Rattle.source_language.specs.Tokens.{SheetToken, number, name, sign}
use Rattle.source_language.specs.Faults.{Kind, outside, too_large}
use Rattle.source_language.specs.Reader.{Phrased, bad, got, place_at, sign_at, past_sign, name_due, number_due}
use Rattle.source_coding.specs.Places.{tokens_from}
use Rattle.source_due.specs.Due.{found, FaultTold, SignTold, NoName, NameTold, NumberTold}
use Rattle.std.specs.Prelude.{Err}
use Rattle.source_coding.specs.declared.faults.Fault.{Fault}

module _ {A : Type 0} (text : List ℕ) (at : ℕ) where
  pub sign_passes : (c : ℕ) (f : List SheetToken → Phrased A) (p v next : ℕ) → SignTold text at c (found p v next)
      → past_sign c f (tokens_from text at) ≡ f (tokens_from text next)
  unfolding past_sign
  sign_passes c f p v next e = rw (e, eq-eqb c c refl)

  pub sign_fails : (c : ℕ) (f : List SheetToken → Phrased A) (w : Fault) → SignTold text at c (Err w)
      → past_sign c f (tokens_from text at) ≡ bad outside (place_at (tokens_from text at))
  unfolding past_sign
  sign_fails c f w h = rw (ne_eqb (sign_at (tokens_from text at)) c h.0)

  no_name : (f : ℕ → List ℕ → List SheetToken → Phrased A) (ts : List SheetToken) → NoName ts → name_due f ts ≡ bad outside (place_at ts)
  no_name f [] h = refl
  no_name f (number p n ∷ ts) h = refl
  no_name f (name p s ∷ ts) h = absurd h
  no_name f (sign p c ∷ ts) h = refl

  pub name_fails : (f : ℕ → List ℕ → List SheetToken → Phrased A) (w : Fault) → NameTold text at (Err w)
      → name_due f (tokens_from text at) ≡ bad outside (place_at (tokens_from text at))
  name_fails f w h = no_name f (tokens_from text at) h.0

  pub number_passes : (top : ℕ) (f : ℕ → ℕ → List SheetToken → Phrased A) (p v next : ℕ) → NumberTold text at top (found p v next)
      → number_due top f (tokens_from text at) ≡ f p v (tokens_from text next)
  number_passes top f p v next h = rw (h.0, le-ltb top v h.1)

-- the same fault of another kind of thing
abbrev also_bad : {A B : Type 0} → Phrased A → Phrased B
also_bad (bad k p) = bad k p
also_bad (got x us) = bad outside 0

bad_again : {A B : Type 0} (k l : Kind) (p q : ℕ) → ◌≡◌ {A = Phrased A} (bad k p) (bad l q) → ◌≡◌ {A = Phrased B} (bad k p) (bad l q)
bad_again k l p q e = ap (λ (x : Phrased _). also_bad x) e

too_large_law : {A : Type 0} (b : Bool) (q n : ℕ) (us : List SheetToken) (x : Phrased A) (k : Kind) (p : ℕ)
    → pick b (bad too_large q) (got n us) ≡ bad k p → pick b (bad too_large q) x ≡ bad k p
too_large_law true q n us x k p e = bad_again too_large k q p e
too_large_law false q n us x k p e = let z : ◌≡◌ {A = ℕ} 0 1 = cc e in absurd (omega arith)

no_number : {A : Type 0} (top : ℕ) (f : ℕ → ℕ → List SheetToken → Phrased A) (ts : List SheetToken) (k : Kind) (p : ℕ)
    → number_due top (λ q n us. got n us) ts ≡ bad k p → number_due top f ts ≡ bad k p
no_number top f [] k p e = bad_again outside k 0 p e
no_number top f (number q n ∷ ts) k p e = too_large_law (ltb top n) q n ts (f q n ts) k p e
no_number top f (name q s ∷ ts) k p e = bad_again outside k q p e
no_number top f (sign q c ∷ ts) k p e = bad_again outside k q p e

pub number_fails : {A : Type 0} (text : List ℕ) (at top : ℕ) (f : ℕ → ℕ → List SheetToken → Phrased A) (w : Fault) → NumberTold text at top (Err w)
    → FaultTold (number_due top f (tokens_from text at)) w
number_fails text at top f w h =
    record { kind = h.kind; place = h.place; turned = no_number top f (tokens_from text at) h.kind h.place h.turned; told = h.told }
