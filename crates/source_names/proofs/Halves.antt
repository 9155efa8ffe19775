-- What the comparison of two names keeps, a byte at a time, and what the search by halves keeps, a step at a time.
use Rattle.lib_base.proofs.Prelude.{ℕ, ◌≤◌, ◌<◌, ◌+◌, ◌-◌, suc, ◌/◌, ◌≡◌, refl, ◌∙◌, sym, ap, true, false, List, length}
use Rattle.lib_base.proofs.Prelude.{get_or, ne_eqb, le-ltb, lt-ltb, eq-eqb, lt-leb, le-leb, arith}
use Rattle.lib_base.specs.Basics.{pick}
use Rattle.source_language.specs.Tokens.{in_word}
use Rattle.source_coding.specs.Places.{name_at}
use Rattle.source_names.specs.Search.{order_of_bytes, order_at, by_order, seek}
use Rattle.std.specs.declared.cmp.Ordering.TheVariants.{Less, Equal, Greater}
use Rattle.source_names.proofs.Laws.{word_inside, name_goes, name_stops, in_name, behind_name}

-- ---- two names

-- so far they are the same, and what is left decides
pub record OrderSoFar (text : List ℕ) (p n q k : ℕ) : Type 0 where
  pub whole : order_at text q (name_at text p) ≡ order_at text (q + k) (name_at text (p + k))
  pub within : k ≤ n
  pub size : n ≡ length (name_at text p)

pub order_start : (text : List ℕ) (p n q : ℕ) → n ≡ length (name_at text p) → OrderSoFar text p n q 0
order_start text p n q e =
    let a : p + 0 ≡ p = omega arith in
    let b : q + 0 ≡ q = omega arith in
    record { whole = rw (a, b); within = omega arith; size = e }

module _ {text : List ℕ} {p n q k : ℕ} (s : OrderSoFar text p n q k) where
  in_it : k < n → in_word (get_or text (p + k) 0) ≡ true
  in_it h = in_name text p k (omega (arith, s.size))

  pub byte_inside : k < n → p + k < length text
  byte_inside h = word_inside text (p + k) (in_it h)

  pub order_turn : k < n → get_or text (p + k) 0 ≡ get_or text (q + k) 0 → OrderSoFar text p n q (k + 1)
  unfolding order_at
  order_turn h e =
      let a : p + (k + 1) ≡ p + k + 1 = omega arith in
      let b : q + (k + 1) ≡ q + k + 1 = omega arith in
      record {
        whole = s.whole ∙ rw (a, b, name_goes text (p + k) (in_it h), eq-eqb (get_or text (p + k) 0) (get_or text (q + k) 0) e);
        within = omega arith;
        size = s.size;
      }

  pub order_stop : k < n → (get_or text (p + k) 0 ≡ get_or text (q + k) 0 → ⊥) → order_of_bytes (get_or text (p + k) 0) (get_or text (q + k) 0) ≡ order_at text q (name_at text p)
  unfolding order_at
  order_stop h e = sym (s.whole ∙ rw (name_goes text (p + k) (in_it h), ne_eqb (get_or text (p + k) 0) (get_or text (q + k) 0) e))

  pub order_end : n ≤ k → order_at text q (name_at text p) ≡ pick (in_word (get_or text (q + n) 0)) Less Equal
  unfolding order_at
  order_end h =
      let a : k ≡ n = omega (arith, s.within) in
      let b : in_word (get_or text (p + n) 0) ≡ false = rw (← s.size) at (behind_name text p) in
      rw a at s.whole ∙ rw (name_stops text (p + n) b)

-- ---- by halves

pub record SoughtSoFar (text places s : List ℕ) (top steps lo hi : ℕ) : Type 0 where
  pub whole : seek text places s top 7 0 top ≡ seek text places s top steps lo hi
  pub within : hi ≤ top

pub sought_start : (text places s : List ℕ) (top : ℕ) → SoughtSoFar text places s top 7 0 top
sought_start text places s top = record { whole = refl; within = omega arith }

module _ {text places s : List ℕ} {top steps lo hi : ℕ} (k : SoughtSoFar text places s top steps lo hi) where
  pub sought_over : steps ≤ 0 → top ≡ seek text places s top 7 0 top
  unfolding seek
  sought_over h = let z : steps ≡ 0 = omega arith in sym (k.whole ∙ rw z)

  module _ (some : 0 < steps) where
    one_less : steps ≡ suc (steps - 1)
    one_less = omega arith

    stepped : seek text places s top 7 0 top ≡ seek text places s top (suc (steps - 1)) lo hi
    stepped = k.whole ∙ ap (λ (m : ℕ). seek text places s top m lo hi) one_less

    pub sought_none : hi ≤ lo → top ≡ seek text places s top 7 0 top
    unfolding seek
    sought_none h = sym (stepped ∙ rw (le-leb hi lo h))

    module _ (mid q : ℕ) (half : mid ≡ (lo + hi) / 2) (at_half : q ≡ get_or places mid 0) (more : lo < hi) where
      pub sought_outside : length text < q → top ≡ seek text places s top 7 0 top
      unfolding seek
      sought_outside h = sym (stepped ∙ rw (lt-leb hi lo more, ← half, ← at_half, lt-ltb (length text) q h))

      module _ (inside : q ≤ length text) where
        halved : seek text places s top 7 0 top ≡ by_order (order_at text q s) (seek text places s top (steps - 1) lo mid) mid (seek text places s top (steps - 1) (mid + 1) hi)
        unfolding seek
        halved = stepped ∙ rw (lt-leb hi lo more, ← half, ← at_half, le-ltb (length text) q inside)

        pub sought_same : order_at text q s ≡ Equal → mid ≡ seek text places s top 7 0 top
        sought_same e = sym (halved ∙ rw e)

        pub sought_before : order_at text q s ≡ Less → SoughtSoFar text places s top (steps - 1) lo mid
        sought_before e = record { whole = halved ∙ rw e; within = omega (arith, k.within) }

        pub sought_behind : order_at text q s ≡ Greater → SoughtSoFar text places s top (steps - 1) (mid + 1) hi
        sought_behind e = record { whole = halved ∙ rw e; within = k.within }
