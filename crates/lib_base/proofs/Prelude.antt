-- What proofs use of the toolchain's libraries, under one name: numbers, equations, lists, tests, and the rules of
-- `omega arith` and `search rules`.
pub use Prim.Native.Nat.{ℕ, ◌≤◌, ◌<◌, ◌+◌, ◌-◌, suc, zero, ◌*◌, ◌%◌, ◌/◌, ◌^◌, max}
pub use mathlib.Core.Path.{◌≡◌, refl, ◌∙◌, sym, ap, subst}
pub use mathlib.Core.Bool.{true, false, Bool, ◌||◌, false≢true, true≢false, ◌&&◌, not, and-eq-true_iff, or-false}
pub use mathlib.Core.Bool.{or-true, and-false, and-true, or_assoc}
pub use mathlib.Core.Logic.{◌≢◌, by_cases, ◌⊎◌, ⊎_elim, inr, inl}
pub use mathlib.Core.Option.{Option, some, none}
pub use mathlib.Core.List.Permᴰ.{trans as List·Permᴰ·trans}
pub use mathlib.Core.List.{List, [], ◌∷◌, ◌++◌, map, append_assoc, append-nil, Permᴰ as List-as-Permᴰ, map-append}
pub use mathlib.Core.List.Permᴰ.{cons as List·Permᴰ·cons}
pub use mathlib.Core.List.Permᴰ.{swap as List·Permᴰ·swap}
pub use mathlib.Core.List.Permᴰ.{symm as Permᴰ·symm}
pub use mathlib.Core.List.Forall₂.{cons as Forall₂·cons}
pub use mathlib.Core.List.Forall₂.{nil as Forall₂·nil}
pub use mathlib.Core.List.{Nodup as List-as-Nodup}
pub use mathlib.Core.List.Permᴰ.{nil as List·Permᴰ·nil}
pub use mathlib.Core.List.Permᴰ.{refl as Permᴰ·refl}
pub use mathlib.Core.List.Pairwise.{cons as Pairwise·cons}
pub use mathlib.Core.List.Pairwise.{nil as Pairwise·nil}
pub use mathlib.Core.List.Pairwise.{of_cons as Pairwise·of-cons}
pub use mathlib.Core.List.{Pairwise}
pub use mathlib.Core.List.{Memᴰ as List-as-Memᴰ, Pairwise-cons}
unfoldable pub use mathlib.Core.List.{flat_map, sum, flatten, zip_with}
pub use lib.ListN.{length, get_or, take, drop, length-set, set, replicate, length-append, length-drop, length-replicate}
pub use lib.ListN.{get_or-eq_default as List·getD-eq-default, drop_of_length-le, length-map, get_or-append as List·getD-append, length-take, take-append-drop}
pub use lib.Seq.{get_or-set_other, get_or-set_same, ext_get_or, length-take-le, get_or-drop, drop-cons, take-suc, take_all}
pub use lib.Seq.{drop-drop, sets, take-length, take-suc-set, take-append_seam, get_or-take, get_or-append-add, take-set-le}
pub use lib.Seq.{take-append-le}
pub use lib.Dec.{eqb, ltb, leb, eqb-suc-zero as eqb·suc-zero}
pub use native.Mathlib.Nat.{sub-zero, pow-suc, mul-le-mul_left}
pub use native.Mathlib.Numerals.{add-one, sub-one}
pub use native.Mathlib.Decide.{dec_lt, ℕ_discrete}
pub use borrow.Author.Tests.{ne_eqb, eqb-true, le-ltb, lt-ltb, eq-eqb, ltb-false, eqb-false, ltb-true, lt-leb, le-leb}
pub use borrow.Author.Tests.{leb-false, leb-true, not-true, not-false}
pub use borrow.Author.Rules.{rules}
pub use native.Mathlib.Omega.{arith}
