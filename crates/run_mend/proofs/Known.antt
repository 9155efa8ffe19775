-- Whether those that wait are known, as the library's test of a whole list.
use Rattle.lib_base.proofs.Prelude.{ℕ, ◌≡◌, refl, List, add-one, Bool, true, false, zero, suc, ◌∙◌, sym, ◌&&◌, subst, and-true, and-false, ltb}
use Rattle.std.specs.List.{list_all, range_with_len}
use Rattle.lib_base.specs.Basics.{pick}
use Rattle.format_layout.specs.Layout.{event_at}
use Rattle.format_layout.proofs.Ranges.{all_range_more}
use Rattle.run_mend.specs.Mending.{waiting_known}

-- the event of what waits in slot i is below `known`
abbrev pub known_at : List ℕ → ℕ → ℕ → Bool
known_at l known i = ltb (event_at l i) known

swap : (a b : Bool) → pick a b false ≡ (b && a)
swap true b = sym (and-true b)
swap false b = sym (and-false b)

pub known_is : (l : List ℕ) (known n : ℕ) → waiting_known l known n ≡ list_all (known_at l known) (range_with_len 0 n)
unfolding waiting_known
known_is l known zero = refl
known_is l known (suc n) =
    let p = known_at l known in
    rw (known_is l known n) (swap (p n) (list_all p (range_with_len 0 n)))
    ∙ sym (subst (λ m. list_all p (range_with_len 0 m) ≡ (list_all p (range_with_len 0 n) && p n)) (add-one n) (all_range_more p n))
