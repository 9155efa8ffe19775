-- A parameter is among the first n nodes, as a list's test; and one node more filled in.
use Rattle.lib_base.proofs.Prelude.{ℕ, ◌≤◌, suc, zero, ◌≡◌, refl, ◌∙◌, List, length, take, get_or, set, ◌+◌, add-one, or-true, or-false, arith}
use Rattle.lib_base.proofs.Tools.{split}
use Rattle.std.specs.List.{list_any}
use Rattle.std.proofs.lemmas.List.Folds.{list_any_more}
use Rattle.draft_params.specs.Filling.{is_param, any_param, fill_to, filled_node}

pub any_is : (d : List ℕ) (n : ℕ) → n ≤ length d → list_any is_param (take n d) ≡ any_param d n
unfolding any_param
any_is d zero h = refl
any_is d (suc n) h =
    let e = rw add-one at (list_any_more is_param d n 0 (omega arith)) in
    e ∙ split (is_param (get_or d n 0))
    (λ t. rw (t, any_param) (or-true (list_any is_param (take n d))))
    (λ t. rw (t, any_param, or-false) (any_is d n (omega arith)))

pub fill_to_more : (ps d : List ℕ) (n : ℕ) → fill_to ps d (n + 1) ≡ set (fill_to ps d n) n (filled_node ps (get_or (fill_to ps d n) n 0))
unfolding fill_to
fill_to_more ps d n = rw (add-one n) refl
