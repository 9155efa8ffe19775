-- The set that an event's handlers name, from the sets that the code unites: bit by bit.
use Rattle.lib_base.proofs.Prelude.{ℕ, ◌≤◌, ◌∙◌, ap, Bool, ◌||◌, ◌&&◌, List, get_or, arith}
use Rattle.lib_bits.specs.Bits.{bit, Gathers}
use Rattle.check_graph.specs.Any.{any_below}
use Rattle.check_graph.proofs.Any.{any_same}
use Rattle.check_reads.specs.Sets.{handlers_name, passive_on, closed_by, named_on, RowsBy}

pub named_is : (d : List ℕ) (ev n e : ℕ) (rows : List ℕ) (names next : ℕ) → n ≤ 64 → RowsBy (closed_by n (passive_on d ev)) n rows → Gathers 64 names (handlers_name d e n)
    → Gathers 64 next (λ j. bit names j || any_below n (λ i. bit names i && bit (get_or rows i 0) j)) → Gathers n next (named_on d ev n e)
unfolding named_on
named_is d ev n e rows names next few r h g j b =
    g j (omega arith)
    ∙ ap (λ (x : Bool). x || any_below n (λ i. bit names i && bit (get_or rows i 0) j)) (h j (omega arith))
    ∙ ap (λ (x : Bool). handlers_name d e n j || x)
    (any_same n (λ i. bit names i && bit (get_or rows i 0) j) (λ i. handlers_name d e n i && closed_by n (passive_on d ev) i j)
    (λ i c. rw (h i (omega arith), r i c j b)))
