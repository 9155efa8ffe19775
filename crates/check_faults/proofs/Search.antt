-- What the search for who reaches itself keeps: on no event passed does a behaviour reach itself, and none of the
-- behaviours passed does on this event.
use Rattle.lib_base.proofs.Prelude.{ℕ, ◌≤◌, ◌<◌, ◌+◌, ◌≡◌, refl, ◌∙◌, sym, true, false, Bool, List, arith}
use borrow.Author.Count.{below_none, below_more}
use Rattle.check_graph.specs.Any.{any_below}
use Rattle.check_graph.specs.Matrix.{cell}
use Rattle.check_graph.proofs.Any.{any_none, any_some}
use Rattle.check_faults.specs.Checks.{closed_on, cyclic_on}

-- behaviour i reaches itself on event e
abbrev round : List ℕ → ℕ → ℕ → ℕ → Bool
round d bs e i = cell (closed_on d e bs) i i

pub record Passed (d : List ℕ) (bs e : ℕ) (found : Bool) : Type 0 where
  pub not_yet : found ≡ false
  pub none : (f : ℕ) → f < e → any_below bs (round d bs f) ≡ false

pub record Tried (d : List ℕ) (bs e b : ℕ) (found : Bool) : Type 0 where
  pub not_yet : found ≡ false
  pub none : (i : ℕ) → i < b → round d bs e i ≡ false

pub start : (d : List ℕ) (bs : ℕ) → Passed d bs 0 false
start d bs = record { not_yet = refl; none = below_none _ }

pub try : (d : List ℕ) (bs e : ℕ) {found : Bool} → found ≡ false → Tried d bs e 0 found
try d bs e h = record { not_yet = h; none = below_none _ }

pub turn : {d : List ℕ} {bs e b : ℕ} {found : Bool} → Tried d bs e b found → round d bs e b ≡ false → Tried d bs e (b + 1) found
turn t k = record { not_yet = t.not_yet; none = below_more _ _ t.none k }

pub pass : {d : List ℕ} {bs e b : ℕ} {was found : Bool} → Passed d bs e was → Tried d bs e b found → bs ≤ b → Passed d bs (e + 1) found
pass {bs = bs} p t k = record { not_yet = t.not_yet; none = below_more _ _ p.none (any_none bs _ (λ i c. t.none i (omega arith))) }

pub end : {d : List ℕ} {ev bs e : ℕ} {found : Bool} → Passed d bs e found → ev < e → found ≡ cyclic_on d ev bs
unfolding cyclic_on
end {d} {ev} {bs} p h = p.not_yet ∙ sym (any_none (ev + 1) (λ f. any_below bs (round d bs f)) (λ f s. p.none f (omega arith)))

pub stop : (d : List ℕ) (ev bs e b : ℕ) → e ≤ ev → b < bs → round d bs e b ≡ true → true ≡ cyclic_on d ev bs
unfolding cyclic_on
stop d ev bs e b h k q = sym (any_some (ev + 1) (λ f. any_below bs (round d bs f)) e (omega arith) (any_some bs (round d bs e) b k q))
