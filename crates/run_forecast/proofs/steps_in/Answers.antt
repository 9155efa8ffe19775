-- One of the waiting more: its code is within its bound.
use Rattle.lib_base.proofs.Prelude.{ℕ, ◌≤◌, ◌<◌, ◌+◌, ◌*◌, ◌≡◌, refl, List, add-one, arith}
use Rattle.format_layout.specs.Layout.{event_word, waiting_count, event_at}
use Rattle.format_layout.specs.Bounds.{Bounds}
use Rattle.run_forecast.specs.Steps.{steps_in}
use Rattle.run_forecast.proofs.steps_in.Goals as goal

short : (t l : List ℕ) (i : ℕ) {e w : ℕ} → Bounds t l → i < waiting_count l → e ≡ event_at l i → w ≡ event_word t e 2 → w ≤ 4096
short t l i b h p q = rw (q, p) (omega (arith, b.table.codes (event_at l i) (b.round.known i h)))

pub loop-i-init : goal.loop-i-init
unfolding steps_in
loop-i-init c = (refl, omega arith)

pub loop-i-preserved : goal.loop-i-preserved
unfolding steps_in
loop-i-preserved c =
    let i = c.loop-i.i in
    let low = short _ _ i c.requires.0 (omega arith) c.event_at-event.ensures c.event_word.ensures in (
      rw (add-one i, ← c.event_at-event.ensures, ← c.event_word.ensures, ← c.loop-i.invariant.0) (omega arith),
      omega (arith, c.loop-i.invariant.1, low),
    )
