-- A preview on the copy, test by test.
use Rattle.lib_base.proofs.Prelude.{ℕ, ◌+◌, ◌≡◌, refl, List, eqb, leb}
use Rattle.lib_base.specs.Basics.{pick}
use Rattle.spec_language.specs.Refusals.{no_behaviour, no_right}
use Rattle.spec_language.specs.Rights.{may}
use Rattle.format_layout.specs.Layout.{behaviour_count, viewers_at}
use Rattle.format_layout.specs.Round.{CallResult}
use Rattle.run_arrive.specs.Arrivals.{arrive_on}
use Rattle.run_preview.specs.Preview.{to_idle, preview_steps, shown_in, preview_seen, preview_taken, preview_after, preview_copy}

-- r: the arrival's answer, and the copy after it
pub after_opened : (t : List ℕ) (r : CallResult) (i who : ℕ) → preview_after t r i who
    ≡ pick (eqb r.0 0)
    (pick (leb (behaviour_count t) i) no_behaviour
    (pick (may (viewers_at t i) who) (shown_in (to_idle t (preview_steps t r.1 + 1) r.1) i) no_right))
    r.0
unfolding preview_after preview_taken preview_seen
after_opened t r i who = refl
