-- An arrival, test by test.
use Rattle.lib_base.proofs.Prelude.{ℕ, ◌≡◌, refl, List, leb}
use Rattle.lib_base.specs.Basics.{pick}
use Rattle.spec_language.specs.Refusals.{foreign, no_player, undeclared_event, no_right, full_queue, spent}
use Rattle.spec_language.specs.Rights.{may}
use Rattle.format_layout.specs.Layout.{event_count, senders_at, taken, waiting_count, running_flag}
use Rattle.format_layout.specs.Foreign.{ours}
use Rattle.run_arrive.specs.Arrivals.{admit, queue_full, arrive_with, arrive_known, arrive_in, arrive_on}

pub arrive_opened : (t l : List ℕ) (e who : ℕ) → arrive_on t l e who
    ≡ pick (ours t l)
    (pick (leb 8 who) (no_player, l)
    (pick (leb (event_count t) e) (undeclared_event, l)
    (pick (may (senders_at t e) who)
    (pick (queue_full (waiting_count l) (running_flag l)) (full_queue, l)
    (pick (leb 1000000 (taken l)) (spent, l) (0, admit l e who (waiting_count l) (taken l))))
    (no_right, l))))
    (foreign, l)
unfolding arrive_on arrive_in arrive_known arrive_with
arrive_opened t l e who = refl
