-- The number of each way that a delivery ends which is not refused.
use Rattle.std.specs.Prelude.{ℕ}
use Rattle.run_deliver.specs.Delivery.{delivered_now, no_commit_room, broken_off}
use Rattle.run_deliver.specs.declared.Outcome.{Outcome}
use Rattle.run_deliver.specs.declared.Outcome.TheVariants.{Delivered, NoCommitRoom, BrokenOff}

abbrev pub delivery_end : Outcome → ℕ
delivery_end Delivered = delivered_now
delivery_end NoCommitRoom = no_commit_room
delivery_end BrokenOff = broken_off
