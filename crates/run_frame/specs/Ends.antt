-- How a frame can end, and the commits that its answer has room to count.
use Rattle.std.specs.Prelude.{ℕ}
use Rattle.run_frame.specs.Framed.{all_made, met_idle, met_refusal, no_room}
use Rattle.run_frame.specs.declared.End.{End}
use Rattle.run_frame.specs.declared.End.TheVariants.{AllMade, Idle, Refused, NoRoom}

-- the number of each way to end
abbrev pub end_number : End → ℕ
end_number AllMade = all_made
end_number Idle = met_idle
end_number Refused = met_refusal
end_number NoRoom = no_room

abbrev pub end_kinds : ℕ
end_kinds = 4

abbrev pub most_commits : ℕ
most_commits = 16777215

-- one more
abbrev pub commit_limit : ℕ
commit_limit = 16777216
