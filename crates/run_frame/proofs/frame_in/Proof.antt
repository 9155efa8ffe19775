-- `frame_in` is `frame_from` from the start: the loop over the bursts keeps what is left of the steps, made where it
-- stands, equal to the whole.
use Rattle.lib_base.proofs.Prelude.{rules, arith}
use Rattle.run_frame.proofs.Laws.{Turn, begin, all_made, full, idle, refused, fewer, falls, turn}
use Rattle.run_frame.proofs.frame_in.Statement.{statement}
use Rattle.run_frame.proofs.frame_in.Tie as tie

abbrev invariant-loop : tie.invariant-loop-left
invariant-loop table round₀ steps room commits₀ left₀ written₀ round commits left written = Turn table round₀ steps room commits₀ round commits left written

abbrev decreases-loop : tie.decreases-loop-left
decreases-loop table round₀ steps room commits₀ left₀ written₀ round commits left written = left

returns : tie.Need-returns-then-room-written invariant-loop decreases-loop
returns c =
    full c.loop-left.invariant
    c.loop-left-test.true c.if-room-written.true
    c.idle_or.ensures c.frame_answer.ensures

sub_frame_answer_2 : tie.Need-overflow_sub-steps-then-answer-eq-IDLE invariant-loop decreases-loop
sub_frame_answer_2 c =
    let u = c.loop-left.invariant in
    omega (arith, fewer u (omega arith) (omega arith) c.burst_on-stop.ensures.0)

frame_answer_requires_2 : tie.Need-frame_answer-requires-then-answer-eq-IDLE invariant-loop decreases-loop
frame_answer_requires_2 c κs =
    let u = c.loop-left.invariant in
    omega arith

returns_2 : tie.Need-returns-then-answer-eq-IDLE invariant-loop decreases-loop
returns_2 c =
    idle c.loop-left.invariant (omega arith) (omega arith) c.burst_on-stop.ensures.0
    c.if-answer-eq-IDLE.true c.frame_answer-then-answer-eq-IDLE.ensures

sub_frame_answer_3 : tie.Need-overflow_sub-steps-then-answer-eq-FOREIGN invariant-loop decreases-loop
sub_frame_answer_3 c =
    let u = c.loop-left.invariant in
    omega (arith, fewer u (omega arith) (omega arith) c.burst_on-stop.ensures.0)

frame_answer_requires_3 : tie.Need-frame_answer-requires-then-answer-eq-FOREIGN invariant-loop decreases-loop
frame_answer_requires_3 c κs =
    let u = c.loop-left.invariant in
    omega arith

returns_3 : tie.Need-returns-then-answer-eq-FOREIGN invariant-loop decreases-loop
returns_3 c =
    refused c.loop-left.invariant (omega arith) (omega arith)
    c.burst_on-stop.ensures.0 c.if-answer-eq-FOREIGN.true c.frame_answer-then-answer-eq-FOREIGN.ensures

loop_less : tie.Need-loop-left-smaller invariant-loop decreases-loop
loop_less c =
    falls c.loop-left.invariant (omega arith) (omega arith)
    c.burst_on-stop.ensures.0 c.if-answer-eq-IDLE.false c.if-answer-eq-FOREIGN.false

loop_again : tie.Need-loop-left-preserved invariant-loop decreases-loop
loop_again c =
    turn c.loop-left.invariant (omega arith) (omega arith)
    c.burst_on-stop.ensures.0 c.if-answer-eq-IDLE.false c.if-answer-eq-FOREIGN.false
    c.burst_on-stop.ensures.1
    c.note-written.ensures.0 c.note-written.ensures.1 (search rules)

returns_4 : tie.Need-returns invariant-loop decreases-loop
returns_4 c =
    all_made c.loop-left.invariant (omega arith)
    c.loop-left-test.false c.idle_or-2.ensures c.frame_answer-2.ensures

pub frame_in_spec : {M : Type 1} → statement M
frame_in_spec =
    tie.close
    (tie.spec invariant-loop decreases-loop
    (λ c. begin c.requires.0)
    (λ c κs. c.loop-left.invariant.sound)
    (omega arith) (omega arith)
    (λ c. c.loop-left.invariant.round_long)
    (λ c. c.loop-left.invariant.commits_long)
    returns
    (λ c κs. c.loop-left.invariant.sound)
    sub_frame_answer_2 frame_answer_requires_2 (omega arith) (omega arith) returns_2 sub_frame_answer_3 frame_answer_requires_3
    (omega arith) (omega arith) returns_3 (omega arith) loop_less loop_again
    (λ c κs. c.loop-left.invariant.sound)
    (omega arith)
    (λ c. c.loop-left.invariant.round_long)
    (λ c. c.loop-left.invariant.commits_long)
    returns_4)
