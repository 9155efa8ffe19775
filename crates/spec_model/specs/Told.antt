-- What a player is told of the model engine's answers, as functions. These are for lemmas: the claim says it of the
-- bytes' numbers (crate refine_lists, Lists.antt, and crate secrecy_engine, Heard.antt) and does not reach this file.
use Rattle.std.specs.Prelude.{ℕ, false, eqb}
use Rattle.lib_base.specs.Basics.{pick}
use Rattle.spec_language.specs.Syntax.{Program}
use Rattle.spec_model.specs.Model.{Engine, arrive, Answer, refused, told_taken_in, shows, idle, ran, started, preempted, committed, act}
use Rattle.spec_model.specs.Claims.{foreseen}

-- "only the host is told M-104's mark: a step carries no player and returns the host's answer, and a further call turns
-- that into the others', without the mark"
abbrev pub unmarked : Answer → Answer
unmarked (refused n) = refused n
unmarked told_taken_in = told_taken_in
unmarked (shows v) = shows v
unmarked idle = idle
unmarked ran = ran
unmarked (started a) = started a
unmarked (preempted a) = preempted a
unmarked (committed a m) = committed a false

-- what a player is told of a step's answer
abbrev pub told_to : ℕ → Answer → Answer
told_to who a = pick (eqb who 0) a (unmarked a)

-- the arrival's refusal, or the other answer
abbrev pub unless_refused : Answer → Answer → Answer
unless_refused (refused n) x = refused n
unless_refused told_taken_in x = x
unless_refused (shows v) x = x
unless_refused idle x = x
unless_refused ran x = x
unless_refused (started a) x = x
unless_refused (preempted a) x = x
unless_refused (committed a m) x = x

-- "It is turned down as the arrival would be": a preview's answer
abbrev pub previewed : Program → Engine → ℕ → ℕ → ℕ → Answer
previewed p w e i who = unless_refused (act p (arrive e who) w).answer (foreseen p w e i who)
