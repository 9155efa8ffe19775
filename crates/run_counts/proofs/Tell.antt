-- A table that says a program tells its counts and ranks: each is a word that `Says` has.
use Rattle.lib_base.proofs.Prelude.{ℕ, List, lt-leb, le-leb}
use Rattle.spec_language.specs.Syntax.{Program}
use Rattle.spec_language.specs.Dependence.{events}
use Rattle.format_image.proofs.ImageLaws.{Says}
use Rattle.run_counts.specs.Counts.{event_count_on, behaviour_count_on, event_rank_on}
use Rattle.run_counts.specs.Tells.{Tells}

pub says_tells : (p : Program) (t : List ℕ) → Says p t → Tells p t
unfolding event_count_on behaviour_count_on event_rank_on
says_tells p t s = record {
  events_told = rw (s.fits, s.event_count_law);
  behaviours_told = rw (s.fits, s.behaviour_count_law);
  rank_told = λ e h. rw (s.fits, s.event_count_law, lt-leb (events p) e h, s.priorities e h);
  no_other = λ e h. rw (s.fits, s.event_count_law, le-leb (events p) e h);
}
