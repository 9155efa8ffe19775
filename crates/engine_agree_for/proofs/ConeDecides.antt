-- The test of the cone decides what a behaviour depends on: the names that are gathered are all names, and the closed
-- rows find all chains. And independent events meet nowhere.
use Rattle.lib_base.proofs.Prelude.{ℕ, ◌<◌, ◌≡◌, ◌∙◌, sym, true, true≢false, or-true, ⊎_elim, inr, inl, eqb, eqb-true}
use Rattle.lib_base.proofs.Prelude.{eq-eqb}
use Rattle.lib_base.specs.Basics.{All}
use Rattle.lib_base.proofs.Tools.{or_either}
use Rattle.spec_language.specs.Syntax.{Program}
use Rattle.spec_language.specs.Dependence.{size, events, behaviour_at, writes, Reads, Independent}
use Rattle.spec_language.specs.Fits.{BehaviourFits}
use Rattle.spec_language.specs.Accepted.{Known}
use Rattle.check_graph.proofs.Closure.{reach_map}
use Rattle.check_reads.specs.Sets.{closed_by}
use Rattle.ask_leak.specs.Leak.{behaviour_names}
use Rattle.ask_agree.specs.Claims.{AllIndependent}
use Rattle.ask_agree.proofs.Decides.{active_written}
use Rattle.secrecy_model.specs.Sight.{names}
use Rattle.engine_leak.proofs.ByNames.{names_are, named_within}
use Rattle.ask_commute.specs.Meets.{Cone, ReadsIn, SharedIn, two_write, one_writes, other_writes, NoneMeet}
use Rattle.ask_meets.specs.Meeting.{in_cone}
use Rattle.ask_meets.proofs.Leading.{closed_says, closed_is}
use Rattle.ask_meets.proofs.Reading.{reads_named}

module _ (p : Program) (each : All (BehaviourFits (events p)) p.behaviours) (known : Known p) where
  to_names : (i j : ℕ) → behaviour_names p i j ≡ true → names p i j ≡ true
  to_names i j h = sym (names_are p each known i j) ∙ h

  from_names : (i j : ℕ) → names p i j ≡ true → behaviour_names p i j ≡ true
  from_names i j h = names_are p each known i j ∙ h

  within : (i j : ℕ) → behaviour_names p i j ≡ true → i < size p
  within i j h = (named_within p each known i j (to_names i j h)).0

  pub cone_says : (b j : ℕ) → j < size p → in_cone p b j ≡ true → Cone p b j
  unfolding in_cone
  cone_says b j c h =
      ⊎_elim (λ t. inr (reach_map to_names (closed_says (behaviour_names p) (size p) b j t))) (λ t. inl (eqb-true j b t))
      (or_either (closed_by (size p) (behaviour_names p) b j) (eqb j b) h)

  pub cone_is : (b j : ℕ) → j < size p → Cone p b j → in_cone p b j ≡ true
  unfolding in_cone
  cone_is b j c (inl q) = rw (eq-eqb j b q) (or-true (closed_by (size p) (behaviour_names p) b j))
  cone_is b j c (inr r) = let h = closed_is (behaviour_names p) (size p) within b j (reach_map from_names r) in rw h

-- ---- independent events meet nowhere

reads_in : (p : Program) (D : ℕ → Type 0) (e f j : ℕ) → writes p f j ≡ true → ReadsIn p D e j → Reads p e j
reads_in p D e f j w (i, m, r) =
    (reads_named p e i j r, active_written f (behaviour_at p j) w)

apart_meets : (p : Program) (D : ℕ → Type 0) (e f j : ℕ) → Independent p e f → SharedIn p D e f j → ⊥
apart_meets p D e f j h (two_write a b) = true≢false (sym b ∙ (h.0 j a).1)
apart_meets p D e f j h (one_writes a r) = (h.0 j a).0 (reads_in p D f e j a r)
apart_meets p D e f j h (other_writes b r) = (h.1 j b).0 (reads_in p D e f j b r)

pub independent_none : (p : Program) (D : ℕ → Type 0) → AllIndependent p → NoneMeet p D
independent_none p D h e f a b u j m = apart_meets p D e f j (h e f a b u) m.shared
