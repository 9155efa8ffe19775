-- What the checks answer on the draft of a program, and that they may be run on it.
use Rattle.lib_base.proofs.Prelude.{ℕ, ◌≤◌, ◌≡◌, ◌∙◌, List, length, arith}
use Rattle.spec_language.specs.Dependence.{size, events}
use Rattle.draft_form.specs.Draft.{DraftOf}
use Rattle.draft_form.proofs.DraftLaws.{draft_events, bounded}
use Rattle.check_faults.specs.Faults.{known_behaviours, known, cyclic}
use Rattle.check_faults.specs.Checks.{names_known, cyclic_on, AllInside}
use Rattle.check_faults.proofs.NamesAgree.{names_known_is}
use Rattle.check_faults.proofs.MatrixAgrees.{cyclic_is}
use Rattle.check_faults.proofs.CycleDecides.{behaviours_say, behaviours_are}
use Rattle.lib_base.proofs.Tools.{same_answer}

module _ {ev bs n : ℕ} {d : List ℕ} (dr : DraftOf ev bs n d) where
  pub draft_inside : AllInside d ev bs
  draft_inside e h i b = bounded dr e i (omega (arith, draft_events dr)) b

  pub draft_names : names_known d bs n ≡ known dr.program
  draft_names =
      let p = dr.program in
      let few : n ≤ length d = omega (arith, dr.drafted.long, dr.drafted.few) in
      rw dr.size_is
      (names_known_is d (size p) n (events p) dr.sent few dr.pool dr.sent_fits
      ∙ same_answer (known_behaviours (size p) dr.sent) (known p)
      (λ h. behaviours_are (size p) p.behaviours (dr.sent_known.0 (behaviours_say (size p) dr.sent h)))
      (λ h. behaviours_are (size p) dr.sent (dr.sent_known.1 (behaviours_say (size p) p.behaviours h))))

  pub draft_cyclic : cyclic_on d ev bs ≡ cyclic dr.program
  draft_cyclic = rw (dr.size_is, dr.events_are) (cyclic_is dr.program d n dr.fits dr.drafted)
