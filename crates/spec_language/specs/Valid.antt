-- A program that compile accepts, of a sheet that is filled in and written out: what proofs ask of a program.
use Rattle.std.specs.Prelude.{◌≤◌, length}
use Rattle.lib_base.specs.Basics.{All}
use Rattle.spec_language.specs.Syntax.{Program}
use Rattle.spec_language.specs.Fits.{BehaviourFits, Fits}
use Rattle.spec_language.specs.Dependence.{NoCycle}
use Rattle.spec_language.specs.Code.{all_instructions}
use Rattle.spec_language.specs.Accepted.{Known}

-- a program within 01's limits, with no cycle under an event or under none
pub record Accepted (p : Program) : Type 0 where
  pub fits : Fits p
  pub known : Known p
  pub acyclic : NoCycle p
  pub short : all_instructions p ≤ 4096

-- what the meaning of a program needs of it: within the grammar's limits field by field, names that exist, no cycle
pub record Valid (p : Program) : Type 0 where
  pub each : All (BehaviourFits (length p.priorities)) p.behaviours
  pub known : Known p
  pub acyclic : NoCycle p
