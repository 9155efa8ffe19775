-- 02, M-108: for a sheet that compile turns down by 12, whatever list is lent, the call tells a shortest circle of the
-- sheet's program: by what 12 says of a sheet (crate back_compile, `twelve`).
use Rattle.lib_base.proofs.Prelude.{ℕ, ◌<◌, ◌≡◌, List, replicate, length-replicate, arith}
use Rattle.lib_base.specs.Basics.{All}
use Rattle.spec_language.specs.Sheet.{Sheet}
use Rattle.spec_language.specs.Grammar.{encode, SheetFits}
use Rattle.spec_language.specs.Accepted.{Known}
use Rattle.back_compile.specs.Number.{number_on}
use Rattle.back_compile.specs.Compiled.{program_of}
use Rattle.back_compile.proofs.AcceptedExactly.{twelve}
use Rattle.back_compile.specs.Statements.{Given}
use Rattle.ask_circle.specs.Witness.{CircleListed, Witnessed}

pub shown : (s ps list : List ℕ) → All (λ b. b < 256) s → number_on s ps ≡ 12 → {r : ℕ} {list' : List ℕ} → Witnessed s ps list r list'
    → (x : Sheet) × (encode x ≡ s) × SheetFits x × Known (program_of ps x) × Given ps x × CircleListed (program_of ps x) list r list'
unfolding number_on
shown s ps list bytes h w =
    let t = twelve s ps (replicate 34816 0) bytes (omega (arith, length-replicate {A = ℕ} 34816 0)) h in
    (t.0, t.1, t.2, t.3, t.4, (w.circular h).each_sheet t.0 t.1 t.2)
