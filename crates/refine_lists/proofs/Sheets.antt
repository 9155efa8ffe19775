-- What compile's answer 0 says of a sheet and its table: there is room for a table, and the sheet's program is
-- accepted; and start makes a fresh round of it. From the laws of compile and of the filling.
use Rattle.lib_base.proofs.Prelude.{ℕ, ◌≤◌, ◌<◌, ◌≡◌, ◌∙◌, sym, ap, by_cases, List, length, dec_lt, arith}
use Rattle.lib_base.specs.Basics.{All}
use Rattle.lib_word.specs.Word.{get}
use Rattle.spec_language.specs.Syntax.{Program}
use Rattle.spec_language.specs.Sheet.{Sheet}
use Rattle.spec_language.specs.Accepted.{SheetAccepted}
use Rattle.spec_language.specs.Valid.{Accepted}
use Rattle.spec_language.proofs.SheetLaws.{filling_accepted}
use Rattle.format_image.specs.Table.{table_of}
use Rattle.draft_params.proofs.Fills.{get_small}
use Rattle.back_compile.specs.Verdict.{compile_on}
use Rattle.back_compile.specs.Compiled.{Compiled, program_of}
use Rattle.back_compile.proofs.JudgeLaws.{compile_short}
use Rattle.run_start.specs.Start.{start_on, fresh_bytes}
use Rattle.refine_calls.proofs.Refines.{starts}

-- compile accepts with a whole table only
pub table_room : (s ps t : List ℕ) → (compile_on s ps t).0 ≡ 0 → 34816 ≤ length t
table_room s ps t h =
    by_cases (dec_lt (length t) 34816) (λ a. let z : ◌≡◌ {A = ℕ} 1 0 = sym (ap (λ (o : Compiled). o.0) (compile_short s ps t a)) ∙ h in absurd (omega arith)) (λ a. omega arith)

-- the program of an accepted sheet is accepted
pub program_accepted : (ps : List ℕ) → All (λ b. b < 256) ps → (x : Sheet) → SheetAccepted (get ps) (length ps) x → Accepted (program_of ps x)
program_accepted ps small x ok = filling_accepted (get ps) (λ n _. get_small ps small n) (length ps) x ok

-- a round that start has made from a program's table
pub begun : (p : Program) → Accepted p → (t₀ l₀ t : List ℕ) → 34816 ≤ length t₀ → 2048 ≤ length l₀ → t ≡ table_of p t₀ → start_on t l₀ ≡ (0, fresh_bytes (table_of p t₀) l₀)
begun p ok t₀ l₀ t a b e = ap (λ (x : List ℕ). start_on x l₀) e ∙ starts p ok t₀ l₀ a b
