-- A worked example: off, a copy for each of six members of C, and on are eight instructions. 01 "Handlers and steps".
use Rattle.lib_base.proofs.Prelude.{ℕ, ◌≡◌, length, arith}
use Rattle.spec_language.specs.Syntax.{Program}
use Rattle.spec_language.specs.Code.{members, copy_part}
use Rattle.back_figure3.specs.Figure3.{HandlerCode}

pub six_copies : (p : Program) (e : ℕ) → HandlerCode p e → members p e ≡ 6 → length (copy_part p e) ≡ 8
six_copies p e h m = omega (arith, h.begins)
