-- The library copies the entries of `entries_copied`.
use Rattle.lib_base.proofs.Prelude.{ℕ, ◌≡◌, ◌+◌, ◌-◌, ◌*◌, ◌∙◌, ap, drop, arith}
use Rattle.std.proofs.Math.Seq.{paste}
use Rattle.front_rows.proofs.CellLaws.{entries_pasted}
use Rattle.front_rows.proofs.copy_entries.Goals as goal

pub returns : goal.returns
returns c =
    let a = c.args in
    let d = a.draft.now in
    let all : 2048 + a.i * 32 + 32 - (2048 + a.i * 32) ≡ 32 = omega arith in
    c.copy_within.ensures.after ∙ ap (λ (m : ℕ). paste d (2048 + a.k * 32) (drop (2048 + a.i * 32) d) m) all
    ∙ entries_pasted d a.i a.k 32 (omega arith) c.requires.0 c.requires.1 (omega arith)
