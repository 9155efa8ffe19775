use Rattle.lib_base.proofs.Prelude.{ℕ, ◌≡◌, ◌≢◌, ne_eqb, eq-eqb, arith}
use Rattle.back_counts.specs.Counts.{is_member, count_members}
use Rattle.back_counts.proofs.CountLaws.{sum_start, sum_one, sum_none, sum_end}
use Rattle.back_counts.proofs.count_members.Goals as goal
use Rattle.back_counts.proofs.count_members.Goals.{then-entry_of-ne0, else-entry_of-ne0}

member : (v : ℕ) {w : ℕ} → v ≡ w → v ≢ 0 → is_member w ≡ 1
unfolding is_member
member v e h = rw (← e, ne_eqb v 0 h)

none : (v : ℕ) {w : ℕ} → v ≡ w → v ≡ 0 → is_member w ≡ 0
unfolding is_member
none v e h = rw (← e, eq-eqb v 0 h)

pub loop-i-init : goal.loop-i-init
loop-i-init c = sum_start

pub loop-i-preserved : goal.loop-i-preserved
loop-i-preserved c =
    let was = c.loop-i.invariant in
    elim c.if-entry_of-ne0.branch [
      | then-entry_of-ne0 w ↦ rw w.count-is (sum_one was (member _ c.entry_of.ensures w.if-entry_of-ne0.true))
      | else-entry_of-ne0 w ↦ rw w.count-is (sum_none was (none _ c.entry_of.ensures w.if-entry_of-ne0.false))
    ]

pub returns : goal.returns
unfolding count_members
returns c = let q : c.loop-i.i ≡ c.args.behaviours = omega arith in omega (arith, sum_end c.loop-i.invariant q)
