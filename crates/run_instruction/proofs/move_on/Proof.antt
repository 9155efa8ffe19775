-- Each arm is one branch of the definition: the operation is known there, and the callee's contract is it.
use Rattle.lib_base.proofs.Prelude.{rules, arith}
use Rattle.run_instruction.specs.Execution.{moved_word}
use Rattle.run_instruction.proofs.Arms.{high_slot, low_slot, no_move}
use Rattle.run_instruction.proofs.move_on.Statement.{statement}
use Rattle.run_instruction.proofs.move_on.Tie as tie

returns_2 : tie.Need-returns-in-1
unfolding moved_word
returns_2 c = low_slot _ _ _ _ _ (omega arith) (rw c.in-1.is)

returns_3 : tie.Need-returns-in-2
unfolding moved_word
returns_3 c = low_slot _ _ _ _ _ (omega arith) (rw c.in-2.is)

returns_4 : tie.Need-returns-in-3
unfolding moved_word
returns_4 c = low_slot _ _ _ _ _ (omega arith) (rw c.in-3.is c.transfer_word.ensures)

returns_5 : tie.Need-returns-in-4
unfolding moved_word
returns_5 c = low_slot _ _ _ _ _ (omega arith) (rw c.in-4.is c.transfer_word-in-4.ensures)

returns_6 : tie.Need-returns-in-5
unfolding moved_word
returns_6 c = low_slot _ _ _ _ _ (omega arith) (rw c.in-5.is c.push.ensures)

returns_7 : tie.Need-returns-in-6
unfolding moved_word
returns_7 c = low_slot _ _ _ _ _ (omega arith) (rw c.in-6.is c.push_word.ensures)

returns_8 : tie.Need-returns-in-7
unfolding moved_word
returns_8 c = low_slot _ _ _ _ _ (omega arith) (rw c.in-7.is c.push_word-in-7.ensures)

returns_9 : tie.Need-returns-in-9
unfolding moved_word
returns_9 c = low_slot _ _ _ _ _ (omega arith) (rw c.in-9.is c.pop.ensures)

returns_10 : tie.Need-returns-in-10
unfolding moved_word
returns_10 c = low_slot _ _ _ _ _ (omega arith) (rw c.in-10.is c.pop-in-10.ensures)

returns_11 : tie.Need-returns-in-11
unfolding moved_word
returns_11 c = low_slot _ _ _ _ _ (omega arith) (rw c.in-11.is c.transfer_word-in-11.ensures)

returns_12 : tie.Need-returns-in_default
returns_12 c =
    let m = c.in_default.in_default-own.rest in
    low_slot _ _ _ _ _ (omega arith)
    (no_move _ _ _ _ _ m.0.0.0.0.0.0.0.0.0.1 m.0.0.0.0.0.0.0.0.1 m.0.0.0.0.0.0.0.1 m.0.0.0.0.0.0.1 m.0.0.0.0.0.1 m.0.0.0.0.1 m.0.0.0.1 m.0.0.1 m.0.1 m.1)

pub move_on_spec : {M : Type 1} → statement M
move_on_spec =
    tie.close
    (tie.spec
    (λ c. high_slot _ _ _ _ _ (omega arith))
    (search rules) (search rules) (search rules) (search rules) (search rules) (search rules) (search rules) (search rules) (search rules) (search rules) (search rules) (search rules) (search rules) (search rules) (search rules) (search rules) (search rules) (search rules)
    returns_2 returns_3 (search rules) returns_4 (search rules) returns_5 (search rules) returns_6 (search rules) returns_7 (search rules) returns_8 (search rules) returns_9 (search rules) returns_10 (search rules) returns_11 returns_12)
