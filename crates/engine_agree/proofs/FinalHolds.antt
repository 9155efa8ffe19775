-- The condition is needed: what the model engine computes of the final, the exported functions' rounds show.
use Rattle.lib_base.proofs.Prelude.{ℕ, ◌≤◌, ◌≡◌, refl, ◌∙◌, sym, ap, List, [], map, length}
use Rattle.spec_language.specs.Syntax.{Program}
use Rattle.spec_model.specs.Model.{engine, Call, call, State, state}
use Rattle.spec_model.specs.Claims.{in_force, after}
use Rattle.spec_model.proofs.States.{store_in}
use Rattle.back_compile.specs.Verdict.{compile_on}
use Rattle.back_compile.specs.Compiled.{Compiled}
use Rattle.back_compile.proofs.AcceptedExactly.{accepted_exactly}
use Rattle.refine_calls.specs.Refinement.{ViewIn}
use Rattle.refine_lists.specs.Lists.{board_of, fresh_round_on, OnlyCalls}
use Rattle.refine_lists.proofs.FromSheets.{calls_of_law}
use Rattle.ask_agree.proofs.Answers.{agree_is}
use Rattle.engine_agree.specs.Final.{final, final_bytes, final_program, at_once, one_by_one, round_of, Needed}
use Rattle.engine_agree.proofs.Computed.{same, ends_at_once, ends_one_by_one, no_points, twenty_points, final_taken, clash_is, bytes}

-- the board in a round's bytes
store_view : (l : List ℕ) (s : State) → ViewIn l s → board_of (in_force s) l ≡ store_in s
store_view l (state p (engine t q r d)) v = v.store

module _ (t l : List ℕ) (a : 34816 ≤ length t) (b : 2048 ≤ length l) where
  taken : (compile_on final_bytes [] t).0 ≡ 0
  taken = ap (λ (o : Compiled). o.0) ((accepted_exactly final_bytes [] t bytes a).1 final refl final_taken)

  list : (cs : List Call) → OnlyCalls final_program l (fresh_round_on final_bytes [] t l) cs
  list cs =
      calls_of_law final_bytes [] t l final
      (record { param_bytes = tt; room = b; compiles = taken; sent_as = refl; taken = final_taken }) cs

  shows : (cs : List Call) → board_of final_program (round_of t l cs).round ≡ store_in (after final_program (map call cs))
  shows cs =
      ap (λ (p : Program). board_of p (round_of t l cs).round) (sym (list cs).in_force_law)
      ∙ store_view (round_of t l cs).round (after final_program (map call cs)) (list cs).list.round

pub needed : Needed
needed = record {
  taken = final_taken;
  named = agree_is final_bytes [] bytes final refl final_taken ∙ clash_is;
  same = same;
  idle_both = λ t l a b. ((list t l a b at_once).list.idle.1 ends_at_once, (list t l a b one_by_one).list.idle.1 ends_one_by_one);
  without = λ t l a b. shows t l a b at_once ∙ no_points;
  with_points = λ t l a b. shows t l a b one_by_one ∙ twenty_points;
}
