-- `taken` tells the model engine's number and how many it has in hand: each arrival taken in is committed once or is in
-- hand.
use Rattle.lib_base.proofs.Prelude.{ℕ, ◌≤◌, ◌+◌, ◌≡◌, ◌∙◌, List, map, length, length-append, arith}
use Rattle.lib_word.specs.Word.{get}
use Rattle.spec_language.specs.Dependence.{size}
use Rattle.spec_language.specs.Syntax.{Program}
use Rattle.spec_execution.specs.Execution.{Values}
use Rattle.spec_model.specs.Model.{Arrival, Running, rest, busy, engine, queue, State, state, begun}
use Rattle.spec_model.specs.Claims.{number, in_queue, engine_in, after, engine_after, committed_in, taken_in_by}
use Rattle.spec_model.proofs.Choice.{perm_length}
use Rattle.back_compile.specs.Compiled.{program_of}
use Rattle.run_preview.specs.Preview.{in_hand}
use Rattle.run_deliver.specs.Deliver.{taken_on}
use Rattle.run_deliver.specs.Delivery.{taken_said}
use Rattle.refine_calls.specs.Refinement.{Bytes, bytes_after}
use Rattle.refine_calls.proofs.Agrees.{ours_is}
use Rattle.refine_calls.proofs.Relation.{Rel, count_is}
use Rattle.refine_calls.proofs.TurnsRefine.{Stand}
use Rattle.refine_lists.specs.Lists.{on_bytes, fresh_round_on}
use Rattle.refine_lists.proofs.FromSheets.{stands_after, list_of}
use Rattle.engine_order.specs.Orders.{TakenTells}
use Rattle.engine_order.proofs.Blocks.{row_grows}

module _ (n : ℕ) (small : n ≤ 64) (l : List ℕ) (k : ℕ) (q : List Arrival) where
  hand_is : (r : Running) (d : Values) → Rel n l k q r d → in_hand (get l 1) (get l 2) ≡ length (queue q r)
  unfolding in_hand
  hand_is rest d R = rw R.runs (count_is n small l k q rest d R)
  hand_is (busy a c) d R = rw (R.runs.0, count_is n small l k q (busy a c) d R) (omega arith)

tells_hand : (l₀ : List ℕ) (b : Bytes) (s : State) → Stand l₀ b s → taken_on b.table b.round ≡ taken_said (number (engine_in s)) (length (in_queue (engine_in s)))
unfolding taken_on
tells_hand l₀ b (state p (engine k q r d)) h =
    let valid = ours_is p h.fit.0 b.table h.says b.round k q r d h.alike h.fit.1 in
    rw (valid, h.alike.number, hand_is (size p) h.says.few_behaviours b.round k q r d h.alike)

pub taken_tells : TakenTells
taken_tells s ps t₀ l₀ x r xs k ts m =
    let p : Program = program_of ps x in
    let once = (list_of s ps t₀ l₀ x r xs k ts m).sentences.once.0 in
    let taken_all : length (taken_in_by p ts) ≡ length (committed_in p ts) + length (in_queue (engine_after p ts)) =
    perm_length once ∙ length-append (committed_in p ts) (in_queue (engine_after p ts)) in
    (tells_hand l₀ (bytes_after (map on_bytes xs) (fresh_round_on s ps t₀ l₀)) (after p ts) (stands_after s ps t₀ l₀ x r xs k ts m), omega (arith, taken_all, row_grows ts (begun p)))
