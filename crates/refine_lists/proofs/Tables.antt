-- The table in force is the one that compile left for the program in force: a call leaves it, a change puts its table
-- in force exactly if it is made. By induction on the turns.
use Rattle.lib_base.proofs.Prelude.{ℕ, ◌≤◌, ◌≡◌, List, [], ◌∷◌, length}
use Rattle.lib_base.proofs.Tools.{by_test}
use Rattle.spec_language.specs.Syntax.{Program}
use Rattle.spec_model.specs.Model.{engine, queue, in_copy_back, Turn, call, change, State, state, TurnOutcome, declared_in, turn, run_turns}
use Rattle.spec_model.specs.Claims.{in_force}
use Rattle.format_image.specs.Table.{table_of}
use Rattle.refine_calls.specs.Refinement.{coded_reply, ByteTurn, calls, mends, Bytes, turn_on_bytes, bytes_after}
use Rattle.refine_calls.specs.Turns.{IsTurn, AreTurns}
use Rattle.refine_calls.proofs.Mends.{in_force_after}
use Rattle.refine_calls.proofs.TurnsRefine.{Stand, turned}

-- the bytes u are the table that compile leaves for the program q, in bytes lent for it
abbrev pub Left : Program → List ℕ → Type 0
Left q u = (lent : List ℕ) × (34816 ≤ length lent) × (u ≡ table_of q lent)

change_left : (u t : List ℕ) (q : Program) (n : ℕ) (s : State) → Left (in_force s) t → Left q u → n ≡ coded_reply (turn (change q) s).reply
    → Left (in_force (turn (change q) s).after) (in_force_after n u t)
unfolding turn
change_left u t q n (state p (engine k waiting r d)) old new =
    let P : TurnOutcome → Type 0 = λ o. n ≡ coded_reply o.reply → Left (in_force o.after) (in_force_after n u t) in
    by_test P (in_copy_back p r) (λ _ e. rw e old) (λ _. by_test P (declared_in q (queue waiting r)) (λ _ e. rw e new) (λ _ e. rw e old))

turn_left : (l₀ : List ℕ) (b : Bytes) (x : ByteTurn) (t : Turn) (s : State) → IsTurn x t → Stand l₀ b s → Left (in_force s) b.table
    → Left (in_force (turn t s).after) (turn_on_bytes x b).after.table
unfolding turn turn_on_bytes
turn_left l₀ b (calls c) (call e) (state p w) m h k = k
turn_left l₀ b (calls c) (change q) s m h k = absurd m
turn_left l₀ b (mends u) (call e) s m h k = absurd m
turn_left l₀ b (mends u) (change q) s m h k = change_left u b.table q _ s k (m.lent, m.room, m.left) (turned l₀ b (mends u) s (change q) m h).answered

pub turns_left : (l₀ : List ℕ) (b : Bytes) (xs : List ByteTurn) (ts : List Turn) (s : State) → AreTurns xs ts → Stand l₀ b s → Left (in_force s) b.table
    → Left (in_force (run_turns ts s)) (bytes_after xs b).table
unfolding run_turns bytes_after
turns_left l₀ b [] [] s m h k = k
turns_left l₀ b [] (t ∷ ts) s m h k = absurd m
turns_left l₀ b (x ∷ xs) [] s m h k = absurd m
turns_left l₀ b (x ∷ xs) (t ∷ ts) s m h k =
    turns_left l₀ (turn_on_bytes x b).after xs ts (turn t s).after m.1 (turned l₀ b x s t m.0 h).stand (turn_left l₀ b x t s m.0 h k)
