-- The marks that nodes leave toward behaviour 0, by computation, where more stand than one: all of them are the number
-- that is asked for 3. No accepted sheet has such nodes.
use Rattle.lib_base.proofs.Prelude.{ℕ, ◌≡◌, refl, false, List, [], ◌∷◌, ◌++◌, replicate}
use Rattle.ask_meets.specs.Marks.{name_mark, push_mark, mark_step, marks_among, marks_packed}
use Rattle.ask_meets.proofs.MarkNumber.{number_among, among_is}

-- a constant and b0, as nodes
abbrev constant : ℕ
constant = 68719476736

abbrev b0 : ℕ
b0 = 73014444032

abbrev left : List ℕ → ℕ → ℕ
left nodes n = marks_packed (marks_among (λ k. false) 0 nodes 0 n)

-- alone or on what does not name it, b0 adds; on a name of itself it does not
pub alone : (left (b0 ∷ []) 1 ≡ 3) × (left (constant ∷ b0 ∷ []) 2 ≡ 3) × (left (b0 ∷ b0 ∷ []) 2 ≡ 15) × (left (b0 ∷ constant ∷ []) 2 ≡ 12)
unfolding name_mark push_mark mark_step marks_among marks_packed
alone = (refl, refl, refl, refl)

-- the 33rd mark drops the lowest, whichever that is
pub full : (left (replicate 32 constant ++ (b0 ∷ [])) 33 ≡ 3) × (left (b0 ∷ replicate 32 constant) 33 ≡ 0)
unfolding name_mark push_mark mark_step marks_among marks_packed
full = (refl, refl)

-- of any nodes it is the number that is worked out with no list
pub without_a_list : (nodes : List ℕ) (n : ℕ) → left nodes n ≡ number_among (λ k. false) 0 nodes 0 n
without_a_list nodes n = among_is (λ k. false) 0 nodes 0 n
