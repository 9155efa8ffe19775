-- What the engine relies on in an event's code: its count, where it is masked, that it leaves the store alone until
-- copy-back, and that the whole of it is the event's meaning and marks what runs over there.
use Rattle.std.specs.Prelude.{ℕ, ◌+◌, ◌*◌, ◌-◌, ◌≤◌, ◌<◌, Bool, true, false, ◌≡◌, List, length, take, leb, eqb}
use Rattle.lib_base.specs.Basics.{pick}
use Rattle.spec_language.specs.Syntax.{Program}
use Rattle.spec_language.specs.Dependence.{size, events}
use Rattle.spec_language.specs.Code.{code, members, instructions}
use Rattle.spec_semantics.specs.Event.{event}
use Rattle.spec_semantics.specs.OverMeaning.{event_over}
use Rattle.spec_execution.specs.Execution.{emptied, masked_after, copying_back_after}
use Rattle.spec_execution.specs.Runs.{execute_all}

-- of an event of len instructions and m members of C, with c instructions done: a copy-back is under way; interrupts
-- are masked
abbrev pub copying_back_at : ℕ → ℕ → ℕ → Bool
copying_back_at len m c = leb (len - (m + 1)) c

abbrev pub masked_at : ℕ → ℕ → ℕ → Bool
masked_at len m c = pick (copying_back_at len m c) true (pick (eqb c 0) false (leb c (m + 1)))

pub record CodeFacts (p : Program) : Type 0 where
  pub long : (e : ℕ) → e < events p → 4 + 2 * members p e ≤ length (code p e)
  pub counted : (e : ℕ) → e < events p → length (code p e) ≡ instructions p e
  pub masks : (e c : ℕ) → e < events p → c < length (code p e) → masked_after (take c (code p e)) ≡ masked_at (length (code p e)) (members p e) c
  pub copies_back : (e c : ℕ) → e < events p → c < length (code p e) → copying_back_after (take c (code p e)) ≡ copying_back_at (length (code p e)) (members p e) c
  pub quiet : (e c : ℕ) → e < events p → (s : List ℕ) → length s ≡ size p → c < length (code p e) → copying_back_after (take c (code p e)) ≡ false
      → (execute_all (take c (code p e)) (emptied s)).store ≡ s
  pub right : (e : ℕ) → e < events p → (s : List ℕ) → length s ≡ size p → (execute_all (code p e) (emptied s)).store ≡ event p e s
  pub kept : (e : ℕ) → e < events p → (s : List ℕ) → length s ≡ size p → length (event p e s) ≡ size p
  pub marked : (e : ℕ) → e < events p → (s : List ℕ) → length s ≡ size p → (execute_all (code p e) (emptied s)).mark ≡ event_over p e s
