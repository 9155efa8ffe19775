-- What a joined sheet is beside its two sheets, as a claim about the exported functions: `join_on`, `compile_on`,
-- `start_on` and, within `bytes_after`, the calls' are what their contracts cite. 02, M-111: "After the same commits,
-- each half of the joined board equals that sheet's own board, events that it doesn't declare being passed over." and
-- "A player may send a shared event only where both sheets allow it". It is said of lists of calls: a change (M-112)
-- would take the joined round to a sheet that need not be joined from two.
use Rattle.std.specs.Prelude.{ℕ, ◌+◌, ◌≤◌, ◌<◌, false, ◌&&◌, ◌≡◌, List, ◌++◌, map, length, get_or, take, drop}
use Rattle.spec_language.specs.Syntax.{Program}
use Rattle.spec_language.specs.Sheet.{Sheet}
use Rattle.spec_language.specs.Dependence.{size, events}
use Rattle.spec_language.specs.Rights.{may_send, may_see}
use Rattle.spec_language.specs.Answers.{told}
use Rattle.spec_model.specs.Model.{Call, call}
use Rattle.spec_model.specs.Claims.{engine_after, committed_in, events_of, copy_back_in}
use Rattle.back_compile.specs.Verdict.{compile_on}
use Rattle.back_compile.specs.Compiled.{program_of}
use Rattle.link_pooled.specs.Pooled.{pooled}
use Rattle.link_pooled.specs.Declared.{declared}
use Rattle.link_join.specs.Join.{join_on}
use Rattle.link_join.specs.Joined.{joined}
use Rattle.run_start.specs.Start.{start_on}
use Rattle.refine_calls.specs.Refinement.{calls, bytes, bytes_after}
use Rattle.refine_lists.specs.Lists.{board_of, Prepared}

-- the board after the calls cs on the table t of program p and the round that start makes fresh in the bytes l
abbrev pub board_after : Program → List ℕ → List ℕ → List Call → List ℕ
board_after p t l cs = board_of p (bytes_after (map calls cs) (bytes t (start_on t l).1)).round

-- "After the same commits, .. events that it doesn't declare being passed over": of the events that j commits in the
-- calls cs, p commits in the calls ds those that it declares, in the same order
abbrev pub SameCommits : Program → List Call → Program → List Call → Type 0
SameCommits j cs p ds = events_of (committed_in p (map call ds)) ≡ declared p (events_of (committed_in j (map call cs)))

-- "unless a copy-back is under way" (demand 3)
abbrev pub NoCopyBack : Program → List Call → Type 0
NoCopyBack p cs = copy_back_in p (engine_after p (map call cs)) ≡ false

-- the programs p and q of the two sheets, that of the joined sheet, j, and their tables
pub record Halves (p q j : Program) (t₀ l₀ t₁ l₁ t₂ l₂ : List ℕ) : Type 0 where
  -- "each half of the joined board equals that sheet's own board", each by itself: as many values as the first sheet
  -- has behaviours, then those of the second
  pub first_half : (cs ds : List Call) → NoCopyBack j cs → NoCopyBack p ds → SameCommits j cs p ds
      → take (size p) (board_after j t₀ l₀ cs) ≡ board_after p t₁ l₁ ds
  pub second_half : (cs ds : List Call) → NoCopyBack j cs → NoCopyBack q ds → SameCommits j cs q ds
      → drop (size p) (board_after j t₀ l₀ cs) ≡ board_after q t₂ l₂ ds
  -- "A player may send a shared event only where both sheets allow it", another where its sheet does
  pub send_shared : (player e : ℕ) → e < events p → e < events q → may_send j player e ≡ may_send p player e && may_send q player e
  pub send_first : (player e : ℕ) → events q ≤ e → may_send j player e ≡ may_send p player e
  pub send_second : (player e : ℕ) → events p ≤ e → may_send j player e ≡ may_send q player e
  -- who sees a behaviour stays
  pub see_first : (player i : ℕ) → i < size p → may_see j player i ≡ may_see p player i
  pub see_second : (player i : ℕ) → may_see j player (size p + i) ≡ may_see q player i
  -- an event has the rank that each sheet gives it
  pub rank_first : (e : ℕ) → e < events p → get_or j.priorities e 0 ≡ get_or p.priorities e 0
  pub rank_second : (e : ℕ) → e < events q → get_or j.priorities e 0 ≡ get_or q.priorities e 0

-- every two sheets x and y that compile accepts as the bytes s and z with the same parameters ps, and any table and
-- round bytes of 01's lengths for the joined one, where join has delivered the bytes v in the buffer: the joined sheet
-- is the one pooled from both, compile takes its bytes v, and its round is the two sheets' side by side
abbrev pub HalfBoards : Type 0
HalfBoards =
    (s z ps buffer v t₀ l₀ t₁ l₁ t₂ l₂ : List ℕ) (x y : Sheet) → Prepared s ps t₁ l₁ x → Prepared z ps t₂ l₂ y
    → 34816 ≤ length t₀ → 2048 ≤ length l₀
    → join_on s z ps buffer ≡ joined (told (length v)) (v ++ drop (length v) buffer)
    → Prepared v ps t₀ l₀ (pooled x y)
    × Halves (program_of ps x) (program_of ps y) (program_of ps (pooled x y)) (compile_on v ps t₀).1 l₀ (compile_on s ps t₁).1 l₁ (compile_on z ps t₂).1 l₂
