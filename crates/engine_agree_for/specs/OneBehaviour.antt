-- Agreement on one behaviour: what the call `agree_for` says of a sheet, and what its 0 promises. "In the sheet filled
-- and with rows written out, let D be what the behaviour depends on (..; itself included). 0 exactly if no two events
-- of unequal rank meet in D. Theorem: then this behaviour's value is equal on both phones when both are idle, for every
-- two lists as in demand 3 .., whatever the rest of the board does." D and where two events meet: crate ask_commute,
-- Meets.antt, `Cone` and `MeetAt`.
use Rattle.std.specs.Prelude.{ℕ, ◌≤◌, ◌<◌, ◌≡◌, ◌≢◌, List, map, length}
use Rattle.lib_base.specs.Basics.{All}
use Rattle.lib_word.specs.Word.{get}
use Rattle.spec_language.specs.Sheet.{Sheet}
use Rattle.spec_language.specs.Grammar.{encode}
use Rattle.spec_language.specs.Accepted.{SheetAccepted}
use Rattle.spec_language.specs.Dependence.{size}
use Rattle.spec_semantics.specs.Meaning.{at}
use Rattle.spec_model.specs.Model.{Call, call}
use Rattle.spec_model.specs.Claims.{taken_in_by, events_of}
use Rattle.ask_commute.specs.Meets.{Cone, NoneMeet}
use Rattle.back_compile.specs.Number.{number_on}
use Rattle.back_compile.specs.Compiled.{program_of}
use Rattle.refine_calls.specs.Refinement.{calls, bytes_after}
use Rattle.refine_lists.specs.Lists.{board_of, IdleNow, SheetTurn, calling, mending, fresh_round_on, TwoRounds, TwoListsWhere, TwoCallsWhere}
use Rattle.ask_agree.specs.Agree.{agree_on}
use Rattle.ask_agree_for.specs.AgreeFor.{agree_for_on}
use Rattle.ask_agree_for.specs.Claims.{EncounterNamed}

-- of a sheet that compile accepts, with the bytes ps lent for its parameters, and the number b
pub record AgreeForAnswer (s ps : List ℕ) (b : ℕ) (x : Sheet) : Type 0 where
  -- 18 for a number that is no behaviour's
  pub none_such : size (program_of ps x) ≤ b → agree_for_on s ps b ≡ 18
  -- "0 exactly if no two events of unequal rank meet in D"
  pub zero_if : b < size (program_of ps x) → NoneMeet (program_of ps x) (Cone (program_of ps x) b) → agree_for_on s ps b ≡ 0
  pub only_if : b < size (program_of ps x) → agree_for_on s ps b ≡ 0 → NoneMeet (program_of ps x) (Cone (program_of ps x) b)
  -- "or 29 with two events of unequal rank and the behaviour at which they meet, the least ones"
  pub named : b < size (program_of ps x) → agree_for_on s ps b ≢ 0 → EncounterNamed (program_of ps x) (Cone (program_of ps x) b) (agree_for_on s ps b)
  -- a 0 of `agree` implies it
  pub implied : b < size (program_of ps x) → agree_on s ps ≡ 0 → agree_for_on s ps b ≡ 0

-- of every sheet, and of bytes that compile turns down
abbrev pub AgreeForAnswers : Type 0
AgreeForAnswers =
    (s ps : List ℕ) (b : ℕ) → All (λ v. v < 256) s → All (λ v. v < 256) ps
    → ((x : Sheet) → encode x ≡ s → SheetAccepted (get ps) (length ps) x → AgreeForAnswer s ps b x)
    × (number_on s ps ≢ 0 → agree_for_on s ps b ≡ number_on s ps)

-- ---- one behaviour's word, on two lists of calls

abbrev pub OneValue : Type 0
OneValue =
    (s ps qs t₀ l₀ t₁ l₁ : List ℕ) (x : Sheet) → TwoRounds s ps qs t₀ l₀ t₁ l₁ x
    → (cs ds : List Call)
    → events_of (taken_in_by (program_of ps x) (map call cs)) ≡ events_of (taken_in_by (program_of ps x) (map call ds))
    → (b : ℕ) → b < size (program_of ps x) → agree_for_on s ps b ≡ 0
    → IdleNow (bytes_after (map calls cs) (fresh_round_on s ps t₀ l₀)) → IdleNow (bytes_after (map calls ds) (fresh_round_on s qs t₁ l₁))
    → at (board_of (program_of ps x) (bytes_after (map calls cs) (fresh_round_on s ps t₀ l₀)).round) b
    ≡ at (board_of (program_of ps x) (bytes_after (map calls ds) (fresh_round_on s qs t₁ l₁)).round) b

-- ---- the whole board, where the answer is 0 for every behaviour

abbrev pub ZeroForEach : List ℕ → List ℕ → Type 0
ZeroForEach s ps = (b : ℕ) → agree_for_on s ps b ≢ 18 → agree_for_on s ps b ≡ 0

abbrev pub EachAgrees : Type 0
EachAgrees = TwoCallsWhere (λ s ps p cs. ZeroForEach s ps)

-- with changes of sheets (02, M-112), where it is so of each sheet
abbrev pub EachAgreesToo : SheetTurn → Type 0
EachAgreesToo (calling c) = Unit {0}
EachAgreesToo (mending s ps t) = ZeroForEach s ps

abbrev pub EachRoundAgrees : Type 0
EachRoundAgrees = TwoListsWhere (λ s ps p xs ts. ZeroForEach s ps × All EachAgreesToo xs)
