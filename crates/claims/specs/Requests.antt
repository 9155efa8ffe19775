-- Document 02, request by request, as far as it is no part of demand 3's lists (M-100, M-101, M-104, M-112 and M-113
-- are: engine, Demand.antt): each sentence, and the part that states it, of the functions that the contracts cite.
use Rattle.std.specs.Prelude.{ℕ, ◌-◌, ◌≤◌, ◌<◌, ◌^◌, true, ◌≡◌, ◌≢◌, ◌⊎◌, List, ◌++◌, map, pos, ◌+ℤ◌, ◌*ℤ◌, ◌≤ℤ◌, ◌<ℤ◌, length, get_or, drop}
use Rattle.std.proofs.Math.Option.{Option, none, some}
use Rattle.lib_word.specs.Word.{get}
use Rattle.lib_arith.specs.Exact.{signed}
use Rattle.lib_arith.specs.Functions.{result_of}
use Rattle.spec_language.specs.Syntax.{Expr, Program}
use Rattle.spec_language.specs.Dependence.{events, Acyclic}
use Rattle.spec_language.specs.Sheet.{Sheet, Entry, param, fill_term, fill, as_written_out, rows_out, params_of_entries}
use Rattle.spec_language.specs.Reading.{signal}
use Rattle.spec_language.specs.Grammar.{encode, SheetFits}
use Rattle.spec_language.specs.Accepted.{Known, SheetAccepted}
use Rattle.spec_language.specs.Code.{code, size_of, instructions}
use Rattle.spec_language.specs.Rights.{may, may_send, may_see}
use Rattle.text_formula.specs.Grammar.{Formula}
use Rattle.text_formula.specs.Answer.{answered, field_answer}
use Rattle.text_formula.specs.Formula.{formula_on}
use Rattle.text_formula.specs.Statements.{BufferKept, Fields}
use Rattle.back_compile.specs.Verdict.{compile_on}
use Rattle.back_compile.specs.Number.{number_on}
use Rattle.back_compile.specs.Compiled.{program_of}
use Rattle.back_compile.specs.Statements.{FirstUnmet, Given, AsRows}
use Rattle.back_figure3.specs.Figure3.{Assign, FirstPhaseRule, SecondPhaseRule, every_behaviour, PassivesAcyclic, HandlerCode}
use Rattle.engine.specs.Demand.{CodeIn}
use Rattle.ask_circle.specs.Witness.{CircleListed, Witnessed}
use Rattle.link_pooled.specs.Pooled.{pooled, same_ranks}
use Rattle.link_join.specs.Join.{join_on}
use Rattle.link_join.specs.Joined.{joined}
use Rattle.link_join.specs.Statements.{limits, JoinOrder}
use Rattle.claims.specs.Demand2.{AreBytes}

-- ---- M-102: halves go down

pub record HalvesGoDown : Type 0 where
  -- "A quotient with a fraction goes to the next whole number below": of words a and b as signed numbers, b above zero,
  -- the quotient times b is at most a, and one more is too much
  pub at_most : (a b c : ℕ) → a < 2 ^ 32 → 0 < b → b < 2 ^ 31 → (signed (result_of 7 a b c) *ℤ signed b) ≤ℤ signed a
  pub next_above : (a b c : ℕ) → a < 2 ^ 32 → 0 < b → b < 2 ^ 31 → signed a <ℤ ((signed (result_of 7 a b c) +ℤ pos 1) *ℤ signed b)
  -- the other way round for b below zero, unless the quotient is 2,147,483,648
  pub at_least : (a b c : ℕ) → a < 2 ^ 32 → 2 ^ 31 ≤ b → b < 2 ^ 32 → (a ≢ 2 ^ 31) ⊎ (b ≢ 2 ^ 32 - 1) → signed a ≤ℤ (signed (result_of 7 a b c) *ℤ signed b)
  pub next_below : (a b c : ℕ) → a < 2 ^ 32 → 2 ^ 31 ≤ b → b < 2 ^ 32 → (a ≢ 2 ^ 31) ⊎ (b ≢ 2 ^ 32 - 1)
      → ((signed (result_of 7 a b c) +ℤ pos 1) *ℤ signed b) <ℤ signed a
  -- "By zero still gives 0"
  pub by_zero : (a c : ℕ) → result_of 7 a 0 c ≡ 0
  -- "so −7 / 2 is −4 and 7 / −2 is −4; 7 / 2 stays 3", "and −2,147,483,648 / −1 still wraps to itself", as words
  pub minus_seven_by_two : result_of 7 (2 ^ 32 - 7) 2 0 ≡ 2 ^ 32 - 4
  pub seven_by_minus_two : result_of 7 7 (2 ^ 32 - 2) 0 ≡ 2 ^ 32 - 4
  pub seven_by_two : result_of 7 7 2 0 ≡ 3
  pub least_by_minus_one : result_of 7 (2 ^ 31) (2 ^ 32 - 1) 0 ≡ 2 ^ 31

-- ---- M-103: easy and hard from one sheet

pub record Parameters : Type 0 where
  -- "It counts as one in an expression's size": by definition
  pub counts_one : (v : ℕ → ℕ) (n : ℕ) → size_of (fill_term v (param n)) ≡ 1
  -- ".. and means the same as the constant written there. So everything known of a sheet without parameters is known of
  -- each filling, except that 3 counts the bytes as sent and not those of the filling.": compile's answer, a refusal
  -- too, and the table's bytes are the same for the sheet and for that in which each parameter is written out as its
  -- constant, with whatever the second is lent, where neither has over 8,192 bytes and no parameter is above 7
  pub written : (x : Sheet) (ps : List ℕ) → 32 ≤ length ps → params_of_entries x.entries ≤ 8 → length (encode x) ≤ 8192
      → length (encode (as_written_out (get ps) x)) ≤ 8192
      → (qs t : List ℕ) → compile_on (encode x) ps t ≡ compile_on (encode (as_written_out (get ps) x)) qs t
  -- "Compile is lent eight signed 32-bit values, 32 bytes": what is lent beyond them is not read
  pub more_unread : (s ps qs t : List ℕ) → AreBytes s → 32 ≤ length ps → compile_on s (ps ++ qs) t ≡ compile_on s ps t

-- ---- M-105: formulas as we write them

pub record Formulas : Type 0 where
  -- "The grammar is written down apart from the reader, each text has one reading"
  pub one_reading : {text : List ℕ} {d e : Expr} → Formula text d → Formula text e → d ≡ e
  -- "A formula of at most 1,024 bytes becomes one expression field at the start of a lent buffer, whose other bytes
  -- stay; its length is returned." "22, checked next", "9 comes after 22", "23, checked last"
  pub within : {text : List ℕ} {e : Expr} (buffer : List ℕ) → length text ≤ 1024 → Formula text e → formula_on text buffer ≡ field_answer e buffer
  -- ".. and all texts outside it are turned down": "21 when the text is outside this grammar or over 1,024 bytes"
  pub outside : (text buffer : List ℕ) → (1024 < length text) ⊎ ((e : Expr) → Formula text e → ⊥) → formula_on text buffer ≡ answered 21 buffer
  pub only_outside : (text buffer : List ℕ) → (formula_on text buffer).0 ≡ 21 → (1024 < length text) ⊎ ((e : Expr) → Formula text e → ⊥)
  pub unchanged : (text buffer : List ℕ) → BufferKept buffer (formula_on text buffer)
  -- the field is one that compile reads, and means the formula
  pub field : (text buffer : List ℕ) → Fields text buffer (formula_on text buffer)

-- ---- M-107: players and what they may do (the rule for a player: secrecy_engine)

-- who may see behaviour i, as the sheet with its rows written out says it: none where the field 08 is missing
abbrev pub sent_viewer : Sheet → ℕ → Option ℕ
sent_viewer s i = get_or (map (λ (b : Entry). b.viewer) (rows_out s).entries) i none

abbrev pub sent_sender : Sheet → ℕ → Option ℕ
sent_sender s e = (get_or s.signals e (signal 0 none)).sender

pub record Rights : Type 0 where
  -- "The host may do everything"
  pub host_sends : (p : Program) (e : ℕ) → may_send p 0 e ≡ true
  pub host_sees : (p : Program) (i : ℕ) → may_see p 0 i ≡ true
  -- "An event field may have length 2, its second byte saying who may send it (bit n for player n)."
  pub sends : (v : ℕ → ℕ) (s : Sheet) (e : ℕ) → e < length s.signals → (m : ℕ) → sent_sender s e ≡ some m → (who : ℕ) → may_send (fill v s) who e ≡ may m who
  -- "A behaviour may end with a field 08 of length 1, saying likewise who may see it."
  pub sees : (v : ℕ → ℕ) (s : Sheet) (i : ℕ) → i < length (rows_out s).entries → (m : ℕ) → sent_viewer s i ≡ some m
      → (who : ℕ) → may_see (fill v s) who i ≡ may m who
  -- "Where either is missing, everybody may."
  pub all_send : (v : ℕ → ℕ) (s : Sheet) (e : ℕ) → e < length s.signals → sent_sender s e ≡ none → (who : ℕ) → who < 8 → may_send (fill v s) who e ≡ true
  pub all_see : (v : ℕ → ℕ) (s : Sheet) (i : ℕ) → i < length (rows_out s).entries → sent_viewer s i ≡ none → (who : ℕ) → who < 8
      → may_see (fill v s) who i ≡ true

-- ---- M-108: show me the circle

pub record Circles : Type 0 where
  -- "For a sheet refused by 12, a call lists the behaviours of a circle, each depending on the next, with the event it
  -- arises under, or none. No circle of fewer behaviours exists under an event or under none.": what the contract says
  -- of the answer r and the list after it (`Witnessed`) is that of the sheet that the bytes encode, whatever list is
  -- lent
  pub listed : (s ps list : List ℕ) → AreBytes s → number_on s ps ≡ 12 → {r : ℕ} {list' : List ℕ} → Witnessed s ps list r list'
      → (x : Sheet) × (encode x ≡ s) × SheetFits x × Known (program_of ps x) × Given ps x × CircleListed (program_of ps x) list r list'
  -- "It is lent a sheet and parameters; any other sheet gets compile's number as with a full table, or 0, and no list."
  pub others : (s ps list : List ℕ) → number_on s ps ≢ 12 → {r : ℕ} {list' : List ℕ} → Witnessed s ps list r list' → (r ≡ number_on s ps) × (list' ≡ list)
  pub full_table : (s ps t : List ℕ) → 34816 ≤ length t → (compile_on s ps t).0 ≡ number_on s ps

-- ---- M-109: the compiler in the paper's order

pub record PaperOrder : Type 0 where
  -- "it is shown which instructions each step gives, an event's code being the copy's, phase one's, phase two's and the
  -- copy-back's in a row": of the table that compile leaves, for every accepted sheet and each event
  pub in_the_table : (s ps t : List ℕ) → AreBytes s → AreBytes ps → (x : Sheet) → encode x ≡ s → SheetAccepted (get ps) (length ps) x
      → 34816 ≤ length t → (e : ℕ) → e < events (program_of ps x)
      → HandlerCode (program_of ps x) e × CodeIn (program_of ps x) (compile_on s ps t).1 e
  -- "So an event has 4 + 2 × (members of C) + .." instructions: of every such sheet and each event
  pub counted : (ps : List ℕ) → AreBytes ps → (x : Sheet) → SheetAccepted (get ps) (length ps) x → (e : ℕ) → e < events (program_of ps x)
      → length (code (program_of ps x) e) ≡ instructions (program_of ps x) e
  -- "the check on dependence": no first phase is derived for an event with a circle, and no second one where passives
  -- are in one
  pub first_acyclic : (p : Program) (e : ℕ) {A : List Assign} → FirstPhaseRule p e (every_behaviour p) A → Acyclic p e
  pub second_acyclic : (p : Program) (e : ℕ) {A : List Assign} → SecondPhaseRule p e (every_behaviour p) A → PassivesAcyclic p e

-- ---- M-110: rows for grid puzzles

pub record Rows : Type 0 where
  -- "It means the sheet in which each cell is written out as an active, only that 3 counts the bytes as sent."
  -- "Circles, rights, instruction counts and commits are those of the sheet written out."
  pub written_out : (x : Sheet) → AsRows x

-- ---- M-111: pool two sheets (each half of the joined board: refine_halves)

-- an event that both sheets declare has one rank
abbrev pub LikeRanks : Sheet → Sheet → Type 0
LikeRanks x y =
    (e : ℕ) → e < length x.signals → e < length y.signals → (get_or x.signals e (signal 0 none)).priority ≡ (get_or y.signals e (signal 0 none)).priority

pub record Pooling : Type 0 where
  -- "26 when the sheets give one event different ranks": what `JoinOrder` asks first is that none does
  pub like_ranks : (x y : Sheet) → (same_ranks x.signals y.signals ≡ true → LikeRanks x y) × (LikeRanks x y → same_ranks x.signals y.signals ≡ true)
  -- "A sheet that compile turns down gives compile's number, the first sheet's before the second's"
  pub first_refused : (s z ps buffer : List ℕ) → number_on s ps ≢ 0 → join_on s z ps buffer ≡ joined (number_on s ps) buffer
  pub second_refused : (s z ps buffer : List ℕ) → number_on s ps ≡ 0 → number_on z ps ≢ 0 → join_on s z ps buffer ≡ joined (number_on z ps) buffer
  -- of two accepted ones: every refusal in its order, or the length
  pub answer : (ps buffer : List ℕ) → AreBytes ps → (x y : Sheet) → SheetAccepted (get ps) (length ps) x → SheetAccepted (get ps) (length ps) y
      → JoinOrder ps buffer x y (join_on (encode x) (encode y) ps buffer).0
  -- "A join writes one sheet from two accepted ones to the start of a lent buffer, whose other bytes stay, and returns
  -- its length"; what is refused leaves all of it
  pub written : (ps buffer : List ℕ) → AreBytes ps → (x y : Sheet) → SheetAccepted (get ps) (length ps) x → SheetAccepted (get ps) (length ps) y
      → 2 ^ 32 ≤ (join_on (encode x) (encode y) ps buffer).0
      → (join_on (encode x) (encode y) ps buffer).1 ≡ encode (pooled x y) ++ drop (length (encode (pooled x y))) buffer
  pub unchanged : (s z ps buffer : List ℕ) → (join_on s z ps buffer).0 < 2 ^ 32 → (join_on s z ps buffer).1 ≡ buffer
  -- "The result must pass compile's 3, 7 and 13, checked in that order": compile has no other number for it
  pub number : (ps : List ℕ) → ((n : ℕ) → n < 8 → get ps n < 2 ^ 32) → (a b : Sheet) → SheetAccepted (get ps) (length ps) a
      → SheetAccepted (get ps) (length ps) b → FirstUnmet (limits ps (pooled a b)) (λ r. r ≡ 0) (number_on (encode (pooled a b)) ps)
