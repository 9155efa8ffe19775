-- The tokens of a sheet's text, worked out from the sheet's bytes alone, as the code does: a byte past the end is 0,
-- and a number bounds each repetition. That of an accepted sheet they are the tokens of the text that describes it is
-- shown in proofs/. A list of bytes here is what stands from a place of the sheet on.
use Rattle.std.specs.Prelude.{ℕ, zero, suc, ◌+◌, ◌/◌, ◌%◌, List, [], ◌∷◌, ◌++◌, length, get_or, drop, ltb, eqb}
use Rattle.lib_base.specs.Basics.{pick}
use Rattle.spec_language.specs.Reading.{phase_of}
use Rattle.source_language.specs.Tokens.{SheetToken, number, name, equals, bracket, unbracket, rank_word, from_word}
use Rattle.source_language.specs.Tokens.{by_word, nobody_word, seen_word, on_word, event_keyword, passive_word}
use Rattle.source_language.specs.Tokens.{active_word, row_word, end_sign}
use Rattle.source_rendering.specs.Describe.{event_name, behaviour_name, described_constant, parameters_from, mark, value_tokens, phase_tokens, parameter_tokens}
use Rattle.sheet_walk.specs.Fields.{after_field, word_in_front, past_fields, cells_in_front}
use Rattle.source_walk.specs.Fields.{needed_in}
use Rattle.source_terms.specs.Terms.{term_tokens}

-- ---- handlers and behaviours, where the behaviours' bytes are bs, of at most n fields

module _ (n : ℕ) (bs : List ℕ) where
  -- the handler in front, and all that follow it
  abbrev pub handler_tokens : List ℕ → List SheetToken
  handler_tokens b = mark on_word (name 0 (event_name (get_or b 3 0)) ∷ (phase_tokens (phase_of (get_or b 4 0)) [] ++ term_tokens n bs 16 6 (drop 5 b)))

  unfoldable pub handlers_tokens : ℕ → List ℕ → List SheetToken
  handlers_tokens zero b = []
  handlers_tokens (suc k) b = pick (eqb (get_or b 0 0) 5) (handler_tokens b ++ handlers_tokens k (after_field b)) []

-- the players from i on whose bits m has, of so many
unfoldable pub bit_tokens : ℕ → ℕ → ℕ → List SheetToken
bit_tokens zero i m = []
bit_tokens (suc k) i m = pick (eqb (m % 2) 1) (number 0 i ∷ []) [] ++ bit_tokens k (i + 1) (m / 2)

-- those of a byte, or nobody
abbrev pub right_tokens : ℕ → List SheetToken
right_tokens m = pick (eqb m 0) (mark nobody_word []) (bit_tokens 8 0 m)

-- who may see, where the bytes begin with that field
abbrev pub viewer_tokens : List ℕ → List SheetToken
viewer_tokens b = pick (eqb (get_or b 0 0) 8) (mark seen_word (mark by_word (right_tokens (get_or b 3 0)))) []

module _ (n : ℕ) (bs : List ℕ) where
  -- a start value and handlers, and who may see, which stands behind them
  abbrev pub active_tokens : List ℕ → List SheetToken
  active_tokens v =
      value_tokens (described_constant (word_in_front (drop 3 v))) []
      ++ (viewer_tokens (past_fields 5 n (drop 7 v)) ++ handlers_tokens n bs n (drop 7 v))

  -- behaviour j, whose value is v: a passive, a row, an active
  abbrev pub passive_tokens : ℕ → List ℕ → List SheetToken
  passive_tokens j v =
      mark passive_word (name 0 (behaviour_name j) ∷ mark equals (term_tokens n bs 16 6 v ++ viewer_tokens (after_field v)))

  abbrev pub row_tokens : ℕ → List ℕ → List SheetToken
  row_tokens j v =
      mark row_word (name 0 (behaviour_name j) ∷ mark bracket (number 0 (get_or v 0 0) ∷ mark unbracket (mark equals (active_tokens (drop 1 v)))))

  abbrev pub state_tokens : ℕ → List ℕ → List SheetToken
  state_tokens j v = mark active_word (name 0 (behaviour_name j) ∷ mark equals (active_tokens v))

  -- the behaviour whose field is in front, and all that follow it; j is less than 64 for each
  abbrev pub entry_tokens : ℕ → List ℕ → List SheetToken
  entry_tokens j b =
      pick (eqb (get_or b 0 0) 2) (passive_tokens j (drop 3 b)) (pick (eqb (get_or b 0 0) 6) (row_tokens j (drop 3 b)) (state_tokens j (drop 3 b)))

  unfoldable pub entries_tokens : ℕ → ℕ → List ℕ → List SheetToken
  entries_tokens zero j b = []
  entries_tokens (suc k) j b =
      pick (eqb (length b) 0) [] (pick (ltb 63 j) [] (entry_tokens j b ++ entries_tokens k (j + cells_in_front b) (after_field b)))

-- ---- events

-- who may send, where the event's field in front says it
abbrev pub sender_tokens : List ℕ → List SheetToken
sender_tokens b = pick (eqb (get_or b 2 0) 2) (mark from_word (right_tokens (get_or b 4 0))) []

-- event i, whose field is in front, and all that follow it
abbrev pub signal_tokens : ℕ → List ℕ → List SheetToken
signal_tokens i b = mark event_keyword (name 0 (event_name i) ∷ mark rank_word (number 0 (get_or b 3 0) ∷ sender_tokens b))

unfoldable pub signals_tokens : ℕ → ℕ → List ℕ → List SheetToken
signals_tokens zero i b = []
signals_tokens (suc k) i b = pick (eqb (get_or b 0 0) 1) (signal_tokens i b ++ signals_tokens k (i + 1) (after_field b)) []

-- ---- the whole

-- what stands behind the events
abbrev pub behaviours_in : List ℕ → List ℕ
behaviours_in s = past_fields 1 (length s) s

unfoldable pub sheet_tokens : List ℕ → List SheetToken
sheet_tokens s =
    parameter_tokens (parameters_from (needed_in 0 0 0 (behaviours_in s)) 0) []
    ++ (signals_tokens 32 0 s
    ++ (entries_tokens (length s) (behaviours_in s) (length s) 0 (behaviours_in s) ++ mark end_sign []))
