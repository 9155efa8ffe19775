-- Worked examples, by computation: 1 before 3, with the limits of table and sheet; 11, 20, 12, 13; and rows in a sheet
-- with a fault (02, M-110): where the sheet written out is answered alike, and where 7 or 8 come first.
use Rattle.lib_base.proofs.Prelude.{ℕ, ◌≤◌, ◌≡◌, refl, ◌∙◌, ap, true, false, List, [], ◌∷◌, ◌++◌, flat_map, length}
use Rattle.lib_base.proofs.Prelude.{replicate, arith}
use Rattle.lib_word.specs.Word.{get_at}
use Rattle.spec_language.specs.Syntax.{immediate, later, Program}
use Rattle.spec_language.specs.Order.{up_to}
use Rattle.spec_language.specs.Sheet.{literal, clause, formula, row, Sheet, cell_count, heads, rename_term, entries_out, rows_out, change_clauses, uses}
use Rattle.spec_language.specs.Grammar.{encode_expr, encode_handlers, encode_behaviours, encode_events, encode}
use Rattle.spec_language.specs.Reading.{Got, bad, got, field_at, read_all, expr_at, handles, sheet, read_sheet}
use Rattle.spec_language.specs.Code.{all_instructions}
use Rattle.check_faults.specs.Faults.{known, cyclic}
use Rattle.spec_grammar.proofs.Examples.{plain, bare, nots}
use Rattle.back_compile.specs.Compiled.{compiled}
use Rattle.back_compile.specs.Verdict.{judge, lacks_parameters, judge_read, compile_on}
use Rattle.back_compile.specs.Statements.{RowsFit}
use Rattle.back_compile.proofs.JudgeLaws.{compile_opens}
use Rattle.back_compile.proofs.RowsOut.{as_rows}

-- ---- "1 short table: compile: table under 34,816 bytes"; "3 long sheet: over 8,192 bytes"; "Compile: 1, 2, 3"

pub one_before_three : (s ps t : List ℕ) → length s ≡ 8193
    → ((length t ≡ 34815 → compile_on s ps t ≡ compiled 1 t) × (length t ≡ 34816 → compile_on s ps t ≡ compiled 3 t))
unfolding compile_on
one_before_three s ps t a = (λ b. rw b, λ b. rw (b, a))

pub longest : (s ps t : List ℕ) → length s ≡ 8192 → length t ≡ 34816 → compile_on s ps t ≡ judge_read (read_sheet s) ps t
unfolding compile_on
longest s ps t a b = rw (b, a)

-- ---- one event, a row of 2, then a passive with 16 `!`: 9, and so the sheet written out

abbrev deep : Sheet
deep = sheet (plain 0 ∷ []) (bare (row 2 1 []) ∷ bare (formula (nots 16 (literal 1))) ∷ [])

deep_read : (read_sheet (encode deep) ≡ bad 9) × (read_sheet (encode (rows_out deep)) ≡ bad 9)
unfolding entries_out flat_map heads rename_term change_clauses up_to encode encode_events encode_behaviours encode_handlers encode_expr read_sheet read_all handles expr_at field_at get_at cell_count
deep_read = (refl, refl)

deep_lengths : (length (encode deep) ≡ 89) × (length (encode (rows_out deep)) ≡ 98)
unfolding entries_out flat_map heads rename_term change_clauses up_to encode encode_events encode_behaviours encode_handlers encode_expr
deep_lengths = (refl, refl)

deep_fits : RowsFit deep
unfolding cell_count
deep_fits = (as_rows deep).fits ((omega arith, omega arith), (tt, tt)) (omega arith)

pub deep_alike : (ps t : List ℕ) → 34816 ≤ length t
    → RowsFit deep × (compile_on (encode deep) ps t ≡ compiled 9 t) × (compile_on (encode (rows_out deep)) ps t ≡ compiled 9 t)
deep_alike ps t room = (
  deep_fits,
  compile_opens (encode deep) ps t room (omega (arith, deep_lengths.0)) ∙ ap (λ (g : Got Sheet). judge_read g ps t) deep_read.0,
  compile_opens (encode (rows_out deep)) ps t room (omega (arith, deep_lengths.1)) ∙ ap (λ (g : Got Sheet). judge_read g ps t) deep_read.1,
)

-- ---- a row of 17 behind the 64th behaviour: 7, and so the sheet written out

abbrev behind : Sheet
behind = sheet [] (replicate 64 (bare (formula (literal 1))) ++ (bare (row 17 1 []) ∷ []))

pub behind_alike : (read_sheet (encode behind) ≡ bad 7) × (read_sheet (encode (rows_out behind)) ≡ bad 7)
unfolding entries_out flat_map heads rename_term change_clauses up_to encode encode_events encode_behaviours encode_handlers encode_expr read_sheet read_all handles expr_at field_at get_at cell_count
behind_alike = (refl, refl)

-- ---- what is asked of rows is needed: only the second cell of a row is the 65th behaviour, and its handlers are
-- doubled: 7, and 10 where it is written out; a row of 17 cells: 8, and none

abbrev past : Sheet
past = sheet (plain 0 ∷ []) (replicate 63 (bare (formula (literal 1))) ++ (bare (row 2 1 (clause 0 immediate (literal 1) ∷ clause 0 later (literal 1) ∷ [])) ∷ []))

abbrev wide : Sheet
wide = sheet [] (bare (row 17 1 []) ∷ [])

pub needed : (read_sheet (encode past) ≡ bad 7) × (read_sheet (encode (rows_out past)) ≡ bad 10) × (read_sheet (encode wide) ≡ bad 8) × (read_sheet (encode (rows_out wide)) ≡ got (rows_out wide) [])
unfolding entries_out flat_map heads rename_term change_clauses up_to encode encode_events encode_behaviours encode_handlers encode_expr read_sheet read_all handles expr_at field_at get_at cell_count
needed = (refl, refl, refl, refl)

-- ---- "then 11, 12, 13", 20 after 11; 4,096 instructions; 32 bytes of parameters

pub verdicts : (p : Program) (t : List ℕ)
    → ((known p ≡ false → judge p true t ≡ compiled 11 t) × (known p ≡ true → judge p true t ≡ compiled 20 t)
    × (known p ≡ true → cyclic p ≡ true → judge p false t ≡ compiled 12 t)
    × (known p ≡ true → cyclic p ≡ false → all_instructions p ≡ 4097 → judge p false t ≡ compiled 13 t)
    × (known p ≡ true → cyclic p ≡ false → all_instructions p ≡ 4096 → (judge p false t).0 ≡ 0))
unfolding judge
verdicts p t = (λ k. rw k, λ k. rw k, λ k c. rw (k, c), λ k c n. rw (k, c, n), λ k c n. rw (k, c, n))

pub lacking : (s : Sheet) (ps : List ℕ) → uses s ≡ true → ((length ps ≡ 31 → lacks_parameters s ps ≡ true) × (length ps ≡ 32 → lacks_parameters s ps ≡ false))
lacking s ps u = (λ n. rw (u, n), λ n. rw (u, n))
