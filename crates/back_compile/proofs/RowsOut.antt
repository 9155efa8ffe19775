-- 02, M-110: a row "means the sheet in which each cell is written out as an active, only that 3 counts the bytes as
-- sent. .. Circles, rights, instruction counts and commits are those of the sheet written out. The facts are shown for
-- every cell count together." The sheet written out has the same first fault, or none (crate spec_grammar), uses the
-- same parameters and means the same program.
use Rattle.lib_base.proofs.Prelude.{ℕ, ◌≤◌, ◌+◌, suc, zero, ◌≡◌, refl, ◌∙◌, sym, ap, by_cases, List, [], ◌∷◌, length}
use Rattle.lib_base.proofs.Prelude.{dec_lt, arith}
use Rattle.lib_base.specs.Basics.{All}
use Rattle.lib_base.proofs.Tools.{all_split}
use Rattle.lib_word.specs.Word.{get}
use Rattle.spec_language.specs.Syntax.{Program}
use Rattle.spec_language.specs.Sheet.{row, Entry, Sheet, cell_count, rows_out}
use Rattle.spec_language.specs.Grammar.{encode}
use Rattle.spec_language.specs.Reading.{Got, got, entry, read_sheet}
use Rattle.spec_language.proofs.RowLaws.{count_append, uses_out, means_rows_out}
use Rattle.spec_grammar.proofs.Faults.{result_of, sheet_fault, sheet_result}
use Rattle.spec_grammar.proofs.Rows.{RowsSound, fault_before, fits_faultless, fault_rows, faultless_some}
use Rattle.back_compile.specs.Verdict.{judge, lacks_parameters, judge_read}
use Rattle.back_compile.specs.Compiled.{program_of}
use Rattle.back_compile.proofs.JudgeLaws.{compile_opens, compile_short}
use Rattle.back_compile.proofs.Orders.{after_reading}
use Rattle.back_compile.specs.Statements.{CountFits, RowsFit, AsRows}

-- a result without a fault
read_back : (n : ℕ) (x : Sheet) (g : Got Sheet) → g ≡ result_of n x [] → n ≡ 0 → g ≡ got x []
read_back zero x g e h = e
read_back (suc n) x g e h = absurd (omega arith)

module _ (x : Sheet) where
  rows_judged : sheet_fault x ≡ 0 → (ps t : List ℕ) → judge (program_of ps x) (lacks_parameters x ps) t ≡ judge (program_of ps (rows_out x)) (lacks_parameters (rows_out x) ps) t
  rows_judged f ps t = rw (uses_out x (faultless_some x f)) (ap (λ (p : Program). judge p (lacks_parameters x ps) t) (sym (means_rows_out (get ps) x)))

  -- the same fault, or both are judged
  alike : (n : ℕ) → sheet_fault x ≡ n → (ps t : List ℕ) → judge_read (result_of n x []) ps t ≡ judge_read (result_of n (rows_out x) []) ps t
  alike zero f ps t = rows_judged f ps t
  alike (suc n) f ps t = refl

  sound : RowsFit x → RowsSound (fault_before x) (length x.signals) 0 x.entries
  sound h before after c s hs m q f =
      let r = h before after c s hs m q (read_back _ _ _ (sheet_result _) f) in
      let z : 0 + cell_count before ≡ cell_count before = omega arith in
      rw z (r.0, λ a. ((r.1 a).0, (r.1 a).1, λ b. fits_faultless (length x.signals) hs ((r.1 a).2 b)))

  read_alike : RowsFit x → (ps t : List ℕ) → judge_read (read_sheet (encode x)) ps t ≡ judge_read (read_sheet (encode (rows_out x))) ps t
  read_alike h ps t = rw (sheet_result x, sheet_result (rows_out x), fault_rows x (sound h)) (alike (sheet_fault x) refl ps t)

  rows_fit : All (λ (b : Entry). CountFits b.item) x.entries → cell_count x.entries ≤ 64 → RowsFit x
  unfolding cell_count
  rows_fit f few before after c s hs m q met =
      let r = (all_split (λ (b : Entry). CountFits b.item) before (entry (row c s hs) m ∷ after) (rw q at f)).1.0 in
      let k : cell_count before + (c + cell_count after) ≤ 64 = rw (q, count_append before (entry (row c s hs) m ∷ after)) at few in
      (omega (arith, r.0), λ a. (r.0, r.1, λ b. absurd (omega arith)))

  pub as_rows : AsRows x
  as_rows = record {
    same = λ f a b ps t. by_cases (dec_lt (length t) 34816)
        (λ c. compile_short (encode x) ps t c ∙ sym (compile_short (encode (rows_out x)) ps t c))
        (λ c. compile_opens (encode x) ps t (omega arith) a ∙ read_alike f ps t ∙ sym (compile_opens (encode (rows_out x)) ps t (omega arith) b));
    sent = λ f a ps t room. rw (compile_opens (encode x) ps t room a, read_alike f ps t) (after_reading (encode (rows_out x)) ps t);
    fits = rows_fit;
    program = λ ps. sym (means_rows_out (get ps) x);
  }
