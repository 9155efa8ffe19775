-- 02, M-103: a parameter "means the same as the constant written there. So everything known of a sheet without
-- parameters is known of each filling, except that 3 counts the bytes as sent and not those of the filling." The sheet
-- written out has the same first fault, or none, and the same filling; bytes lent beyond 32 are not looked at.
use Rattle.lib_base.proofs.Prelude.{ℕ, ◌≤◌, ◌<◌, ◌+◌, suc, zero, ◌*◌, ◌≡◌, refl, ◌∙◌, sym, ap, false, and-false}
use Rattle.lib_base.proofs.Prelude.{by_cases, List, [], ◌++◌, length, length-append, List·getD-append, dec_lt, le-ltb}
use Rattle.lib_base.proofs.Prelude.{arith}
use Rattle.lib_base.specs.Basics.{All}
use Rattle.lib_word.specs.Word.{get_at, get}
use Rattle.spec_language.specs.Syntax.{Program}
use Rattle.spec_language.specs.Sheet.{Sheet, as_written_out, params_of_entries}
use Rattle.spec_language.specs.Grammar.{encode, SheetFits}
use Rattle.spec_language.specs.Reading.{Got, bad, got, read_sheet}
use Rattle.spec_language.proofs.SheetLaws.{fill_same, written_unused, fill_written}
use Rattle.spec_grammar.proofs.Programs.{reads_only}
use Rattle.spec_grammar.proofs.Faults.{result_of, sheet_fault, sheet_result, fault_written}
use Rattle.back_compile.specs.Verdict.{judge, lacks_parameters, judge_read, compile_on}
use Rattle.back_compile.specs.Compiled.{program_of}
use Rattle.back_compile.proofs.JudgeLaws.{compile_opens, compile_short, compile_long}

module _ (x : Sheet) (ps : List ℕ) (enough : 32 ≤ length ps) where
  lent : lacks_parameters x ps ≡ false
  lent = rw (le-ltb (length ps) 32 enough, and-false)

  written_judged : (qs t : List ℕ) → judge (program_of ps x) (lacks_parameters x ps) t ≡ judge (program_of qs (as_written_out (get ps) x)) (lacks_parameters (as_written_out (get ps) x) qs) t
  written_judged qs t = rw (lent, written_unused (get ps) (get qs) x) (ap (λ (p : Program). judge p false t) (sym (fill_written (get ps) (get qs) x)))

  -- the same fault, or both are judged
  alike : (n : ℕ) (qs t : List ℕ) → judge_read (result_of n x []) ps t ≡ judge_read (result_of n (as_written_out (get ps) x) []) qs t
  alike zero qs t = written_judged qs t
  alike (suc n) qs t = refl

  read_alike : params_of_entries x.entries ≤ 8 → (qs t : List ℕ) → judge_read (read_sheet (encode x)) ps t ≡ judge_read (read_sheet (encode (as_written_out (get ps) x))) qs t
  read_alike h qs t =
      rw (sheet_result x, sheet_result (as_written_out (get ps) x), fault_written (get ps) x h) (alike (sheet_fault x) qs t)

  -- compile's answer, a refusal too, and the table's bytes are the same for both, with whatever the second is lent,
  -- where neither has over 8,192 bytes and no parameter is above 7
  pub as_written : params_of_entries x.entries ≤ 8 → length (encode x) ≤ 8192 → length (encode (as_written_out (get ps) x)) ≤ 8192
      → (qs t : List ℕ) → compile_on (encode x) ps t ≡ compile_on (encode (as_written_out (get ps) x)) qs t
  as_written h a b qs t =
      by_cases (dec_lt (length t) 34816)
      (λ c. compile_short (encode x) ps t c ∙ sym (compile_short (encode (as_written_out (get ps) x)) qs t c))
      (λ c. compile_opens (encode x) ps t (omega arith) a ∙ read_alike h qs t ∙ sym (compile_opens (encode (as_written_out (get ps) x)) qs t (omega arith) b))

-- ---- bytes lent beyond 32 are not looked at

word_append : (ps qs : List ℕ) (n : ℕ) → n < 8 → 32 ≤ length ps → get (ps ++ qs) n ≡ get ps n
unfolding get get_at
word_append ps qs n h b =
    rw (
      List·getD-append ps qs 0 (n * 4) (omega arith),
      List·getD-append ps qs 0 (n * 4 + 1) (omega arith),
      List·getD-append ps qs 0 (n * 4 + 2) (omega arith),
      List·getD-append ps qs 0 (n * 4 + 3) (omega arith),
    )

module _ (s ps qs t : List ℕ) (bytes : All (λ b. b < 256) s) (enough : 32 ≤ length ps) where
  judged_same : length s ≤ 8192 → (g : Got Sheet) → read_sheet s ≡ g → judge_read g (ps ++ qs) t ≡ judge_read g ps t
  judged_same hi (bad k) e = refl
  judged_same hi (got x rest) e =
      let f : SheetFits x = (reads_only s bytes hi x rest e).1 in
      rw (lent x (ps ++ qs) (omega (arith, length-append ps qs)), lent x ps enough)
      (ap (λ (p : Program). judge p false t) (fill_same (get (ps ++ qs)) (get ps) (λ n h. word_append ps qs n h enough) x f))

  pub more_unread : compile_on s (ps ++ qs) t ≡ compile_on s ps t
  more_unread =
      by_cases (dec_lt (length t) 34816)
      (λ a. compile_short s (ps ++ qs) t a ∙ sym (compile_short s ps t a))
      (λ a. by_cases (dec_lt 8192 (length s))
      (λ c. compile_long s (ps ++ qs) t (omega arith) c ∙ sym (compile_long s ps t (omega arith) c))
      (λ c. compile_opens s (ps ++ qs) t (omega arith) (omega arith) ∙ judged_same (omega arith) (read_sheet s) refl ∙ sym (compile_opens s ps t (omega arith) (omega arith))))
