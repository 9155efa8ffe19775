-- The order of compile's refusals, in the words of the papers: by the definition's branches in turn, each test deciding
-- the condition that it stands for.
use Rattle.lib_base.proofs.Prelude.{ℕ, ◌≤◌, ◌<◌, ◌≡◌, refl, ◌∙◌, sym, true, false, Bool, true≢false, ◌⊎◌, inr, inl}
use Rattle.lib_base.proofs.Prelude.{List, [], ◌∷◌, length, ltb, leb, le-ltb, ltb-false, lt-leb, leb-false, arith}
use Rattle.lib_word.specs.Word.{get}
use Rattle.lib_base.proofs.Tools.{split}
use Rattle.spec_language.specs.Refusals.{short_table, long_program}
use Rattle.spec_language.specs.Sheet.{Sheet, rows_out}
use Rattle.spec_language.specs.Dependence.{size}
use Rattle.spec_language.specs.Reading.{Got, bad, got, read_sheet}
use Rattle.spec_language.specs.Code.{all_instructions}
use Rattle.spec_language.proofs.RowLaws.{length_out}
use Rattle.spec_language.proofs.SheetLaws.{length_fill}
use Rattle.check_faults.specs.Faults.{known, cyclic}
use Rattle.check_faults.proofs.CycleDecides.{known_decides, cyclic_decides}
use Rattle.back_compile.specs.Verdict.{judge, lacks_parameters, judge_read, compile_on}
use Rattle.back_compile.specs.Compiled.{program_of}
use Rattle.back_compile.specs.Statements.{FirstUnmet, AfterReading}
use Rattle.back_compile.proofs.AcceptedExactly.{given_says, given_is}
use Rattle.back_compile.proofs.Counted.{Counted, read_counted}

-- ---- a call needs C, which a test stands for: where C fails, X is to be shown, and else Y

module _ {C X Y : Type 0} where
  -- the test passes just where C holds
  pub need : (b : Bool) → (b ≡ true → C) → (C → b ≡ true) → (b ≡ false → X) → (b ≡ true → Y) → ((C → ⊥) × X) ⊎ (C × Y)
  need b is of f g = split b (λ e. inr (is e, g e)) (λ e. inl (λ c. true≢false (sym (of c) ∙ e), f e))

  -- the test passes just where C fails
  pub need_not : (b : Bool) → (b ≡ false → C) → (C → b ≡ false) → (b ≡ true → X) → (b ≡ false → Y) → ((C → ⊥) × X) ⊎ (C × Y)
  need_not b is of f g = split b (λ e. inl (λ c. true≢false (sym e ∙ of c), f e)) (λ e. inr (is e, g e))

module _ {X Y : Type 0} where
  pub need_true : (b : Bool) → (b ≡ false → X) → (b ≡ true → Y) → ((b ≡ true → ⊥) × X) ⊎ ((b ≡ true) × Y)
  need_true b = need b (λ e. e) (λ e. e)

  pub need_false : (b : Bool) → (b ≡ true → X) → (b ≡ false → Y) → ((b ≡ false → ⊥) × X) ⊎ ((b ≡ false) × Y)
  need_false b = need_not b (λ e. e) (λ e. e)

  pub need_most : (m n : ℕ) → (ltb n m ≡ true → X) → (ltb n m ≡ false → Y) → ((m ≤ n → ⊥) × X) ⊎ ((m ≤ n) × Y)
  need_most m n = need_not (ltb n m) (ltb-false n m) (le-ltb n m)

  pub need_less : (m n : ℕ) → (leb n m ≡ true → X) → (leb n m ≡ false → Y) → ((m < n → ⊥) × X) ⊎ ((m < n) × Y)
  need_less m n = need_not (leb n m) (leb-false n m) (lt-leb n m)

-- ---- compile

judged : (g : Got Sheet) (ps t : List ℕ) → Counted g → AfterReading g ps (judge_read g ps t).0
unfolding judge
judged (bad k) ps t h = refl
judged (got x rest) ps t h =
    let p = program_of ps x in
    let few : size p ≤ 64 = omega (arith, length_fill (get ps) (rows_out x).entries, length_out x.entries x.entries) in
    need (known p) (known_decides p).0 (known_decides p).1 (λ k. rw k)
    (λ k.
    let cycles = cyclic_decides p ((known_decides p).0 k) few in
    need_not (lacks_parameters x ps) (given_says ps x) (given_is ps x) (λ l. rw (k, l))
    (λ l. need_not (cyclic p) cycles.0 cycles.1 (λ c. rw (k, l, c))
    (λ c. need_most (all_instructions p) 4096 (λ o. rw (k, l, c, o)) (λ o. rw (k, l, c, o)))))

pub after_reading : (s ps t : List ℕ) → AfterReading (read_sheet s) ps (judge_read (read_sheet s) ps t).0
after_reading s ps t = judged (read_sheet s) ps t (read_counted s)

pub compile_order : (s ps t : List ℕ)
    → FirstUnmet ((34816 ≤ length t, short_table) ∷ (length s ≤ 8192, long_program) ∷ []) (AfterReading (read_sheet s) ps) (compile_on s ps t).0
unfolding compile_on
compile_order s ps t =
    need_most 34816 (length t) (λ a. rw a) (λ a. need_most (length s) 8192 (λ b. rw (a, b)) (λ b. rw (a, b) (after_reading s ps t)))
