-- Each answer of `judge` and `compile_on` from the facts that lead to it, by the branches in turn; and back.
use Rattle.lib_base.proofs.Prelude.{ℕ, ◌≤◌, ◌<◌, ◌≡◌, refl, true, false, Bool, List, length, replicate, ltb, le-ltb}
use Rattle.lib_base.proofs.Prelude.{lt-ltb, ltb-false, ltb-true}
use Rattle.lib_base.proofs.Tools.{by_test, by_two}
use Rattle.spec_language.specs.Syntax.{Program}
use Rattle.spec_language.specs.Sheet.{Sheet}
use Rattle.spec_language.specs.Reading.{Got, bad, got, read_sheet}
use Rattle.spec_language.specs.Code.{all_instructions}
use Rattle.check_faults.specs.Faults.{known, cyclic}
use Rattle.format_image.specs.Table.{table_of}
use Rattle.back_compile.specs.Verdict.{judge, lacks_parameters, judge_read, compile_on}
use Rattle.back_compile.specs.Number.{number_on}
use Rattle.back_compile.specs.Compiled.{Compiled, compiled, program_of}

module _ (p : Program) (t : List ℕ) where
  pub judge_unknown : (l : Bool) → known p ≡ false → judge p l t ≡ compiled 11 t
  unfolding judge
  judge_unknown l k = rw k

  pub judge_lacking : known p ≡ true → judge p true t ≡ compiled 20 t
  unfolding judge
  judge_lacking k = rw k

  pub judge_cycle : known p ≡ true → cyclic p ≡ true → judge p false t ≡ compiled 12 t
  unfolding judge
  judge_cycle k c = rw (k, c)

  pub judge_long : known p ≡ true → cyclic p ≡ false → 4096 < all_instructions p → judge p false t ≡ compiled 13 t
  unfolding judge
  judge_long k c h = rw (k, c, lt-ltb 4096 (all_instructions p) h)

  pub judge_passes : known p ≡ true → cyclic p ≡ false → all_instructions p ≤ 4096 → judge p false t ≡ compiled 0 (table_of p t)
  unfolding judge
  judge_passes k c h = rw (k, c, le-ltb 4096 (all_instructions p) h)

  -- what led to an answer
  pub data Verdict (l : Bool) : Compiled → Type 0 where
    unknown : known p ≡ false → Verdict l (compiled 11 t)
    lacking : known p ≡ true → l ≡ true → Verdict l (compiled 20 t)
    circular : known p ≡ true → l ≡ false → cyclic p ≡ true → Verdict l (compiled 12 t)
    long : known p ≡ true → l ≡ false → cyclic p ≡ false → 4096 < all_instructions p → Verdict l (compiled 13 t)
    passed : known p ≡ true → l ≡ false → cyclic p ≡ false → all_instructions p ≤ 4096 → Verdict l (compiled 0 (table_of p t))

  pub judge_says : (l : Bool) → Verdict l (judge p l t)
  unfolding judge
  judge_says l =
      by_test (Verdict l) (known p)
      (λ k. by_test (Verdict l) l (λ b. lacking k b)
      (λ b. by_test (Verdict l) (cyclic p) (λ c. circular k b c)
      (λ c. by_test (Verdict l) (ltb 4096 (all_instructions p)) (λ h. long k b c (ltb-true 4096 (all_instructions p) h)) (λ h. passed k b c (ltb-false 4096 (all_instructions p) h)))))
      (λ k. unknown k)

module _ (s ps t : List ℕ) where
  -- what is asked first
  pub compile_opens : 34816 ≤ length t → length s ≤ 8192 → compile_on s ps t ≡ judge_read (read_sheet s) ps t
  unfolding compile_on
  compile_opens a c = rw (le-ltb (length t) 34816 a, le-ltb 8192 (length s) c)

  pub compile_short : length t < 34816 → compile_on s ps t ≡ compiled 1 t
  unfolding compile_on
  compile_short h = rw (lt-ltb (length t) 34816 h)

  pub compile_long : 34816 ≤ length t → 8192 < length s → compile_on s ps t ≡ compiled 3 t
  unfolding compile_on
  compile_long a h = rw (le-ltb (length t) 34816 a, lt-ltb 8192 (length s) h)

-- ---- the number hangs on no table

abbrev SameNumber : Compiled → Compiled → Type 0
SameNumber r q = r.0 ≡ q.0

judge_same : (p : Program) (l : Bool) (t u : List ℕ) → SameNumber (judge p l t) (judge p l u)
unfolding judge
judge_same p l t u =
    by_two SameNumber (known p)
    (λ _. by_two SameNumber l (λ _. refl)
    (λ _. by_two SameNumber (cyclic p) (λ _. refl) (λ _. by_two SameNumber (ltb 4096 (all_instructions p)) (λ _. refl) (λ _. refl))))
    (λ _. refl)

read_same : (g : Got Sheet) (ps t u : List ℕ) → SameNumber (judge_read g ps t) (judge_read g ps u)
read_same (bad k) ps t u = refl
read_same (got x rest) ps t u = judge_same (program_of ps x) (lacks_parameters x ps) t u

-- a table of the length that 01 gives is never short
pub any_table : (s ps t : List ℕ) → 34816 ≤ length t → (compile_on s ps t).0 ≡ number_on s ps
unfolding compile_on number_on
any_table s ps t h =
    rw (le-ltb (length t) 34816 h)
    (by_two SameNumber (ltb 8192 (length s)) (λ _. refl) (λ _. read_same (read_sheet s) ps t (replicate 34816 0)))
