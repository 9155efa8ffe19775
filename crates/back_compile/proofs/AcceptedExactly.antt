-- compile takes exactly the encodings of the accepted sheets, and leaves the table of their filling; whatever it turns
-- down leaves the table as it was. 12 is answered only for a circle. 2 is never answered. By the reader's theorem and
-- the checks' (crates spec_grammar, check_faults), from the verdict's branches.
use Rattle.lib_base.proofs.Prelude.{ℕ, ◌≤◌, ◌<◌, ◌≡◌, refl, ◌∙◌, sym, ap, subst, true, false, true≢false, ◌≢◌, by_cases}
use Rattle.lib_base.proofs.Prelude.{List, [], length, replicate, length-replicate, dec_lt, le-ltb, ltb-false, arith}
use Rattle.lib_base.specs.Basics.{All}
use Rattle.lib_base.proofs.Tools.{split}
use Rattle.lib_word.specs.Word.{get}
use Rattle.spec_language.specs.Sheet.{Sheet, rows_out, uses}
use Rattle.spec_language.specs.Dependence.{size, NoCycle}
use Rattle.spec_language.specs.Grammar.{encode, SheetFits}
use Rattle.spec_language.specs.Accepted.{Known, SheetAccepted}
use Rattle.spec_language.specs.Reading.{Got, bad, got, read_sheet}
use Rattle.spec_language.proofs.RowLaws.{length_out}
use Rattle.spec_language.proofs.SheetLaws.{length_fill}
use Rattle.spec_grammar.proofs.Programs.{reads_back, reads_only, fault_numbers}
use Rattle.check_faults.specs.Faults.{known, cyclic}
use Rattle.check_faults.proofs.CycleDecides.{known_decides, cyclic_decides}
use Rattle.format_image.specs.Table.{table_of}
use Rattle.back_compile.specs.Verdict.{judge, lacks_parameters, judge_read, compile_on}
use Rattle.back_compile.specs.Number.{number_on}
use Rattle.back_compile.specs.Compiled.{Compiled, compiled, program_of}
use Rattle.back_compile.proofs.JudgeLaws.{judge_passes, Verdict, unknown, lacking, circular, long, passed, judge_says, compile_opens, compile_short, compile_long}
use Rattle.back_compile.specs.Statements.{Given}

-- ---- what is read and judged

-- the test for 20, and what it stands for
pub given_says : (ps : List ℕ) (s : Sheet) → lacks_parameters s ps ≡ false → Given ps s
given_says ps s h u = ltb-false (length ps) 32 (rw u at h)

pub given_is : (ps : List ℕ) (s : Sheet) → Given ps s → lacks_parameters s ps ≡ false
given_is ps s g = split (uses s) (λ u. rw (u, le-ltb (length ps) 32 (g u))) (λ u. rw u)

-- the checks' answers, and what they stand for
few : (ps : List ℕ) (s : Sheet) → SheetFits s → size (program_of ps s) ≤ 64
few ps s f = omega (arith, length_fill (get ps) (rows_out s).entries, length_out s.entries s.entries, f.few_behaviours)

fine_known : (ps : List ℕ) (s : Sheet) → SheetFits s → known (program_of ps s) ≡ true → cyclic (program_of ps s) ≡ false → Known (program_of ps s) × NoCycle (program_of ps s)
fine_known ps s f k c = let h = (known_decides (program_of ps s)).0 k in (h, (cyclic_decides (program_of ps s) h (few ps s f)).0 c)

-- ---- a sheet that is accepted

module _ (s ps : List ℕ) (x : Sheet) (q : encode x ≡ s) (a : SheetAccepted (get ps) (length ps) x) where
  pub accepted_taken : (t : List ℕ) → 34816 ≤ length t → compile_on s ps t ≡ compiled 0 (table_of (program_of ps x) t)
  accepted_taken t room =
      let p = program_of ps x in
      let hi : length s ≤ 8192 = rw q at a.fits.few_bytes in
      let e : read_sheet s ≡ got x [] = rw q at (reads_back x a.fits) in
      compile_opens s ps t room hi
      ∙ ap (λ (g : Got Sheet). judge_read g ps t) e
      ∙ rw (given_is ps x a.given) (judge_passes p t ((known_decides p).1 a.known) ((cyclic_decides p a.known (few ps x a.fits)).1 a.acyclic) a.short)

  pub accepted_number : number_on s ps ≡ 0
  unfolding number_on
  accepted_number = ap (λ (r : Compiled). r.0) (accepted_taken (replicate 34816 0) (omega (arith, length-replicate {A = ℕ} 34816 0)))

-- ---- what led to an answer

module _ (s ps t : List ℕ) (bytes : All (λ b. b < 256) s) (room : 34816 ≤ length t) where
  -- what an accepted sheet is
  abbrev Taken : Type 0
  Taken =
      (x : Sheet) × (encode x ≡ s) × SheetAccepted (get ps) (length ps) x × (compile_on s ps t ≡ compiled 0 (table_of (program_of ps x) t)) × (read_sheet s ≡ got x [])

  abbrev Circular : Type 0
  Circular = (x : Sheet) × (encode x ≡ s) × SheetFits x × Known (program_of ps x) × Given ps x × (NoCycle (program_of ps x) → ⊥)

  -- what led to an answer that compile gave
  record Told (r : Compiled) : Type 0 where
    at_0 : r.0 ≡ 0 → Taken
    at_12 : r.0 ≡ 12 → Circular

  -- another answer
  other : (r : Compiled) → r.0 ≢ 0 → r.0 ≢ 12 → Told r
  other r a b = record { at_0 = λ z. absurd (a z); at_12 = λ z. absurd (b z) }

  module _ (hi : length s ≤ 8192) where
    judged : (x : Sheet) → read_sheet s ≡ got x [] → encode x ≡ s → SheetFits x → (r : Compiled) → Verdict (program_of ps x) t (lacks_parameters x ps) r → Told r
    judged x e q f r (unknown k) = other (compiled 11 t) (omega arith) (omega arith)
    judged x e q f r (lacking k l) = other (compiled 20 t) (omega arith) (omega arith)
    judged x e q f r (circular k l c) = record {
      at_0 = λ z. absurd (omega arith);
      at_12 = λ z.
          let w = (known_decides (program_of ps x)).0 k in
          (x, q, f, w, given_says ps x l, λ h. true≢false (sym c ∙ (cyclic_decides (program_of ps x) w (few ps x f)).1 h));
    }
    judged x e q f r (long k l c h) = other (compiled 13 t) (omega arith) (omega arith)
    judged x e q f r (passed k l c h) =
        let w = fine_known ps x f k c in
        record {
          at_0 = λ z. (
            x,
            q,
            record { fits = f; known = w.0; given = given_says ps x l; acyclic = w.1; short = h },
            compile_opens s ps t room hi ∙ ap (λ (g : Got Sheet). judge_read g ps t) e ∙ rw l (judge_passes (program_of ps x) t k c h),
            e,
          );
          at_12 = λ z. absurd (omega arith);
        }

    read : (g : Got Sheet) → read_sheet s ≡ g → Told (judge_read g ps t)
    read (bad k) e = let h = fault_numbers s k e in other (compiled k t) (omega arith) (omega arith)
    read (got x rest) e =
        let h = reads_only s bytes hi x rest e in
        judged x (e ∙ ap (got x) h.2) (sym h.0) h.1 (judge (program_of ps x) (lacks_parameters x ps) t) (judge_says (program_of ps x) t (lacks_parameters x ps))

  told : Told (compile_on s ps t)
  told =
      by_cases (dec_lt 8192 (length s))
      (λ l. subst Told (sym (compile_long s ps t room l)) (other (compiled 3 t) (omega arith) (omega arith)))
      (λ l. subst Told (sym (compile_opens s ps t room (omega arith))) (read (omega arith) (read_sheet s) refl))

  pub accepted_exactly :
      (((compile_on s ps t).0 ≡ 0
      → (x : Sheet) × (encode x ≡ s) × SheetAccepted (get ps) (length ps) x × (compile_on s ps t ≡ compiled 0 (table_of (program_of ps x) t)) × (read_sheet s ≡ got x []))
      × ((x : Sheet) → encode x ≡ s → SheetAccepted (get ps) (length ps) x → compile_on s ps t ≡ compiled 0 (table_of (program_of ps x) t)))
  accepted_exactly = (told.at_0, λ x q a. accepted_taken s ps x q a t room)

  -- 12 only where some event, or none, has a circle
  pub twelve : (compile_on s ps t).0 ≡ 12 → (x : Sheet) × (encode x ≡ s) × SheetFits x × Known (program_of ps x) × Given ps x × (NoCycle (program_of ps x) → ⊥)
  twelve = told.at_12

-- ---- what is turned down

-- the table as it was, but where the answer is 0
abbrev Kept : List ℕ → Compiled → Type 0
Kept t r = r.0 ≢ 0 → r.1 ≡ t

kept_judge : (x : Sheet) (ps t : List ℕ) (r : Compiled) → Verdict (program_of ps x) t (lacks_parameters x ps) r → Kept t r
kept_judge x ps t r (unknown k) = λ z. refl
kept_judge x ps t r (lacking k l) = λ z. refl
kept_judge x ps t r (circular k l c) = λ z. refl
kept_judge x ps t r (long k l c h) = λ z. refl
kept_judge x ps t r (passed k l c h) = λ z. absurd (z refl)

kept_read : (g : Got Sheet) (ps t : List ℕ) → Kept t (judge_read g ps t)
kept_read (bad k) ps t = λ z. refl
kept_read (got x rest) ps t = kept_judge x ps t (judge (program_of ps x) (lacks_parameters x ps) t) (judge_says (program_of ps x) t (lacks_parameters x ps))

pub refused_unchanged : (s ps t : List ℕ) → (compile_on s ps t).0 ≢ 0 → (compile_on s ps t).1 ≡ t
refused_unchanged s ps t =
    by_cases (dec_lt (length t) 34816)
    (λ a. rw (compile_short s ps t a) (λ z. refl))
    (λ a. by_cases (dec_lt 8192 (length s))
    (λ c. rw (compile_long s ps t (omega arith) c) (λ z. refl))
    (λ c. rw (compile_opens s ps t (omega arith) (omega arith)) (kept_read (read_sheet s) ps t)))

-- ---- 02, M-106: "Number 2 never occurs again."

abbrev NotTwo : Compiled → Type 0
NotTwo r = r.0 ≢ 2

not_two_judge : (x : Sheet) (ps t : List ℕ) (r : Compiled) → Verdict (program_of ps x) t (lacks_parameters x ps) r → NotTwo r
not_two_judge x ps t r (unknown k) = omega arith
not_two_judge x ps t r (lacking k l) = omega arith
not_two_judge x ps t r (circular k l c) = omega arith
not_two_judge x ps t r (long k l c h) = omega arith
not_two_judge x ps t r (passed k l c h) = omega arith

not_two_read : (s ps t : List ℕ) (g : Got Sheet) → read_sheet s ≡ g → NotTwo (judge_read g ps t)
not_two_read s ps t (bad k) e = let h = fault_numbers s k e in omega arith
not_two_read s ps t (got x rest) e = not_two_judge x ps t (judge (program_of ps x) (lacks_parameters x ps) t) (judge_says (program_of ps x) t (lacks_parameters x ps))

pub never_two : (s ps t : List ℕ) → (compile_on s ps t).0 ≢ 2
never_two s ps t =
    by_cases (dec_lt (length t) 34816)
    (λ a. rw (compile_short s ps t a) (omega arith))
    (λ a. by_cases (dec_lt 8192 (length s))
    (λ c. rw (compile_long s ps t (omega arith) c) (omega arith))
    (λ c. rw (compile_opens s ps t (omega arith) (omega arith)) (not_two_read s ps t (read_sheet s) refl)))
