-- What each answer of the judging rests on: the reader's fault is the grammar's, and the draft, filled in, is judged as
-- the sheet's program is. Where nothing lacks, the values filled in are those lent.
use Rattle.lib_base.proofs.Prelude.{ℕ, ◌≤◌, ◌<◌, ◌≡◌, refl, ◌∙◌, sym, ap, true, false, Bool, ◌≢◌}
use Rattle.lib_base.proofs.Prelude.{List, length, get_or, replicate, length-replicate, ltb, arith}
use Rattle.lib_base.specs.Basics.{All}
use Rattle.lib_base.proofs.Tools.{split}
use Rattle.lib_word.specs.Word.{get}
use Rattle.spec_language.specs.Sheet.{Sheet, fill, uses}
use Rattle.spec_language.specs.Reading.{bad, read_sheet}
use Rattle.spec_language.proofs.SheetLaws.{fill_unused}
use Rattle.spec_grammar.proofs.Programs.{fault_numbers}
use Rattle.format_image.specs.Table.{put_words}
use Rattle.draft_form.specs.Draft.{DraftOf}
use Rattle.std.specs.Prelude.{Result, Ok, Err}
use Rattle.std.proofs.Common.{Fits, w8}
use Rattle.front_sheet.specs.declared.Counts.{Counts}
use Rattle.spec_language.specs.Numbers.{refusal_number}
use Rattle.spec_language.specs.declared.refusals.Refusal.{Refusal}
use Rattle.front_sheet.specs.Whole.{ready, finished, read_on}
use Rattle.front_correct.proofs.Drafts.{Outcome, empty, drafted_as}
use Rattle.draft_params.specs.Filling.{parameter_value, fill_to, lacks_param}
use Rattle.draft_params.proofs.Fills.{draft_filled, filled_program, draft_lacks}
use Rattle.check_faults.specs.Checks.{names_known, cyclic_on}
use Rattle.check_faults.proofs.DraftChecks.{draft_names}
use Rattle.back_table.specs.TableWords.{count_before, table_words}
use Rattle.back_table.proofs.TableIs.{draft_planned}
use Rattle.back_compile.specs.Verdict.{judge, lacks_parameters, compile_on}
use Rattle.back_compile.specs.Number.{number_on}
use Rattle.back_compile.specs.Compiled.{Compiled, compiled, program_of}
use Rattle.back_compile.specs.Judged.{Drafts, Passes, CircleDraft, Falls, Judgement, JudgedAs, answer_of}
use Rattle.back_compile.specs.declared.Turndown.{Turndown}
use Rattle.back_compile.specs.declared.Turndown.TheVariants.{Circular, Refused}
use Rattle.back_compile.proofs.JudgeLaws.{compile_opens, compile_long}
use Rattle.back_compile.proofs.DraftJudged.{draft_unknown, draft_lacking, draft_circular, draft_overlong, draft_passes}
use Rattle.back_compile.proofs.FillJudged.{filled_is}
use Rattle.back_compile.proofs.ReadIs.{all_bytes, read_fault, read_judged}

pub long_falls : (s ps : List ℕ) → 8192 < length s → Falls s ps 3
long_falls s ps h = record { some = omega arith; other = omega arith; refused = λ t b. compile_long s ps t b h }

-- where nothing lacks, the values filled in are those lent
filled_lent : (x : Sheet) (ps : List ℕ) → lacks_parameters x ps ≡ false → fill (parameter_value ps) x ≡ program_of ps x
unfolding parameter_value
filled_lent x ps h =
    split (uses x)
    (λ u. let c : ltb (length ps) 32 ≡ false = rw u at h in ap (λ (v : ℕ → ℕ). fill v x) (λ i k. lent c k i))
    (λ u. fill_unused (parameter_value ps) (get ps) x u)
  where
    lent : ltb (length ps) 32 ≡ false → (k : ℕ) → parameter_value ps k ≡ get ps k
    lent c k = rw c

-- the reader's answer, where it is known
pub read_as : (s : List ℕ) {a b : Result Counts Refusal} {d e : List ℕ} → a ≡ b → e ≡ empty → finished a d ≡ read_on s e → finished b d ≡ read_on s empty
read_as s {d = d} q z r = ap (λ (x : Result Counts Refusal). finished x d) (sym q) ∙ r ∙ ap (read_on s) z

abbrev bytes_of : (s : List ℕ) → ((i : ℕ) → Fits w8 (get_or s i 0)) → All (λ b. b < 256) s
bytes_of s h = all_bytes s (λ i _. omega (arith, h i))

module _ (s ps : List ℕ) (fit : (i : ℕ) → Fits w8 (get_or s i 0)) (hi : length s ≤ 8192) where
  abbrev bytes : All (λ b. b < 256) s
  bytes = bytes_of s fit

  pub read_falls : {k : Refusal} {d : List ℕ} → finished (Err k) d ≡ read_on s empty → Falls s ps (refusal_number k)
  read_falls {k} {d} q =
      let r : read_sheet s ≡ bad (refusal_number k) = drafted_as s bytes hi (Err k) d (sym q) in
      let f = fault_numbers s (refusal_number k) r in
      record {
        some = omega (arith, f.0);
        other = omega (arith, f.1);
        refused = λ t h. compile_opens s ps t h hi ∙ sym (read_fault s bytes hi k d ps t q);
      }

  module _ (lends : (i : ℕ) → Fits w8 (get_or ps i 0)) {ev bs n : ℕ} {d : List ℕ} (q : finished (ready ev bs n) d ≡ read_on s empty) where
    abbrev lent : All (λ b. b < 256) ps
    lent = bytes_of ps lends

    -- what was read, and the draft filled in
    abbrev of : Outcome s (ready ev bs n) d
    of = drafted_as s bytes hi (ready ev bs n) d (sym q)

    abbrev full : List ℕ
    full = fill_to ps d n

    abbrev pub filled : DraftOf ev bs n full
    filled = draft_filled ps lent of.0

    pub read_few : n ≤ 2048
    read_few = of.0.drafted.few

    module _ {l : Bool} (e : l ≡ lacks_param d n ps) where
      answers : (t t' : List ℕ) (r : ℕ) → 34816 ≤ length t → ((c : DraftOf ev bs n full) → compiled r t' ≡ judge c.program l t)
          → compile_on s ps t ≡ compiled r t'
      answers t t' r h j =
          compile_opens s ps t h hi
          ∙ sym (read_judged s bytes hi ev bs n d ps t r t' q (filled_is ps lent l t r t' e (record { each_program = j })))

      pub unknown_falls : names_known full bs n ≡ false → Falls s ps 11
      unknown_falls k = record { some = omega arith; other = omega arith; refused = λ t h. answers t t 11 h (λ c. draft_unknown c t l k) }

      pub lacking_falls : l ≡ true → names_known full bs n ≡ true → Falls s ps 20
      lacking_falls b k = record { some = omega arith; other = omega arith; refused = λ t h. answers t t 20 h (λ c. draft_lacking c t l b k) }

      module _ (b : l ≡ false) (k : names_known full bs n ≡ true) where
        drafts : Drafts s ps ev bs full
        drafts = record {
          sheet = of.0.sheet;
          read = of.1;
          nodes = n;
          draft = filled;
          own = filled_program ps lent of.0 ∙ filled_lent of.0.sheet ps (sym (e ∙ draft_lacks of.0 ps) ∙ b);
          names = sym (draft_names filled) ∙ k;
        }

        pub circular_turns : cyclic_on full ev bs ≡ true → CircleDraft s ps ev bs full
        circular_turns a = record { drafts = drafts; cycles = a; refused = λ t h. answers t t 12 h (λ c. draft_circular c t l b k a) }

        pub overlong_falls : cyclic_on full ev bs ≡ false → 4096 < count_before full bs ev → Falls s ps 13
        overlong_falls a h = record { some = omega arith; other = omega arith; refused = λ t g. answers t t 13 g (λ c. draft_overlong c t l b k a h) }

        pub all_passes : cyclic_on full ev bs ≡ false → count_before full bs ev ≤ 4096 → Passes s ps ev bs full
        all_passes a h = record {
          drafts = drafts;
          planned = draft_planned filled k a h;
          compiles = λ t g. answers t (put_words t 0 (table_words full ev bs)) 0 g (λ c. draft_passes c t l b k a h _ refl);
        }

-- ---- compile's answers

-- not accepted: refused by the number that the judgement tells
pub not_passed : (s ps d t : List ℕ) (e : Turndown) → JudgedAs s ps d (Err e) → 34816 ≤ length t
    → {x : ℕ} → x ≡ answer_of (Err e) → compiled x t ≡ compile_on s ps t
not_passed s ps d t (Circular n) h l q = ap (λ (y : ℕ). compiled y t) q ∙ sym (h.finding.refused t l)
not_passed s ps d t (Refused r) h l q = ap (λ (y : ℕ). compiled y t) q ∙ sym (h.finding.refused t l)

-- ---- compile's number

pub room : 34816 ≤ length {A = ℕ} (replicate 34816 0)
room = omega (arith, length-replicate {A = ℕ} 34816 0)

told : (s ps : List ℕ) {r : ℕ} {t' : List ℕ} → compile_on s ps (replicate 34816 0) ≡ compiled r t' → r ≡ number_on s ps
unfolding number_on
told s ps e = sym (ap (λ (x : Compiled). x.0) e)

module _ (s ps : List ℕ) {ev bs : ℕ} {d : List ℕ} where
  pub passes_number : Passes s ps ev bs d → number_on s ps ≡ 0
  passes_number w = sym (told s ps (w.compiles (replicate 34816 0) room))

  pub turns_number : CircleDraft s ps ev bs d → number_on s ps ≡ 12
  turns_number w = sym (told s ps (w.refused (replicate 34816 0) room))

-- the judgement's number is compile's
pub judged_number : (s ps d : List ℕ) (a : Judgement) → JudgedAs s ps d a → {r : ℕ} → r ≡ answer_of a → r ≡ number_on s ps
judged_number s ps d (Ok n) h q = q ∙ sym (passes_number s ps h.finding)
judged_number s ps d (Err (Circular n)) h q = q ∙ sym (turns_number s ps h.finding)
judged_number s ps d (Err (Refused r)) h q = q ∙ told s ps (h.finding.refused (replicate 34816 0) room)

-- and not 0 where it is not accepted
pub turned_some : (s ps d : List ℕ) (e : Turndown) → JudgedAs s ps d (Err e) → {r : ℕ} → r ≡ answer_of (Err e) → r ≢ 0
turned_some s ps d (Circular n) h q = omega arith
turned_some s ps d (Refused r) h q = λ z. h.finding.some (sym q ∙ z)
