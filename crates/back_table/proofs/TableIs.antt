-- The words that the compiler writes for the draft of a program are the program's image: part by part, each by the
-- theorem of the crate that makes it.
use Rattle.lib_base.proofs.Prelude.{ℕ, ◌≤◌, ◌<◌, ◌+◌, suc, zero, ◌%◌, ◌≡◌, refl, ◌∙◌, sym, ap, true, false, List, []}
use Rattle.lib_base.proofs.Prelude.{◌∷◌, ◌++◌, append_assoc, sum, flatten, length, get_or, take, take-suc, take_all, eqb}
use Rattle.lib_base.proofs.Prelude.{arith}
use Rattle.lib_base.specs.Basics.{All}
use Rattle.lib_base.proofs.Tools.{all_at, by_test, split}
use Rattle.spec_language.specs.Syntax.{Program}
use Rattle.spec_language.specs.Dependence.{size, events, NoCycle}
use Rattle.spec_language.specs.Order.{up_to}
use Rattle.spec_language.specs.Fits.{Fits}
use Rattle.spec_language.specs.Accepted.{Known}
use Rattle.spec_language.specs.Valid.{Valid}
use Rattle.spec_language.specs.Code.{Instr, code, members, instructions, all_instructions}
use Rattle.spec_language.proofs.Laws.{up_to_same}
use Rattle.spec_execution.proofs.Sums.{length_flatten}
use Rattle.spec_execution.proofs.Lengths.{length_counted}
use Rattle.format_image.specs.Image.{code_start}
use Rattle.format_image.specs.Table.{code_words, all_code, event_record, padded, passives_code, table_code, board_words, image_words}
use Rattle.format_image.proofs.ImageLaws.{length_code_words}
use Rattle.draft_form.specs.Draft.{passive_nodes, Drafted, DraftOf}
use Rattle.draft_form.proofs.DraftLaws.{draft_long, draft_events, draft_behaviours}
use Rattle.check_faults.specs.Checks.{names_known, cyclic_on}
use Rattle.check_faults.proofs.CycleDecides.{known_decides, cyclic_decides}
use Rattle.check_faults.proofs.DraftChecks.{draft_inside, draft_names, draft_cyclic}
use Rattle.back_fresh.proofs.FreshIs.{fresh_padded}
use Rattle.back_counts.specs.Counts.{count_event, count_members}
use Rattle.back_counts.proofs.CountIs.{total_sum, count_is, members_is}
use Rattle.back_schedule.proofs.OrderingIs.{order_is}
use Rattle.back_emit.specs.Words.{each}
use Rattle.back_emit.proofs.ExprWords.{code_words_append}
use Rattle.back_phases.proofs.PhasesAre.{flatten_snoc}
use Rattle.back_event.specs.Handlers.{code_of}
use Rattle.back_event.proofs.HandlersAre.{code_words_law}
use Rattle.back_parts.specs.RightWords.{draft_number, right_words}
use Rattle.back_table.specs.TableWords.{count_before, record_words, fresh_words, codes_of, table_words, Planned}
use Rattle.back_table.proofs.PassivesAre.{short_passives, passive_words_are, alone_are}

-- ---- one after the other

each_none : (g : ℕ → List ℕ) → [] ≡ flatten (up_to 0 g)
unfolding flatten up_to
each_none g = refl

each_flatten : (n : ℕ) (f g : ℕ → List ℕ) → ((i : ℕ) → i < n → f i ≡ g i) → each n f ≡ flatten (up_to n g)
unfolding each
each_flatten zero f g h = each_none g
each_flatten (suc n) f g h = rw (flatten_snoc n g, each_flatten n f g (λ i b. h i (omega arith)), h n (omega arith))

code_flatten : (n : ℕ) (g : ℕ → List Instr) → code_words (flatten (up_to n g)) ≡ flatten (up_to n (λ i. code_words (g i)))
unfolding flatten up_to code_words
code_flatten zero g = refl
code_flatten (suc n) g = rw (code_words_append (g 0) (flatten (up_to n (λ i. g (suc i)))), code_flatten n (λ i. g (suc i)))

-- numbers of the draft that are the bytes of a list
numbers_take : (d : List ℕ) (from : ℕ) (l : List ℕ) → All (λ m. m < 256) l → ((i : ℕ) → i < length l → get_or d (from + i) 0 ≡ get_or l i 0)
    → (n : ℕ) → n ≤ length l → each n (draft_number d from) ≡ take n l
unfolding each draft_number
numbers_take d from l bytes h zero b = refl
numbers_take d from l bytes h (suc n) b =
    let small = all_at (λ m. m < 256) l n 0 bytes (omega arith) in
    let same : get_or d (from + n) 0 % 4294967296 ≡ get_or l n 0 = rw (h n (omega arith)) (omega (arith, small)) in
    rw (take-suc l n 0 (omega arith), numbers_take d from l bytes h n (omega arith), same)

numbers_are : (d : List ℕ) (from : ℕ) (l : List ℕ) (n : ℕ) → length l ≡ n → All (λ m. m < 256) l → ((i : ℕ) → i < n → get_or d (from + i) 0 ≡ get_or l i 0)
    → each n (draft_number d from) ≡ l
numbers_are d from l n long bytes h = numbers_take d from l bytes (λ i b. h i (omega arith)) n (omega arith) ∙ take_all n l (omega arith)

module _ (p : Program) (d : List ℕ) (n : ℕ) (dr : Drafted p d n) (fits : Fits p) (known : Known p) where
  -- ---- counts

  before_is : (e : ℕ) → e ≤ 32 → count_before d (size p) e ≡ sum ◌+◌ 0 (up_to e (instructions p))
  unfolding count_before
  before_is e b = total_sum e (λ f. count_event d f (size p)) (instructions p) (λ f h. count_is p d n dr f (omega arith))

  pub all_is : count_before d (size p) (events p) ≡ all_instructions p
  unfolding all_instructions
  all_is = before_is (events p) fits.few_events

  module _ (acyclic : NoCycle p) (few : passive_nodes p.behaviours ≤ 2048) where
    valid : Valid p
    valid = record { each = fits.each; known = known; acyclic = acyclic }

    counted : (e : ℕ) → e < events p → instructions p e ≡ length (code p e)
    counted e h = sym (length_counted p e valid (omega arith))

    length_all : length (all_code p) ≡ all_instructions p
    unfolding all_code all_instructions
    length_all =
        length_flatten (events p) (code p) ∙ ap (sum ◌+◌ 0) (up_to_same (events p) (λ e. length (code p e)) (instructions p) (λ e h. sym (counted e h)))

    -- ---- the parts

    record_is : (e : ℕ) → e < events p → record_words d (size p) e ≡ event_record p e
    unfolding record_words code_start
    record_is e h =
        let few : events p ≤ 32 = fits.few_events in
        let small = all_at (λ r. r ≤ 15) p.priorities e 0 fits.scale h in
        let priority : get_or d (4224 + e) 0 % 4294967296 ≡ get_or p.priorities e 0 = rw (dr.priorities e h) (omega (arith, small)) in
        let start : count_before d (size p) e ≡ sum ◌+◌ 0 (up_to e (λ f. length (code p f))) =
        before_is e (omega arith) ∙ ap (sum ◌+◌ 0) (up_to_same e (instructions p) (λ f. length (code p f)) (λ f b. counted f (omega arith))) in
        let count : count_event d e (size p) ≡ length (code p e) = count_is p d n dr e (omega arith) ∙ counted e h in
        let copies : count_members d e (size p) ≡ members p e = members_is p d n dr e (omega arith) in
        λ i. priority i ∷ start i ∷ count i ∷ copies i ∷ []

    records_are : each (events p) (record_words d (size p)) ≡ flatten (up_to (events p) (event_record p))
    records_are = each_flatten (events p) (record_words d (size p)) (event_record p) record_is

    code_is : (e : ℕ) → e < events p → code_of d (size p) e ≡ code_words (code p e)
    code_is e h = code_words_law p d n dr fits known e (omega (arith, fits.few_events)) (acyclic e (omega arith))

    events_are : each (events p) (code_of d (size p)) ≡ code_words (all_code p)
    unfolding all_code
    events_are = each_flatten (events p) (code_of d (size p)) (λ e. code_words (code p e)) code_is ∙ sym (code_flatten (events p) (code p))

    short : length (passives_code p) ≤ 4096
    short = omega (arith, short_passives p d n dr fits known valid few)

    codes_are : codes_of d (events p) (size p) ≡ code_words (table_code p)
    unfolding codes_of table_code
    codes_are =
        split (eqb (events p) 0)
        (λ e. rw e (alone_are p d n dr fits known valid few ∙ ap code_words (sym (take_all 4096 (passives_code p) short))))
        (λ e. rw e events_are)

    rights_are : right_words d (events p) (size p) ≡ padded 64 p.viewers ++ padded 32 p.senders
    unfolding right_words
    rights_are =
        rw (
          numbers_are d 4256 p.viewers (size p) fits.all_viewers fits.view_bytes dr.viewers,
          numbers_are d 4320 p.senders (events p) fits.all_senders fits.send_bytes dr.senders,
        )

    fresh_are : fresh_words d (events p) (size p) ≡ board_words p
    unfolding fresh_words board_words padded
    fresh_are =
        rw (order_is p d n dr fits (events p) fits.few_events, fresh_padded p d n dr fits valid, rights_are, passive_words_are p d n dr fits known valid few)
        (simp append_assoc)

    pub table_is : table_words d (events p) (size p) ≡ image_words p
    unfolding table_words image_words
    table_is = rw (records_are, fresh_are, codes_are)

    length_table_code : all_instructions p ≤ 4096 → length (table_code p) ≤ 4096
    unfolding table_code
    length_table_code h =
        by_test (λ (x : List Instr). length x ≤ 4096) (eqb (events p) 0) (λ _. rw (take_all 4096 (passives_code p) short) short) (λ _. omega (arith, length_all))

    pub length_code : all_instructions p ≤ 4096 → length (codes_of d (events p) (size p)) ≤ 8192
    length_code h = omega (arith, ap length codes_are ∙ length_code_words (table_code p), length_table_code h)

-- ---- a draft that passed the checks

module _ {ev bs n : ℕ} {d : List ℕ} (c : DraftOf ev bs n d) where
  named : names_known d bs n ≡ true → Known c.program
  named k = (known_decides c.program).0 (sym (draft_names c) ∙ k)

  uncycled : names_known d bs n ≡ true → cyclic_on d ev bs ≡ false → NoCycle c.program
  uncycled k a = (cyclic_decides c.program (named k) c.fits.few_behaviours).0 (sym (draft_cyclic c) ∙ a)

  few : passive_nodes c.program.behaviours ≤ 2048
  few = omega (arith, c.few_passives, c.drafted.few)

  pub count_all_is : names_known d bs n ≡ true → count_before d bs ev ≡ all_instructions c.program
  count_all_is k = rw (c.size_is, c.events_are) (all_is c.program d n c.drafted c.fits (named k))

  -- what the code that writes the table asks for
  pub draft_planned : names_known d bs n ≡ true → cyclic_on d ev bs ≡ false → count_before d bs ev ≤ 4096 → Planned d ev bs
  draft_planned k a h = record {
    long = draft_long c;
    few_events = draft_events c;
    few_behaviours = draft_behaviours c;
    inside = draft_inside c;
    short = h;
    code_fits =
        rw (c.size_is, c.events_are)
        (length_code c.program d n c.drafted c.fits (named k) (uncycled k a) few (omega (arith, count_all_is k)));
  }

  pub draft_table : names_known d bs n ≡ true → cyclic_on d ev bs ≡ false → table_words d ev bs ≡ image_words c.program
  draft_table k a = rw (c.size_is, c.events_are) (table_is c.program d n c.drafted c.fits (named k) (uncycled k a) few)
