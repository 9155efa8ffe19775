-- What a table says of the actives is what the program says; the values that a change begins with are the model's, and
-- the stretch of the new table's instructions works out the passives of the carried store. From the laws of the
-- passives' code.
use Rattle.lib_base.proofs.Prelude.{ℕ, ◌≤◌, ◌<◌, ◌+◌, ◌-◌, suc, zero, ◌*◌, ◌≡◌, refl, ◌∙◌, sym, ap, subst, true, false}
use Rattle.lib_base.proofs.Prelude.{none, List, [], append-nil, length, get_or, replicate, length-replicate, eqb, ltb}
use Rattle.lib_base.proofs.Prelude.{le-ltb, lt-ltb, ltb-true, le-leb, arith}
use Rattle.lib_base.specs.Basics.{pick}
use Rattle.lib_base.proofs.Tools.{split}
use Rattle.lib_word.specs.Word.{get_at, get, words}
use Rattle.lib_word.proofs.Laws.{words_get}
use Rattle.spec_language.specs.Syntax.{Expr, Handler, Behaviour, passive, active, Program}
use Rattle.spec_language.specs.Valid.{Valid}
use Rattle.spec_language.specs.Dependence.{size, behaviour_at, is_active}
use Rattle.spec_language.specs.Order.{up_to}
use Rattle.spec_language.specs.Code.{Instr}
use Rattle.spec_language.proofs.Laws.{length_up_to, get_d_up_to}
use Rattle.spec_semantics.specs.Meaning.{at}
use Rattle.spec_execution.specs.Execution.{Values, held}
use Rattle.spec_execution.specs.Runs.{execute_all}
use Rattle.spec_execution.specs.Safe.{is_filled, Safe, Matches, filled_after as checked}
use Rattle.spec_execution.proofs.SafeLaws.{full_some, after_matches}
use Rattle.spec_model.specs.Carried.{carried_start, carried}
use Rattle.spec_model.specs.Carried as meant
use Rattle.spec_model.proofs.Carries.{active_below, fresh_active, carried_active}
use Rattle.spec_model.proofs.Passives.{passives_code, passives_store, passives_right, passives_safe, passives_held}
use Rattle.format_layout.specs.Foreign.{code_fits}
use Rattle.format_image.specs.Table.{kind_number, passives_at}
use Rattle.format_image.specs.Table as image
use Rattle.format_image.proofs.ImageLaws.{Says}
use Rattle.format_layout.specs.Round.{CallResult}
use Rattle.run_stretch.specs.Stretch.{stretch_from}
use Rattle.run_carry.specs.Carry.{active_in_table, kept_or_fresh, value_for, filled_store, worked_out, carry_on, shown_of, shown_for}
use Rattle.run_carry.specs.Carry as carry
use Rattle.refine_calls.proofs.Values.{value_at_law}
use Rattle.refine_calls.proofs.Stretch.{Stands, Leads, stretch}
use Rattle.refine_calls.proofs.Filling.{begun, ready, ready_at, begun_matches, begun_loaded, filled_long, filled_holds}

-- ---- empty bytes

zeros : (n i : ℕ) → ◌≡◌ {A = ℕ} (get_or (replicate n 0) i 0) 0
zeros zero i = refl
zeros (suc n) zero = refl
zeros (suc n) (suc i) = zeros n i

pub blank : (n k : ℕ) → get (replicate n 0) k ≡ 0
unfolding get get_at
blank n k = rw (zeros n (k * 4), zeros n (k * 4 + 1), zeros n (k * 4 + 2), zeros n (k * 4 + 3))

-- ---- actives

kind_active : (b : Behaviour) → eqb (kind_number b) 0 ≡ is_active b
kind_active (passive x) = refl
kind_active (active c hs) = refl

pub active_is : (p : Program) (t : List ℕ) → Says p t → (i : ℕ) → active_in_table t i ≡ meant.is_active_in p i
unfolding active_in_table carry.active_kind
active_is p t says i =
    split (ltb i (size p))
    (λ e. rw (says.behaviour_count_law, e, says.kinds i (ltb-true i (size p) e)) (kind_active (behaviour_at p i)))
    (λ e. rw (says.behaviour_count_law, e))

module _ (p q : Program) (vp : Valid p) (vq : Valid q) (t u : List ℕ) (old : Says p t) (new : Says q u) (l s : List ℕ) (stored : words l 136 (size p) ≡ s) where
  -- ---- what each active begins with

  value_now : (i : ℕ) → i < size p → get l (136 + i) ≡ at s i
  value_now i b = sym (words_get l 136 (size p) i b) ∙ ap (λ (x : List ℕ). at x i) stored

  begins_is : (i c : ℕ) (hs : List Handler) → i < size q → behaviour_at q i ≡ active c hs → value_for t u l i ≡ pick (meant.is_active_in p i) (at s i) c
  unfolding value_for kept_or_fresh
  begins_is i c hs b e =
      let known : active_in_table u i ≡ true = active_is q u new i ∙ rw (lt-ltb i (size q) b, e) in
      let first : get u (136 + i) ≡ c = new.values i b ∙ fresh_active q vq i c hs b e in
      split (meant.is_active_in p i)
      (λ k. rw (active_is p t old i, known, k) (value_now i (active_below p i k).0))
      (λ k. rw (active_is p t old i, k) first)

  begins_same : (i : ℕ) → i < size q → (b : Behaviour) → behaviour_at q i ≡ b → is_active b ≡ true → value_for t u l i ≡ carried_start (meant.is_active_in p i) (at s i) b
  begins_same i h (passive x) e a = let z : false ≡ true = a in cc
  begins_same i h (active c hs) e a = begins_is i c hs h e

  abbrev first : List ℕ
  first = up_to (size q) (value_for t u l)

  same : (i : ℕ) → i < size q → is_active (behaviour_at q i) ≡ true → at first i ≡ carried_start (meant.is_active_in p i) (at s i) (behaviour_at q i)
  same i b a = get_d_up_to (size q) (value_for t u l) i 0 b ∙ begins_same i b (behaviour_at q i) refl a

  -- ---- the passives

  abbrev code_of : List Instr
  code_of = passives_code q 0

  abbrev ended : Values
  ended = execute_all code_of (begun (size q) (value_for t u l))

  code_same : image.passives_code q ≡ code_of
  unfolding image.passives_code
  code_same = refl

  safe : Safe (ready (size q)) code_of
  safe = passives_safe q vq 0 (omega arith) (ready (size q)) (length-replicate (size q) true) (length-replicate (size q) false) refl (ready_at (size q))

  module _ (short : length (image.passives_code q) ≤ 4096) where
    stands : Stands u (passives_at q) code_of
    stands = subst (Stands u (passives_at q)) code_same (λ c b. (new.passives_operations short c b, new.passives_constants short c b))

    fits : code_fits (passives_at q) (length (image.passives_code q)) ≡ true
    unfolding code_fits
    fits =
        let w : passives_at q + length (image.passives_code q) ≤ 4096 = new.passives_within short in
        rw (le-ltb 4096 (passives_at q) (omega arith)) (le-leb (length (image.passives_code q)) (4096 - passives_at q) (omega arith))

    abbrev result_of : CallResult
    result_of = carry_on t u l (replicate 2048 0)

    opens : result_of ≡ stretch_from u (passives_at q) (length code_of) (filled_store t u l (replicate 2048 0) 64)
    unfolding carry_on worked_out
    opens = rw (new.passives_start_law, new.passives_length_law, fits) (ap (λ (is : List Instr). stretch_from u (passives_at q) (length is) (filled_store t u l (replicate 2048 0) 64)) code_same)

    pub carry_leads : Leads (size q) ended result_of
    carry_leads =
        rw opens
        (stretch (size q) new.few_behaviours u code_of (passives_at q) (filled_store t u l (replicate 2048 0) 64) (begun (size q) (value_for t u l)) (ready (size q)) stands safe
        (begun_matches (size q) (value_for t u l)) (filled_long t u l (replicate 2048 0) (length-replicate {A = ℕ} 2048 0))
        (filled_holds t u l (replicate 2048 0) (length-replicate {A = ℕ} 2048 0) (λ k h. blank 2048 k) (size q) new.few_behaviours))

    -- a passive's place is filled
    in_place : (i : ℕ) (x : Expr) → i < size q → behaviour_at q i ≡ passive x → is_filled (get_or ended.scratch i none) ≡ true
    in_place i x b e =
        let m : Matches ended (checked (ready (size q)) code_of) =
        after_matches code_of [] (begun (size q) (value_for t u l)) (ready (size q)) (rw append-nil safe) (begun_matches (size q) (value_for t u l)) in
        m.in_scratch i
        ∙ passives_held q vq 0 (omega arith) (ready (size q)) (length-replicate (size q) true) (length-replicate (size q) false) refl (ready_at (size q)) i x b e

    shown_at_law : (i : ℕ) → i < size q → (b : Behaviour) → behaviour_at q i ≡ b → shown_of (kind_number b) (get result_of.1 (136 + i)) (get result_of.1 (200 + i)) ≡ at (carried p q s) i
    unfolding shown_of
    shown_at_law i h (passive x) e =
        let v = full_some (get_or ended.scratch i none) (in_place i x h e) in
        carry_leads.2.scratch i v.0 v.1 ∙ sym (ap held v.1)
        ∙ passives_right q vq 0 (omega arith) p s first (length_up_to (size q) _) same (begun (size q) (value_for t u l)) (begun_loaded (size q) (value_for t u l)) i x h e
    shown_at_law i h (active c hs) e =
        value_at_law (size q) new.few_behaviours result_of.1 ended i h carry_leads.2
        ∙ ap (λ (x : List ℕ). at x i)
        (passives_store q vq 0 (omega arith) p s first (length_up_to (size q) _) same (begun (size q) (value_for t u l)) (begun_loaded (size q) (value_for t u l)))
        ∙ same i h (ap is_active e) ∙ sym (carried_active p q vq s i h (ap is_active e))

    -- what the board is to show
    pub shown_right : (i : ℕ) → i < size q → shown_for u result_of.1 i ≡ at (carried p q s) i
    unfolding shown_for
    shown_right i b = rw (new.kinds i b) (shown_at_law i b (behaviour_at q i) refl)
