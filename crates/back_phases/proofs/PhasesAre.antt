-- The words that the compiler writes for the two phases are those of the event's code: from what each entry of the
-- draft holds.
use Rattle.lib_base.proofs.Prelude.{ℕ, ◌≤◌, ◌<◌, ◌+◌, suc, zero, ◌≡◌, refl, ◌∙◌, sym, true, Bool, false≢true, List, []}
use Rattle.lib_base.proofs.Prelude.{◌∷◌, ◌++◌, append_assoc, append-nil, flat_map, flatten, eqb, arith}
use Rattle.lib_base.specs.Basics.{pick, All}
use Rattle.lib_base.proofs.Tools.{all_imp}
use Rattle.spec_language.specs.Syntax.{Expr, Program}
use Rattle.spec_language.specs.Dependence.{Response, follows, takes, defers, keeps, size, response}
use Rattle.spec_language.specs.Order.{up_to, early, phase_one}
use Rattle.spec_language.specs.Fits.{Fits}
use Rattle.spec_language.specs.Accepted.{NamesIn, Known}
use Rattle.spec_language.specs.Code.{Instr, save, defer, in_c, postfix, first_code, later_code, move_code, again_code, by_number, in_order, first_part, second_part}
use Rattle.spec_language.proofs.Laws.{ResponseNamesIn, response_names, ResponseNested, response_nested}
use Rattle.spec_semantics.proofs.OrderLaws.{phase_one_early}
use Rattle.format_image.specs.Image.{operation, constant}
use Rattle.format_image.specs.Table.{code_words}
use Rattle.draft_form.specs.Draft.{entry_of, used_by, Drafted}
use Rattle.draft_form.specs.Entry.{entry_kind}
use Rattle.draft_form.proofs.DraftLaws.{Holds, Entry, entry_of_law}
use Rattle.back_emit.specs.Words.{each, turn_words, turn_words_of_kind, move_words}
use Rattle.back_emit.proofs.ExprWords.{code_words_append, expr_code}
use Rattle.back_phases.specs.Phases.{first_words, second_words}

-- ---- by number, and in turn

pub flatten_snoc : {A : Type 0} (n : ℕ) (g : ℕ → List A) → flatten (up_to (suc n) g) ≡ flatten (up_to n g) ++ g n
unfolding flatten up_to
flatten_snoc zero g = append-nil (g 0)
flatten_snoc (suc n) g = rw (flatten_snoc n (λ i. g (suc i))) (sym (append_assoc (g 0) (flatten (up_to n (λ i. g (suc i)))) (g (suc n))))

none_code : (g : ℕ → List Instr) → [] ≡ code_words (flatten (up_to 0 g))
unfolding code_words flatten up_to
none_code g = refl

pub each_code : (n : ℕ) (f : ℕ → List ℕ) (g : ℕ → List Instr) → ((i : ℕ) → i < n → f i ≡ code_words (g i)) → each n f ≡ code_words (flatten (up_to n g))
unfolding each
each_code zero f g h = none_code g
each_code (suc n) f g h =
    rw (flatten_snoc n g, code_words_append (flatten (up_to n g)) (g n), each_code n f g (λ i b. h i (omega arith)), h n (omega arith))

turn_code : (p : Program) (e : ℕ) (f : ℕ → List ℕ) (g : ℕ → Response → List Instr) (is : List ℕ) → All (λ i. f i ≡ code_words (g i (response p e i))) is
    → flat_map f is ≡ code_words (in_order p e g is)
unfolding in_order flat_map code_words
turn_code p e f g [] h = refl
turn_code p e f g (i ∷ is) h = rw (code_words_append (g i (response p e i)) (in_order p e g is), h.0, turn_code p e f g is h.1)

-- ---- what one entry gives

module _ (p : Program) (d : List ℕ) (n : ℕ) (dr : Drafted p d n) (fits : Fits p) (known : Known p) (e : ℕ) (b : e ≤ 32) where
  abbrev c : ℕ → Bool
  c = in_c p e

  module _ (i : ℕ) (h : i < size p) where
    abbrev v : ℕ
    v = entry_of d e i

    held : Entry (used_by d i) v (response p e i)
    held = entry_of_law p d n dr e i b h

    -- an expression, and one instruction on i
    ended : (kind op : ℕ) (o : Instr) (x : Expr) (r : Response) → Holds (used_by d i) kind v x → ResponseNested (follows x) → NamesIn (size p) x
        → operation o ≡ op + i → constant o ≡ 0 → turn_words d e op i ≡ code_words (postfix c x ++ (o ∷ []))
    unfolding turn_words code_words
    ended kind op o x r k f a s z =
        rw (code_words_append (postfix c x) (o ∷ []), expr_code p d n dr fits.few_behaviours e b i kind v x k f a, s, z)

    by_kind : (kind k op : ℕ) → entry_kind v ≡ k → turn_words_of_kind d e kind op i ≡ pick (eqb k kind) (turn_words d e op i) []
    unfolding turn_words_of_kind
    by_kind kind k op z = rw z

    move_kind : (k : ℕ) → entry_kind v ≡ k → move_words d e i ≡ pick (eqb k 3) ((2816 + i) ∷ 0 ∷ []) []
    unfolding move_words
    move_kind k z = rw z

    first_is : (r : Response) → Entry (used_by d i) v r → ResponseNested r → ResponseNamesIn (size p) r → early r ≡ true → turn_words d e 2304 i ≡ code_words (first_code c i r)
    first_is (follows x) k f a z = ended 1 2304 (save i) x (follows x) k f a refl refl
    first_is (takes x) k f a z = ended 2 2304 (save i) x (takes x) k f a refl refl
    first_is (defers x) k f a z = absurd (false≢true z)
    first_is keeps k f a z = absurd (false≢true z)

    later_is : (r : Response) → Entry (used_by d i) v r → ResponseNested r → ResponseNamesIn (size p) r → turn_words_of_kind d e 3 2560 i ≡ code_words (later_code c i r)
    unfolding code_words
    later_is (follows x) k f a = by_kind 3 1 2560 k.kind_is
    later_is (takes x) k f a = by_kind 3 2 2560 k.kind_is
    later_is (defers x) k f a = by_kind 3 3 2560 k.kind_is ∙ ended 3 2560 (defer i) x (defers x) k f a refl refl
    later_is keeps k f a = by_kind 3 0 2560 (omega arith)

    again_is : (r : Response) → Entry (used_by d i) v r → ResponseNested r → ResponseNamesIn (size p) r → turn_words_of_kind d e 1 2304 i ≡ code_words (again_code c i r)
    unfolding code_words
    again_is (follows x) k f a = by_kind 1 1 2304 k.kind_is ∙ ended 1 2304 (save i) x (follows x) k f a refl refl
    again_is (takes x) k f a = by_kind 1 2 2304 k.kind_is
    again_is (defers x) k f a = by_kind 1 3 2304 k.kind_is
    again_is keeps k f a = by_kind 1 0 2304 (omega arith)

    move_is : (r : Response) → Entry (used_by d i) v r → move_words d e i ≡ code_words (move_code i r)
    unfolding code_words
    move_is (follows x) k = move_kind 1 k.kind_is
    move_is (takes x) k = move_kind 2 k.kind_is
    move_is (defers x) k = move_kind 3 k.kind_is
    move_is keeps k = move_kind 0 (omega arith)

  -- ---- the phases

  fit : (i : ℕ) → ResponseNested (response p e i)
  fit i = response_nested p fits.each e i

  names : (i : ℕ) → ResponseNamesIn (size p) (response p e i)
  names i = response_names p known e i

  pub first_are : first_words d e (size p) (phase_one p e) ≡ code_words (first_part p e)
  unfolding first_words first_part
  first_are =
      rw (
        turn_code p e (turn_words d e 2304) (first_code c) (phase_one p e)
            (all_imp (λ i. (i < size p) × (early (response p e i) ≡ true)) (λ i. turn_words d e 2304 i ≡ code_words (first_code c i (response p e i)))
            (λ i h. first_is i h.0 (response p e i) (held i h.0) (fit i) (names i) h.1) (phase_one p e) (phase_one_early p e known)),
        each_code (size p) (turn_words_of_kind d e 3 2560) (λ i. later_code c i (response p e i)) (λ i h. later_is i h (response p e i) (held i h) (fit i) (names i)),
        code_words_append (in_order p e (first_code c) (phase_one p e)) (by_number p e (later_code c)),
      )

  pub again_are : flat_map (turn_words_of_kind d e 1 2304) (phase_one p e) ≡ code_words (in_order p e (again_code c) (phase_one p e))
  again_are =
      turn_code p e (turn_words_of_kind d e 1 2304) (again_code c) (phase_one p e)
      (all_imp (λ i. (i < size p) × (early (response p e i) ≡ true)) (λ i. turn_words_of_kind d e 1 2304 i ≡ code_words (again_code c i (response p e i)))
      (λ i h. again_is i h.0 (response p e i) (held i h.0) (fit i) (names i)) (phase_one p e) (phase_one_early p e known))

  pub second_are : second_words d e (size p) (phase_one p e) ≡ code_words (second_part p e)
  unfolding second_words second_part
  second_are =
      rw (
        each_code (size p) (move_words d e) (λ i. move_code i (response p e i)) (λ i h. move_is i h (response p e i) (held i h)),
        again_are,
        code_words_append (by_number p e move_code) (in_order p e (again_code c) (phase_one p e)),
      )
