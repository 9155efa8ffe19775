-- What follows an operand: each answer is the turn that `after_operand` takes on the sign there.
use Rattle.std.specs.Prelude.{Ok, Err}
use Rattle.source_field.specs.declared.Formula.{Formula}
use Rattle.source_field.specs.Formula.{Read, formula_done}
use Rattle.source_onward.specs.declared.Onward.TheVariants.{Ended, Closed, Operator}
use Rattle.source_coding.specs.declared.faults.Fault.{Fault}
use Rattle.lib_base.proofs.Prelude.{ℕ, ◌≤◌, ◌<◌, ◌+◌, ◌-◌, suc, zero, ◌≡◌, refl, ◌∙◌, sym, ap, true, false, Bool, ◌&&◌, []}
use Rattle.lib_base.proofs.Prelude.{List, ◌∷◌, length, get_or, drop, List·getD-eq-default, get_or-drop, eqb, ltb, leb}
use Rattle.lib_base.proofs.Prelude.{add-one, ne_eqb, eqb-true, le-ltb, lt-ltb, ltb-false, eqb-false, ltb-true, lt-leb}
use Rattle.lib_base.proofs.Prelude.{leb-true, arith}
use Rattle.lib_base.specs.Basics.{pick}
use Rattle.lib_base.proofs.Tools.{by_test, past, split}
use Rattle.lib_signature.specs.Numbers.{not_fn}
use Rattle.lib_signature.specs.Signature.{level}
use Rattle.lib_signature.proofs.Laws.{level_two}
use Rattle.source_language.specs.Tokens.{SheetToken, sign, marks, same, sign_of, closing, end_sign, is_digit, is_letter, in_word}
use Rattle.source_language.specs.Scanner.{begins, first_in_text}
use Rattle.source_language.specs.Text.{Phrase, operation}
use Rattle.source_language.specs.Faults.{outside, too_deep}
use Rattle.source_language.specs.Limits.{phrase_nesting}
use Rattle.source_language.specs.Reader.{Phrased, bad, got, then_phrase, place_at, sign_at, past_sign, with_operator, after_operand}
use Rattle.source_coding.specs.FaultWords.{fault_of}
use Rattle.source_coding.specs.Places.{tokens_from}
use Rattle.source_tokens.specs.Token.{TokenBegins, PassedOver}
use Rattle.source_tokens.proofs.Begun.{tokens_some}
use Rattle.source_tokens.proofs.Scanned.{tokens_end, tokens_begin}
use Rattle.source_tokens.proofs.Opened.{not_by_byte, if_by_byte}
use Rattle.source_tokens.proofs.Words.{NoOperator, word_no_operator}
use Rattle.source_due.specs.Due.{Due, found, SignTold}
use Rattle.source_due.proofs.Passes.{sign_passes, sign_fails}
use Rattle.source_onward.specs.Onward.{OnwardDue, SignStands, LoneMark, SignBefore, SignAhead, TokenPassed, joins_in, onward_of, OnwardRead, EndedRead}
use Rattle.source_onward.proofs.Stands.{above_begins, above_here, lone_stands}

-- ---- operators

joins_outside : (t l : ℕ) → ltb 0 t && leb t l ≡ joins_in t l 0
unfolding joins_in
joins_outside zero l = refl
joins_outside (suc t) l = rw (ne_eqb (suc t) 0 (λ e. omega arith), lt-ltb 0 (suc t) (omega arith))

joins_inside : (t l k : ℕ) → ltb 0 t && leb t 6 ≡ joins_in t l (suc k)
unfolding joins_in
joins_inside zero l k = refl
joins_inside (suc t) l k = rw (ne_eqb (suc t) 0 (λ e. omega arith), lt-ltb 0 (suc t) (omega arith), ne_eqb (suc k) 0 (λ e. omega arith))

-- an operator that goes on has a level, of at most 6
pub joins_some : (t l k : ℕ) → joins_in t l k ≡ true → 0 < t
unfolding joins_in
joins_some t l k e = omega (arith, eqb-false t 0 (past (eqb t 0) (pick (eqb k 0) (leb t l) (leb t 6)) e).0)

joins_range : (t l k : ℕ) → l ≤ 6 → joins_in t l k ≡ true → (0 < t) × (t ≤ 6)
unfolding joins_in
joins_range t l k b e =
    let h = past (eqb t 0) (pick (eqb k 0) (leb t l) (leb t 6)) e in
    let g : t ≤ 6 =
    by_test (λ (x : Bool). x ≡ true → t ≤ 6) (eqb k 0) (λ q f. let z = leb-true t l f in omega arith) (λ q f. leb-true t 6 f) h.1 in
    (joins_some t l k e, g)

module _ (next : ℕ → List SheetToken → Phrased Phrase) (room l m : ℕ) (a : Phrase) (ts : List SheetToken) where
  after_joined : (k : ℕ) → joins_in (level (sign_at ts)) l k ≡ true → after_operand next room l (suc m) k a ts ≡ with_operator next room (after_operand next room l m k) a ts
  unfolding after_operand
  after_joined zero e = rw (joins_outside (level (sign_at ts)) l ∙ e)
  after_joined (suc k) e = rw (joins_inside (level (sign_at ts)) l k ∙ e)

  after_ended : joins_in (level (sign_at ts)) l 0 ≡ false → after_operand next room l (suc m) 0 a ts ≡ got a ts
  unfolding after_operand
  after_ended e = rw (joins_outside (level (sign_at ts)) l ∙ e)

  after_unjoined : (k : ℕ) → joins_in (level (sign_at ts)) l (suc k) ≡ false → after_operand next room l (suc m) (suc k) a ts ≡ past_sign closing (after_operand next room l m k a) ts
  unfolding after_operand
  after_unjoined k e = rw (joins_inside (level (sign_at ts)) l k ∙ e)

  module _ (p c : ℕ) (us : List SheetToken) (is : ts ≡ sign p c ∷ us) where
    after_operator : (k : ℕ) → joins_in (level c) l k ≡ true → phrase_nesting a < room
        → after_operand next room l (suc m) k a ts ≡ then_phrase (next (level c - 1) us) (λ b vs. after_operand next room l m k (operation c a b) vs)
    after_operator k e h = after_joined k (rw is e) ∙ rw (is, lt-ltb (phrase_nesting a) room h)

    after_closed : (k : ℕ) → joins_in (level c) l (suc k) ≡ false → c ≡ closing → after_operand next room l (suc m) (suc k) a ts ≡ after_operand next room l m k a us
    unfolding past_sign
    after_closed k e h = after_unjoined k (rw is e) ∙ rw (is, h)

  after_deep : (k : ℕ) → joins_in (level (sign_at ts)) l k ≡ true → room ≤ phrase_nesting a → after_operand next room l (suc m) k a ts ≡ bad too_deep (place_at ts)
  after_deep k e h = after_joined k e ∙ rw (le-ltb (phrase_nesting a) room h)

  after_missing : (k : ℕ) → joins_in (level (sign_at ts)) l (suc k) ≡ false → (sign_at ts ≡ closing → ⊥) → after_operand next room l (suc m) (suc k) a ts ≡ bad outside (place_at ts)
  unfolding past_sign
  after_missing k e h = after_unjoined k e ∙ rw (ne_eqb (sign_at ts) closing h)

-- ---- the sign ahead

module _ (text : List ℕ) (at p : ℕ) (o : PassedOver text at p) where
  ahead_none : at ≤ length text → NoOperator (sign_at (tokens_from text p)) × (place_at (tokens_from text p) ≡ p) → SignAhead text at p 0 p
  unfolding level
  ahead_none h n =
      record {
        level_is_law = ap (λ (ts : List SheetToken). level (sign_at ts)) o.all ∙ n.0.0;
        closing_is = λ q. absurd (n.0.1 (ap sign_at (sym o.all) ∙ q));
        place_is = ap place_at o.all ∙ n.1;
        some = tokens_some text at h;
        within = o.within;
        onward = λ x y. absurd (omega arith);
        further = λ x y. absurd (omega arith);
      }

  pub ahead_end : at ≤ length text → length text ≤ p → SignAhead text at p 0 p
  unfolding level
  ahead_end h e =
      ahead_none h (rw (tokens_end text p (omega (arith, o.within))) ((refl, λ z. absurd (omega arith)), refl))

  pub ahead_word : at ≤ length text → p < length text → in_word (get_or text p 0) ≡ true → SignAhead text at p 0 p
  ahead_word h l e = ahead_none h (word_no_operator text p (o.begun l) e)

  pub ahead_sign : (q c next to : ℕ) → SignStands text p q c next → PassedOver text next to → SignAhead text at q c to
  ahead_sign q c next to s n =
      record {
        level_is_law = ap (λ (ts : List SheetToken). level (sign_at ts)) o.all ∙ ap level s.sign_is;
        closing_is = λ z. sym s.sign_is ∙ ap sign_at (sym o.all) ∙ z;
        place_is = ap place_at o.all ∙ s.place_is;
        some = rw o.all s.some;
        within = s.within;
        onward = λ x y. o.all ∙ s.onward x y ∙ ap (λ (ts : List SheetToken). sign q c ∷ ts) n.all;
        further = λ x y. let b = s.further x y in (omega (arith, o.onward, n.onward), n.within);
      }

-- a mark that is told by its byte
module _ (text : List ℕ) (at b c : ℕ) (is : b ≡ get_or text at 0) (m : LoneMark b c) (h : c ≡ 0 → ⊥) where
  lone_above : 40 < get_or text at 0
  lone_above = omega (arith, m.beyond h)

  pub lone_behind : at + 1 ≤ length text
  lone_behind = omega (arith, (above_begins text at lone_above).inside)

  pub ahead_lone : (to : ℕ) → PassedOver text (at + 1) to → SignAhead text at at c to
  ahead_lone to n =
      ahead_sign text at at (above_here text at lone_above) at c (at + 1) to
      (lone_stands text at c (above_begins text at lone_above) (rw is at m) h) n

-- ---- the sign that an operand begins by

not_mark : (p : ℕ) (bs : List ℕ) → (get_or bs 0 0 ≡ 61 → ⊥) → first_in_text p 33 bs ≡ begins (sign p not_fn) bs
unfolding first_in_text is_digit is_letter sign_of marks same
not_mark p [] h = refl
not_mark p (c ∷ rest) h = rw (ne_eqb c 61 h) refl

module _ (text : List ℕ) (at : ℕ) where
  pub before_other : PassedOver text at at → (get_or text at 0 ≡ 33 → ⊥) → (get_or text at 0 ≡ 105 → ⊥) → SignBefore text at at 0 at
  before_other o h g =
      record {
        not_is = λ e. absurd (not_by_byte text at at o h e);
        if_is = λ e. absurd (if_by_byte text at at o g e);
        within = o.within;
        onward = λ x y. absurd (omega arith);
        further = λ x y. absurd (omega arith);
      }

  -- `!` stands where a token begins, and in no word; where no `=` follows, it is the sign
  pub not_begun : PassedOver text at at → get_or text at 0 ≡ 33 → TokenBegins text at
  not_begun o e =
      o.begun (split (ltb at (length text)) (λ t. ltb-true at (length text) t)
      (λ f. let d = List·getD-eq-default text 0 (ltb-false at (length text) f) in absurd (omega arith)))

  pub not_in_word : get_or text at 0 ≡ 33 → in_word (get_or text at 0) ≡ false
  unfolding in_word is_digit is_letter
  not_in_word e = rw e refl

  not_alone : TokenBegins text at → get_or text at 0 ≡ 33 → (get_or text (at + 1) 0 ≡ 61 → ⊥) → tokens_from text at ≡ sign at not_fn ∷ tokens_from text (at + 1)
  not_alone b e h =
      let q : get_or (drop (suc at) text) 0 0 ≡ get_or text (at + 1) 0 = get_or-drop (suc at) text 0 0 ∙ ap (λ (n : ℕ). get_or text n 0) (omega arith) in
      tokens_begin text at b (sign at not_fn) (at + 1) (rw (e, add-one at) (not_mark at (drop (suc at) text) (λ z. h (sym q ∙ z))))

  pub before_not : TokenBegins text at → get_or text at 0 ≡ 33 → (get_or text (at + 1) 0 ≡ 61 → ⊥) → SignBefore text at at not_fn (at + 1)
  before_not b e h =
      let q = not_alone b e h in
      record {
        not_is = λ z. refl;
        if_is = λ z. absurd (omega (arith, z, ap sign_at q));
        within = omega (arith, b.inside);
        onward = λ x y. q;
        further = λ x y. (omega arith, omega (arith, b.inside));
      }

  pub before_sign : (p c next : ℕ) → SignStands text at p c next → SignBefore text at p c next
  before_sign p c next s =
      record {
        not_is = λ e. sym s.sign_is ∙ e;
        if_is = λ e. sym s.sign_is ∙ e;
        within = s.within;
        onward = s.onward;
        further = s.further;
      }

-- ---- all that can follow

module _ (text : List ℕ) (at l depth room p c next : ℕ) (few : l ≤ 6) (s : SignAhead text at p c next) where
  passed : 0 < c → c < end_sign → TokenPassed text at next
  passed x y =
      let b = s.further x y in
      let z : length (tokens_from text at) ≡ suc (length (tokens_from text next)) = ap length (s.onward x y) in
      omega arith

  operator_on : (k : ℕ) → joins_in (level c) l k ≡ true → OnwardRead text at l k depth room (pick (ltb depth room) (Ok (Operator c (level c - 1) next)) (Err (fault_of too_deep p)))
  operator_on k j =
      let r = joins_range (level c) l k few j in
      let b = level_two c r.0 in
      by_test (OnwardRead text at l k depth room) (ltb depth room)
      (λ e. (
        λ go m a d.
            after_operator go room l m a (tokens_from text at) p c (tokens_from text next) (s.onward b.0 (omega arith)) k j (rw d (ltb-true depth room e)),
        omega arith,
        ltb-true depth room e,
        passed b.0 (omega arith),
      ))
      (λ e go m a d. record {
        kind = too_deep;
        place = p;
        turned = after_deep go room l m a (tokens_from text at) k (rw s.level_is_law j) (rw d (ltb-false depth room e)) ∙ rw s.place_is;
        told = refl;
      })

  unjoined : (k : ℕ) → joins_in (level c) l k ≡ false
      → OnwardRead text at l k depth room (pick (eqb k 0) (Ok Ended) (pick (eqb c closing) (Ok (Closed next)) (Err (fault_of outside p))))
  unjoined zero j = λ go m a. after_ended go room l m a (tokens_from text at) (rw s.level_is_law j)
  unjoined (suc k) j =
      rw (ne_eqb (suc k) 0 (λ e. omega arith))
      (by_test (OnwardRead text at l (suc k) depth room) (eqb c closing)
      (λ e. let h = eqb-true c closing e in (
        λ go m a.
            let z : suc k - 1 ≡ k = omega arith in
            rw z (after_closed go room l m a (tokens_from text at) p c (tokens_from text next) (s.onward (omega arith) (omega arith)) k j h),
        omega arith,
        passed (omega arith) (omega arith),
      ))
      (λ e go m a d. record {
        kind = outside;
        place = p;
        turned = after_missing go room l m a (tokens_from text at) k (rw s.level_is_law j) (λ q. eqb-false c closing e (s.closing_is q)) ∙ rw s.place_is;
        told = refl;
      }))

  pub onward_read : (k : ℕ) (r : OnwardDue) → r ≡ onward_of p c next l k depth room → OnwardRead text at l k depth room r
  unfolding onward_of
  onward_read k r e = rw e (by_test (OnwardRead text at l k depth room) (joins_in (level c) l k) (operator_on k) (unjoined k))

-- a formula of the lowest level ends, whatever follows
no_operator : (t : ℕ) → joins_in t 0 0 ≡ false
unfolding joins_in
no_operator zero = refl
no_operator (suc t) = rw (ne_eqb (suc t) 0 (λ e. omega arith), lt-leb (suc t) 0 (omega arith))

pub onward_lowest : (text : List ℕ) (at l k depth room : ℕ) → l ≡ 0 → k ≡ 0 → OnwardRead text at l k depth room (Ok Ended)
onward_lowest text at l k depth room e d =
    rw (e, d) (λ go m a. after_ended go room 0 m a (tokens_from text at) (no_operator (level (sign_at (tokens_from text at)))))

-- ---- the `)` of an `if`

module _ (text : List ℕ) (f : Formula) (r : Read) (is : r ≡ Ok f) (d : Due) (due : SignTold text f.next closing d) where
  pub ended_missing : (v : Fault) → d ≡ Err v → EndedRead text r (Err v)
  ended_missing v e =
      let h = rw e at due in
      rw is (λ x. record { kind = outside; place = place_at (tokens_from text f.next); turned = sign_fails text f.next closing (λ us. got x us) v h; told = h.1 })

  pub ended_found : (p c to next : ℕ) → d ≡ found p c to → (f.next < to) × (to ≤ length text) → PassedOver text to next → EndedRead text r (formula_done next f.depth f.end f.stray)
  ended_found p c to next e b o =
      let h = rw e at due in
      let z : length (tokens_from text f.next) ≡ suc (length (tokens_from text next)) = ap length h ∙ ap (λ (ts : List SheetToken). suc (length ts)) o.all in
      rw is (
        λ x. sign_passes text f.next closing (λ us. got x us) p c to h ∙ ap (λ (ts : List SheetToken). got x ts) o.all,
        refl,
        refl,
        refl,
        omega (arith, o.onward, o.within),
      )
