-- The reader of formulas reads exactly those that the grammar derives and the limits allow. What it reads is derived:
-- the tokens after the innermost bracket derive the operand read so far, at a level that no operator after it undercuts
-- (`after_sound`), by induction on the room. What is derived is read: by induction on the derivation; after it the
-- reader goes on behind the operand (`reach`), and ends where no operator of its level follows.
use Rattle.lib_base.proofs.Prelude.{ℕ, ◌≤◌, ◌<◌, ◌+◌, ◌-◌, suc, zero, ◌≡◌, refl, ◌∙◌, sym, ap, subst, true, false}
use Rattle.lib_base.proofs.Prelude.{false≢true, true≢false, List, [], ◌∷◌, length, eqb, ltb, leb, ne_eqb, eqb-true}
use Rattle.lib_base.proofs.Prelude.{le-ltb, lt-ltb, ltb-false, ltb-true, lt-leb, le-leb, leb-false, leb-true, arith}
use Rattle.lib_base.proofs.Tools.{by_test, split}
use Rattle.lib_signature.specs.Signature.{level}
use Rattle.lib_signature.specs.Numbers.{not_fn, if_fn, subtract_fn}
use Rattle.lib_signature.proofs.Laws.{level_beyond, level_most}
use Rattle.text_formula.specs.Nesting.{deeper}
use Rattle.text_formula.proofs.Parses.{level_of_law, operator_of_law}
use Rattle.source_language.specs.Tokens.{SheetToken, number, name, sign, opening, closing, comma, bracket, unbracket}
use Rattle.source_language.specs.Text.{TextConstant, plus, minus, Phrase, constant, named, cell, negation, operation, choice}
use Rattle.source_language.specs.Grammar.{IsValue, v_plus, v_minus, PhraseDerives, tighter, two_sided, negated, a_value, a_name, a_cell, bracketed, chosen}
use Rattle.source_language.specs.Limits.{ConstantFits, phrase_nesting, NumbersFit, PhraseFits}
use Rattle.source_language.specs.Reader.{Phrased, bad, got, then_phrase, place_at, sign_at, tokens_after, past_sign, name_due, number_due, value_of, operator_within, with_operator, after_operand, cell_of, read_constant, read_negation, read_choice, with_arguments, signed_of, read_primary, from_operand, phrase_within, formula_of}

-- ---- what is said of a result: nothing of a fault

abbrev pub Of : {A : Type 0} → (A → List SheetToken → Type 0) → Phrased A → Type 0
Of P (bad k p) = Unit {0}
Of P (got x us) = P x us

module _ {A B : Type 0} (P : B → List SheetToken → Type 0) (Q : A → List SheetToken → Type 0) where
  pub then_of : (f : A → List SheetToken → Phrased B) → ((x : A) (us : List SheetToken) → Q x us → Of P (f x us)) → (g : Phrased A) → Of Q g → Of P (then_phrase g f)
  then_of f b (bad k p) h = tt
  then_of f b (got x us) h = b x us h

-- a sign, a name, a number that is due
abbrev pub Signed : ℕ → List SheetToken → Type 0
Signed c ts = (p : ℕ) × (us : List SheetToken) × (ts ≡ sign p c ∷ us)

pub signed_is : (c : ℕ) → 0 < c → (ts : List SheetToken) → eqb (sign_at ts) c ≡ true → ts ≡ sign (place_at ts) c ∷ tokens_after ts
signed_is c l [] e = absurd (omega (arith, eqb-true 0 c e))
signed_is c l (number p n ∷ ts) e = absurd (omega (arith, eqb-true 0 c e))
signed_is c l (name p s ∷ ts) e = absurd (omega (arith, eqb-true 0 c e))
signed_is c l (sign p d ∷ ts) e = let q : d ≡ c = eqb-true d c e in rw q

module _ {A : Type 0} (P : A → List SheetToken → Type 0) where
  pub past_of : (c : ℕ) → 0 < c → (f : List SheetToken → Phrased A) (ts : List SheetToken) → ((p : ℕ) (us : List SheetToken) → ts ≡ sign p c ∷ us → Of P (f us)) → Of P (past_sign c f ts)
  unfolding past_sign
  past_of c l f ts b =
      by_test (Of P) (eqb (sign_at ts) c) (λ e. b (place_at ts) (tokens_after ts) (signed_is c l ts e)) (λ e. tt)

  pub name_of : (f : ℕ → List ℕ → List SheetToken → Phrased A) (ts : List SheetToken) → ((p : ℕ) (s : List ℕ) (us : List SheetToken) → ts ≡ name p s ∷ us → Of P (f p s us)) → Of P (name_due f ts)
  name_of f [] b = tt
  name_of f (number p n ∷ ts) b = tt
  name_of f (name p s ∷ ts) b = b p s ts refl
  name_of f (sign p c ∷ ts) b = tt

  pub number_of : (top : ℕ) (f : ℕ → ℕ → List SheetToken → Phrased A) (ts : List SheetToken)
      → ((p n : ℕ) (us : List SheetToken) → ts ≡ number p n ∷ us → n ≤ top → Of P (f p n us)) → Of P (number_due top f ts)
  number_of top f [] b = tt
  number_of top f (number p n ∷ ts) b = by_test (Of P) (ltb top n) (λ e. tt) (λ e. b p n ts refl (ltb-false top n e))
  number_of top f (name p s ∷ ts) b = tt
  number_of top f (sign p c ∷ ts) b = tt

-- ---- values

unfoldable pub Valued : List SheetToken → TextConstant → List SheetToken → Type 0
Valued ts c us = IsValue ts c us × ConstantFits c

pub value_sound : (ts : List SheetToken) → Of (Valued ts) (value_of ts)
unfolding value_of Valued
value_sound ts =
    by_test (Of (Valued ts)) (eqb (sign_at ts) 5)
    (λ e. number_of (Valued ts) 2147483648 (λ p n us. got (minus n) us) (tokens_after ts) (λ p n us q h.
    let r : ts ≡ sign (place_at ts) 5 ∷ number p n ∷ us = signed_is 5 (omega arith) ts e ∙ rw q in rw r (v_minus, h)))
    (λ e. number_of (Valued ts) 2147483647 (λ p n us. got (plus n) us) ts (λ p n us q h. rw q (v_plus, h)))

pub value-reads : {ts us : List SheetToken} {c : TextConstant} → IsValue ts c us → ConstantFits c → value_of ts ≡ got c us
unfolding value_of
value-reads (v_plus {p} {n}) h = rw (le-ltb 2147483647 n h)
value-reads (v_minus {p} {q} {n}) h = rw (le-ltb 2147483648 n h)

-- ---- operators

-- an operator of a level or of a tighter one
within_true : (l c : ℕ) → operator_within l c ≡ true → (0 < level c) × (level c ≤ l)
within_true l c =
    split (ltb 0 (level c)) (λ a. split (leb (level c) l) (λ b e. (ltb-true 0 (level c) a, leb-true (level c) l b)) (λ b. rw (a, b) (λ e. absurd (false≢true e))))
    (λ a. rw a (λ e. absurd (false≢true e)))

within_is : (l c : ℕ) → 0 < level c → level c ≤ l → operator_within l c ≡ true
within_is l c a b = rw (lt-ltb 0 (level c) a, le-leb (level c) l b)

-- what follows begins with no two-sided operator tighter than level l
abbrev pub Loose : ℕ → List SheetToken → Type 0
Loose l ts = 0 < level (sign_at ts) → l ≤ level (sign_at ts)

within_false : (l : ℕ) (ts : List SheetToken) → operator_within l (sign_at ts) ≡ false → Loose (suc l) ts
within_false l ts e h =
    split (leb (level (sign_at ts)) l) (λ b. absurd (true≢false (sym (within_is l (sign_at ts) h (leb-true (level (sign_at ts)) l b)) ∙ e)))
    (λ b. leb-false (level (sign_at ts)) l b)

within_none : (l : ℕ) (ts : List SheetToken) → Loose (suc l) ts → operator_within l (sign_at ts) ≡ false
within_none l ts h =
    split (ltb 0 (level (sign_at ts))) (λ a. rw (a, lt-leb (level (sign_at ts)) l (h (ltb-true 0 (level (sign_at ts)) a)))) (λ a. rw a)

-- an operator is a sign
operator_at : (ts : List SheetToken) → 0 < level (sign_at ts) → ts ≡ sign (place_at ts) (sign_at ts) ∷ tokens_after ts
unfolding level
operator_at [] h = absurd (omega arith)
operator_at (number p n ∷ ts) h = absurd (omega arith)
operator_at (name p s ∷ ts) h = absurd (omega arith)
operator_at (sign p c ∷ ts) h = refl

-- where no token is left there is no operator
no_operator : (ts : List SheetToken) → length ts ≤ 0 → level (sign_at ts) ≡ 0
unfolding level
no_operator [] h = refl
no_operator (t ∷ ts) h = absurd (omega arith)

-- a closing bracket closes one
closes : (next : ℕ → List SheetToken → Phrased Phrase) (room l m k p : ℕ) (e : Phrase) (us : List SheetToken)
    → after_operand next room l (suc m) (suc k) e (sign p closing ∷ us) ≡ after_operand next room l m k e us
unfolding after_operand past_sign level
closes next room l m k p e us = refl

-- what has an operator behind it leaves room for that
roomy : (P : Phrase → List SheetToken → Type 0) (next : ℕ → List SheetToken → Phrased Phrase) (room : ℕ) (go : Phrase → List SheetToken → Phrased Phrase) (a : Phrase) (ts : List SheetToken)
    → (phrase_nesting a < room → Of P (then_phrase (next (level (sign_at ts) - 1) (tokens_after ts)) (λ b us. go (operation (sign_at ts) a b) us))) → Of P (with_operator next room go a ts)
roomy P next room go a ts f = by_test (Of P) (ltb (phrase_nesting a) room) (λ e. f (ltb-true (phrase_nesting a) room e)) (λ e. tt)

-- ---- how long formulas are

-- a value and a formula are some tokens
pub value_less : {ts us : List SheetToken} {c : TextConstant} → IsValue ts c us → length us < length ts
value_less v_plus = omega arith
value_less v_minus = omega arith

pub derives_less : {l : ℕ} {ts us : List SheetToken} {e : Phrase} → PhraseDerives l ts e us → length us < length ts
derives_less (tighter d) = derives_less d
derives_less (two_sided o d e) = omega (arith, derives_less d, derives_less e)
derives_less (negated d) = omega (arith, derives_less d)
derives_less (a_value v) = value_less v
derives_less a_name = omega arith
derives_less a_cell = omega arith
derives_less (bracketed d) = omega (arith, derives_less d)
derives_less (chosen d e f) = omega (arith, derives_less d, derives_less e, derives_less f)

pub after_shorter : (ts : List SheetToken) → length (tokens_after ts) ≤ length ts
after_shorter [] = omega arith
after_shorter (t ∷ ts) = omega arith

-- ---- what is read is derived

unfoldable pub Formula : ℕ → List SheetToken → Phrase → List SheetToken → Type 0
Formula l ts e us = PhraseDerives l ts e us × PhraseFits e

-- a formula of level l that nests no deeper than there is room
record Held (room l : ℕ) (ts : List SheetToken) (e : Phrase) (us : List SheetToken) : Type 0 where
  pub derived : PhraseDerives l ts e us
  pub numbers : NumbersFit e
  pub nests : phrase_nesting e ≤ room

-- and no operator of its level follows
unfoldable Ended : ℕ → ℕ → List SheetToken → Phrase → List SheetToken → Type 0
Ended room l ts e us = Held room l ts e us × Loose (suc l) us

-- each level has the tighter one's
looser : (d l m : ℕ) {ts us : List SheetToken} {e : Phrase} → d + l ≡ m → PhraseDerives l ts e us → PhraseDerives m ts e us
looser zero l m {ts} {us} {e} q x = let r : l ≡ m = omega arith in subst (λ (n : ℕ). PhraseDerives n ts e us) r x
looser (suc d) l zero q x = absurd (omega arith)
looser (suc d) l (suc m) q x = tighter (looser d l m (omega arith) x)

held_at : (room l m : ℕ) {ts us : List SheetToken} {e : Phrase} → l ≤ m → Held room l ts e us → Held room m ts e us
held_at room l m h x = record { derived = looser (m - l) l m (omega arith) x.derived; numbers = x.numbers; nests = x.nests }

-- k opening brackets, and then the tokens us
data Opened (ts : List SheetToken) : ℕ → List SheetToken → Type 0 where
  before_all : Opened ts zero ts
  one_inside : {k p : ℕ} {us : List SheetToken} → Opened ts k (sign p opening ∷ us) → Opened ts (suc k) us

cell_sound : (room p : ℕ) (s : List ℕ) (ts : List SheetToken) → Of (Held (suc room) 0 (name p s ∷ ts)) (cell_of p s ts)
unfolding cell_of NumbersFit phrase_nesting
cell_sound room p s ts =
    by_test (Of F) (eqb (sign_at ts) bracket)
    (λ e. number_of F 2147483647 _ (tokens_after ts) (λ r n us q h.
    past_of F unbracket (omega arith) _ us (λ t vs x.
    let y : ts ≡ sign (place_at ts) bracket ∷ number r n ∷ sign t unbracket ∷ vs = signed_is bracket (omega arith) ts e ∙ rw (q, x) in
    record {
      derived = subst (λ (us : List SheetToken). PhraseDerives 0 (name p s ∷ us) (cell p s (place_at ts) n) vs) (sym y) a_cell;
      numbers = h;
      nests = omega arith;
    })))
    (λ e. record { derived = a_name; numbers = tt; nests = omega arith })
  where
    F : Phrase → List SheetToken → Type 0
    F = Held (suc room) 0 (name p s ∷ ts)

constant_sound : (room : ℕ) (ts : List SheetToken) → Of (Held (suc room) 0 ts) (read_constant ts)
unfolding read_constant Valued NumbersFit phrase_nesting
constant_sound room ts =
    then_of (Held (suc room) 0 ts) (Valued ts) _ (λ c us h. record { derived = a_value h.0; numbers = h.1; nests = omega arith }) (value_of ts) (value_sound ts)

module _ (room : ℕ) (next : ℕ → List SheetToken → Phrased Phrase) (ih : (l : ℕ) (ts : List SheetToken) → Of (Ended room l ts) (next l ts)) where
  negation_sound : (p : ℕ) (ts : List SheetToken) → Of (Held (suc room) 0 (sign p not_fn ∷ ts)) (read_negation (next 0) ts)
  unfolding read_negation Ended NumbersFit phrase_nesting
  negation_sound p ts =
      then_of (Held (suc room) 0 (sign p not_fn ∷ ts)) (Ended room 0 ts) _
      (λ a us h. record { derived = negated h.0.derived; numbers = h.0.numbers; nests = omega (arith, h.0.nests) }) (next 0 ts) (ih 0 ts)

  choice_nests : (a b c : Phrase) → phrase_nesting a ≤ room → phrase_nesting b ≤ room → phrase_nesting c ≤ room → phrase_nesting (choice a b c) ≤ suc room
  unfolding phrase_nesting
  choice_nests a b c x y z = omega arith

  choice_sound : (p : ℕ) (ts : List SheetToken) → Of (Held (suc room) 0 (sign p if_fn ∷ ts)) (read_choice (next 6) ts)
  unfolding read_choice Ended NumbersFit
  choice_sound p ts =
      past_of F opening (omega arith) _ ts (λ q us x.
      then_of F (Ended room 6 us) _ (λ a vs g.
      past_of F comma (omega arith) _ vs (λ r ws y.
      then_of F (Ended room 6 ws) _ (λ b xs h.
      past_of F comma (omega arith) _ xs (λ t ys z.
      then_of F (Ended room 6 ys) _ (λ c zs i.
      past_of F closing (omega arith) _ zs (λ o end w. record {
        derived = rw x (chosen (subst (PhraseDerives 6 us a) y g.0.derived) (subst (PhraseDerives 6 ws b) z h.0.derived) (subst (PhraseDerives 6 ys c) w i.0.derived));
        numbers = (g.0.numbers, h.0.numbers, i.0.numbers);
        nests = choice_nests a b c g.0.nests h.0.nests i.0.nests;
      }))
      (next 6 ys) (ih 6 ys))) (next 6 ws) (ih 6 ws))) (next 6 us) (ih 6 us))
    where
      F : Phrase → List SheetToken → Type 0
      F = Held (suc room) 0 (sign p if_fn ∷ ts)

  argued : (P : Phrase → List SheetToken → Type 0) (p : ℕ) (x : Phrased Phrase) → Of P x → Of P (with_arguments (suc room) p x)
  argued P p x h = by_test (Of P) (ltb 1 (suc room)) (λ e. h) (λ e. tt)

  signed_sound : (p c : ℕ) (ts : List SheetToken) → Of (Held (suc room) 0 (sign p c ∷ ts)) (signed_of next (suc room) p c ts)
  unfolding signed_of
  signed_sound p c ts =
      by_test (Of F) (eqb c not_fn)
      (λ e. let q : c ≡ not_fn = eqb-true c not_fn e in argued F p (read_negation (next 0) ts) (rw q (negation_sound p ts)))
      (λ e. by_test (Of F) (eqb c subtract_fn) (λ d. constant_sound room (sign p c ∷ ts))
      (λ d. by_test (Of F) (eqb c if_fn)
      (λ a. let q : c ≡ if_fn = eqb-true c if_fn a in argued F p (read_choice (next 6) ts) (rw q (choice_sound p ts))) (λ a. tt)))
    where
      F : Phrase → List SheetToken → Type 0
      F = Held (suc room) 0 (sign p c ∷ ts)

  primary_sound : (ts : List SheetToken) → Of (Held (suc room) 0 ts) (read_primary next (suc room) ts)
  primary_sound [] = tt
  primary_sound (number p n ∷ ts) = constant_sound room (number p n ∷ ts)
  primary_sound (name p s ∷ ts) = cell_sound room p s ts
  primary_sound (sign p c ∷ ts) = signed_sound p c ts

  -- an operator between two operands
  joined : (l : ℕ) (ts us vs : List SheetToken) (a b : Phrase) → Held (suc room) l ts a us → l ≤ level (sign_at us) → 0 < level (sign_at us) → phrase_nesting a < suc room
      → Held room (level (sign_at us) - 1) (tokens_after us) b vs → Held (suc room) (level (sign_at us)) ts (operation (sign_at us) a b) vs
  unfolding NumbersFit phrase_nesting
  joined l ts us vs a b x h o n y =
      let q : suc (level (sign_at us) - 1) ≡ level (sign_at us) = omega arith in
      let w = held_at (suc room) l (suc (level (sign_at us) - 1)) (omega arith) x in
      let d = two_sided (operator_of_law (level (sign_at us) - 1) (sign_at us) (sym q)) (subst (PhraseDerives (suc (level (sign_at us) - 1)) ts a) (operator_at us o) w.derived) y.derived in
      record {
        derived = subst (λ (n : ℕ). PhraseDerives n ts (operation (sign_at us) a b) vs) q d;
        numbers = (x.numbers, y.numbers);
        nests = omega (arith, y.nests);
      }

  module _ (l : ℕ) (ts : List SheetToken) where
    operator_sound : (j : ℕ) (go : Phrase → List SheetToken → Phrased Phrase) (a : Phrase) (us vs : List SheetToken) → Held (suc room) j vs a us → Loose j us → 0 < level (sign_at us)
        → ((b : Phrase) (ws : List SheetToken) → Held (suc room) (level (sign_at us)) vs b ws → Loose (level (sign_at us)) ws → length ws < length us
        → Of (Ended (suc room) l ts) (go b ws))
        → Of (Ended (suc room) l ts) (with_operator next (suc room) go a us)
    unfolding Ended
    operator_sound j go a us vs x h o f =
        roomy (Ended (suc room) l ts) next (suc room) go a us (λ n.
        then_of (Ended (suc room) l ts) (Ended room (level (sign_at us) - 1) (tokens_after us)) _ (λ b ws y.
        f (operation (sign_at us) a b) ws (joined j vs us ws a b x (h o) o n y.0) (λ g. omega (arith, y.1 g))
        (omega (arith, derives_less y.0.derived, after_shorter us)))
        (next (level (sign_at us) - 1) (tokens_after us)) (ih (level (sign_at us) - 1) (tokens_after us)))

    after_sound : (m k j : ℕ) (a : Phrase) (us vs : List SheetToken) → Opened ts k vs → Held (suc room) j vs a us → Loose j us → (k ≡ 0 → j ≤ l) → j ≤ 6 → length us ≤ m
        → Of (Ended (suc room) l ts) (after_operand next (suc room) l m k a us)
    unfolding after_operand Ended past_sign
    after_sound zero zero j a us vs before_all x h r s n = (held_at (suc room) j l (r refl) x, λ g. absurd (omega (arith, no_operator us n)))
    after_sound zero (suc k) j a us vs o x h r s n = tt
    after_sound (suc m) zero j a us vs before_all x h r s n =
        by_test (Of (Ended (suc room) l ts)) (operator_within l (sign_at us))
        (λ e. let t = within_true l (sign_at us) e in
        operator_sound j (after_operand next (suc room) l m zero) a us vs x h t.0 (λ b ws y g z.
        after_sound m zero (level (sign_at us)) b ws vs before_all y g (λ q. t.1) (level_most (sign_at us)) (omega arith)))
        (λ e. (held_at (suc room) j l (r refl) x, within_false l us e))
    after_sound (suc m) (suc k) j a us vs (one_inside {p = p} o) x h r s n =
        by_test (Of (Ended (suc room) l ts)) (operator_within 6 (sign_at us))
        (λ e. let t = within_true 6 (sign_at us) e in
        operator_sound j (after_operand next (suc room) l m (suc k)) a us vs x h t.0 (λ b ws y g z.
        after_sound m (suc k) (level (sign_at us)) b ws vs (one_inside o) y g (λ q. absurd (omega arith)) t.1 (omega arith)))
        (λ e. past_of (Ended (suc room) l ts) closing (omega arith) (after_operand next (suc room) l m k a) us (λ q ws w.
        let c = held_at (suc room) j 6 s x in
        let d : Held (suc room) 0 (sign p opening ∷ vs) a ws = record { derived = bracketed (subst (PhraseDerives 6 vs a) w c.derived); numbers = c.numbers; nests = c.nests } in
        after_sound m k 0 a ws (sign p opening ∷ vs) o d (λ g. omega arith) (λ g. omega arith) (omega arith) (let u : length us ≡ suc (length ws) = rw w in omega arith)))

    from_sound : (m k : ℕ) (us : List SheetToken) → Opened ts k us → length us ≤ m → Of (Ended (suc room) l ts) (from_operand next (suc room) l m k us)
    unfolding from_operand
    from_sound zero k us o n = tt
    from_sound (suc m) k us o n =
        by_test (Of (Ended (suc room) l ts)) (eqb (sign_at us) opening)
        (λ e. let q = signed_is opening (omega arith) us e in
        from_sound m (suc k) (tokens_after us) (one_inside (subst (Opened ts k) q o)) (let u : length us ≡ suc (length (tokens_after us)) = ap length q in omega arith))
        (λ e. then_of (Ended (suc room) l ts) (Held (suc room) 0 us) _ (λ a vs h.
        after_sound m k 0 a vs us o h (λ g. omega arith) (λ g. omega arith) (omega arith) (omega (arith, derives_less h.derived)))
        (read_primary next (suc room) us) (primary_sound us))

phrase_sound : (room l : ℕ) (ts : List SheetToken) → Of (Ended room l ts) (phrase_within room l ts)
unfolding phrase_within
phrase_sound zero l ts = tt
phrase_sound (suc room) l ts = from_sound room (phrase_within room) (phrase_sound room) l ts (length ts) zero ts before_all (omega arith)

of_also : {A : Type 0} (P Q : A → List SheetToken → Type 0) → ((x : A) (us : List SheetToken) → P x us → Q x us) → (g : Phrased A) → Of P g → Of Q g
of_also P Q f (bad k p) h = tt
of_also P Q f (got x us) h = f x us h

pub formula_sound : (ts : List SheetToken) → Of (Formula 6 ts) (formula_of ts)
unfolding Formula Ended
formula_sound ts =
    of_also (Ended 16 6 ts) (Formula 6 ts) (λ e us h. (h.0.derived, record { numbers = h.0.numbers; nested = h.0.nests })) (formula_of ts) (phrase_sound 16 6 ts)

-- ---- what is derived is read

-- what follows begins with no `[`, and with no two-sided operator tighter than level l
abbrev pub Calm : ℕ → List SheetToken → Type 0
Calm l ts = (eqb (sign_at ts) bracket ≡ false) × Loose l ts

pub calm_less : (l : ℕ) (ts : List SheetToken) → Calm (suc l) ts → Calm l ts
calm_less l ts h = (h.0, λ g. omega (arith, h.1 g))

-- a sign of the text's own that is not `[` is calm at every level
high_level : (c : ℕ) → opening ≤ c → level c ≡ 0
high_level c h = level_beyond c (omega arith)

pub calm_high : (l p c : ℕ) (ts : List SheetToken) → opening ≤ c → eqb c bracket ≡ false → Calm l (sign p c ∷ ts)
calm_high l p c ts h e = (e, λ g. absurd (omega (arith, high_level c h)))

pub no_bracket : (l f : ℕ) → level f ≡ suc l → eqb f bracket ≡ false
no_bracket l f h = ne_eqb f bracket (λ e. omega (arith, high_level f (omega arith)))

pub operator_calm : (l p f : ℕ) (us : List SheetToken) → level f ≡ suc l → Calm (suc l) (sign p f ∷ us)
operator_calm l p f us h = (no_bracket l f h, λ g. omega arith)

-- a formula nests
nests_some : (e : Phrase) → 0 < phrase_nesting e
unfolding phrase_nesting
nests_some (constant c) = omega arith
nests_some (named p s) = omega arith
nests_some (cell p s q n) = omega arith
nests_some (negation a) = omega arith
nests_some (operation f a b) = omega arith
nests_some (choice a b c) = omega arith

-- outside all brackets the reader ends where no operator of its level follows
ends_there : (next : ℕ → List SheetToken → Phrased Phrase) (room l m : ℕ) (e : Phrase) (us : List SheetToken) → Loose (suc l) us → after_operand next room l m zero e us ≡ got e us
unfolding after_operand
ends_there next room l zero e us h = refl
ends_there next room l (suc m) e us h = rw (within_none l us h)

-- reading from ts inside k brackets comes to going on after e before us
record Reached (room l m k : ℕ) (ts : List SheetToken) (e : Phrase) (us : List SheetToken) : Type 0 where
  pub left : ℕ
  pub enough : length us ≤ left
  pub is : from_operand (phrase_within room) (suc room) l m k ts ≡ after_operand (phrase_within room) (suc room) l left k e us

-- a formula of level l, before what is no operator of that level, is read
whole_at : (room l : ℕ) (ts : List SheetToken) (e : Phrase) (us : List SheetToken) → Loose (suc l) us → Reached room l (length ts) zero ts e us → phrase_within (suc room) l ts ≡ got e us
unfolding phrase_within
whole_at room l ts e us c r = r.is ∙ ends_there (phrase_within room) (suc room) l r.left e us c

-- an operand of level j is read inside brackets, or by a level as loose
abbrev Allowed : ℕ → ℕ → ℕ → Type 0
Allowed zero j l = j ≤ l
Allowed (suc k) j l = Unit {0}

allowed_less : (k j l : ℕ) → Allowed k (suc j) l → Allowed k j l
allowed_less zero j l h = omega arith
allowed_less (suc k) j l h = tt

module _ (room l : ℕ) where
  -- an operator and its right operand
  operator_step : (m k p f : ℕ) (a b : Phrase) (us vs : List SheetToken) → 0 < level f → Allowed k (level f) l → phrase_nesting a ≤ room → phrase_within room (level f - 1) us ≡ got b vs
      → after_operand (phrase_within room) (suc room) l (suc m) k a (sign p f ∷ us) ≡ after_operand (phrase_within room) (suc room) l m k (operation f a b) vs
  unfolding after_operand
  operator_step m zero p f a b us vs o h n e = rw (within_is l f o h, lt-ltb (phrase_nesting a) (suc room) (omega arith), e)
  operator_step m (suc k) p f a b us vs o h n e = rw (within_is 6 f o (level_most f), lt-ltb (phrase_nesting a) (suc room) (omega arith), e)

  two_step : (m k p f j : ℕ) (ts us vs : List SheetToken) (a b : Phrase) → level f ≡ suc j → Allowed k (suc j) l → phrase_nesting a ≤ room → length vs < length us
      → Reached room l m k ts a (sign p f ∷ us) → phrase_within room j us ≡ got b vs → Reached room l m k ts (operation f a b) vs
  two_step m k p f j ts us vs a b o h n w r e = from_left r.left r.enough r.is
    where
      from_left : (i : ℕ) → suc (length us) ≤ i
          → from_operand (phrase_within room) (suc room) l m k ts ≡ after_operand (phrase_within room) (suc room) l i k a (sign p f ∷ us) → Reached room l m k ts (operation f a b) vs
      from_left zero x y = absurd (omega arith)
      from_left (suc i) x y =
          let g : Allowed k (level f) l = subst (λ (n : ℕ). Allowed k n l) (sym o) h in
          let d : level f - 1 ≡ j = omega arith in
          let z : phrase_within room (level f - 1) us ≡ got b vs = rw d e in
          record { left = i; enough = omega arith; is = y ∙ operator_step i k p f a b us vs (omega arith) g n z }

  -- brackets
  bracket_step : (m k p q : ℕ) (ts us : List SheetToken) (e : Phrase) → length ts < m → ((i : ℕ) → length ts ≤ i → Reached room l i (suc k) ts e (sign q closing ∷ us))
      → Reached room l m k (sign p opening ∷ ts) e us
  unfolding from_operand
  bracket_step zero k p q ts us e h g = absurd (omega arith)
  bracket_step (suc m) k p q ts us e h g = let r = g m (omega arith) in from_inside r.left r.enough r.is
    where
      from_inside : (i : ℕ) → suc (length us) ≤ i
          → from_operand (phrase_within room) (suc room) l m (suc k) ts ≡ after_operand (phrase_within room) (suc room) l i (suc k) e (sign q closing ∷ us)
          → Reached room l (suc m) k (sign p opening ∷ ts) e us
      from_inside zero x y = absurd (omega arith)
      from_inside (suc i) x y = record { left = i; enough = omega arith; is = y ∙ closes (phrase_within room) (suc room) l i k q e us }

  -- an operand that is no bracket
  primary_step : (m k : ℕ) (ts us : List SheetToken) (e : Phrase) → eqb (sign_at ts) opening ≡ false → length us < m → read_primary (phrase_within room) (suc room) ts ≡ got e us
      → Reached room l m k ts e us
  unfolding from_operand
  primary_step zero k ts us e o h x = absurd (omega arith)
  primary_step (suc m) k ts us e o h x = record { left = m; enough = omega arith; is = rw (o, x) }

value_at_law : (next : ℕ → List SheetToken → Phrased Phrase) (room : ℕ) {ts us : List SheetToken} {c : TextConstant} → IsValue ts c us → ConstantFits c
    → (eqb (sign_at ts) opening ≡ false) × (read_primary next room ts ≡ got (constant c) us)
unfolding read_constant signed_of
value_at_law next room (v_plus {p} {n} {us}) h = (refl, rw (value-reads (v_plus {p = p} {n = n} {us = us}) h))
value_at_law next room (v_minus {p} {q} {n} {us}) h = (refl, rw (value-reads (v_minus {p = p} {q = q} {n = n} {us = us}) h))

-- numbers fit, and the formula nests no deeper than there is room
record FitsRoom (room : ℕ) (e : Phrase) : Type 0 where
  pub numbers : NumbersFit e
  pub nests : phrase_nesting e ≤ room

-- the parts of what fits
negation_parts : (room : ℕ) (a : Phrase) → FitsRoom (suc room) (negation a) → FitsRoom room a
unfolding NumbersFit phrase_nesting
negation_parts room a h = record { numbers = h.numbers; nests = omega (arith, h.nests) }

operation_parts : (room f : ℕ) (a b : Phrase) → FitsRoom (suc room) (operation f a b) → FitsRoom room a × FitsRoom room b
unfolding NumbersFit phrase_nesting
operation_parts room f a b h =
    let n : suc (deeper (phrase_nesting a) (phrase_nesting b)) ≤ suc room = h.nests in
    (record { numbers = h.numbers.0; nests = omega arith }, record { numbers = h.numbers.1; nests = omega arith })

choice_parts : (room : ℕ) (a b c : Phrase) → FitsRoom (suc room) (choice a b c) → FitsRoom room a × FitsRoom room b × FitsRoom room c
unfolding NumbersFit phrase_nesting
choice_parts room a b c h =
    let n : suc (deeper (deeper (phrase_nesting a) (phrase_nesting b)) (phrase_nesting c)) ≤ suc room = h.nests in (
      record { numbers = h.numbers.0; nests = omega arith },
      record { numbers = h.numbers.1; nests = omega arith },
      record { numbers = h.numbers.2; nests = omega arith },
    )

fits_more : (room : ℕ) (e : Phrase) → FitsRoom room e → FitsRoom (suc room) e
fits_more room e h = record { numbers = h.numbers; nests = omega (arith, h.nests) }

-- a part, which nests and so has room, is read whole
part-reads : (room l : ℕ) (ts : List SheetToken) (e : Phrase) (us : List SheetToken) → FitsRoom room e → Loose (suc l) us
    → ((r : ℕ) → FitsRoom (suc r) e → Reached r l (length ts) zero ts e us) → phrase_within room l ts ≡ got e us
part-reads zero l ts e us t c g = absurd (omega (arith, nests_some e, t.nests))
part-reads (suc room) l ts e us t c g = whole_at room l ts e us c (g room t)

room_for : (room : ℕ) (e : Phrase) → FitsRoom room e → ltb 1 (suc room) ≡ true
room_for room e t = lt-ltb 1 (suc room) (omega (arith, nests_some e, t.nests))

reach : {j : ℕ} {ts us : List SheetToken} {e : Phrase} → PhraseDerives j ts e us → (room l m k : ℕ) → length ts ≤ m → FitsRoom (suc room) e → Calm j us → Allowed k j l
    → Reached room l m k ts e us
unfolding signed_of read_negation read_choice past_sign cell_of NumbersFit
reach {us = us} (tighter {l = j} d) room l m k h t c w = reach d room l m k h t (calm_less j us c) (allowed_less k j l w)
reach (two_sided {l = j} {p} {f} {ts} {us} {vs} {a} {b} o d e) room l m k h t c w =
    let s = operation_parts room f a b t in
    let x = reach d room l m k h (fits_more room a s.0) (operator_calm j p f us (level_of_law o)) w in
    let y = part-reads room j us b vs s.1 c.1 (λ r z. reach e r j (length us) zero (omega arith) z (calm_less j vs c) (omega arith)) in
    two_step room l m k p f j ts us vs a b (level_of_law o) w s.0.nests (derives_less e) x y
reach (negated {p} {ts} {us} {a} d) room l m k h t c w =
    let s = negation_parts room a t in
    let y = part-reads room 0 ts a us s (λ g. g) (λ r z. reach d r 0 (length ts) zero (omega arith) z c (omega arith)) in
    primary_step room l m k (sign p not_fn ∷ ts) us (negation a) refl (omega (arith, derives_less d)) (rw (room_for room a s, y))
reach {ts = ts} {us} (a_value {c = n} v) room l m k h t c w =
    let x = value_at_law (phrase_within room) (suc room) v t.numbers in
    primary_step room l m k ts us (constant n) x.0 (omega (arith, value_less v)) x.1
reach (a_name {p} {s} {us}) room l m k h t c w = primary_step room l m k (name p s ∷ us) us (named p s) refl (omega arith) (rw c.0)
reach (a_cell {p} {q} {r} {t = o} {n} {s} {us}) room l m k h t c w =
    primary_step room l m k (name p s ∷ sign q bracket ∷ number r n ∷ sign o unbracket ∷ us) us (cell p s q n) refl (omega arith) (rw (le-ltb 2147483647 n t.numbers))
reach (bracketed {p} {q} {ts} {us} {e} d) room l m k h t c w =
    bracket_step room l m k p q ts us e (omega arith) (λ i x. reach d room l i (suc k) x t (calm_high 6 q closing us (omega arith) refl) tt)
reach (chosen {p} {q} {r} {s} {t = o} {ts} {us} {vs} {ws} {a} {b} {c} d e f) room l m k h t z w =
    let y = choice_parts room a b c t in
    let i = part-reads room 6 ts a (sign r comma ∷ us) y.0 (calm_high 7 r comma us (omega arith) refl).1
    (λ n x. reach d n 6 (length ts) zero (omega arith) x (calm_high 6 r comma us (omega arith) refl) (omega arith)) in
    let j = part-reads room 6 us b (sign s comma ∷ vs) y.1 (calm_high 7 s comma vs (omega arith) refl).1
    (λ n x. reach e n 6 (length us) zero (omega arith) x (calm_high 6 s comma vs (omega arith) refl) (omega arith)) in
    let g = part-reads room 6 vs c (sign o closing ∷ ws) y.2 (calm_high 7 o closing ws (omega arith) refl).1
    (λ n x. reach f n 6 (length vs) zero (omega arith) x (calm_high 6 o closing ws (omega arith) refl) (omega arith)) in
    primary_step room l m k (sign p if_fn ∷ sign q opening ∷ ts) ws (choice a b c) refl (omega (arith, derives_less d, derives_less e, derives_less f)) (rw (room_for room a y.0, i, j, g))

-- a formula before a sign that can follow one, which is a reserved word or the end
pub follows : (l : ℕ) (us : List SheetToken) → unbracket < sign_at us → Calm l us
follows l [] h = absurd (omega arith)
follows l (number p n ∷ us) h = absurd (omega arith)
follows l (name p s ∷ us) h = absurd (omega arith)
follows l (sign p c ∷ us) h = calm_high l p c us (omega arith) (ne_eqb c bracket (omega arith))

pub formula-reads : {ts us : List SheetToken} {e : Phrase} → PhraseDerives 6 ts e us → PhraseFits e → unbracket < sign_at us → formula_of ts ≡ got e us
formula-reads {ts} {us} {e} d t h =
    part-reads 16 6 ts e us (record { numbers = t.numbers; nests = t.nested }) (follows 7 us h).1
    (λ r z. reach d r 6 (length ts) zero (omega arith) z (follows 6 us h) (omega arith))
