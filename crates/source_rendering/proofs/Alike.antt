-- Places do not matter to the grammar: tokens that differ in their places alone are read alike, and what is read
-- differs in places alone. By induction on the derivations.
use Rattle.lib_base.proofs.Prelude.{ℕ, suc, ◌≡◌, refl, subst, Option, some, List, [], ◌∷◌, map}
use Rattle.lib_signature.specs.Numbers.{if_fn, not_fn}
use Rattle.spec_language.specs.Syntax.{immediate, later}
use Rattle.text_formula.specs.Grammar.{Operator}
use Rattle.source_language.specs.Tokens.{SheetToken, number, name, sign, opening, closing, comma}
use Rattle.source_language.specs.Text.{TextConstant, Phrase, constant, negation, operation, choice, Reaction, on, passive, active, row, Parameter, parameter, TextEvent, event, TextBehaviour, behaviour, Text, text}
use Rattle.source_language.specs.Grammar.{IsValue, v_plus, v_minus, PhraseDerives, tighter, two_sided, negated, a_value, a_name, a_cell, bracketed, chosen, IsPlayers, nobody, last_player, and_player, IsFrom, from_unsaid, from_said, IsSeen, seen_unsaid, seen_said, Many, no_more, one_more, IsParameter, p_bare, p_given, IsEvent, e_event, IsReaction, r_now, r_later, IsBehaviour, b_passive, b_active, b_row, IsText, a_text}
use Rattle.source_language.specs.Renaming.{phrase_as, reactions_as, parameter_as, event_as, behaviour_as, text_as}

-- the same tokens at other places
pub data Alike : List SheetToken → List SheetToken → Type 0 where
  alike_end : Alike [] []
  alike_number : {p q n : ℕ} {ts us : List SheetToken} → Alike ts us → Alike (number p n ∷ ts) (number q n ∷ us)
  alike_name : {p q : ℕ} {s : List ℕ} {ts us : List SheetToken} → Alike ts us → Alike (name p s ∷ ts) (name q s ∷ us)
  alike_sign : {p q c : ℕ} {ts us : List SheetToken} → Alike ts us → Alike (sign p c ∷ ts) (sign q c ∷ us)

-- the same names, and no places
abbrev pub same_name : List ℕ → List ℕ
same_name s = s

abbrev pub no_place : ℕ → ℕ
no_place p = 0

abbrev pub bare : Phrase → Phrase
bare = phrase_as same_name same_name no_place

abbrev pub bare_reactions : List Reaction → List Reaction
bare_reactions = reactions_as same_name same_name no_place

abbrev pub bare_behaviour : TextBehaviour → TextBehaviour
bare_behaviour = behaviour_as same_name same_name no_place

abbrev pub bare_text : Text → Text
bare_text = text_as same_name same_name no_place

-- read from other tokens: the same by F, with what is left alike
record Again {A : Type 0} (X : List SheetToken → A → List SheetToken → Type 0) (F : A → A) (x : A) (ts us : List SheetToken) : Type 0 where
  pub read : A
  pub over : List SheetToken
  pub is : X ts read over
  pub same : F read ≡ F x
  pub alike : Alike us over

abbrev id : {A : Type 0} → A → A
id x = x

value_again : {ts us vs : List SheetToken} {c : TextConstant} → IsValue ts c us → Alike ts vs → Again IsValue id c vs us
value_again v_plus (alike_number a) = record { read = _; over = _; is = v_plus; same = refl; alike = a }
value_again v_minus (alike_sign (alike_number a)) = record { read = _; over = _; is = v_minus; same = refl; alike = a }

-- the token at the front, of what is alike
front_sign : {p c : ℕ} {us vs : List SheetToken} → Alike (sign p c ∷ us) vs → (q : ℕ) × (ws : List SheetToken) × (vs ≡ sign q c ∷ ws) × Alike us ws
front_sign (alike_sign a) = (_, _, refl, a)

-- the parts of an operation, of brackets and of a choice, where what follows a part is read again from what is alike
two_again : {l p f : ℕ} {ts us vs : List SheetToken} {a b : Phrase} → Operator (suc l) f → Again (PhraseDerives (suc l)) bare a ts (sign p f ∷ us)
    → ((ws : List SheetToken) → Alike us ws → Again (PhraseDerives l) bare b ws vs) → Again (PhraseDerives (suc l)) bare (operation f a b) ts vs
unfolding phrase_as
two_again {l} {p} {f} {ts} o r k =
    let s = front_sign r.alike in
    let t = k s.1 s.3 in
    record {
      read = operation f r.read t.read;
      over = t.over;
      is = two_sided o (subst (PhraseDerives (suc l) ts r.read) s.2 r.is) t.is;
      same = rw (r.same, t.same);
      alike = t.alike;
    }

record Behind (c : ℕ) (e : Phrase) (ts us : List SheetToken) : Type 0 where
  pub read : Phrase
  pub place : ℕ
  pub over : List SheetToken
  pub is : PhraseDerives 6 ts read (sign place c ∷ over)
  pub same : bare read ≡ bare e
  pub alike : Alike us over

behind : {p c : ℕ} {e : Phrase} {ts us : List SheetToken} → Again (PhraseDerives 6) bare e ts (sign p c ∷ us) → Behind c e ts us
behind {p} {c} {e} {ts} r =
    let s = front_sign r.alike in
    record { read = r.read; place = s.0; over = s.1; is = subst (PhraseDerives 6 ts r.read) s.2 r.is; same = r.same; alike = s.3 }

bracketed_again : {p : ℕ} {e : Phrase} {ts us : List SheetToken} → Behind closing e ts us → Again (PhraseDerives 0) bare e (sign p opening ∷ ts) us
bracketed_again r = record { read = r.read; over = r.over; is = bracketed r.is; same = r.same; alike = r.alike }

chosen_again : {p q : ℕ} {a b c : Phrase} {ts us vs ws : List SheetToken} → Behind comma a ts us → ((xs : List SheetToken) → Alike us xs → Behind comma b xs vs)
    → ((xs : List SheetToken) → Alike vs xs → Behind closing c xs ws) → Again (PhraseDerives 0) bare (choice a b c) (sign p if_fn ∷ sign q opening ∷ ts) ws
unfolding phrase_as
chosen_again r k l =
    let s = k r.over r.alike in
    let t = l s.over s.alike in
    record { read = choice r.read s.read t.read; over = t.over; is = chosen r.is s.is t.is; same = rw (r.same, s.same, t.same); alike = t.alike }

tighter_again : {l : ℕ} {e : Phrase} {ts us : List SheetToken} → Again (PhraseDerives l) bare e ts us → Again (PhraseDerives (suc l)) bare e ts us
tighter_again r = record { read = r.read; over = r.over; is = tighter r.is; same = r.same; alike = r.alike }

negated_again : {p : ℕ} {a : Phrase} {ts us : List SheetToken} → Again (PhraseDerives 0) bare a ts us → Again (PhraseDerives 0) bare (negation a) (sign p not_fn ∷ ts) us
unfolding phrase_as
negated_again r = record { read = negation r.read; over = r.over; is = negated r.is; same = rw r.same; alike = r.alike }

constant_again : {c : TextConstant} {ts us : List SheetToken} → Again IsValue id c ts us → Again (PhraseDerives 0) bare (constant c) ts us
unfolding phrase_as
constant_again r = record { read = constant r.read; over = r.over; is = a_value r.is; same = rw r.same; alike = r.alike }

derives_again : {l : ℕ} {ts us vs : List SheetToken} {e : Phrase} → PhraseDerives l ts e us → Alike ts vs → Again (PhraseDerives l) bare e vs us
unfolding phrase_as
derives_again (tighter d) a = tighter_again (derives_again d a)
derives_again (two_sided o d e) a = two_again o (derives_again d a) (λ ws b. derives_again e b)
derives_again (negated d) (alike_sign a) = negated_again (derives_again d a)
derives_again (a_value v) a = constant_again (value_again v a)
derives_again a_name (alike_name a) = record { read = _; over = _; is = a_name; same = refl; alike = a }
derives_again a_cell (alike_name (alike_sign (alike_number (alike_sign a)))) = record { read = _; over = _; is = a_cell; same = refl; alike = a }
derives_again (bracketed d) (alike_sign a) = bracketed_again (behind (derives_again d a))
derives_again (chosen d e f) (alike_sign (alike_sign a)) =
    chosen_again (behind (derives_again d a)) (λ xs b. behind (derives_again e b)) (λ xs b. behind (derives_again f b))

-- ---- players

players_again : {ts us vs : List SheetToken} {ns : List ℕ} → IsPlayers ts ns us → Alike ts vs → Again IsPlayers id ns vs us
players_again nobody (alike_sign a) = record { read = _; over = _; is = nobody; same = refl; alike = a }
players_again last_player (alike_number a) = record { read = _; over = _; is = last_player; same = refl; alike = a }
players_again (and_player {m = m} d) (alike_number (alike_number a)) =
    let r = players_again d (alike_number a) in
    record { read = m ∷ r.read; over = r.over; is = and_player r.is; same = rw r.same; alike = r.alike }

from_again : {ts us vs : List SheetToken} {m : Option (List ℕ)} → IsFrom ts m us → Alike ts vs → Again IsFrom id m vs us
from_again from_unsaid a = record { read = _; over = _; is = from_unsaid; same = refl; alike = a }
from_again (from_said d) (alike_sign a) =
    let r = players_again d a in record { read = some r.read; over = r.over; is = from_said r.is; same = rw r.same; alike = r.alike }

seen_again : {ts us vs : List SheetToken} {m : Option (List ℕ)} → IsSeen ts m us → Alike ts vs → Again IsSeen id m vs us
seen_again seen_unsaid a = record { read = _; over = _; is = seen_unsaid; same = refl; alike = a }
seen_again (seen_said d) (alike_sign (alike_sign a)) =
    let r = players_again d a in record { read = some r.read; over = r.over; is = seen_said r.is; same = rw r.same; alike = r.alike }

-- ---- declarations

parameter_again : {ts us vs : List SheetToken} {x : Parameter} → IsParameter ts x us → Alike ts vs → Again IsParameter id x vs us
parameter_again p_bare (alike_sign (alike_name a)) = record { read = _; over = _; is = p_bare; same = refl; alike = a }
parameter_again (p_given {s = s} v) (alike_sign (alike_name (alike_sign a))) =
    let r = value_again v a in record { read = parameter s (some r.read); over = r.over; is = p_given r.is; same = rw r.same; alike = r.alike }

event_again : {ts us vs : List SheetToken} {x : TextEvent} → IsEvent ts x us → Alike ts vs → Again IsEvent id x vs us
event_again (e_event {n = n} {s = s} d) (alike_sign (alike_name (alike_sign (alike_number a)))) =
    let r = from_again d a in record { read = event s n r.read; over = r.over; is = e_event r.is; same = rw r.same; alike = r.alike }

abbrev bare_reaction : Reaction → Reaction
bare_reaction (on s φ e) = on s φ (bare e)

reaction_again : {ts us vs : List SheetToken} {x : Reaction} → IsReaction ts x us → Alike ts vs → Again IsReaction bare_reaction x vs us
reaction_again (r_now {s = s} d) (alike_sign (alike_name (alike_sign a))) =
    let r = derives_again d a in record { read = on s immediate r.read; over = r.over; is = r_now r.is; same = rw r.same; alike = r.alike }
reaction_again (r_later {s = s} d) (alike_sign (alike_name (alike_sign (alike_sign a)))) =
    let r = derives_again d a in record { read = on s later r.read; over = r.over; is = r_later r.is; same = rw r.same; alike = r.alike }

module _ {A : Type 0} (X : List SheetToken → A → List SheetToken → Type 0) (F : A → A)
    (again : (ts us vs : List SheetToken) (x : A) → X ts x us → Alike ts vs → Again X F x vs us) where
  many_again : {ts us vs : List SheetToken} {xs : List A} → Many X ts xs us → Alike ts vs → Again (Many X) (map F) xs vs us
  many_again no_more a = record { read = []; over = _; is = no_more; same = refl; alike = a }
  many_again (one_more d m) a =
      let r = again _ _ _ _ d a in
      let s = many_again m r.alike in
      record { read = r.read ∷ s.read; over = s.over; is = one_more r.is s.is; same = rw (r.same, s.same); alike = s.alike }

reactions_bare : (hs : List Reaction) → bare_reactions hs ≡ map bare_reaction hs
unfolding reactions_as
reactions_bare [] = refl
reactions_bare (on s φ e ∷ hs) = rw (reactions_bare hs)

behaviour_again : {ts us vs : List SheetToken} {x : TextBehaviour} → IsBehaviour ts x us → Alike ts vs → Again IsBehaviour bare_behaviour x vs us
behaviour_again (b_passive {s = s} d m) (alike_sign (alike_name (alike_sign a))) =
    let r = derives_again d a in
    let t = seen_again m r.alike in
    record { read = behaviour s (passive r.read) t.read; over = t.over; is = b_passive r.is t.is; same = rw (r.same, t.same); alike = t.alike }
behaviour_again (b_active {s = s} {hs = hs} v m d) (alike_sign (alike_name (alike_sign a))) =
    let r = value_again v a in
    let t = seen_again m r.alike in
    let u = many_again IsReaction bare_reaction (λ ts us vs x. reaction_again) d t.alike in
    record {
      read = behaviour s (active r.read u.read) t.read;
      over = u.over;
      is = b_active r.is t.is u.is;
      same = rw (reactions_bare u.read, reactions_bare hs, r.same, t.same, u.same);
      alike = u.alike;
    }
behaviour_again (b_row {n = n} {s = s} {hs = hs} v m d) (alike_sign (alike_name (alike_sign (alike_number (alike_sign (alike_sign a)))))) =
    let r = value_again v a in
    let t = seen_again m r.alike in
    let u = many_again IsReaction bare_reaction (λ ts us vs x. reaction_again) d t.alike in
    record {
      read = behaviour s (row n r.read u.read) t.read;
      over = u.over;
      is = b_row r.is t.is u.is;
      same = rw (reactions_bare u.read, reactions_bare hs, r.same, t.same, u.same);
      alike = u.alike;
    }

-- ---- a text

pub record TextAgain (x : Text) (ts : List SheetToken) : Type 0 where
  pub read : Text
  pub is : IsText ts read
  pub same : bare_text read ≡ bare_text x

parameter_bare : (ps : List Parameter) → map (parameter_as same_name same_name no_place) ps ≡ map id ps
parameter_bare [] = refl
parameter_bare (parameter s d ∷ ps) = rw (parameter_bare ps)

event_bare : (es : List TextEvent) → map (event_as same_name same_name no_place) es ≡ map id es
event_bare [] = refl
event_bare (event s n m ∷ es) = rw (event_bare es)

ends_so : {p c : ℕ} {us : List SheetToken} → Alike (sign p c ∷ []) us → (q : ℕ) × (us ≡ sign q c ∷ [])
ends_so (alike_sign alike_end) = (_, refl)

pub text_again : {ts us : List SheetToken} {x : Text} → IsText ts x → Alike ts us → TextAgain x us
text_again {us = us} (a_text {ps = ps} {es} {bs} d e g) a =
    let p = many_again IsParameter id (λ ts us vs x. parameter_again) d a in
    let q = many_again IsEvent id (λ ts us vs x. event_again) e p.alike in
    let r = many_again IsBehaviour bare_behaviour (λ ts us vs x. behaviour_again) g q.alike in
    let f = ends_so r.alike in
    record {
      read = text p.read q.read r.read;
      is = a_text p.is q.is (subst (Many IsBehaviour q.over r.read) f.1 r.is);
      same = rw (parameter_bare p.read, parameter_bare ps, p.same, event_bare q.read, event_bare es, q.same, r.same);
    }
