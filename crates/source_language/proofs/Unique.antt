-- The grammar has one reading of a text, whatever the limits: two derivations of the same tokens, each followed by what
-- may follow, are of the same and leave the same. Formulas by a bound on the tokens, level by level, an operator's
-- operands as a list from left to right (`Spine`); declarations by their first signs.
use Rattle.lib_base.proofs.Prelude.{ℕ, ◌≤◌, ◌<◌, suc, zero, ◌≡◌, refl, ◌∙◌, sym, ap, subst, true≢false, Option, some}
use Rattle.lib_base.proofs.Prelude.{List, [], ◌∷◌, length, arith}
use Rattle.lib_signature.specs.Signature.{level}
use Rattle.spec_language.specs.Syntax.{immediate, later}
use Rattle.text_formula.specs.Grammar.{Operator}
use Rattle.text_formula.proofs.Parses.{level_of_law}
use Rattle.source_language.specs.Tokens.{SheetToken, sign, closing, comma, unbracket, from_word, seen_word, on_word, param_word, event_keyword, passive_word, end_sign}
use Rattle.source_language.specs.Text.{TextConstant, Phrase, constant, negation, operation, choice, Reaction, on, Body, active, row, Parameter, parameter, TextEvent, event, TextBehaviour, behaviour, Text}
use Rattle.source_language.specs.Grammar.{IsValue, v_plus, v_minus, PhraseDerives, tighter, two_sided, negated, a_value, a_name, a_cell, bracketed, chosen, IsPlayers, nobody, last_player, and_player, IsFrom, from_unsaid, from_said, IsSeen, seen_unsaid, seen_said, Many, no_more, one_more, IsParameter, p_bare, p_given, IsEvent, e_event, IsReaction, r_now, r_later, IsBehaviour, b_passive, b_active, b_row, IsText, a_text, TextSays, says}
use Rattle.source_language.specs.Reader.{sign_at, tokens_after}
use Rattle.source_language.proofs.Scans.{scan_is}
use Rattle.source_language.proofs.Players.{seen_first}
use Rattle.source_language.proofs.Parses.{derives_less, Calm, calm_less, calm_high, operator_calm, follows}

-- what two readings have in common
pub record Same {A : Type 0} (x : A) (us : List SheetToken) (y : A) (vs : List SheetToken) : Type 0 where
  pub one : x ≡ y
  pub left : us ≡ vs

pub value_one : {ts us vs : List SheetToken} {c d : TextConstant} → IsValue ts c us → IsValue ts d vs → Same c us d vs
value_one v_plus v_plus = record { one = refl; left = refl }
value_one v_minus v_minus = record { one = refl; left = refl }

-- ---- operands from left to right

data Spine (l : ℕ) : Phrase → List SheetToken → Phrase → List SheetToken → Type 0 where
  stop : {a : Phrase} {us : List SheetToken} → Spine l a us a us
  go : {p f : ℕ} {a b e : Phrase} {us vs ws : List SheetToken} → Operator (suc l) f → PhraseDerives l us b vs → Spine l (operation f a b) vs e ws → Spine l a (sign p f ∷ us) e ws

spine_more : {l p f : ℕ} {a b e : Phrase} {ts us vs : List SheetToken} → Spine l a ts e (sign p f ∷ us) → Operator (suc l) f → PhraseDerives l us b vs
    → Spine l a ts (operation f e b) vs
spine_more stop o d = go o d stop
spine_more (go q e s) o d = go q e (spine_more s o d)

record Parted (l : ℕ) (ts : List SheetToken) (e : Phrase) (us : List SheetToken) : Type 0 where
  pub operand : Phrase
  pub after : List SheetToken
  pub first : PhraseDerives l ts operand after
  pub others : Spine l operand after e us

parted : {l : ℕ} {ts us : List SheetToken} {e : Phrase} → PhraseDerives (suc l) ts e us → Parted l ts e us
parted {us = us} {e = e} (tighter d) = record { operand = e; after = us; first = d; others = stop }
parted (two_sided o d e) = let r = parted d in record { operand = r.operand; after = r.after; first = r.first; others = spine_more r.others o e }

-- no operator is looser than itself
tight_after : (l : ℕ) {f : ℕ} → Operator (suc l) f → (0 < level f → suc (suc l) ≤ level f) → ⊥
tight_after l o h = omega (arith, level_of_law o, h (omega (arith, level_of_law o)))

spine_calm : {l : ℕ} {a e : Phrase} {ts us : List SheetToken} → Spine l a ts e us → Calm (suc (suc l)) us → Calm (suc l) ts
spine_calm {l} {us = us} stop c = calm_less (suc l) us c
spine_calm {l} (go {p} {f} {us = us} o d s) c = operator_calm l p f us (level_of_law o)

abbrev Unique : ℕ → ℕ → Type 0
Unique k l = (ts us vs : List SheetToken) (e f : Phrase) → length ts ≤ k → PhraseDerives l ts e us → PhraseDerives l ts f vs → Calm (suc l) us → Calm (suc l) vs → Same e us f vs

module _ (k l : ℕ) (ih : Unique k l) where
  spine_one : {a e f : Phrase} {ts us vs : List SheetToken} → length ts ≤ k → Spine l a ts e us → Spine l a ts f vs → Calm (suc (suc l)) us → Calm (suc (suc l)) vs
      → Same e us f vs
  spine_one h stop stop c d = record { one = refl; left = refl }
  spine_one h stop (go o x s) c d = absurd (tight_after l o c.1)
  spine_one h (go o x s) stop c d = absurd (tight_after l o d.1)
  spine_one {f = g} {vs = zs} h (go {f = q} {a} {b} {us = us} {vs} o x s) (go {b = b'} {vs = vs'} o' y t) c d =
      let r = ih us vs vs' b b' (omega arith) x y (spine_calm s c) (spine_calm t d) in
      let u : Spine l (operation q a b) vs g zs = subst (λ (w : Phrase). Spine l (operation q a w) vs g zs) (sym r.one)
      (subst (λ (w : List SheetToken). Spine l (operation q a b') w g zs) (sym r.left) t) in
      spine_one (omega (arith, derives_less x)) s u c d

  level_up : Unique k (suc l)
  level_up ts us vs e f h x y c d =
      let p = parted x in
      let q = parted y in
      let r = ih ts p.after q.after p.operand q.operand h p.first q.first (spine_calm p.others c) (spine_calm q.others d) in
      let s = subst (λ (w : Phrase). Spine l w p.after f vs) (sym r.one)
      (subst (λ (w : List SheetToken). Spine l q.operand w f vs) (sym r.left) q.others) in
      spine_one (omega (arith, derives_less p.first)) p.others s c d

-- ---- level 0

calm_closing : (p : ℕ) (us : List SheetToken) → Calm 7 (sign p closing ∷ us)
calm_closing p us = calm_high 7 p closing us (omega arith) refl

calm_comma : (p : ℕ) (us : List SheetToken) → Calm 7 (sign p comma ∷ us)
calm_comma p us = calm_high 7 p comma us (omega arith) refl

module _ (k : ℕ) (ih : (l : ℕ) → Unique k l) where
  part_one : (c : ℕ) → Calm 7 (sign 0 c ∷ []) → (ts : List SheetToken) {p q : ℕ} {us vs : List SheetToken} {a b : Phrase} → length ts ≤ k
      → PhraseDerives 6 ts a (sign p c ∷ us) → PhraseDerives 6 ts b (sign q c ∷ vs) → Same a us b vs
  part_one c m ts {p} {q} {us} {vs} {a} {b} h d e =
      let s = ih 6 ts (sign p c ∷ us) (sign q c ∷ vs) a b h d e m m in record { one = s.one; left = ap tokens_after s.left }

  chosen_one : {r s t r' s' t' : ℕ} {ts us vs ws us' vs' ws' : List SheetToken} {a b c a' b' c' : Phrase} → length ts ≤ k
      → PhraseDerives 6 ts a (sign r comma ∷ us) → PhraseDerives 6 us b (sign s comma ∷ vs) → PhraseDerives 6 vs c (sign t closing ∷ ws)
      → PhraseDerives 6 ts a' (sign r' comma ∷ us') → PhraseDerives 6 us' b' (sign s' comma ∷ vs') → PhraseDerives 6 vs' c' (sign t' closing ∷ ws')
      → Same (choice a b c) ws (choice a' b' c') ws'
  chosen_one {s' = s'} {t'} {ts} {us} {vs} {us' = us'} {vs'} {ws'} {b' = b'} {c'} h d e f d' e' f' =
      let x = part_one comma (calm_comma 0 []) ts h d d' in
      let y = part_one comma (calm_comma 0 []) us (omega (arith, derives_less d)) e
      (subst (λ (w : List SheetToken). PhraseDerives 6 w b' (sign s' comma ∷ vs')) (sym x.left) e') in
      let z = part_one closing (calm_closing 0 []) vs (omega (arith, derives_less d, derives_less e)) f
      (subst (λ (w : List SheetToken). PhraseDerives 6 w c' (sign t' closing ∷ ws')) (sym y.left) f') in
      record { one = rw (x.one, y.one, z.one); left = z.left }

  zero_one : {ts us vs : List SheetToken} {e f : Phrase} → length ts ≤ suc k → PhraseDerives 0 ts e us → PhraseDerives 0 ts f vs → Calm 1 us → Calm 1 vs → Same e us f vs
  zero_one h (negated {ts = ts} {us} {a} d) (negated {us = vs} {a = b} e) x y =
      let r = ih 0 ts us vs a b (omega arith) d e x y in record { one = ap negation r.one; left = r.left }
  zero_one h (a_value v) (a_value w) x y = let r = value_one v w in record { one = ap constant r.one; left = r.left }
  zero_one h a_name a_name x y = record { one = refl; left = refl }
  zero_one h a_name a_cell x y = absurd (true≢false x.0)
  zero_one h a_cell a_name x y = absurd (true≢false y.0)
  zero_one h a_cell a_cell x y = record { one = refl; left = refl }
  zero_one h (bracketed {ts = ts} d) (bracketed e) x y = part_one closing (calm_closing 0 []) ts (omega arith) d e
  zero_one h (chosen d e f) (chosen d' e' f') x y = chosen_one (omega arith) d e f d' e' f'
  zero_one h (negated d) (a_value w) x y = elim w [ ]
  zero_one h (a_value v) (negated e) x y = elim v [ ]
  zero_one h (a_value v) a_name x y = elim v [ ]
  zero_one h (a_value v) a_cell x y = elim v [ ]
  zero_one h (a_value v) (bracketed e) x y = elim v [ ]
  zero_one h (a_value v) (chosen d' e' f') x y = elim v [ ]
  zero_one h a_name (a_value w) x y = elim w [ ]
  zero_one h a_cell (a_value w) x y = elim w [ ]
  zero_one h (bracketed d) (a_value w) x y = elim w [ ]
  zero_one h (chosen d e f) (a_value w) x y = elim w [ ]

climb : (k : ℕ) → Unique k 0 → (l : ℕ) → Unique k l
climb k b zero = b
climb k b (suc l) = level_up k l (climb k b l)

lowest : (k : ℕ) → Unique k 0
lowest zero ts us vs e f h x y c d = absurd (omega (arith, derives_less x))
lowest (suc k) ts us vs e f h x y c d = zero_one k (climb k (lowest k)) h x y c d

-- a formula before a reserved word or the end
formula_one : {ts us vs : List SheetToken} {e f : Phrase} → PhraseDerives 6 ts e us → PhraseDerives 6 ts f vs → unbracket < sign_at us → unbracket < sign_at vs → Same e us f vs
formula_one {ts} {us} {vs} {e} {f} x y c d = climb (length ts) (lowest (length ts)) 6 ts us vs e f (omega arith) x y (follows 7 us c) (follows 7 vs d)

-- ---- players

players_one : {ts us vs : List SheetToken} {ns ms : List ℕ} → IsPlayers ts ns us → IsPlayers ts ms vs → 0 < sign_at us → 0 < sign_at vs → Same ns us ms vs
players_one nobody nobody c d = record { one = refl; left = refl }
players_one last_player last_player c d = record { one = refl; left = refl }
players_one last_player (and_player y) c d = absurd (omega arith)
players_one (and_player x) last_player c d = absurd (omega arith)
players_one (and_player {m = m} x) (and_player y) c d =
    let r = players_one x y c d in record { one = ap (λ (l : List ℕ). m ∷ l) r.one; left = r.left }

from_one : {ts us vs : List SheetToken} {m n : Option (List ℕ)} → IsFrom ts m us → IsFrom ts n vs → from_word < sign_at us → from_word < sign_at vs → Same m us n vs
from_one from_unsaid from_unsaid c d = record { one = refl; left = refl }
from_one from_unsaid (from_said y) c d = absurd (omega arith)
from_one (from_said x) from_unsaid c d = absurd (omega arith)
from_one (from_said x) (from_said y) c d =
    let r = players_one x y (omega arith) (omega arith) in record { one = ap some r.one; left = r.left }

seen_one : {ts us vs : List SheetToken} {m n : Option (List ℕ)} → IsSeen ts m us → IsSeen ts n vs → seen_word < sign_at us → seen_word < sign_at vs → Same m us n vs
seen_one seen_unsaid seen_unsaid c d = record { one = refl; left = refl }
seen_one seen_unsaid (seen_said y) c d = absurd (omega arith)
seen_one (seen_said x) seen_unsaid c d = absurd (omega arith)
seen_one (seen_said x) (seen_said y) c d =
    let r = players_one x y (omega arith) (omega arith) in record { one = ap some r.one; left = r.left }

-- ---- declarations

parameter_one : (ts us vs : List SheetToken) (x y : Parameter) → IsParameter ts x us → IsParameter ts y vs → param_word ≤ sign_at us → param_word ≤ sign_at vs → Same x us y vs
parameter_one ts us vs x y p_bare p_bare c d = record { one = refl; left = refl }
parameter_one ts us vs x y p_bare (p_given v) c d = absurd (omega arith)
parameter_one ts us vs x y (p_given v) p_bare c d = absurd (omega arith)
parameter_one ts us vs x y (p_given {s = s} v) (p_given w) c d =
    let r = value_one v w in record { one = ap (λ (k : TextConstant). parameter s (some k)) r.one; left = r.left }

event_one : (ts us vs : List SheetToken) (x y : TextEvent) → IsEvent ts x us → IsEvent ts y vs → event_keyword ≤ sign_at us → event_keyword ≤ sign_at vs → Same x us y vs
event_one ts us vs x y (e_event {n = n} {s = s} a) (e_event b) c d =
    let r = from_one a b (omega arith) (omega arith) in record { one = ap (event s n) r.one; left = r.left }

reaction_one : (ts us vs : List SheetToken) (x y : Reaction) → IsReaction ts x us → IsReaction ts y vs → on_word ≤ sign_at us → on_word ≤ sign_at vs → Same x us y vs
reaction_one ts us vs x y (r_now {s = s} a) (r_now b) c d =
    let r = formula_one a b (omega arith) (omega arith) in record { one = ap (on s immediate) r.one; left = r.left }
reaction_one ts us vs x y (r_later {s = s} a) (r_later b) c d =
    let r = formula_one a b (omega arith) (omega arith) in record { one = ap (on s later) r.one; left = r.left }

-- each begins with a sign from low on, and is one; what follows the last has a sign from low on that begins none
module _ {A : Type 0} (X : List SheetToken → A → List SheetToken → Type 0) (low : ℕ) (first : (ts us : List SheetToken) (x : A) → X ts x us → low ≤ sign_at ts)
    (one_of_lem : (ts us vs : List SheetToken) (x y : A) → X ts x us → X ts y vs → low ≤ sign_at us → low ≤ sign_at vs → Same x us y vs) where
  several_first : {ts us : List SheetToken} {xs : List A} → Many X ts xs us → low ≤ sign_at us → low ≤ sign_at ts
  several_first no_more h = h
  several_first (one_more {ts} {us} {x = x} d m) h = first ts us x d

  module _ (End : List SheetToken → Type 0) (none_begins : (ts us : List SheetToken) (x : A) → X ts x us → End ts → ⊥) where
    several_one : {ts us vs : List SheetToken} {xs ys : List A} → Many X ts xs us → Many X ts ys vs → low ≤ sign_at us → low ≤ sign_at vs → End us → End vs → Same xs us ys vs
    several_one no_more no_more c d e f = record { one = refl; left = refl }
    several_one no_more (one_more {ts} {us} {x = x} y n) c d e f = absurd (none_begins ts us x y e)
    several_one (one_more {ts} {us} {x = x} y n) no_more c d e f = absurd (none_begins ts us x y f)
    several_one {vs = ws} {ys = zs} (one_more {ts} {us} {x = x} {xs} a m) (one_more {us = us'} {x = y} {xs = ys} b n) c d e f =
        let r = one_of_lem ts us us' x y a b (several_first m c) (several_first n d) in
        let s = several_one m (subst (λ (l : List SheetToken). Many X l ys ws) (sym r.left) n) c d e f in
        record { one = rw (r.one, s.one); left = s.left }

-- a sign from low on, and one from high on
abbrev From : ℕ → List SheetToken → Type 0
From high ts = high ≤ sign_at ts

reaction_first : (ts us : List SheetToken) (x : Reaction) → IsReaction ts x us → on_word ≤ sign_at ts
reaction_first ts us x (r_now a) = omega arith
reaction_first ts us x (r_later a) = omega arith

no_reaction : (ts us : List SheetToken) (x : Reaction) → IsReaction ts x us → From passive_word ts → ⊥
no_reaction ts us x (r_now a) h = omega arith
no_reaction ts us x (r_later a) h = omega arith

reactions_one : {ts us vs : List SheetToken} {xs ys : List Reaction} → Many IsReaction ts xs us → Many IsReaction ts ys vs → passive_word ≤ sign_at us → passive_word ≤ sign_at vs
    → Same xs us ys vs
reactions_one a b c d = several_one IsReaction on_word reaction_first reaction_one (From passive_word) no_reaction a b (omega arith) (omega arith) c d

reactions_after : {ts us : List SheetToken} {xs : List Reaction} → Many IsReaction ts xs us → passive_word ≤ sign_at us → seen_word < sign_at ts
reactions_after a c = let h = several_first IsReaction on_word reaction_first reaction_one a (omega arith) in omega arith

-- a start value, who may see it, handlers
state_one : {ts us vs ws us' vs' ws' : List SheetToken} {k k' : TextConstant} {m m' : Option (List ℕ)} {hs hs' : List Reaction} (make : TextConstant → List Reaction → Body) (s : List ℕ)
    → IsValue ts k us → IsSeen us m vs → Many IsReaction vs hs ws → IsValue ts k' us' → IsSeen us' m' vs' → Many IsReaction vs' hs' ws'
    → passive_word ≤ sign_at ws → passive_word ≤ sign_at ws' → Same (behaviour s (make k hs) m) ws (behaviour s (make k' hs') m') ws'
state_one {vs' = vs'} {ws'} {m' = m'} {hs' = hs'} make s a b c a' b' c' x y =
    let p = value_one a a' in
    let q = seen_one b (subst (λ (l : List SheetToken). IsSeen l m' vs') (sym p.left) b') (reactions_after c x) (reactions_after c' y) in
    let r = reactions_one c (subst (λ (l : List SheetToken). Many IsReaction l hs' ws') (sym q.left) c') x y in
    record { one = rw (p.one, q.one, r.one); left = r.left }

behaviour_one : (ts us vs : List SheetToken) (x y : TextBehaviour) → IsBehaviour ts x us → IsBehaviour ts y vs → passive_word ≤ sign_at us → passive_word ≤ sign_at vs → Same x us y vs
behaviour_one ts us vs x y (b_passive {s = s} a m) (b_passive {vs = ws} {m = n'} b n) c d =
    let p = formula_one a b (omega (arith, seen_first m (omega arith))) (omega (arith, seen_first n (omega arith))) in
    let q = seen_one m (subst (λ (l : List SheetToken). IsSeen l n' ws) (sym p.left) n) (omega arith) (omega arith) in
    record { one = rw (p.one, q.one); left = q.left }
behaviour_one ts us vs x y (b_active {s = s} a b e) (b_active a' b' e') c d = state_one active s a b e a' b' e' c d
behaviour_one ts us vs x y (b_row {n = n} {s = s} a b e) (b_row a' b' e') c d = state_one (row n) s a b e a' b' e' c d

-- ---- the whole

parameter_first : (ts us : List SheetToken) (x : Parameter) → IsParameter ts x us → param_word ≤ sign_at ts
parameter_first ts us x p_bare = omega arith
parameter_first ts us x (p_given v) = omega arith

no_parameter : (ts us : List SheetToken) (x : Parameter) → IsParameter ts x us → From event_keyword ts → ⊥
no_parameter ts us x p_bare h = omega arith
no_parameter ts us x (p_given v) h = omega arith

event_first : (ts us : List SheetToken) (x : TextEvent) → IsEvent ts x us → event_keyword ≤ sign_at ts
event_first ts us x (e_event a) = omega arith

no_event_law : (ts us : List SheetToken) (x : TextEvent) → IsEvent ts x us → From passive_word ts → ⊥
no_event_law ts us x (e_event a) h = omega arith

behaviour_first : (ts us : List SheetToken) (x : TextBehaviour) → IsBehaviour ts x us → passive_word ≤ sign_at ts
behaviour_first ts us x (b_passive a m) = omega arith
behaviour_first ts us x (b_active a b e) = omega arith
behaviour_first ts us x (b_row a b e) = omega arith

no_behaviour_law : (ts us : List SheetToken) (x : TextBehaviour) → IsBehaviour ts x us → From end_sign ts → ⊥
no_behaviour_law ts us x (b_passive a m) h = omega arith
no_behaviour_law ts us x (b_active a b e) h = omega arith
no_behaviour_law ts us x (b_row a b e) h = omega arith

text_one : {ts : List SheetToken} {x y : Text} → IsText ts x → IsText ts y → x ≡ y
text_one (a_text {us = us} {vs} d e g) (a_text {p = p} {us = us'} {vs = vs'} {es = es'} {bs = bs'} d' e' g') =
    let z = several_first IsBehaviour passive_word behaviour_first behaviour_one g (omega arith) in
    let z' = several_first IsBehaviour passive_word behaviour_first behaviour_one g' (omega arith) in
    let w = several_first IsEvent event_keyword event_first event_one e (omega arith) in
    let w' = several_first IsEvent event_keyword event_first event_one e' (omega arith) in
    let a = several_one IsParameter param_word parameter_first parameter_one (From event_keyword) no_parameter d d' (omega arith) (omega arith) w w' in
    let b = several_one IsEvent event_keyword event_first event_one (From passive_word) no_event_law e (subst (λ (l : List SheetToken). Many IsEvent l es' vs') (sym a.left) e') (omega arith) (omega arith) z z' in
    let c = several_one IsBehaviour passive_word behaviour_first behaviour_one (From end_sign) no_behaviour_law g
    (subst (λ (l : List SheetToken). Many IsBehaviour l bs' (sign p end_sign ∷ [])) (sym b.left) g') (omega arith) (omega arith) (omega arith) (omega arith) in
    rw (a.one, b.one, c.one)

-- each text has one reading
pub says_one : {bytes : List ℕ} {x y : Text} → TextSays bytes x → TextSays bytes y → x ≡ y
says_one {bytes} {x} {y} (says {ts = ts} t d) (says {ts = us} u e) =
    text_one d (subst (λ (l : List SheetToken). IsText l y) (sym (scan_is bytes us u) ∙ scan_is bytes ts t) e)
