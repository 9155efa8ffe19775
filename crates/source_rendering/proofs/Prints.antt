-- The tokens that a text is written in are within the grammar and say that text, but for its places; and each has a
-- spelling. By induction on the text: an operator that is not tight enough stands in brackets.
use Rattle.lib_base.proofs.Prelude.{ℕ, ◌≤◌, ◌-◌, suc, zero, ◌≡◌, refl, subst, true, Bool, Option, some, none, List, []}
use Rattle.lib_base.proofs.Prelude.{◌∷◌, map, eqb, leb, ne_eqb, eqb-true, lt-ltb, eqb-false, le-leb, leb-true, arith}
use Rattle.lib_base.specs.Basics.{All}
use Rattle.lib_base.proofs.Tools.{by_test, split}
use Rattle.lib_signature.specs.Signature.{level, last}
use Rattle.lib_signature.specs.Numbers.{not_fn, subtract_fn, if_fn}
use Rattle.lib_signature.proofs.Laws.{level_most, two_level}
use Rattle.spec_language.specs.Syntax.{immediate, later}
use Rattle.spec_language.specs.Grammar.{Arity, binary}
use Rattle.text_formula.proofs.Parses.{operator_of_law}
use Rattle.source_language.specs.Tokens.{SheetToken, number, name, sign, opening, closing, comma, colon, equals, bracket, unbracket, rank_word, from_word, by_word, nobody_word, later_word, seen_word, on_word, param_word, event_keyword, passive_word, active_word, row_word, end_sign}
use Rattle.source_language.specs.Text.{TextConstant, plus, minus, Phrase, constant, named, cell, negation, operation, choice, Reaction, on, Body, passive, active, row, Parameter, parameter, TextEvent, event, TextBehaviour, behaviour, text}
use Rattle.source_language.specs.Grammar.{IsValue, v_plus, v_minus, PhraseDerives, tighter, two_sided, negated, a_value, a_name, a_cell, bracketed, chosen, IsPlayers, nobody, last_player, and_player, IsFrom, from_unsaid, from_said, IsSeen, seen_unsaid, seen_said, Many, no_more, one_more, IsParameter, p_bare, p_given, IsEvent, e_event, IsReaction, r_now, r_later, IsBehaviour, b_passive, b_active, b_row, IsText, a_text}
use Rattle.source_language.specs.Renaming.{phrase_as, reactions_as, parameter_as, event_as}
use Rattle.source_rendering.specs.Describe.{mark, unless, value_tokens, phrase_tokens, number_tokens, player_tokens, from_tokens, seen_tokens, parameter_tokens, event_tokens, reaction_tokens, behaviour_token, behaviour_tokens, text_tokens}
use Rattle.source_language.proofs.Proper.{Proper, ProperReaction, ProperBehaviour}
use Rattle.source_rendering.proofs.Alike.{same_name, no_place, bare, bare_reactions, bare_behaviour, bare_text}
use Rattle.source_rendering.proofs.Lexes.{is_spelled, Spelt, Ended, at_end_law, before_end}

-- ---- levels

-- a two-sided operator has a level from 1 to 6
pub level_within : (f : ℕ) → Arity f 2 → (m : ℕ) × ((level f ≡ suc m) × (m ≤ 5))
level_within f (binary a b c) =
    let lo = two_level f a b c in
    let hi = level_most f in
    (level f - 1, (omega arith, omega arith))

loosen : {m : ℕ} {ts us : List SheetToken} {e : Phrase} (l : ℕ) → m ≤ l → PhraseDerives m ts e us → PhraseDerives l ts e us
loosen {m} {ts} {us} {e} zero h d = let q : m ≡ 0 = omega arith in subst (λ k. PhraseDerives k ts e us) q d
loosen {m} {ts} {us} {e} (suc l) h d =
    split (eqb m (suc l)) (λ x. subst (λ k. PhraseDerives k ts e us) (eqb-true m (suc l) x) d)
    (λ x. tighter (loosen l (omega (arith, eqb-false m (suc l) x)) d))

-- ---- formulas

prints_value : (c : TextConstant) (ts : List SheetToken) → IsValue (value_tokens c ts) c ts
prints_value (plus n) ts = v_plus
prints_value (minus n) ts = v_minus

-- an operation whose operands are written by as and bs
module _ (f m : ℕ) (e : level f ≡ suc m) (few : m ≤ 5) (a b : Phrase) (left right : ℕ → List SheetToken → List SheetToken)
    (x : (k : ℕ) (ts : List SheetToken) → PhraseDerives k (left k ts) a ts) (y : (k : ℕ) (ts : List SheetToken) → PhraseDerives k (right k ts) b ts) where
  plainly : (ts : List SheetToken) → PhraseDerives (level f) (left (level f) (mark f (right (level f - 1) ts))) (operation f a b) ts
  plainly ts =
      let q : level f - 1 ≡ m = omega arith in
      rw (q, e) (two_sided (operator_of_law m f e) (x (suc m) (mark f (right m ts))) (y m ts))

  operated : (l : ℕ) (ts : List SheetToken)
      → PhraseDerives l (unless (leb (level f) l) opening (left (level f) (mark f (right (level f - 1) (unless (leb (level f) l) closing ts))))) (operation f a b) ts
  operated l ts =
      split (leb (level f) l) (λ h. rw h (loosen l (leb-true (level f) l h) (plainly ts)))
      (λ h. rw h (loosen l (omega arith) (bracketed (loosen 6 (omega arith) (plainly (mark closing ts))))))

prints : (e : Phrase) → Proper e → (l : ℕ) (ts : List SheetToken) → PhraseDerives l (phrase_tokens l e ts) (bare e) ts
unfolding phrase_tokens phrase_as Proper
prints (constant c) h l ts = loosen l (omega arith) (a_value (prints_value c ts))
prints (named p s) h l ts = loosen l (omega arith) a_name
prints (cell p s q n) h l ts = loosen l (omega arith) a_cell
prints (negation a) h l ts = loosen l (omega arith) (negated (prints a h 0 ts))
prints (operation f a b) h l ts =
    let r = level_within f h.0 in
    operated f r.0 r.1.0 r.1.1 (bare a) (bare b) (λ k us. phrase_tokens k a us) (λ k us. phrase_tokens k b us) (prints a h.1) (prints b h.2) l ts
prints (choice a b c) h l ts =
    loosen l (omega arith) (chosen (prints a h.0 6 _) (prints b h.1 6 _) (prints c h.2 6 _))

-- ---- players, declarations

prints_numbers : (n : ℕ) (ns : List ℕ) (ts : List SheetToken) → IsPlayers (number 0 n ∷ number_tokens ns ts) (n ∷ ns) ts
unfolding number_tokens
prints_numbers n [] ts = last_player
prints_numbers n (m ∷ ns) ts = and_player (prints_numbers m ns ts)

prints_players : (ns : List ℕ) (ts : List SheetToken) → IsPlayers (player_tokens ns ts) ns ts
prints_players [] ts = nobody
prints_players (n ∷ ns) ts = prints_numbers n ns ts

prints_from : (m : Option (List ℕ)) (ts : List SheetToken) → IsFrom (from_tokens m ts) m ts
prints_from none ts = from_unsaid
prints_from (some ns) ts = from_said (prints_players ns ts)

prints_seen : (m : Option (List ℕ)) (ts : List SheetToken) → IsSeen (seen_tokens m ts) m ts
prints_seen none ts = seen_unsaid
prints_seen (some ns) ts = seen_said (prints_players ns ts)

prints_parameters : (ps : List Parameter) (ts : List SheetToken) → Many IsParameter (parameter_tokens ps ts) (map (parameter_as same_name same_name no_place) ps) ts
unfolding parameter_tokens
prints_parameters [] ts = no_more
prints_parameters (parameter s none ∷ ps) ts = one_more p_bare (prints_parameters ps ts)
prints_parameters (parameter s (some c) ∷ ps) ts = one_more (p_given (prints_value c (parameter_tokens ps ts))) (prints_parameters ps ts)

prints_events : (es : List TextEvent) (ts : List SheetToken) → Many IsEvent (event_tokens es ts) (map (event_as same_name same_name no_place) es) ts
unfolding event_tokens
prints_events [] ts = no_more
prints_events (event s n m ∷ es) ts = one_more (e_event (prints_from m (event_tokens es ts))) (prints_events es ts)

prints_reactions : (hs : List Reaction) → All ProperReaction hs → (ts : List SheetToken) → Many IsReaction (reaction_tokens hs ts) (bare_reactions hs) ts
unfolding reaction_tokens reactions_as
prints_reactions [] h ts = no_more
prints_reactions (on s immediate e ∷ hs) h ts = one_more (r_now (prints e h.0 6 (reaction_tokens hs ts))) (prints_reactions hs h.1 ts)
prints_reactions (on s later e ∷ hs) h ts = one_more (r_later (prints e h.0 6 (reaction_tokens hs ts))) (prints_reactions hs h.1 ts)

prints_behaviour : (b : TextBehaviour) → ProperBehaviour b → (ts : List SheetToken) → IsBehaviour (behaviour_token b ts) (bare_behaviour b) ts
prints_behaviour (behaviour s (passive e) m) h ts = b_passive (prints e h 6 (seen_tokens m ts)) (prints_seen m ts)
prints_behaviour (behaviour s (active c hs) m) h ts =
    b_active (prints_value c (seen_tokens m (reaction_tokens hs ts))) (prints_seen m (reaction_tokens hs ts)) (prints_reactions hs h ts)
prints_behaviour (behaviour s (row n c hs) m) h ts =
    b_row (prints_value c (seen_tokens m (reaction_tokens hs ts))) (prints_seen m (reaction_tokens hs ts)) (prints_reactions hs h ts)

prints_behaviours : (bs : List TextBehaviour) → All ProperBehaviour bs → (ts : List SheetToken) → Many IsBehaviour (behaviour_tokens bs ts) (map bare_behaviour bs) ts
unfolding behaviour_tokens
prints_behaviours [] h ts = no_more
prints_behaviours (b ∷ bs) h ts = one_more (prints_behaviour b h.0 (behaviour_tokens bs ts)) (prints_behaviours bs h.1 ts)

pub prints_text : (ps : List Parameter) (es : List TextEvent) (bs : List TextBehaviour) → All ProperBehaviour bs → IsText (text_tokens (text ps es bs)) (bare_text (text ps es bs))
prints_text ps es bs h =
    a_text (prints_parameters ps (event_tokens es (behaviour_tokens bs (mark end_sign [])))) (prints_events es (behaviour_tokens bs (mark end_sign []))) (prints_behaviours bs h (mark end_sign []))

-- ---- spellings

more_mark : (c : ℕ) {ts : List SheetToken} → is_spelled c ≡ true → Ended ts → Ended (mark c ts)
more_mark c h e = before_end {t = sign 0 c} h e

more_number : (n : ℕ) {ts : List SheetToken} → Ended ts → Ended (number 0 n ∷ ts)
more_number n e = before_end {t = number 0 n} tt e

more_name : (n : List ℕ) {ts : List SheetToken} → Spelt (name 0 n) → Ended ts → Ended (name 0 n ∷ ts)
more_name n h e = before_end {t = name 0 n} h e

more_value : (c : TextConstant) (ts : List SheetToken) → Ended ts → Ended (value_tokens c ts)
more_value (plus n) ts e = more_number n e
more_value (minus n) ts e = more_mark subtract_fn refl (more_number n e)

-- each name has a spelling
unfoldable pub SpeltNames : Phrase → Type 0
SpeltNames (constant c) = Unit {0}
SpeltNames (named p s) = Spelt (name 0 s)
SpeltNames (cell p s q n) = Spelt (name 0 s)
SpeltNames (negation a) = SpeltNames a
SpeltNames (operation f a b) = SpeltNames a × SpeltNames b
SpeltNames (choice a b c) = SpeltNames a × SpeltNames b × SpeltNames c

more_unless : (b : Bool) (c : ℕ) (ts : List SheetToken) → is_spelled c ≡ true → Ended ts → Ended (unless b c ts)
more_unless b c ts h e = by_test Ended b (λ x. e) (λ x. more_mark c h e)

operator_spelled : (f : ℕ) → Arity f 2 → is_spelled f ≡ true
operator_spelled f (binary a b c) = rw (lt-ltb f opening (omega arith), ne_eqb f 0 (omega arith), le-leb f last b)

more_phrase : (e : Phrase) → Proper e → SpeltNames e → (l : ℕ) (ts : List SheetToken) → Ended ts → Ended (phrase_tokens l e ts)
unfolding phrase_tokens Proper SpeltNames
more_phrase (constant c) h s l ts e = more_value c ts e
more_phrase (named p n) h s l ts e = more_name n s e
more_phrase (cell p n q k) h s l ts e =
    more_name n s (more_mark bracket refl (more_number k (more_mark unbracket refl e)))
more_phrase (negation a) h s l ts e = more_mark not_fn refl (more_phrase a h s 0 ts e)
more_phrase (operation f a b) h s l ts e =
    let r = operator_spelled f h.0 in
    more_unless (leb (level f) l) opening _ refl
    (more_phrase a h.1 s.0 (level f) _ (more_mark f r
    (more_phrase b h.2 s.1 (level f - 1) _ (more_unless (leb (level f) l) closing ts refl e))))
more_phrase (choice a b c) h s l ts e =
    more_mark if_fn refl (more_mark opening refl
    (more_phrase a h.0 s.0 6 _ (more_mark comma refl
    (more_phrase b h.1 s.1 6 _ (more_mark comma refl
    (more_phrase c h.2 s.2 6 _ (more_mark closing refl e)))))))

more_numbers : (ns : List ℕ) (ts : List SheetToken) → Ended ts → Ended (number_tokens ns ts)
unfolding number_tokens
more_numbers [] ts e = e
more_numbers (n ∷ ns) ts e = more_number n (more_numbers ns ts e)

more_players_law : (ns : List ℕ) (ts : List SheetToken) → Ended ts → Ended (player_tokens ns ts)
more_players_law [] ts e = more_mark nobody_word refl e
more_players_law (n ∷ ns) ts e = more_number n (more_numbers ns ts e)

more_from : (m : Option (List ℕ)) (ts : List SheetToken) → Ended ts → Ended (from_tokens m ts)
more_from none ts e = e
more_from (some ns) ts e = more_mark from_word refl (more_players_law ns ts e)

more_seen : (m : Option (List ℕ)) (ts : List SheetToken) → Ended ts → Ended (seen_tokens m ts)
more_seen none ts e = e
more_seen (some ns) ts e = more_mark seen_word refl (more_mark by_word refl (more_players_law ns ts e))

abbrev pub SpeltReaction : Reaction → Type 0
SpeltReaction (on s φ e) = Spelt (name 0 s) × SpeltNames e

abbrev pub SpeltBody : Body → Type 0
SpeltBody (passive e) = SpeltNames e
SpeltBody (active c hs) = All SpeltReaction hs
SpeltBody (row n c hs) = All SpeltReaction hs

abbrev pub SpeltBehaviour : TextBehaviour → Type 0
SpeltBehaviour (behaviour s b m) = Spelt (name 0 s) × SpeltBody b

abbrev pub SpeltParameter : Parameter → Type 0
SpeltParameter (parameter s d) = Spelt (name 0 s)

abbrev pub SpeltEvent : TextEvent → Type 0
SpeltEvent (event s n m) = Spelt (name 0 s)

more_reactions : (hs : List Reaction) → All ProperReaction hs → All SpeltReaction hs → (ts : List SheetToken) → Ended ts → Ended (reaction_tokens hs ts)
unfolding reaction_tokens
more_reactions [] h s ts e = e
more_reactions (on n immediate x ∷ hs) h s ts e =
    more_mark on_word refl (more_name n s.0.0 (more_mark colon refl
    (more_phrase x h.0 s.0.1 6 _ (more_reactions hs h.1 s.1 ts e))))
more_reactions (on n later x ∷ hs) h s ts e =
    more_mark on_word refl (more_name n s.0.0 (more_mark later_word refl
    (more_mark colon refl (more_phrase x h.0 s.0.1 6 _ (more_reactions hs h.1 s.1 ts e)))))

more_behaviour : (b : TextBehaviour) → ProperBehaviour b → SpeltBehaviour b → (ts : List SheetToken) → Ended ts → Ended (behaviour_token b ts)
more_behaviour (behaviour n (passive x) m) h s ts e =
    more_mark passive_word refl (more_name n s.0 (more_mark equals refl
    (more_phrase x h s.1 6 _ (more_seen m ts e))))
more_behaviour (behaviour n (active c hs) m) h s ts e =
    more_mark active_word refl (more_name n s.0 (more_mark equals refl
    (more_value c _ (more_seen m _ (more_reactions hs h s.1 ts e)))))
more_behaviour (behaviour n (row k c hs) m) h s ts e =
    more_mark row_word refl (more_name n s.0 (more_mark bracket refl
    (more_number k (more_mark unbracket refl (more_mark equals refl
    (more_value c _ (more_seen m _ (more_reactions hs h s.1 ts e))))))))

more_behaviours : (bs : List TextBehaviour) → All ProperBehaviour bs → All SpeltBehaviour bs → (ts : List SheetToken) → Ended ts → Ended (behaviour_tokens bs ts)
unfolding behaviour_tokens
more_behaviours [] h s ts e = e
more_behaviours (b ∷ bs) h s ts e = more_behaviour b h.0 s.0 _ (more_behaviours bs h.1 s.1 ts e)

more_events : (es : List TextEvent) → All SpeltEvent es → (ts : List SheetToken) → Ended ts → Ended (event_tokens es ts)
unfolding event_tokens
more_events [] s ts e = e
more_events (event n k m ∷ es) s ts e =
    more_mark event_keyword refl (more_name n s.0 (more_mark rank_word refl
    (more_number k (more_from m _ (more_events es s.1 ts e)))))

more_parameters : (ps : List Parameter) → All SpeltParameter ps → (ts : List SheetToken) → Ended ts → Ended (parameter_tokens ps ts)
unfolding parameter_tokens
more_parameters [] s ts e = e
more_parameters (parameter n none ∷ ps) s ts e =
    more_mark param_word refl (more_name n s.0 (more_parameters ps s.1 ts e))
more_parameters (parameter n (some c) ∷ ps) s ts e =
    more_mark param_word refl (more_name n s.0 (more_mark equals refl
    (more_value c _ (more_parameters ps s.1 ts e))))

pub text_ended : (ps : List Parameter) (es : List TextEvent) (bs : List TextBehaviour) → All SpeltParameter ps → All SpeltEvent es → All ProperBehaviour bs → All SpeltBehaviour bs
    → Ended (text_tokens (text ps es bs))
text_ended ps es bs p e h s =
    more_parameters ps p _ (more_events es e _ (more_behaviours bs h s (mark end_sign []) at_end_law))
