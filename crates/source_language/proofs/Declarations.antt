-- Declarations and handlers: read exactly as the grammar has them and the limits allow. Each production by itself, and
-- repetitions once for all four (`many_sound`, `many-reads`); what may follow is told by the number of its first sign.
use Rattle.lib_base.proofs.Prelude.{ℕ, ◌≤◌, ◌<◌, ◌+◌, suc, zero, ◌≡◌, refl, ◌∙◌, sym, ap, subst, true, false, Bool}
use Rattle.lib_base.proofs.Prelude.{◌||◌, false≢true, ◌&&◌, Option, some, List, [], ◌∷◌, length, eqb, ltb, leb, ne_eqb}
use Rattle.lib_base.proofs.Prelude.{eqb-true, le-ltb, eq-eqb, ltb-false, eqb-false, lt-leb, leb-false, leb-true, arith}
use Rattle.lib_base.proofs.Tools.{by_test, none_of}
use Rattle.spec_language.specs.Syntax.{immediate, later}
use Rattle.source_language.specs.Tokens.{SheetToken, number, name, sign, colon, equals, bracket, unbracket, rank_word, later_word, on_word, param_word, event_keyword, passive_word, active_word, row_word}
use Rattle.source_language.specs.Text.{TextConstant, Reaction, on, Body, active, row, Parameter, parameter, TextEvent, event, TextBehaviour, behaviour}
use Rattle.source_language.specs.Grammar.{Many, no_more, one_more, IsParameter, p_bare, p_given, IsEvent, e_event, IsReaction, r_now, r_later, IsBehaviour, b_passive, b_active, b_row}
use Rattle.source_language.specs.Limits.{among, largest, FitInTurn, ParameterFits, with_parameter, EventFits, with_event, ReactionFits, with_reaction, ReactionsFit, NamesTaken, taken, TextBehaviourFits, with_behaviour}
use Rattle.source_language.specs.Reader.{Phrased, got, place_at, sign_at, tokens_after, past_sign, value_of, formula_of, from_of, seen_of, many_of, default_of, parameter_of, event_declared, reaction_of, read_reactions, passive_declared, state_of, row_declared, kind_declared, behaviour_declared, behaviour_begins}
use Rattle.source_language.proofs.Parses.{Of, then_of, signed_is, past_of, name_of, number_of, Valued, value_sound, value-reads, value_less, Formula, formula_sound, derives_less, formula-reads}
use Rattle.source_language.proofs.Players.{From, from_sound, from-reads, from_less, Seen, seen_sound, seen-reads, seen_less, seen_first}

-- ---- repetitions

module _ {A S : Type 0} (starts : ℕ → Bool) (one : S → List SheetToken → Phrased A) (next : S → A → S) (X : List SheetToken → A → List SheetToken → Type 0) (Fits : S → A → Type 0) where
  abbrev One : S → List SheetToken → A → List SheetToken → Type 0
  One s ts x us = X ts x us × Fits s x

  abbrev Several : S → List SheetToken → List A → List SheetToken → Type 0
  Several s ts xs us = Many X ts xs us × FitInTurn Fits next s xs

  module _ (sound : (s : S) (ts : List SheetToken) → starts (sign_at ts) ≡ true → Of (One s ts) (one s ts)) where
    pub many_sound : (k : ℕ) (s : S) (ts : List SheetToken) → Of (Several s ts) (many_of starts one next k s ts)
    unfolding many_of
    many_sound zero s ts = (no_more, tt)
    many_sound (suc k) s ts =
        by_test (Of (Several s ts)) (starts (sign_at ts))
        (λ e. then_of (Several s ts) (One s ts) _ (λ x us h.
        then_of (Several s ts) (Several (next s x) us) _ (λ xs vs g. (one_more h.0 g.0, (h.1, g.1)))
        (many_of starts one next k (next s x) us) (many_sound k (next s x) us)) (one s ts) (sound s ts e))
        (λ e. (no_more, tt))

  -- what each member is: it begins so, is some tokens, and is read where what follows has a sign of at least low
  pub record Member (low : ℕ) : Type 0 where
    pub begins : {ts us : List SheetToken} {x : A} → X ts x us → starts (sign_at ts) ≡ true
    pub first : {ts us : List SheetToken} {x : A} → X ts x us → low ≤ sign_at ts
    pub less : {ts us : List SheetToken} {x : A} → X ts x us → length us < length ts
    pub reads : (s : S) {ts us : List SheetToken} {x : A} → X ts x us → Fits s x → low ≤ sign_at us → one s ts ≡ got x us

  module _ (low : ℕ) (member : Member low) where
    pub many_first : {ts us : List SheetToken} {xs : List A} → Many X ts xs us → low ≤ sign_at us → low ≤ sign_at ts
    many_first no_more h = h
    many_first (one_more d e) h = member.first d

    pub many-reads : {ts us : List SheetToken} {xs : List A} → Many X ts xs us → (s : S) (k : ℕ) → length ts ≤ k → FitInTurn Fits next s xs → low ≤ sign_at us → starts (sign_at us) ≡ false
        → many_of starts one next k s ts ≡ got xs us
    unfolding many_of
    many-reads no_more s zero l f h e = refl
    many-reads no_more s (suc k) l f h e = rw e
    many-reads (one_more d m) s zero l f h e = absurd (omega (arith, member.less d))
    many-reads (one_more {x = x} d m) s (suc k) l f h e =
        rw (member.begins d, member.reads s d f.0 (many_first m h), many-reads m (next s x) k (omega (arith, member.less d)) f.1 h e)

    pub many_less : {ts us : List SheetToken} {xs : List A} → Many X ts xs us → length us ≤ length ts
    many_less no_more = omega arith
    many_less (one_more d m) = omega (arith, member.less d, many_less m)

-- ---- parameters

default_sound : (p q : ℕ) (s : List ℕ) (ns : List (List ℕ)) (ts : List SheetToken) → length ns < 8 → among s ns ≡ false
    → Of (λ x us. IsParameter (sign p param_word ∷ name q s ∷ ts) x us × ParameterFits ns x) (default_of s ts)
unfolding default_of Valued
default_sound p q s ns ts l a =
    by_test (Of F) (eqb (sign_at ts) equals)
    (λ e. then_of F (Valued (tokens_after ts)) _ (λ c us h. (
      subst (λ (l : List SheetToken). IsParameter (sign p param_word ∷ name q s ∷ l) (parameter s (some c)) us) (sym (signed_is equals (omega arith) ts e)) (p_given h.0),
      (l, a, h.1),
    )) (value_of (tokens_after ts)) (value_sound (tokens_after ts)))
    (λ e. (p_bare, (l, a, tt)))
  where
    F : Parameter → List SheetToken → Type 0
    F x us = IsParameter (sign p param_word ∷ name q s ∷ ts) x us × ParameterFits ns x

pub parameter_sound : (ns : List (List ℕ)) (ts : List SheetToken) → eqb (sign_at ts) param_word ≡ true → Of (λ x us. IsParameter ts x us × ParameterFits ns x) (parameter_of ns ts)
unfolding parameter_of
parameter_sound ns ts e =
    by_test (Of F) (leb 8 (length ns)) (λ l. tt)
    (λ l. name_of F _ (tokens_after ts) (λ q s us x.
    by_test (Of F) (among s ns) (λ a. tt)
    (λ a.
    let y : ts ≡ sign (place_at ts) param_word ∷ name q s ∷ us = signed_is param_word (omega arith) ts e ∙ rw x in
    subst (λ (t : List SheetToken). Of (λ (z : Parameter) (vs : List SheetToken). IsParameter t z vs × ParameterFits ns z) (default_of s us)) (sym y)
    (default_sound (place_at ts) q s ns us (leb-false 8 (length ns) l) a))))
  where
    F : Parameter → List SheetToken → Type 0
    F x us = IsParameter ts x us × ParameterFits ns x

parameter-reads : (ns : List (List ℕ)) {ts us : List SheetToken} {x : Parameter} → IsParameter ts x us → ParameterFits ns x → param_word ≤ sign_at us → parameter_of ns ts ≡ got x us
unfolding parameter_of default_of
parameter-reads ns (p_bare {us = us}) f h = rw (lt-leb 8 (length ns) f.0, f.1, ne_eqb (sign_at us) equals (omega arith))
parameter-reads ns (p_given v) f h = rw (lt-leb 8 (length ns) f.0, f.1, value-reads v f.2)

pub parameters_are : Member (λ c. eqb c param_word) parameter_of with_parameter IsParameter ParameterFits param_word
parameters_are = record { begins = starts; first = first; less = less; reads = parameter-reads }
  where
    starts : {ts us : List SheetToken} {x : Parameter} → IsParameter ts x us → eqb (sign_at ts) param_word ≡ true
    starts p_bare = refl
    starts (p_given v) = refl

    first : {ts us : List SheetToken} {x : Parameter} → IsParameter ts x us → param_word ≤ sign_at ts
    first p_bare = omega arith
    first (p_given v) = omega arith

    less : {ts us : List SheetToken} {x : Parameter} → IsParameter ts x us → length us < length ts
    less p_bare = omega arith
    less (p_given v) = omega (arith, value_less v)

-- ---- events

pub event_sound : (ns : List (List ℕ)) (ts : List SheetToken) → eqb (sign_at ts) event_keyword ≡ true → Of (λ x us. IsEvent ts x us × EventFits ns x) (event_declared ns ts)
unfolding event_declared From
event_sound ns ts e =
    by_test (Of F) (leb 32 (length ns)) (λ l. tt)
    (λ l. name_of F _ (tokens_after ts) (λ q s us x.
    by_test (Of F) (among s ns) (λ a. tt)
    (λ a. past_of F rank_word (omega arith) _ us (λ r vs y.
    number_of F largest _ vs (λ t n ws z b.
    by_test (Of F) (ltb 15 n) (λ d. tt)
    (λ d. then_of F (From ws) _ (λ m xs h.
    let w : ts ≡ sign (place_at ts) event_keyword ∷ name q s ∷ sign r rank_word ∷ number t n ∷ ws = signed_is event_keyword (omega arith) ts e ∙ rw (x, y, z) in
    (subst (λ (u : List SheetToken). IsEvent u (event s n m) xs) (sym w) (e_event h.0), (leb-false 32 (length ns) l, a, ltb-false 15 n d, h.1)))
    (from_of ws) (from_sound ws)))))))
  where
    F : TextEvent → List SheetToken → Type 0
    F x us = IsEvent ts x us × EventFits ns x

event-reads : (ns : List (List ℕ)) {ts us : List SheetToken} {x : TextEvent} → IsEvent ts x us → EventFits ns x → event_keyword ≤ sign_at us → event_declared ns ts ≡ got x us
unfolding event_declared past_sign
event-reads ns (e_event {n = n} d) f h =
    rw (lt-leb 32 (length ns) f.0, f.1, le-ltb largest n (omega (arith, f.2)), le-ltb 15 n f.2, from-reads d f.3 (omega arith))

pub events_are : Member (λ c. eqb c event_keyword) event_declared with_event IsEvent EventFits event_keyword
events_are = record { begins = starts; first = first; less = less; reads = event-reads }
  where
    starts : {ts us : List SheetToken} {x : TextEvent} → IsEvent ts x us → eqb (sign_at ts) event_keyword ≡ true
    starts (e_event d) = refl

    first : {ts us : List SheetToken} {x : TextEvent} → IsEvent ts x us → event_keyword ≤ sign_at ts
    first (e_event d) = omega arith

    less : {ts us : List SheetToken} {x : TextEvent} → IsEvent ts x us → length us < length ts
    less (e_event d) = omega (arith, from_less d)

-- ---- handlers

module _ (es ns : List (List ℕ)) where
  pub reaction_sound : (ts : List SheetToken) → eqb (sign_at ts) on_word ≡ true → Of (λ x us. IsReaction ts x us × ReactionFits es ns x) (reaction_of es ns ts)
  unfolding reaction_of Formula
  reaction_sound ts e =
      name_of F _ (tokens_after ts) (λ q s us x.
      let u : ts ≡ sign (place_at ts) on_word ∷ name q s ∷ us = signed_is on_word (omega arith) ts e ∙ rw x in
      by_test (Of F) (among s ns) (λ a. tt)
      (λ a. by_test (Of F) (among s es)
      (λ b. by_test (Of F) (eqb (sign_at us) later_word)
      (λ d. past_of F colon (omega arith) _ (tokens_after us) (λ r vs y.
      then_of F (Formula 6 vs) _ (λ p ws h.
      let v : ts ≡ sign (place_at ts) on_word ∷ name q s ∷ sign (place_at us) later_word ∷ sign r colon ∷ vs
      = u ∙ ap (λ (l : List SheetToken). sign (place_at ts) on_word ∷ name q s ∷ l) (signed_is later_word (omega arith) us d ∙ rw y) in
      (subst (λ (l : List SheetToken). IsReaction l (on s later p) ws) (sym v) (r_later h.0), (a, b, h.1))) (formula_of vs) (formula_sound vs)))
      (λ d. past_of F colon (omega arith) _ us (λ r vs y.
      then_of F (Formula 6 vs) _ (λ p ws h.
      let v : ts ≡ sign (place_at ts) on_word ∷ name q s ∷ sign r colon ∷ vs = u ∙ rw y in
      (subst (λ (l : List SheetToken). IsReaction l (on s immediate p) ws) (sym v) (r_now h.0), (a, b, h.1))) (formula_of vs) (formula_sound vs))))
      (λ b. tt)))
    where
      F : Reaction → List SheetToken → Type 0
      F x us = IsReaction ts x us × ReactionFits es ns x

  reaction-reads : {ts us : List SheetToken} {x : Reaction} → IsReaction ts x us → ReactionFits es ns x → on_word ≤ sign_at us → reaction_of es ns ts ≡ got x us
  unfolding reaction_of past_sign
  reaction-reads (r_now d) f h = rw (f.0, f.1, formula-reads d f.2 (omega arith))
  reaction-reads (r_later d) f h = rw (f.0, f.1, formula-reads d f.2 (omega arith))

pub reactions_are : (es : List (List ℕ)) → Member (λ c. eqb c on_word) (reaction_of es) with_reaction IsReaction (ReactionFits es) on_word
reactions_are es = record { begins = starts; first = first; less = less; reads = reaction-reads es }
  where
    starts : {ts us : List SheetToken} {x : Reaction} → IsReaction ts x us → eqb (sign_at ts) on_word ≡ true
    starts (r_now d) = refl
    starts (r_later d) = refl

    first : {ts us : List SheetToken} {x : Reaction} → IsReaction ts x us → on_word ≤ sign_at ts
    first (r_now d) = omega arith
    first (r_later d) = omega arith

    less : {ts us : List SheetToken} {x : Reaction} → IsReaction ts x us → length us < length ts
    less (r_now d) = omega (arith, derives_less d)
    less (r_later d) = omega (arith, derives_less d)

-- ---- behaviours

module _ (es : List (List ℕ)) where
  -- `=`, a value, who may see it, handlers
  state_sound : (P : TextBehaviour → List SheetToken → Type 0) (s : List ℕ) (make : TextConstant → List Reaction → Body) (ts : List SheetToken)
      → ((p : ℕ) (us vs ws xs : List SheetToken) (c : TextConstant) (m : Option (List ℕ)) (hs : List Reaction) → ts ≡ sign p equals ∷ us
      → Valued us c vs → Seen vs m ws → Many IsReaction ws hs xs × ReactionsFit es hs → P (behaviour s (make c hs) m) xs)
      → Of P (state_of es s make ts)
  unfolding state_of
  state_sound P s make ts f =
      past_of P equals (omega arith) _ ts (λ p us x.
      then_of P (Valued us) _ (λ c vs g.
      then_of P (Seen vs) _ (λ m ws h.
      then_of P (λ hs xs. Many IsReaction ws hs xs × ReactionsFit es hs) _ (λ hs xs i. f p us vs ws xs c m hs x g h i)
      (read_reactions es ws)
      (many_sound (λ c. eqb c on_word) (reaction_of es) with_reaction IsReaction (ReactionFits es) (reaction_sound es) (length ws) [] ws))
      (seen_of vs) (seen_sound vs)) (value_of us) (value_sound us))

  module _ (ns : List (List ℕ)) (i : ℕ) (room : i < 64) (s : List ℕ) (fresh : among s ns ≡ false) (p q : ℕ) (ts : List SheetToken) where
    abbrev B : ℕ → TextBehaviour → List SheetToken → Type 0
    B w x us = IsBehaviour (sign p w ∷ name q s ∷ ts) x us × TextBehaviourFits es (taken ns i) x

    passive_sound : Of (B passive_word) (passive_declared s ts)
    unfolding passive_declared Formula Seen
    passive_sound =
        past_of (B passive_word) equals (omega arith) _ ts (λ r us x.
        then_of (B passive_word) (Formula 6 us) _ (λ e vs g.
        then_of (B passive_word) (Seen vs) _ (λ m ws h.
        (rw x (b_passive g.0 h.0), (omega arith, fresh, g.1, h.1))) (seen_of vs) (seen_sound vs)) (formula_of us) (formula_sound us))

    active_sound : Of (B active_word) (state_of es s active ts)
    unfolding Valued Seen
    active_sound =
        state_sound (B active_word) s active ts (λ r us vs ws xs c m hs x g h k.
        (rw x (b_active g.0 h.0 k.0), (omega arith, fresh, (g.1, k.1), h.1)))

    row_sound : Of (B row_word) (row_declared es i s ts)
    unfolding row_declared Valued Seen
    row_sound =
        past_of (B row_word) bracket (omega arith) _ ts (λ r us x.
        number_of (B row_word) largest _ us (λ t n vs y b.
        by_test (Of (B row_word)) (ltb n 2 || ltb 16 n) (λ d. tt)
        (λ d. by_test (Of (B row_word)) (ltb 64 (i + n)) (λ a. tt)
        (λ a. past_of (B row_word) unbracket (omega arith) _ vs (λ o ws z.
        state_sound (B row_word) s (row n) ws (λ u ys zs cs ds c m hs w g h k.
        let e = none_of (ltb n 2) (ltb 16 n) d in
        let v : ts ≡ sign r bracket ∷ number t n ∷ sign o unbracket ∷ sign u equals ∷ ys = rw (x, y, z, w) in (
          rw v (b_row g.0 h.0 k.0),
          (ltb-false 64 (i + n) a, fresh, (ltb-false n 2 e.0, ltb-false 16 n e.1, g.1, k.1), h.1),
        )))))))

-- the first word, which is one of three, says which
begins_within : (c : ℕ) → behaviour_begins c ≡ true → (passive_word ≤ c) × (c ≤ row_word)
unfolding behaviour_begins
begins_within c h =
    let r = both (leb passive_word c) (leb c row_word) h in (leb-true passive_word c r.0, leb-true c row_word r.1)
  where
    both : (a b : Bool) → a && b ≡ true → (a ≡ true) × (b ≡ true)
    both true b e = (refl, e)
    both false b e = absurd (false≢true e)

module _ (es ns : List (List ℕ)) (i : ℕ) (ts : List SheetToken) where
  abbrev F : TextBehaviour → List SheetToken → Type 0
  F x us = IsBehaviour ts x us × TextBehaviourFits es (taken ns i) x

  -- a word w at the front, and then a name
  worded : (w q : ℕ) (s : List ℕ) (us : List SheetToken) → 0 < w → sign_at ts ≡ w → tokens_after ts ≡ name q s ∷ us → (g : Phrased TextBehaviour)
      → Of (λ x vs. IsBehaviour (sign (place_at ts) w ∷ name q s ∷ us) x vs × TextBehaviourFits es (taken ns i) x) g → Of F g
  worded w q s us l e x g h =
      let y : ts ≡ sign (place_at ts) w ∷ name q s ∷ us = signed_is w l ts (rw e (eq-eqb w w refl)) ∙ rw x in
      subst (λ (t : List SheetToken). Of (λ (z : TextBehaviour) (vs : List SheetToken). IsBehaviour t z vs × TextBehaviourFits es (taken ns i) z) g) (sym y) h

  kind_sound : i < 64 → behaviour_begins (sign_at ts) ≡ true → (q : ℕ) (s : List ℕ) (us : List SheetToken) → tokens_after ts ≡ name q s ∷ us → among s ns ≡ false
      → Of F (kind_declared es i (sign_at ts) s us)
  kind_sound l e q s us x a =
      let r = begins_within (sign_at ts) e in
      by_test (Of F) (eqb (sign_at ts) passive_word)
      (λ w. worded passive_word q s us (omega arith) (eqb-true (sign_at ts) passive_word w) x (passive_declared s us) (passive_sound es ns i l s a (place_at ts) q us))
      (λ w. by_test (Of F) (eqb (sign_at ts) row_word)
      (λ v. worded row_word q s us (omega arith) (eqb-true (sign_at ts) row_word v) x (row_declared es i s us) (row_sound es ns i l s a (place_at ts) q us))
      (λ v.
      let c : sign_at ts ≡ active_word = omega (arith, eqb-false (sign_at ts) passive_word w, eqb-false (sign_at ts) row_word v) in
      worded active_word q s us (omega arith) c x (state_of es s active us) (active_sound es ns i l s a (place_at ts) q us)))

pub behaviour_sound : (es : List (List ℕ)) (t : NamesTaken) (ts : List SheetToken) → behaviour_begins (sign_at ts) ≡ true
    → Of (λ x us. IsBehaviour ts x us × TextBehaviourFits es t x) (behaviour_declared es t ts)
unfolding behaviour_declared
behaviour_sound es (taken ns i) ts e =
    by_test (Of (F es ns i ts)) (leb 64 i) (λ l. tt)
    (λ l. name_of (F es ns i ts) _ (tokens_after ts) (λ q s us x.
    by_test (Of (F es ns i ts)) (among s ns) (λ a. tt) (λ a. kind_sound es ns i ts (leb-false 64 i l) e q s us x a)))

reactions_read : (es : List (List ℕ)) {ts us : List SheetToken} {hs : List Reaction} → Many IsReaction ts hs us → ReactionsFit es hs → passive_word ≤ sign_at us
    → read_reactions es ts ≡ got hs us
reactions_read es {ts} {us} d f h =
    many-reads (λ c. eqb c on_word) (reaction_of es) with_reaction IsReaction (ReactionFits es) on_word (reactions_are es) d [] (length ts) (omega arith) f (omega arith)
    (ne_eqb (sign_at us) on_word (omega arith))

reactions_first : (es : List (List ℕ)) {ts us : List SheetToken} {hs : List Reaction} → Many IsReaction ts hs us → passive_word ≤ sign_at us → on_word ≤ sign_at ts
reactions_first es d h = many_first (λ c. eqb c on_word) (reaction_of es) with_reaction IsReaction (ReactionFits es) on_word (reactions_are es) d (omega arith)

behaviour-reads : (es : List (List ℕ)) (t : NamesTaken) {ts us : List SheetToken} {x : TextBehaviour} → IsBehaviour ts x us → TextBehaviourFits es t x → passive_word ≤ sign_at us
    → behaviour_declared es t ts ≡ got x us
unfolding behaviour_declared passive_declared state_of row_declared past_sign
behaviour-reads es (taken ns i) (b_passive d m) f h =
    rw (lt-leb 64 i (omega (arith, f.0)), f.1, formula-reads d f.2 (omega (arith, seen_first m (omega arith))), seen-reads m f.3 (omega arith))
behaviour-reads es (taken ns i) (b_active v m d) f h =
    let n = reactions_first es d h in
    rw (lt-leb 64 i (omega (arith, f.0)), f.1, value-reads v f.2.0, seen-reads m f.3 (omega arith), reactions_read es d f.2.1 h)
behaviour-reads es (taken ns i) (b_row {n = k} v m d) f h =
    let n = reactions_first es d h in
    let g = f.2 in
    rw (
      lt-leb 64 i (omega (arith, f.0)),
      f.1,
      le-ltb largest k (omega (arith, g.1)),
      le-ltb k 2 g.0,
      le-ltb 16 k g.1,
      le-ltb 64 (i + k) f.0,
      value-reads v g.2,
      seen-reads m f.3 (omega arith),
      reactions_read es d g.3 h,
    )

pub behaviours_are : (es : List (List ℕ)) → Member behaviour_begins (behaviour_declared es) with_behaviour IsBehaviour (TextBehaviourFits es) passive_word
unfolding behaviour_begins
behaviours_are es = record { begins = starts; first = first; less = less; reads = behaviour-reads es }
  where
    starts : {ts us : List SheetToken} {x : TextBehaviour} → IsBehaviour ts x us → behaviour_begins (sign_at ts) ≡ true
    starts (b_passive d m) = refl
    starts (b_active v m d) = refl
    starts (b_row v m d) = refl

    first : {ts us : List SheetToken} {x : TextBehaviour} → IsBehaviour ts x us → passive_word ≤ sign_at ts
    first (b_passive d m) = omega arith
    first (b_active v m d) = omega arith
    first (b_row v m d) = omega arith

    fewer : {ts us : List SheetToken} {hs : List Reaction} → Many IsReaction ts hs us → length us ≤ length ts
    fewer d = many_less (λ c. eqb c on_word) (reaction_of es) with_reaction IsReaction (ReactionFits es) on_word (reactions_are es) d

    less : {ts us : List SheetToken} {x : TextBehaviour} → IsBehaviour ts x us → length us < length ts
    less (b_passive d m) = omega (arith, derives_less d, seen_less m)
    less (b_active v m d) = omega (arith, value_less v, seen_less m, fewer d)
    less (b_row v m d) = omega (arith, value_less v, seen_less m, fewer d)
