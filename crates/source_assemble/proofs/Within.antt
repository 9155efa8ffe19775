-- A fault's place lies within the text: each token's place does, and what is read of tokens, or found wrong with it,
-- has their places. By induction along the reader.
use Rattle.lib_base.proofs.Prelude.{ℕ, ◌≤◌, ◌+◌, ◌-◌, suc, zero, ◌≡◌, Bool, ◌||◌, ◌&&◌, List, [], ◌∷◌, length, eqb, ltb}
use Rattle.lib_base.proofs.Prelude.{leb, arith}
use Rattle.lib_base.specs.Basics.{All}
use Rattle.lib_base.proofs.Tools.{by_test, by_elim}
use Rattle.lib_signature.specs.Signature.{level}
use Rattle.lib_signature.specs.Numbers.{not_fn, if_fn, subtract_fn}
use Rattle.spec_language.specs.Syntax.{Phase, immediate, later}
use Rattle.source_language.specs.Tokens.{SheetToken, number, name, sign, reserved, marks, sign_of, is_digit, is_letter, in_word, is_blank, in_comment, closing, opening, comma, colon, equals, bracket, unbracket, rank_word, from_word, by_word, nobody_word, later_word, seen_word, on_word, param_word, event_keyword, passive_word, row_word, end_sign, word_at_place}
use Rattle.source_language.specs.Text.{TextConstant, Phrase, constant, named, cell, negation, operation, choice, Reaction, on, Body, passive, active, row, Parameter, TextEvent, TextBehaviour, behaviour, Text, text}
use Rattle.source_language.specs.Faults.{Kind, OrFault, fault, fine, and_then}
use Rattle.source_language.specs.Limits.{among, largest, phrase_nesting, after_all, with_parameter, with_event, with_reaction, NamesTaken, taken, with_behaviour}
use Rattle.source_language.specs.Meaning.{NameMeaning, nothing, a_parameter, a_behaviour, a_row, name_term, cell_term, term_of, clauses_of, item_of, entries_of}
use Rattle.source_language.specs.Scanner.{run_of_kind, beyond_run, FirstInText, short_mark, mark_at, long_word, first_in_text, scan_on, scanned_from, scanned_tokens, scan_text}
use Rattle.source_language.specs.Reader.{Phrased, bad, got, then_phrase, token_place, place_at, sign_at, sign_in, tokens_after, past_sign, name_due, number_due, value_of, operator_within, with_operator, after_operand, cell_of, read_constant, read_negation, read_choice, signed_of, read_primary, from_operand, phrase_within, more_players, players_of, from_of, seen_of, many_of, default_of, parameter_of, event_declared, body_declared, reaction_of, passive_declared, state_of, row_declared, kind_declared, behaviour_declared, behaviour_begins, text_ends, ending, declarations_of, read_text}

module _ (long : ℕ) where
  -- ---- tokens, and what is read of them

  abbrev TokenWithinText : SheetToken → Type 0
  TokenWithinText t = token_place t ≤ long

  abbrev Placed : List SheetToken → Type 0
  Placed = All TokenWithinText

  -- a fault has its place there; of what was read P holds, and the tokens after it have theirs
  abbrev Reads : {A : Type 0} → (A → Type 0) → Phrased A → Type 0
  Reads P (bad k p) = p ≤ long
  Reads P (got x ts) = P x × Placed ts

  -- nothing is said of what has no places
  abbrev Any : {A : Type 0} → A → Type 0
  Any x = Unit {0}

  place_within : (ts : List SheetToken) → Placed ts → place_at ts ≤ long
  place_within [] h = omega arith
  place_within (t ∷ ts) h = h.0

  after_within : (ts : List SheetToken) → Placed ts → Placed (tokens_after ts)
  after_within [] h = tt
  after_within (t ∷ ts) h = h.1

  then-reads : {A B : Type 0} (P : A → Type 0) (Q : B → Type 0) (f : A → List SheetToken → Phrased B)
      → ((x : A) (us : List SheetToken) → P x → Placed us → Reads Q (f x us)) → (r : Phrased A) → Reads P r → Reads Q (then_phrase r f)
  then-reads P Q f k (bad j p) h = h
  then-reads P Q f k (got x us) h = k x us h.0 h.1

  past-reads : {A : Type 0} (P : A → Type 0) (c : ℕ) (f : List SheetToken → Phrased A) → ((us : List SheetToken) → Placed us → Reads P (f us))
      → (ts : List SheetToken) → Placed ts → Reads P (past_sign c f ts)
  unfolding past_sign
  past-reads P c f k ts h =
      by_test (Reads P) (eqb (sign_at ts) c) (λ e. k (tokens_after ts) (after_within ts h)) (λ e. place_within ts h)

  name-reads : {A : Type 0} (P : A → Type 0) (f : ℕ → List ℕ → List SheetToken → Phrased A)
      → ((p : ℕ) (s : List ℕ) (us : List SheetToken) → p ≤ long → Placed us → Reads P (f p s us))
      → (ts : List SheetToken) → Placed ts → Reads P (name_due f ts)
  name-reads P f k [] h = omega arith
  name-reads P f k (number p n ∷ ts) h = h.0
  name-reads P f k (name p s ∷ ts) h = k p s ts h.0 h.1
  name-reads P f k (sign p c ∷ ts) h = h.0

  number-reads : {A : Type 0} (P : A → Type 0) (top : ℕ) (f : ℕ → ℕ → List SheetToken → Phrased A)
      → ((p n : ℕ) (us : List SheetToken) → p ≤ long → Placed us → Reads P (f p n us))
      → (ts : List SheetToken) → Placed ts → Reads P (number_due top f ts)
  number-reads P top f k [] h = omega arith
  number-reads P top f k (number p n ∷ ts) h = by_test (Reads P) (ltb top n) (λ e. h.0) (λ e. k p n ts h.0 h.1)
  number-reads P top f k (name p s ∷ ts) h = h.0
  number-reads P top f k (sign p c ∷ ts) h = h.0

  value-reads : (ts : List SheetToken) → Placed ts → Reads {A = TextConstant} Any (value_of ts)
  unfolding value_of
  value-reads ts h =
      by_test (Reads Any) (eqb (sign_at ts) 5) (λ e. number-reads Any _ _ (λ p n us a g. (tt, g)) (tokens_after ts) (after_within ts h))
      (λ e. number-reads Any _ _ (λ p n us a g. (tt, g)) ts h)

  -- ---- formulas

  unfoldable PhrasePlaced : Phrase → Type 0
  PhrasePlaced (constant c) = Unit {0}
  PhrasePlaced (named p s) = p ≤ long
  PhrasePlaced (cell p s q n) = (p ≤ long) × (q ≤ long)
  PhrasePlaced (negation a) = PhrasePlaced a
  PhrasePlaced (operation f a b) = PhrasePlaced a × PhrasePlaced b
  PhrasePlaced (choice a b c) = PhrasePlaced a × PhrasePlaced b × PhrasePlaced c

  -- a reader of formulas of a level
  abbrev Reader : (ℕ → List SheetToken → Phrased Phrase) → Type 0
  Reader next = (l : ℕ) (ts : List SheetToken) → Placed ts → Reads PhrasePlaced (next l ts)

  module _ (next : ℕ → List SheetToken → Phrased Phrase) (reads : Reader next) (room : ℕ) where
    operator-reads : (go : Phrase → List SheetToken → Phrased Phrase) → ((a : Phrase) (us : List SheetToken) → PhrasePlaced a → Placed us → Reads PhrasePlaced (go a us))
        → (a : Phrase) (ts : List SheetToken) → PhrasePlaced a → Placed ts → Reads PhrasePlaced (with_operator next room go a ts)
    unfolding PhrasePlaced
    operator-reads go k a ts f h =
        by_test (Reads PhrasePlaced) (ltb (phrase_nesting a) room)
        (λ e. then-reads PhrasePlaced PhrasePlaced _ (λ b us g i. k (operation (sign_at ts) a b) us (f, g) i) (next (level (sign_at ts) - 1) (tokens_after ts)) (reads (level (sign_at ts) - 1) (tokens_after ts) (after_within ts h)))
        (λ e. place_within ts h)

    after-reads : (l m k : ℕ) (a : Phrase) (ts : List SheetToken) → PhrasePlaced a → Placed ts → Reads PhrasePlaced (after_operand next room l m k a ts)
    unfolding after_operand
    after-reads l zero zero a ts f h = (f, h)
    after-reads l zero (suc k) a ts f h = place_within ts h
    after-reads l (suc m) zero a ts f h =
        by_test (Reads PhrasePlaced) (operator_within l (sign_at ts)) (λ e. operator-reads (after_operand next room l m zero) (after-reads l m zero) a ts f h) (λ e. (f, h))
    after-reads l (suc m) (suc k) a ts f h =
        by_test (Reads PhrasePlaced) (operator_within 6 (sign_at ts)) (λ e. operator-reads (after_operand next room l m (suc k)) (after-reads l m (suc k)) a ts f h)
        (λ e. past-reads PhrasePlaced closing _ (λ us g. after-reads l m k a us f g) ts h)

    cell-reads : (p : ℕ) (s : List ℕ) (ts : List SheetToken) → p ≤ long → Placed ts → Reads PhrasePlaced (cell_of p s ts)
    unfolding cell_of PhrasePlaced
    cell-reads p s ts f h =
        by_test (Reads PhrasePlaced) (eqb (sign_at ts) bracket)
        (λ e. number-reads PhrasePlaced _ _ (λ r n us a g. past-reads PhrasePlaced unbracket _ (λ vs i. ((f, place_within ts h), i)) us g) (tokens_after ts) (after_within ts h))
        (λ e. (f, h))

    constant-reads : (ts : List SheetToken) → Placed ts → Reads PhrasePlaced (read_constant ts)
    unfolding read_constant PhrasePlaced
    constant-reads ts h = then-reads Any PhrasePlaced _ (λ c us f g. (tt, g)) (value_of ts) (value-reads ts h)

    choice-reads : (ts : List SheetToken) → Placed ts → Reads PhrasePlaced (read_choice (next 6) ts)
    unfolding read_choice PhrasePlaced
    choice-reads ts h =
        past-reads PhrasePlaced opening _ (λ us i. then-reads PhrasePlaced PhrasePlaced _ (λ a vs f j.
        past-reads PhrasePlaced comma _ (λ ws i. then-reads PhrasePlaced PhrasePlaced _ (λ b xs g j.
        past-reads PhrasePlaced comma _ (λ ys i. then-reads PhrasePlaced PhrasePlaced _ (λ c zs k j.
        past-reads PhrasePlaced closing _ (λ end i. ((f, g, k), i)) zs j)
        (next 6 ys) (reads 6 ys i)) xs j) (next 6 ws) (reads 6 ws i)) vs j) (next 6 us) (reads 6 us i)) ts h

    signed_reads : (p c : ℕ) (ts : List SheetToken) → p ≤ long → Placed ts → Reads PhrasePlaced (signed_of next room p c ts)
    unfolding signed_of read_negation PhrasePlaced
    signed_reads p c ts f h =
        by_test (Reads PhrasePlaced) (eqb c not_fn)
        (λ e. by_test (Reads PhrasePlaced) (ltb 1 room) (λ d. then-reads PhrasePlaced PhrasePlaced _ (λ a us g i. (g, i)) (next 0 ts) (reads 0 ts h)) (λ d. f))
        (λ e. by_test (Reads PhrasePlaced) (eqb c subtract_fn) (λ d. constant-reads (sign p c ∷ ts) (f, h))
        (λ d. by_test (Reads PhrasePlaced) (eqb c if_fn) (λ b. by_test (Reads PhrasePlaced) (ltb 1 room) (λ a. choice-reads ts h) (λ a. f)) (λ b. f)))

    primary-reads : (ts : List SheetToken) → Placed ts → Reads PhrasePlaced (read_primary next room ts)
    primary-reads [] h = omega arith
    primary-reads (number p n ∷ ts) h = constant-reads (number p n ∷ ts) h
    primary-reads (name p s ∷ ts) h = cell-reads p s ts h.0 h.1
    primary-reads (sign p c ∷ ts) h = signed_reads p c ts h.0 h.1

    from-reads : (l m k : ℕ) (ts : List SheetToken) → Placed ts → Reads PhrasePlaced (from_operand next room l m k ts)
    unfolding from_operand
    from-reads l zero k ts h = place_within ts h
    from-reads l (suc m) k ts h =
        by_test (Reads PhrasePlaced) (eqb (sign_at ts) opening) (λ e. from-reads l m (suc k) (tokens_after ts) (after_within ts h))
        (λ e. then-reads PhrasePlaced PhrasePlaced _ (λ a us f g. after-reads l m k a us f g) (read_primary next room ts) (primary-reads ts h))

  phrase-reads : (room : ℕ) → Reader (phrase_within room)
  unfolding phrase_within
  phrase-reads zero l ts h = place_within ts h
  phrase-reads (suc room) l ts h = from-reads (phrase_within room) (phrase-reads room) (suc room) l (length ts) zero ts h

  -- ---- declarations

  more-reads : (ts : List SheetToken) → Placed ts → Reads Any (more_players ts)
  unfolding more_players
  more-reads [] h = (tt, tt)
  more-reads (number p n ∷ ts) h =
      by_test (Reads Any) (ltb largest n) (λ e. h.0)
      (λ e. by_test (Reads Any) (ltb 7 n) (λ d. h.0)
      (λ d. then-reads Any Any _ (λ ns us f g. (tt, g)) (more_players ts) (more-reads ts h.1)))
  more-reads (name p s ∷ ts) h = (tt, h)
  more-reads (sign p c ∷ ts) h = (tt, h)

  players_read : (ts : List SheetToken) → Placed ts → Reads Any (players_of ts)
  players_read [] h = omega arith
  players_read (number p n ∷ ts) h = more-reads (number p n ∷ ts) h
  players_read (name p s ∷ ts) h = h.0
  players_read (sign p c ∷ ts) h = by_test (Reads Any) (eqb c nobody_word) (λ e. (tt, h.1)) (λ e. h.0)

  senders_read : (ts : List SheetToken) → Placed ts → Reads Any (from_of ts)
  unfolding from_of
  senders_read ts h =
      by_test (Reads Any) (eqb (sign_at ts) from_word)
      (λ e. then-reads Any Any _ (λ ns us f g. (tt, g)) (players_of (tokens_after ts)) (players_read (tokens_after ts) (after_within ts h)))
      (λ e. (tt, h))

  viewers_read : (ts : List SheetToken) → Placed ts → Reads Any (seen_of ts)
  unfolding seen_of
  viewers_read ts h =
      by_test (Reads Any) (eqb (sign_at ts) seen_word)
      (λ e. past-reads Any by_word _ (λ us i. then-reads Any Any _ (λ ns vs f g. (tt, g)) (players_of us) (players_read us i)) (tokens_after ts) (after_within ts h))
      (λ e. (tt, h))

  module _ {A S : Type 0} (P : A → Type 0) (starts : ℕ → Bool) (one : S → List SheetToken → Phrased A) (next : S → A → S)
      (reads : (s : S) (ts : List SheetToken) → Placed ts → Reads P (one s ts)) where
    many_read : (k : ℕ) (s : S) (ts : List SheetToken) → Placed ts → Reads (All P) (many_of starts one next k s ts)
    unfolding many_of
    many_read zero s ts h = (tt, h)
    many_read (suc k) s ts h =
        by_test (Reads (All P)) (starts (sign_at ts))
        (λ e. then-reads P (All P) _ (λ x us f g.
        then-reads (All P) (All P) _ (λ xs vs i j. ((f, i), j))
        (many_of starts one next k (next s x) us) (many_read k (next s x) us g)) (one s ts) (reads s ts h))
        (λ e. (tt, h))

  parameter-reads : (ns : List (List ℕ)) (ts : List SheetToken) → Placed ts → Reads {A = Parameter} Any (parameter_of ns ts)
  unfolding parameter_of default_of
  parameter-reads ns ts h =
      by_test (Reads Any) (leb 8 (length ns)) (λ e. place_within ts h)
      (λ e. name-reads Any _ (λ p s us f g. by_test (Reads Any) (among s ns) (λ d. f)
      (λ d. by_test (Reads Any) (eqb (sign_at us) equals)
      (λ b. then-reads Any Any _ (λ c vs i j. (tt, j)) (value_of (tokens_after us)) (value-reads (tokens_after us) (after_within us g))) (λ b. (tt, g))))
      (tokens_after ts) (after_within ts h))

  event-reads : (ns : List (List ℕ)) (ts : List SheetToken) → Placed ts → Reads {A = TextEvent} Any (event_declared ns ts)
  unfolding event_declared
  event-reads ns ts h =
      by_test (Reads Any) (leb 32 (length ns)) (λ e. place_within ts h)
      (λ e. name-reads Any _ (λ p s us f g. by_test (Reads Any) (among s ns) (λ d. f)
      (λ d. past-reads Any rank_word _ (number-reads Any _ _ (λ q n vs i j.
      by_test (Reads Any) (ltb 15 n) (λ b. i) (λ b. then-reads Any Any _ (λ m ws x y. (tt, y)) (from_of vs) (senders_read vs j)))) us g))
      (tokens_after ts) (after_within ts h))

  abbrev ReactionPlaced : Reaction → Type 0
  ReactionPlaced (on s φ e) = PhrasePlaced e

  body_reads : (s : List ℕ) (φ : Phase) (ts : List SheetToken) → Placed ts → Reads ReactionPlaced (body_declared s φ ts)
  body_reads s φ ts h =
      past-reads ReactionPlaced colon _ (λ us g. then-reads PhrasePlaced ReactionPlaced _ (λ e vs i j. (i, j)) (phrase_within 16 6 us) (phrase-reads 16 6 us g)) ts h

  reaction-reads : (es ns : List (List ℕ)) (ts : List SheetToken) → Placed ts → Reads ReactionPlaced (reaction_of es ns ts)
  unfolding reaction_of
  reaction-reads es ns ts h =
      name-reads ReactionPlaced _ (λ p s us f g.
      by_test (Reads ReactionPlaced) (among s ns) (λ e. f)
      (λ e. by_test (Reads ReactionPlaced) (among s es)
      (λ d. by_test (Reads ReactionPlaced) (eqb (sign_at us) later_word) (λ b. body_reads s later (tokens_after us) (after_within us g)) (λ b. body_reads s immediate us g))
      (λ d. f))) (tokens_after ts) (after_within ts h)

  abbrev BodyPlaced : Body → Type 0
  BodyPlaced (passive e) = PhrasePlaced e
  BodyPlaced (active c hs) = All ReactionPlaced hs
  BodyPlaced (row n c hs) = All ReactionPlaced hs

  abbrev BehaviourPlaced : TextBehaviour → Type 0
  BehaviourPlaced (behaviour s b m) = BodyPlaced b

  passive-reads : (s : List ℕ) (ts : List SheetToken) → Placed ts → Reads BehaviourPlaced (passive_declared s ts)
  unfolding passive_declared
  passive-reads s ts h =
      past-reads BehaviourPlaced equals _ (λ us g. then-reads PhrasePlaced BehaviourPlaced _ (λ e vs i j.
      then-reads Any BehaviourPlaced _ (λ m ws x y. (i, y)) (seen_of vs) (viewers_read vs j)) (phrase_within 16 6 us) (phrase-reads 16 6 us g)) ts h

  state-reads : (es : List (List ℕ)) (s : List ℕ) (make : TextConstant → List Reaction → Body) → ((c : TextConstant) (hs : List Reaction) → All ReactionPlaced hs → BodyPlaced (make c hs))
      → (ts : List SheetToken) → Placed ts → Reads BehaviourPlaced (state_of es s make ts)
  unfolding state_of
  state-reads es s make k ts h =
      past-reads BehaviourPlaced equals _ (λ us g.
      then-reads Any BehaviourPlaced _ (λ c vs f i.
      then-reads Any BehaviourPlaced _ (λ m ws j x.
      then-reads (All ReactionPlaced) BehaviourPlaced _ (λ hs xs y z. (k c hs y, z))
      (many_of (λ c. eqb c on_word) (reaction_of es) with_reaction (length ws) [] ws) (many_read ReactionPlaced _ (reaction_of es) with_reaction (reaction-reads es) (length ws) [] ws x))
      (seen_of vs) (viewers_read vs i)) (value_of us) (value-reads us g)) ts h

  row_reads : (es : List (List ℕ)) (i : ℕ) (s : List ℕ) (ts : List SheetToken) → Placed ts → Reads BehaviourPlaced (row_declared es i s ts)
  unfolding row_declared
  row_reads es i s ts h =
      past-reads BehaviourPlaced bracket _ (number-reads BehaviourPlaced _ _ (λ p n us f g.
      by_test (Reads BehaviourPlaced) (ltb n 2 || ltb 16 n) (λ e. f)
      (λ e. by_test (Reads BehaviourPlaced) (ltb 64 (i + n)) (λ d. f)
      (λ d. past-reads BehaviourPlaced unbracket _ (state-reads es s (row n) (λ c hs a. a)) us g)))) ts h

  kind-reads : (es : List (List ℕ)) (i word : ℕ) (s : List ℕ) (ts : List SheetToken) → Placed ts → Reads BehaviourPlaced (kind_declared es i word s ts)
  kind-reads es i word s ts h =
      by_test (Reads BehaviourPlaced) (eqb word passive_word) (λ e. passive-reads s ts h)
      (λ e. by_test (Reads BehaviourPlaced) (eqb word row_word) (λ d. row_reads es i s ts h) (λ d. state-reads es s active (λ c hs a. a) ts h))

  behaviour-reads : (es : List (List ℕ)) (n : NamesTaken) (ts : List SheetToken) → Placed ts → Reads BehaviourPlaced (behaviour_declared es n ts)
  unfolding behaviour_declared
  behaviour-reads es (taken ns i) ts h =
      by_test (Reads BehaviourPlaced) (leb 64 i) (λ e. place_within ts h)
      (λ e. name-reads BehaviourPlaced _ (λ p s us f g. by_test (Reads BehaviourPlaced) (among s ns) (λ d. f) (λ d. kind-reads es i (sign_at ts) s us g))
      (tokens_after ts) (after_within ts h))

  abbrev TextPlaced : Text → Type 0
  TextPlaced (text ps es bs) = All BehaviourPlaced bs

  declarations_read : (ts : List SheetToken) → Placed ts → Reads TextPlaced (declarations_of ts)
  unfolding declarations_of
  declarations_read ts h =
      then-reads (All Any) TextPlaced _ (λ ps us f g.
      then-reads (All Any) TextPlaced _ (λ es vs i j.
      then-reads (All BehaviourPlaced) TextPlaced _ (λ bs ws x y. (x, y))
      (many_of behaviour_begins (behaviour_declared (after_all with_event [] es)) with_behaviour (length vs) (taken (after_all with_parameter [] ps) 0) vs)
      (many_read BehaviourPlaced behaviour_begins _ with_behaviour (behaviour-reads (after_all with_event [] es)) (length vs) (taken (after_all with_parameter [] ps) 0) vs j))
      (many_of (λ c. eqb c event_keyword) event_declared with_event (length us) [] us) (many_read Any _ event_declared with_event event-reads (length us) [] us g))
      (many_of (λ c. eqb c param_word) parameter_of with_parameter (length ts) [] ts) (many_read Any _ parameter_of with_parameter parameter-reads (length ts) [] ts h)

  -- ---- the text, and its names

  -- a fault has its place there; of a result P holds
  abbrev FaultWithin : {A : Type 0} → (A → Type 0) → OrFault A → Type 0
  FaultWithin P (fault k p) = p ≤ long
  FaultWithin P (fine x) = P x

  ends_within : (x : Text) → TextPlaced x → (ts : List SheetToken) → Placed ts → FaultWithin TextPlaced (text_ends x ts)
  ends_within x f [] h = omega arith
  ends_within x f (t ∷ []) h = by_test (FaultWithin TextPlaced) (eqb (sign_in t) end_sign) (λ e. f) (λ e. h.0)
  ends_within x f (t ∷ u ∷ ts) h = h.0

  ending_within : (r : Phrased Text) → Reads TextPlaced r → FaultWithin TextPlaced (ending r)
  ending_within (bad k p) h = h
  ending_within (got x ts) h = ends_within x h.0 ts h.1

  then_within : {A B : Type 0} (P : A → Type 0) (Q : B → Type 0) (f : A → OrFault B) → ((x : A) → P x → FaultWithin Q (f x)) → (r : OrFault A) → FaultWithin P r
      → FaultWithin Q (and_then r f)
  then_within P Q f k (fault j p) h = h
  then_within P Q f k (fine x) h = k x h

  name_within : (p : ℕ) → p ≤ long → (f : NameMeaning) → FaultWithin Any (name_term p f)
  name_within p h nothing = h
  name_within p h (a_parameter i) = tt
  name_within p h (a_behaviour i) = tt
  name_within p h (a_row i n) = tt

  cell_within : (c p q k : ℕ) → p ≤ long → q ≤ long → (f : NameMeaning) → FaultWithin Any (cell_term c p q k f)
  cell_within c p q k h g nothing = h
  cell_within c p q k h g (a_parameter i) = g
  cell_within c p q k h g (a_behaviour i) = g
  cell_within c p q k h g (a_row i n) =
      by_test (FaultWithin Any) (ltb k n) (λ e. by_test (FaultWithin Any) (eqb k 0 && eqb n c) (λ d. g) (λ d. tt)) (λ e. g)

  module _ (find : List ℕ → NameMeaning) where
    term_within : (c : ℕ) (e : Phrase) → PhrasePlaced e → FaultWithin Any (term_of find c e)
    unfolding term_of PhrasePlaced
    term_within c (constant x) h = tt
    term_within c (named p s) h = name_within p h (find s)
    term_within c (cell p s q k) h = cell_within c p q k h.0 h.1 (find s)
    term_within c (negation a) h = then_within Any Any _ (λ x f. tt) (term_of find c a) (term_within c a h)
    term_within c (operation f a b) h =
        then_within Any Any _ (λ x i. then_within Any Any _ (λ y j. tt) (term_of find c b) (term_within c b h.1)) (term_of find c a) (term_within c a h.0)
    term_within c (choice a b d) h =
        then_within Any Any _ (λ x i.
        then_within Any Any _ (λ y j.
        then_within Any Any _ (λ z k. tt) (term_of find c d) (term_within c d h.2)) (term_of find c b) (term_within c b h.1))
        (term_of find c a) (term_within c a h.0)

    module _ (es : List TextEvent) where
      clauses_within : (c : ℕ) (hs : List Reaction) → All ReactionPlaced hs → FaultWithin Any (clauses_of es find c hs)
      unfolding clauses_of
      clauses_within c [] h = tt
      clauses_within c (on s φ e ∷ hs) h =
          then_within Any Any _ (λ x i. then_within Any Any _ (λ cs j. tt) (clauses_of es find c hs) (clauses_within c hs h.1)) (term_of find c e) (term_within c e h.0)

      item_within : (b : Body) → BodyPlaced b → FaultWithin Any (item_of es find b)
      item_within (passive e) h = then_within Any Any _ (λ x i. tt) (term_of find 0 e) (term_within 0 e h)
      item_within (active v hs) h = then_within Any Any _ (λ cs i. tt) (clauses_of es find 0 hs) (clauses_within 0 hs h)
      item_within (row n v hs) h = then_within Any Any _ (λ cs i. tt) (clauses_of es find n hs) (clauses_within n hs h)

      entries_within : (bs : List TextBehaviour) → All BehaviourPlaced bs → FaultWithin Any (entries_of es find bs)
      unfolding entries_of
      entries_within [] h = tt
      entries_within (behaviour s b m ∷ bs) h =
          then_within Any Any _ (λ x i. then_within Any Any _ (λ xs j. tt) (entries_of es find bs) (entries_within bs h.1)) (item_of es find b) (item_within b h.0)

  -- ---- the tokens of a text

  -- what follows in a text is scanned so
  abbrev Scans : (List ℕ → List SheetToken) → Type 0
  Scans go = (rest : List ℕ) → Placed (go rest)

  word_within : (p : ℕ) (w : List ℕ) → p ≤ long → TokenWithinText (word_at_place p w)
  word_within p w h = by_test TokenWithinText (eqb (sign_of w reserved) 0) (λ e. h) (λ e. h)

  module _ (p : ℕ) (within : p ≤ long) (go : List ℕ → List SheetToken) (scans : Scans go) where
    abbrev FirstScanned : FirstInText → Type 0
    FirstScanned f = Placed (scan_on p go f)

    short_within : (b : ℕ) (rest : List ℕ) → FirstScanned (short_mark p b rest)
    short_within b rest = by_test FirstScanned (eqb (sign_of (b ∷ []) marks) 0) (λ e. (within, tt)) (λ e. (within, scans rest))

    mark_within : (b : ℕ) (rest : List ℕ) → FirstScanned (mark_at p b rest)
    mark_within b [] = short_within b []
    mark_within b (c ∷ rest) = by_test FirstScanned (eqb (sign_of (b ∷ c ∷ []) marks) 0) (λ e. short_within b (c ∷ rest)) (λ e. (within, scans rest))

    long_within : (w rest : List ℕ) → FirstScanned (long_word p w rest)
    long_within w rest = by_test FirstScanned (leb (length w) 32) (λ e. (word_within p w within, scans rest)) (λ e. (within, tt))

    first_within : (b : ℕ) (bs : List ℕ) → FirstScanned (first_in_text p b bs)
    unfolding first_in_text
    first_within b bs =
        by_test FirstScanned (is_digit b) (λ e. (within, scans (beyond_run is_digit bs)))
        (λ e. by_test FirstScanned (is_letter b) (λ d. long_within (b ∷ run_of_kind in_word bs) (beyond_run in_word bs)) (λ d. mark_within b bs))

  scanned_from_law : (go : List ℕ → List SheetToken) → Scans go → (bs : List ℕ) → Placed (scanned_from long go bs)
  scanned_from_law go k [] = (omega arith, tt)
  scanned_from_law go k (b ∷ bs) =
      by_elim Placed (is_blank b) (λ e. k bs)
      (λ e. by_elim Placed (eqb b 35) (λ d. k (beyond_run in_comment bs)) (λ d. first_within (long - suc (length bs)) (omega arith) go k b bs))

  scanned_within : (k : ℕ) → Scans (scanned_tokens long k)
  unfolding scanned_tokens
  scanned_within zero = scanned_from_law _ (λ rest. tt)
  scanned_within (suc k) = scanned_from_law (scanned_tokens long k) (scanned_within k)

-- ---- the two passes

text_within : (bytes : List ℕ) → FaultWithin (length bytes) (TextPlaced (length bytes)) (read_text bytes)
unfolding read_text
text_within bytes =
    ending_within (length bytes) (declarations_of (scan_text bytes))
    (declarations_read (length bytes) (scan_text bytes) (scanned_within (length bytes) (length bytes) bytes))

pub first_pass_within : (bytes : List ℕ) (k : Kind) (p : ℕ) → read_text bytes ≡ fault k p → p ≤ length bytes
first_pass_within bytes k p e = rw e at (text_within bytes)

pub names_within : (bytes : List ℕ) (ps : List Parameter) (es : List TextEvent) (bs : List TextBehaviour) → read_text bytes ≡ fine (text ps es bs)
    → (find : List ℕ → NameMeaning) (k : Kind) (p : ℕ) → entries_of es find bs ≡ fault k p → p ≤ length bytes
names_within bytes ps es bs e find k p f = rw f at (entries_within (length bytes) find es bs (rw e at (text_within bytes)))
