-- Tokens that are written out are scanned again: each is spelled by bytes of its own, and where two would run into one
-- another a blank stands between them. By induction on the tokens, the signs by a check of the table.
use Rattle.lib_base.proofs.Prelude.{ℕ, ◌≤◌, ◌<◌, ◌≡◌, refl, ◌∙◌, sym, ap, true, false, Bool, ◌||◌, true≢false, ◌&&◌}
use Rattle.lib_base.proofs.Prelude.{not, ◌≢◌, List, [], ◌∷◌, ◌++◌, length, get_or, eqb, ltb, leb, ne_eqb, eqb-true}
use Rattle.lib_base.proofs.Prelude.{ltb-false, eqb-false, ltb-true, leb-true, arith}
use Rattle.lib_base.specs.Basics.{pick}
use Rattle.lib_base.proofs.Tools.{by_test, split, past, through, none_of, all_below, each_below, all_imp}
use Rattle.lib_signature.specs.Signature.{last}
use Rattle.text_formula.specs.Tokens.{decimal_value, NotFirst}
use Rattle.source_language.specs.Tokens.{SheetToken, number, name, sign, opening, on_word, param_word, end_sign, Spelling, spelled, marks, reserved, same, sign_of, is_digit, is_letter, in_word, is_blank, Are, KindStops, place_in, word_at_place, TextBegins, a_number, a_word, a_long_mark, a_mark, TokensOfText, t_end, t_blank, t_token}
use Rattle.source_rendering.specs.Describe.{digits, spelled_as, spell, last_of, first_byte, run_together, space_between, gap, rendered, render}
use Rattle.source_language.proofs.Scans.{same_is}
use Rattle.source_rendering.proofs.Alike.{Alike, alike_end, alike_number, alike_name, alike_sign}
use Rattle.source_rendering.proofs.Digits.{are_digits, say_number, some_digits, few_digits}

-- ---- words

pub record IsWord (w : List ℕ) : Type 0 where
  pub letter : is_letter (first_byte w) ≡ true
  pub within : Are in_word w
  pub some : 0 < length w
  pub short : length w ≤ 32

unfoldable are_word : List ℕ → Bool
are_word [] = true
are_word (b ∷ w) = pick (in_word b) (are_word w) false

are_word_law : (w : List ℕ) → are_word w ≡ true → Are in_word w
unfolding are_word
are_word_law [] h = tt
are_word_law (b ∷ w) h = let r = through (in_word b) (are_word w) h in (r.0, are_word_law w r.1)

-- ---- how each sign is spelled

data Sort (c : ℕ) (w : List ℕ) : Type 0 where
  as_mark : sign_of w marks ≡ c → length w ≤ 2 → Sort c w
  as_word : sign_of w reserved ≡ c → IsWord w → Sort c w

abbrev spelling : ℕ → List ℕ
spelling c = spell (sign 0 c)

mark_fine : ℕ → Bool
mark_fine c = pick (eqb (sign_of (spelling c) marks) c) (leb (length (spelling c)) 2) false

word_fine : ℕ → Bool
word_fine c =
    pick (eqb (sign_of (spelling c) reserved) c)
    (pick (is_letter (first_byte (spelling c)))
    (pick (are_word (spelling c))
    (pick (leb (length (spelling c)) 32) (leb 1 (length (spelling c))) false) false) false)
    false

-- a sign has a spelling: a function's, or one of the text's own but for the end
abbrev pub is_spelled : ℕ → Bool
is_spelled c = pick (ltb c opening) (pick (eqb c 0) false (leb c last)) (ltb c end_sign)

pub spelled_low : (c : ℕ) → is_spelled c ≡ true → (0 < c) × (c < end_sign)
spelled_low c h =
    split (ltb c opening)
    (λ e. let k = past (eqb c 0) (leb c last) (rw e at h) in omega (arith, ltb-true c opening e, eqb-false c 0 k.0))
    (λ e. omega (arith, ltb-false c opening e, ltb-true c end_sign (rw e at h)))

sign_fine : ℕ → Bool
sign_fine c = pick (is_spelled c) (pick (mark_fine c) true (word_fine c)) true

table_fine : all_below end_sign sign_fine ≡ true
unfolding all_below sign_fine mark_fine word_fine are_word spelled_as sign_of marks reserved same is_letter is_digit in_word
table_fine = refl

sign_sorted : (c : ℕ) → is_spelled c ≡ true → Sort c (spelling c)
unfolding sign_fine mark_fine word_fine
sign_sorted c h =
    let t : sign_fine c ≡ true = each_below end_sign sign_fine table_fine c (spelled_low c h).1 in
    split (mark_fine c)
    (λ e. let r = through (eqb (sign_of (spelling c) marks) c) (leb (length (spelling c)) 2) e in
    as_mark (eqb-true (sign_of (spelling c) marks) c r.0) (leb-true (length (spelling c)) 2 r.1))
    (λ e.
    let u : word_fine c ≡ true = rw (h, e) at t in
    let r = through (eqb (sign_of (spelling c) reserved) c) _ u in
    let s = through (is_letter (first_byte (spelling c))) _ r.1 in
    let v = through (are_word (spelling c)) _ s.1 in
    let w = through (leb (length (spelling c)) 32) _ v.1 in
    as_word (eqb-true (sign_of (spelling c) reserved) c r.0)
    (record {
      letter = s.0;
      within = are_word_law (spelling c) v.0;
      some = leb-true 1 (length (spelling c)) w.1;
      short = leb-true (length (spelling c)) 32 w.0;
    }))

-- ---- bytes that do not run into one another

abbrev Clear : ℕ → List ℕ → Type 0
Clear a [] = Unit {0}
Clear a (x ∷ r) = run_together a x ≡ false

clash_words : (a x : ℕ) → run_together a x ≡ false → in_word a ≡ true → in_word x ≡ true → ⊥
unfolding run_together
clash_words a x h p q = let r = none_of (in_word a && in_word x) (not (eqb (sign_of (a ∷ x ∷ []) marks) 0)) h in true≢false (rw (p, q) at r.0)

clash_marks : (a x : ℕ) → run_together a x ≡ false → sign_of (a ∷ x ∷ []) marks ≡ 0
unfolding run_together
clash_marks a x h =
    let r = none_of (in_word a && in_word x) (not (eqb (sign_of (a ∷ x ∷ []) marks) 0)) h in
    eqb-true (sign_of (a ∷ x ∷ []) marks) 0 (not-false (eqb (sign_of (a ∷ x ∷ []) marks) 0) r.1)
  where
    not-false : (b : Bool) → not b ≡ false → b ≡ true
    not-false true e = refl
    not-false false e = absurd (true≢false e)

-- no row is spelled with a second byte of a kind
unfoldable none_second : (ℕ → Bool) → List Spelling → Bool
none_second kind [] = true
none_second kind (spelled s n ∷ rows) = pick (kind (get_or s 1 0)) false (none_second kind rows)

second_none : (kind : ℕ → Bool) (a b : ℕ) (w : List ℕ) (rows : List Spelling) → none_second kind rows ≡ true → kind b ≡ true → sign_of (a ∷ b ∷ w) rows ≡ 0
unfolding sign_of none_second
second_none kind a b w [] h k = refl
second_none kind a b w (spelled s n ∷ rows) h k =
    let r = past (kind (get_or s 1 0)) (none_second kind rows) h in
    by_test (λ c. c ≡ 0) (same (a ∷ b ∷ w) s)
    (λ e. let q : b ≡ get_or s 1 0 = ap (λ (l : List ℕ). get_or l 1 0) (same_is (a ∷ b ∷ w) s e) in absurd (true≢false (sym k ∙ rw q r.0)))
    (λ e. second_none kind a b w rows r.1 k)

clear_blank : (a b : ℕ) → is_blank b ≡ true → in_word b ≡ false → run_together a b ≡ false
unfolding run_together none_second marks is_blank
clear_blank a b h k = rw (k, second_none is_blank a b [] marks refl h) (left (in_word a))
  where
    left : (x : Bool) → (x && false) || false ≡ false
    left true = refl
    left false = refl

clear_feed : (a : ℕ) → run_together a 10 ≡ false
unfolding is_blank in_word is_letter is_digit
clear_feed a = clear_blank a 10 refl refl

clear_space : (a : ℕ) → run_together a 32 ≡ false
unfolding is_blank in_word is_letter is_digit
clear_space a = clear_blank a 32 refl refl

clear_first : (a : ℕ) (w r : List ℕ) → 0 < length w → run_together a (first_byte w) ≡ false → Clear a (w ++ r)
clear_first a [] r l h = absurd (omega arith)
clear_first a (b ∷ w) r l h = h

-- ---- tokens that have a spelling

abbrev pub Spelt : SheetToken → Type 0
Spelt (number p n) = Unit {0}
Spelt (name p s) = IsWord s × (sign_of s reserved ≡ 0)
Spelt (sign p c) = is_spelled c ≡ true

sort_some : (c : ℕ) (w : List ℕ) → 0 < c → Sort c w → 0 < length w
unfolding sign_of marks same
sort_some c [] l (as_mark e h) = absurd (omega arith)
sort_some c (b ∷ w) l (as_mark e h) = omega arith
sort_some c w l (as_word e h) = h.some

spelt_some : (t : SheetToken) → Spelt t → 0 < length (spell t)
spelt_some (number p n) h = some_digits n
spelt_some (name p s) h = h.0.some
spelt_some (sign p c) h = sort_some c (spelling c) (spelled_low c h).0 (sign_sorted c h)

-- what follows a token does not run into it
space_clear : (t u : SheetToken) (r : List ℕ) → Spelt u → Clear (last_of (spell t)) (space_between t u ++ (spell u ++ r))
space_clear t u r h =
    by_test (λ (l : List ℕ). Clear (last_of (spell t)) (l ++ (spell u ++ r))) (run_together (last_of (spell t)) (first_byte (spell u)))
    (λ e. clear_space (last_of (spell t))) (λ e. clear_first (last_of (spell t)) (spell u) r (spelt_some u h) e)

-- the last is the end of the text, the others have spellings
pub data Ended : List SheetToken → Type 0 where
  at_end_law : {p : ℕ} → Ended (sign p end_sign ∷ [])
  before_end : {t : SheetToken} {ts : List SheetToken} → Spelt t → Ended ts → Ended (t ∷ ts)

high_clear : (t : SheetToken) (p c : ℕ) (r : List ℕ) → (leb param_word c ≡ false → Spelt (sign p c)) → Clear (last_of (spell t)) (gap t (sign p c) ++ (spell (sign p c) ++ r))
high_clear t p c r h =
    by_test P (leb param_word c) (λ e. clear_feed (last_of (spell t)))
    (λ e. by_test P (eqb c on_word) (λ d. clear_feed (last_of (spell t))) (λ d. space_clear t (sign p c) r (h e)))
  where
    P : List ℕ → Type 0
    P l = Clear (last_of (spell t)) (l ++ (spell (sign p c) ++ r))

gap_clear : (t u : SheetToken) (us : List SheetToken) → Ended (u ∷ us) → Clear (last_of (spell t)) (gap t u ++ (spell u ++ rendered u us))
gap_clear t (sign p c) [] at_end_law = clear_feed (last_of (spell t))
gap_clear t (number p n) us (before_end h e) = space_clear t (number p n) (rendered (number p n) us) h
gap_clear t (name p s) us (before_end h e) = space_clear t (name p s) (rendered (name p s) us) h
gap_clear t (sign p c) us (before_end h e) = high_clear t p c (rendered (sign p c) us) (λ f. h)

-- ---- a token is scanned again

last_in_law : (w : List ℕ) → Are in_word w → 0 < length w → in_word (last_of w) ≡ true
unfolding last_of
last_in_law [] a l = absurd (omega arith)
last_in_law (b ∷ []) a l = a.0
last_in_law (b ∷ (c ∷ w)) a l = last_in_law (c ∷ w) a.1 (omega arith)

digit_in : (b : ℕ) → is_digit b ≡ true → in_word b ≡ true
unfolding in_word
digit_in b h = rw h (right (is_letter b))
  where
    right : (x : Bool) → x || true ≡ true
    right true = refl
    right false = refl

word_stops : (w r : List ℕ) → Are in_word w → 0 < length w → Clear (last_of w) r → KindStops in_word r
word_stops w [] a l c = tt
word_stops w (x ∷ r) a l c = λ h. clash_words (last_of w) x c (last_in_law w a l) h

digit_stops : (r : List ℕ) → KindStops in_word r → KindStops is_digit r
digit_stops [] h = tt
digit_stops (x ∷ r) h = λ d. h (digit_in x d)

-- what is scanned at the front of these bytes, and how it is written
record Scanned (long : ℕ) (t : SheetToken) (bs r : List ℕ) : Type 0 where
  pub token : SheetToken
  pub begins : TextBegins long bs token r
  pub alike : (us vs : List SheetToken) → Alike us vs → Alike (t ∷ us) (token ∷ vs)

module _ (long : ℕ) where
  number_scanned : (p n : ℕ) (w r : List ℕ) → Are is_digit w → 0 < length w → decimal_value 0 w ≡ n → KindStops is_digit r → Scanned long (number p n) (w ++ r) r
  number_scanned p n [] r a l e s = absurd (omega arith)
  number_scanned p n (b ∷ ds) r a l e s = record {
    token = number (place_in long (b ∷ (ds ++ r))) (decimal_value 0 (b ∷ ds));
    begins = a_number b ds r a.0 a.1 s;
    alike = λ us vs k. rw e (alike_number k);
  }

  name_scanned : (p : ℕ) (w r : List ℕ) → IsWord w → sign_of w reserved ≡ 0 → KindStops in_word r → Scanned long (name p w) (w ++ r) r
  name_scanned p [] r h e s = absurd (omega (arith, h.some))
  name_scanned p (b ∷ w) r h e s = record {
    token = word_at_place (place_in long (b ∷ (w ++ r))) (b ∷ w);
    begins = a_word b w r h.letter h.within.1 s h.short;
    alike = λ us vs k. rw e (alike_name k);
  }

  word_scanned : (p c : ℕ) (w r : List ℕ) → 0 < c → IsWord w → sign_of w reserved ≡ c → KindStops in_word r → Scanned long (sign p c) (w ++ r) r
  word_scanned p c [] r l h e s = absurd (omega (arith, h.some))
  word_scanned p c (b ∷ w) r l h e s = record {
    token = word_at_place (place_in long (b ∷ (w ++ r))) (b ∷ w);
    begins = a_word b w r h.letter h.within.1 s h.short;
    alike = λ us vs k. rw (e, ne_eqb c 0 (omega arith)) (alike_sign k);
  }

  mark_stops : (b : ℕ) (r : List ℕ) → Clear b r → NotFirst (λ c. sign_of (b ∷ c ∷ []) marks ≢ 0) r
  mark_stops b [] h = tt
  mark_stops b (x ∷ r) h = λ n. n (clash_marks b x h)

  mark_scanned : (p c : ℕ) (w r : List ℕ) → 0 < c → sign_of w marks ≡ c → length w ≤ 2 → Clear (last_of w) r → Scanned long (sign p c) (w ++ r) r
  unfolding last_of sign_of marks same
  mark_scanned p c [] r l e h k = absurd (omega arith)
  mark_scanned p c (b ∷ []) r l e h k = record {
    token = sign (place_in long (b ∷ r)) (sign_of (b ∷ []) marks);
    begins = a_mark b r (λ z. omega arith) (mark_stops b r k);
    alike = λ us vs a. rw e (alike_sign a);
  }
  mark_scanned p c (b ∷ (d ∷ [])) r l e h k = record {
    token = sign (place_in long (b ∷ d ∷ r)) (sign_of (b ∷ d ∷ []) marks);
    begins = a_long_mark b d r (λ z. omega arith);
    alike = λ us vs a. rw e (alike_sign a);
  }
  mark_scanned p c (b ∷ (d ∷ (x ∷ w))) r l e h k = absurd (omega arith)

  sorted_scanned : (p c : ℕ) (w r : List ℕ) → 0 < c → Sort c w → Clear (last_of w) r → Scanned long (sign p c) (w ++ r) r
  sorted_scanned p c w r l (as_mark e h) k = mark_scanned p c w r l e h k
  sorted_scanned p c w r l (as_word e h) k = word_scanned p c w r l h e (word_stops w r h.within h.some k)

  token_scanned : (t : SheetToken) (r : List ℕ) → Spelt t → Clear (last_of (spell t)) r → Scanned long t (spell t ++ r) r
  token_scanned (number p n) r h k =
      number_scanned p n (digits n) r (are_digits n) (some_digits n) (say_number n)
      (digit_stops r (word_stops (digits n) r (all_imp (λ b. is_digit b ≡ true) (λ b. in_word b ≡ true) digit_in (digits n) (are_digits n)) (some_digits n) k))
  token_scanned (name p s) r h k = name_scanned p s r h.0 h.1 (word_stops s r h.0.within h.0.some k)
  token_scanned (sign p c) r h k = sorted_scanned p c (spelling c) r (spelled_low c h).0 (sign_sorted c h) k

  -- ---- blanks are passed over

  feed : {bs : List ℕ} {ts : List SheetToken} → TokensOfText long bs ts → TokensOfText long (10 ∷ bs) ts
  unfolding is_blank
  feed d = t_blank 10 refl d

  space : {bs : List ℕ} {ts : List SheetToken} → TokensOfText long bs ts → TokensOfText long (32 ∷ bs) ts
  unfolding is_blank
  space d = t_blank 32 refl d

  between_blank : (t u : SheetToken) {bs : List ℕ} {ts : List SheetToken} → TokensOfText long bs ts → TokensOfText long (space_between t u ++ bs) ts
  between_blank t u {bs} {ts} d =
      by_test (λ (l : List ℕ). TokensOfText long (l ++ bs) ts) (run_together (last_of (spell t)) (first_byte (spell u))) (λ e. space d) (λ e. d)

  gap_blank : (t u : SheetToken) {bs : List ℕ} {ts : List SheetToken} → TokensOfText long bs ts → TokensOfText long (gap t u ++ bs) ts
  gap_blank t (number p n) d = between_blank t (number p n) d
  gap_blank t (name p s) d = between_blank t (name p s) d
  gap_blank t (sign p c) {bs} {ts} d =
      by_test (λ (l : List ℕ). TokensOfText long (l ++ bs) ts) (leb param_word c) (λ e. feed d)
      (λ e. by_test (λ (l : List ℕ). TokensOfText long (l ++ bs) ts) (eqb c on_word) (λ f. feed (space (space d))) (λ f. between_blank t (sign p c) d))

  -- ---- all of them

  next_lexed : (t u : SheetToken) (us : List SheetToken) → Spelt t → Ended (u ∷ us) → (r : (vs : List SheetToken) × (TokensOfText long (render (u ∷ us)) vs × Alike (u ∷ us) vs))
      → (vs : List SheetToken) × (TokensOfText long (render (t ∷ u ∷ us)) vs × Alike (t ∷ u ∷ us) vs)
  unfolding render rendered
  next_lexed t u us h e r =
      let s = token_scanned t (gap t u ++ (spell u ++ rendered u us)) h (gap_clear t u us e) in
      (s.token ∷ r.0, (t_token s.begins (gap_blank t u r.1.0), s.alike (u ∷ us) r.0 r.1.1))

  pub lexes : {ts : List SheetToken} → Ended ts → (us : List SheetToken) × (TokensOfText long (render ts) us × Alike ts us)
  unfolding render rendered spelled_as marks reserved
  lexes at_end_law = (sign (place_in long []) end_sign ∷ [], (t_end, alike_sign alike_end))
  lexes (before_end {t} h (at_end_law {p})) = next_lexed t (sign p end_sign) [] h at_end_law (sign (place_in long []) end_sign ∷ [], (t_end, alike_sign alike_end))
  lexes (before_end {t} h (before_end {t = u} {ts = us} k e)) = next_lexed t u us h (before_end k e) (lexes (before_end k e))

-- a letter and the digits of a number below 100 are a name
digits_word : (a : ℕ) (w : List ℕ) → is_letter a ≡ true → Are is_digit w → 0 < length w → length w ≤ 2 → IsWord (a ∷ w) × (sign_of (a ∷ w) reserved ≡ 0)
unfolding none_second reserved is_digit in_word
digits_word a [] l d m n = absurd (omega arith)
digits_word a (b ∷ w) l d m n = (
  record {
    letter = l;
    within = (rw l, all_imp (λ b. is_digit b ≡ true) (λ b. in_word b ≡ true) digit_in (b ∷ w) d);
    some = omega arith;
    short = omega arith;
  },
  second_none is_digit a b w reserved refl d.0,
)

pub name_spelt : (a n : ℕ) → is_letter a ≡ true → n < 100 → Spelt (name 0 (a ∷ digits n))
name_spelt a n l h = digits_word a (digits n) l (are_digits n) (some_digits n) (few_digits n h)
