-- Laws that the scanner's proofs cite: the reader's functions at a place of the text, and what the two loops keep.
use Rattle.lib_base.proofs.Prelude.{ℕ, ◌≤◌, ◌<◌, ◌+◌, ◌-◌, suc, zero, ◌*◌, ◌≡◌, refl, ◌∙◌, sym, ap, true, false, true≢false, ◌&&◌}
use Rattle.std.specs.Prelude.{Option, Some, None, is_some}
use Rattle.std.proofs.Math.Option as math
use Rattle.std.proofs.Math.Option.{some, none}
use Rattle.lib_base.proofs.Prelude.{List, [], ◌∷◌, ◌++◌, map, append_assoc, append-nil, length}
use Rattle.lib_base.proofs.Prelude.{get_or, take, drop, length-set, set, length-drop, get_or-drop, drop-cons, drop-drop}
use Rattle.lib_base.proofs.Prelude.{take-suc-set, eqb, ltb, leb, add-one, sub-one, ne_eqb, eq-eqb, le-ltb, lt-ltb, ltb-false}
use Rattle.lib_base.proofs.Prelude.{ltb-true, lt-leb, le-leb, arith}
use Rattle.lib_base.proofs.Tools.{by_test, by_two, split}
use Rattle.text_formula.specs.Tokens.{Token, number, behaviour, decimal_value, Begins}
use Rattle.text_formula.proofs.Scans.{first_says, in_token, begins_some}
use Rattle.text_formula.specs.Reader.{FirstToken, no_token, begins, digit_of, name_of, single_of, double_of, marked_of, word_token, number_token, first_of, put_first, and_on, tokens_of}
use Rattle.text_marks.specs.Digits.{is_decimal, digit_found, leading_digits}
use Rattle.text_marks.proofs.Decimals.{decimal_bounds, digit_some, digit_none, digits_short}
use Rattle.text_lexer.specs.Codes.{capped, token_code, found}
use Rattle.text_lexer.specs.Scanned.{Scanned, Narrow, ScansAs, Scans}
use Rattle.text_formula.specs.declared.tokens.Token as code
use Rattle.text_formula.specs.declared.tokens.Token.TheVariants.{Number}
use Rattle.text_lexer.specs.declared.Found.{Found}

-- ---- a word

drop_first : (text : List ℕ) (at : ℕ) → get_or (drop at text) 0 0 ≡ get_or text at 0
drop_first text at = let q : at + 0 ≡ at = omega arith in get_or-drop at text 0 0 ∙ rw q

module _ (text : List ℕ) (at : ℕ) where
  pub word_name : {A : Type 0} (miss : A) (hit : Token → ℕ → A) (b c d e : ℕ) → b ≡ get_or text at 0 → c ≡ get_or text (at + 1) 0 → d ≡ get_or text (at + 2) 0 → e ≡ get_or text (at + 3) 0
      → b ≡ 98 → name_of miss hit (digit_of c) (digit_of d) (digit_of e) ≡ word_token miss hit (drop at text)
  unfolding word_token
  word_name miss hit b c d e p q r s h = rw (drop_first text at, get_or-drop at text 1 0, get_or-drop at text 2 0, get_or-drop at text 3 0, ← p, ← q, ← r, ← s, h)

  pub word_mark : {A : Type 0} (miss : A) (hit : Token → ℕ → A) (b c : ℕ) → b ≡ get_or text at 0 → c ≡ get_or text (at + 1) 0 → (b ≡ 98 → ⊥)
      → marked_of miss hit b c ≡ word_token miss hit (drop at text)
  unfolding word_token
  word_mark miss hit b c p q h = rw (drop_first text at, get_or-drop at text 1 0, ← p, ← q, ne_eqb b 98 h)

-- ---- a number

-- the tests on a digit
digit_test : (b : ℕ) → ltb (digit_of b) 10 ≡ is_decimal b
unfolding digit_of is_decimal
digit_test b =
    by_test (λ x. ltb x 10 ≡ leb 48 b && leb b 57) (ltb b 48) (λ e. rw (lt-leb 48 b (ltb-true b 48 e)))
    (λ e. by_test (λ x. ltb x 10 ≡ leb 48 b && leb b 57) (ltb 57 b) (λ d. rw (le-leb 48 b (ltb-false b 48 e), lt-leb b 57 (ltb-true 57 b d)))
    (λ d.
    let h : 48 ≤ b = ltb-false b 48 e in
    let g : b ≤ 57 = ltb-false 57 b d in
    rw (le-leb 48 b h, le-leb b 57 g) (lt-ltb (b - 48) 10 (omega arith))))

digit_value : (b : ℕ) → is_decimal b ≡ true → digit_of b ≡ b - 48
unfolding digit_of
digit_value b e = let h = decimal_bounds b e in rw (le-ltb b 48 h.0, le-ltb 57 b h.1)

pub digit_is : {r : Option ℕ} (b d : ℕ) → r ≡ digit_found b → r ≡ Some d → (digit_of b ≡ d) × (d < 10)
digit_is b d p q =
    let s = digit_some b d (sym q ∙ p) in
    let h = decimal_bounds b s.0 in
    (digit_value b s.0 ∙ sym s.1, omega (arith, s.1))

pub digit_off : {r : Option ℕ} (b : ℕ) → r ≡ digit_found b → r ≡ None → 10 ≤ digit_of b
digit_off b p q = ltb-false (digit_of b) 10 (digit_test b ∙ digit_none b (sym q ∙ p))

pub digit_third : (r : Option ℕ) (b : ℕ) → r ≡ digit_found b → is_some r ≡ true → digit_of b < 10
digit_third (Some d) b p h = let s = digit_is b d p refl in rw s.0 s.1
digit_third None b p h = absurd (true≢false (sym h))

pub no_third : (r : Option ℕ) (b : ℕ) → r ≡ digit_found b → is_some r ≡ false → 10 ≤ digit_of b
no_third (Some d) b p h = absurd (true≢false h)
no_third None b p h = digit_off b p refl

-- the reader's number is that of the leading digits
number_read : (n : ℕ) (bs : List ℕ) → number_token n bs ≡ begins (number (decimal_value n (leading_digits bs))) (drop (length (leading_digits bs)) bs)
unfolding number_token leading_digits decimal_value
number_read n [] = refl
number_read n (b ∷ bs) =
    split (is_decimal b) (λ e. rw (digit_test b, e, digit_value b e) (number_read (n * 10 + (b - 48)) bs)) (λ e. rw (digit_test b, e))

-- ---- a name, by its digits

module _ {A : Type 0} (miss : A) (hit : Token → ℕ → A) (x y z : ℕ) where
  pub name_none : 10 ≤ x → miss ≡ name_of miss hit x y z
  unfolding name_of
  name_none h = rw (lt-ltb 9 x (omega arith))

  pub name_short : x < 10 → 10 ≤ y → hit (behaviour x) 2 ≡ name_of miss hit x y z
  unfolding name_of
  name_short h g = rw (le-ltb 9 x (omega arith), lt-ltb 9 y (omega arith))

  module _ (h : x < 10) (g : y < 10) where
    pub name_third : z < 10 → miss ≡ name_of miss hit x y z
    unfolding name_of
    name_third f = rw (le-ltb 9 x (omega arith), le-ltb 9 y (omega arith), lt-ltb z 10 f)

    module _ (f : 10 ≤ z) where
      pub name_zero : x ≡ 0 → miss ≡ name_of miss hit x y z
      unfolding name_of
      name_zero e = rw (le-ltb 9 x (omega arith), le-ltb 9 y (omega arith), le-ltb z 10 f, eq-eqb x 0 e)

      pub name_high : (x ≡ 0 → ⊥) → 63 < x * 10 + y → miss ≡ name_of miss hit x y z
      unfolding name_of
      name_high e l =
          rw (le-ltb 9 x (omega arith), le-ltb 9 y (omega arith), le-ltb z 10 f, ne_eqb x 0 e, lt-ltb 63 (x * 10 + y) l)

      pub name_long : (x ≡ 0 → ⊥) → x * 10 + y ≤ 63 → hit (behaviour (x * 10 + y)) 3 ≡ name_of miss hit x y z
      unfolding name_of
      name_long e l =
          rw (le-ltb 9 x (omega arith), le-ltb 9 y (omega arith), le-ltb z 10 f, ne_eqb x 0 e, le-ltb 63 (x * 10 + y) l)

-- ---- a token

-- the same tests for two kinds of answers
module _ {A B : Type 0} (P : A → B → Type 0) {m : A} {n : B} {h : Token → ℕ → A} {k : Token → ℕ → B} (miss : P m n) (hit : (t : Token) (w : ℕ) → w ≤ 3 → P (h t w) (k t w)) where
  name_two : (x y z : ℕ) → P (name_of m h x y z) (name_of n k x y z)
  unfolding name_of
  name_two x y z =
      by_two P (ltb 9 x) (λ e. miss)
      (λ e. by_two P (ltb 9 y) (λ e. hit _ 2 (omega arith))
      (λ e. by_two P (ltb z 10) (λ e. miss)
      (λ e. by_two P (eqb x 0) (λ e. miss)
      (λ e. by_two P (ltb 63 (x * 10 + y)) (λ e. miss) (λ e. hit _ 3 (omega arith))))))

  single_two : (b : ℕ) → P (single_of m h b) (single_of n k b)
  unfolding single_of
  single_two b =
      by_two P (eqb b 40) (λ e. hit _ 1 (omega arith))
      (λ e. by_two P (eqb b 41) (λ e. hit _ 1 (omega arith))
      (λ e. by_two P (eqb b 44) (λ e. hit _ 1 (omega arith))
      (λ e. by_two P (eqb b 43) (λ e. hit _ 1 (omega arith))
      (λ e. by_two P (eqb b 45) (λ e. hit _ 1 (omega arith))
      (λ e. by_two P (eqb b 42) (λ e. hit _ 1 (omega arith))
      (λ e. by_two P (eqb b 47) (λ e. hit _ 1 (omega arith)) (λ e. miss)))))))

  double_two : (b c : ℕ) → P (double_of m h b c) (double_of n k b c)
  unfolding double_of
  double_two b c =
      by_two P (eqb b 124) (λ e. by_two P (eqb c 124) (λ e. hit _ 2 (omega arith)) (λ e. miss))
      (λ e. by_two P (eqb b 38) (λ e. by_two P (eqb c 38) (λ e. hit _ 2 (omega arith)) (λ e. miss))
      (λ e. by_two P (eqb b 105) (λ e. by_two P (eqb c 102) (λ e. hit _ 2 (omega arith)) (λ e. miss))
      (λ e. single_two b)))

  marked_two : (b c : ℕ) → P (marked_of m h b c) (marked_of n k b c)
  unfolding marked_of
  marked_two b c =
      by_two P (eqb b 33) (λ e. by_two P (eqb c 61) (λ e. hit _ 2 (omega arith)) (λ e. hit _ 1 (omega arith)))
      (λ e. by_two P (eqb b 62) (λ e. by_two P (eqb c 61) (λ e. hit _ 2 (omega arith)) (λ e. hit _ 1 (omega arith)))
      (λ e. by_two P (eqb b 60) (λ e. by_two P (eqb c 61) (λ e. hit _ 2 (omega arith)) (λ e. hit _ 1 (omega arith)))
      (λ e. by_two P (eqb b 61) (λ e. by_two P (eqb c 61) (λ e. hit _ 2 (omega arith)) (λ e. miss))
      (λ e. double_two b c))))

  word_two : (bs : List ℕ) → P (word_token m h bs) (word_token n k bs)
  unfolding word_token
  word_two bs = by_two P (eqb (get_or bs 0 0) 98) (λ e. name_two (digit_of (get_or bs 1 0)) (digit_of (get_or bs 2 0)) (digit_of (get_or bs 3 0))) (λ e. marked_two (get_or bs 0 0) (get_or bs 1 0))

abbrev pub Placed : List ℕ → ℕ → Option Found → FirstToken → Type 0
Placed text at r f = Scanned text at r f × Narrow r

pub token_word : (text : List ℕ) (at : ℕ) (r : Option Found) → is_decimal (get_or text at 0) ≡ false → r ≡ word_token None found (drop at text)
    → Placed text at r (first_of (drop at text))
unfolding first_of
token_word text at r e q =
    rw (drop_first text at, digit_test (get_or text at 0), e, q)
    (word_two (Placed text at) (refl, omega arith) (λ t w h. ((refl, refl, drop-drop w at text), omega arith)) (drop at text))

pub token_number_law : (text : List ℕ) (at v i : ℕ) → length text ≤ 1024 → is_decimal (get_or text at 0) ≡ true
    → v ≡ capped (decimal_value 0 (leading_digits (drop at text))) → i ≡ at + length (leading_digits (drop at text))
    → Placed text at (Some (record { token = Number v; bytes = i - at })) (first_of (drop at text))
unfolding first_of
token_number_law text at v i h e p q =
    let l : i - at ≡ length (leading_digits (drop at text)) = omega arith in
    rw (drop_first text at, digit_test (get_or text at 0), e, number_read 0 (drop at text), p, l)
    ((refl, refl, drop-drop (length (leading_digits (drop at text))) at text), omega (arith, digits_short (drop at text), length-drop at text))

-- ---- all tokens

-- tokens before those still to come
abbrev prefixed : List Token → math.Option (List Token) → math.Option (List Token)
prefixed ds none = none
prefixed ds (some ts) = some (ds ++ ts)

-- what the scanner's loop keeps: the tokens so far and those of the rest are the whole's
pub record Turn (text : List ℕ) (tokens : List code.Token) (at n : ℕ) : Type 0 where
  pub so_far : List Token
  pub fuel : ℕ
  pub enough : length text - at ≤ fuel
  pub whole : tokens_of (length text) text ≡ prefixed so_far (tokens_of fuel (drop at text))
  pub numbers : take n tokens ≡ map token_code so_far
  pub few : n ≤ at
  pub room : n ≤ 1024
  pub kept : length tokens ≡ 1024
  pub short : length text ≤ 1024

prefixed_none : (o : math.Option (List Token)) → o ≡ prefixed [] o
prefixed_none none = refl
prefixed_none (some ts) = refl

pub scan_start : (text : List ℕ) (tokens : List code.Token) → length text ≤ 1024 → length tokens ≡ 1024 → Turn text tokens 0 0
scan_start text tokens h g =
    record {
      so_far = [];
      fuel = length text;
      enough = omega arith;
      whole = prefixed_none (tokens_of (length text) text);
      numbers = refl;
      few = omega arith;
      room = omega arith;
      kept = g;
      short = h;
    }

-- one more byte or token of fuel, since something is left
at_space : (k : ℕ) (b : ℕ) (bs : List ℕ) → b ≡ 32 → suc (length bs) ≤ k → tokens_of k (b ∷ bs) ≡ tokens_of (k - 1) bs
unfolding tokens_of
at_space zero b bs e h = absurd (omega arith)
at_space (suc k) b bs e h = rw (e, sub-one)

at_token : (k : ℕ) (b : ℕ) (bs : List ℕ) → (b ≡ 32 → ⊥) → suc (length bs) ≤ k → tokens_of k (b ∷ bs) ≡ and_on (tokens_of (k - 1)) (first_of (b ∷ bs))
unfolding tokens_of
at_token zero b bs e h = absurd (omega arith)
at_token (suc k) b bs e h = rw sub-one (in_token (tokens_of k) b bs (ne_eqb b 32 e))

module _ {text : List ℕ} {tokens : List code.Token} {at n : ℕ} (s : Turn text tokens at n) (h : at < length text) where
  pub scan_space : get_or text at 0 ≡ 32 → Turn text tokens (at + 1) n
  scan_space e =
      record {
        so_far = s.so_far;
        fuel = s.fuel - 1;
        enough = omega (arith, s.enough);
        whole = s.whole ∙ rw (drop-cons text at 0 h, add-one at) (ap (prefixed s.so_far) (at_space s.fuel (get_or text at 0) (drop (suc at) text) e (simp length-drop (omega (arith, s.enough)))));
        numbers = s.numbers;
        few = omega (arith, s.few);
        room = s.room;
        kept = s.kept;
        short = s.short;
      }

  here : (get_or text at 0 ≡ 32 → ⊥) → tokens_of s.fuel (drop at text) ≡ and_on (tokens_of (s.fuel - 1)) (first_of (drop at text))
  here e =
      rw (drop-cons text at 0 h)
      (at_token s.fuel (get_or text at 0) (drop (suc at) text) e (simp length-drop (omega (arith, s.enough))))

  missing_none : (f : FirstToken) → Scanned text at None f → (go : List ℕ → math.Option (List Token)) → and_on go f ≡ none
  missing_none no_token p go = refl
  missing_none (begins t rest) p go = absurd (omega (arith, p.0))

  pub scan_missing : (r : Option Found) → (get_or text at 0 ≡ 32 → ⊥) → r ≡ None → Scanned text at r (first_of (drop at text)) → tokens_of (length text) text ≡ none
  scan_missing r e q p = s.whole ∙ rw (here e, missing_none (first_of (drop at text)) (rw q at p) (tokens_of (s.fuel - 1)))

  prefixed_more : (ds : List Token) (t : Token) (o : math.Option (List Token)) → prefixed ds (put_first t o) ≡ prefixed (ds ++ (t ∷ [])) o
  prefixed_more ds t none = refl
  prefixed_more ds t (some ts) = rw (append_assoc ds (t ∷ []) ts)

  map_more : (ds : List Token) (t : Token) → map token_code (ds ++ (t ∷ [])) ≡ map token_code ds ++ (token_code t ∷ [])
  map_more [] t = refl
  map_more (d ∷ ds) t = ap (λ (l : List code.Token). token_code d ∷ l) (map_more ds t)

  some_bytes : (x : Found) (f : FirstToken) → f ≡ first_of (drop at text) → Scanned text at (Some x) f → 0 < x.bytes
  some_bytes x no_token q p = absurd (omega arith)
  some_bytes x (begins t rest) q p =
      let b : Begins (drop at text) t rest = rw (sym q) at (first_says (drop at text)) in
      let l : length rest < length (drop at text) = (begins_some b).0 in
      omega (arith, length-drop at text, ap length p.2, length-drop (at + x.bytes) text)

  pub scan_onward : (r : Option Found) (x : Found) → r ≡ Some x → Scanned text at r (first_of (drop at text)) → 0 < x.bytes
  scan_onward r x q p = some_bytes x (first_of (drop at text)) refl (rw q at p)

  found_turn : (x : Found) (f : FirstToken) → f ≡ first_of (drop at text) → (get_or text at 0 ≡ 32 → ⊥) → Scanned text at (Some x) f
      → Turn text (set tokens n x.token) (at + x.bytes) (n + 1)
  found_turn x no_token q e p = absurd (omega arith)
  found_turn x (begins t rest) q e p =
      let u : 0 < x.bytes = some_bytes x (begins t rest) q p in
      let v : n < length tokens = omega (arith, s.few, s.kept, s.short) in
      let is : x.token ≡ token_code t = cc (p.1) in
      record {
        so_far = s.so_far ++ (t ∷ []);
        fuel = s.fuel - 1;
        enough = omega (arith, s.enough);
        whole = s.whole ∙ rw (here e, ← q, p.2) (prefixed_more s.so_far t (tokens_of (s.fuel - 1) (drop (at + x.bytes) text)));
        numbers = rw (add-one n, take-suc-set tokens n x.token v, s.numbers, map_more s.so_far t, is);
        few = omega (arith, s.few);
        room = omega (arith, s.kept);
        kept = rw length-set s.kept;
        short = s.short;
      }

  pub scan_found : (r : Option Found) (x : Found) → (get_or text at 0 ≡ 32 → ⊥) → r ≡ Some x → Scanned text at r (first_of (drop at text))
      → Turn text (set tokens n x.token) (at + x.bytes) (n + 1)
  scan_found r x e q p = found_turn x (first_of (drop at text)) refl e (rw q at p)

tokens_end : (k : ℕ) (bs : List ℕ) → length bs ≡ 0 → tokens_of k bs ≡ some []
unfolding tokens_of
tokens_end zero [] e = refl
tokens_end (suc k) [] e = refl
tokens_end k (b ∷ bs) e = absurd (omega arith)

-- the array holds the numbers of the text's tokens
pub record TokensHeld (text : List ℕ) (tokens : List code.Token) (n : ℕ) : Type 0 where
  pub list : List Token
  pub all : tokens_of (length text) text ≡ some list
  pub numbers : take n tokens ≡ map token_code list
  pub few : n ≤ 1024

pub scan_end : {text : List ℕ} {tokens : List code.Token} {at n : ℕ} → Turn text tokens at n → length text ≤ at → Scans text tokens (Some n)
scan_end {text} {tokens} {at} {n} s h =
    let all : tokens_of (length text) text ≡ some s.so_far =
    s.whole ∙ rw (tokens_end s.fuel (drop at text) (simp length-drop (omega arith)), append-nil s.so_far) in
    rw all (refl, s.numbers, s.room)

-- and back: the answer tells whether there are tokens
module _ (text : List ℕ) (tokens : List code.Token) where
  held_as : (n : ℕ) (x : math.Option (List Token)) → tokens_of (length text) text ≡ x → ScansAs text tokens (Some n) x → TokensHeld text tokens n
  held_as n none q p = absurd (omega arith)
  held_as n (some l) q p = record { list = l; all = q; numbers = p.1; few = p.2 }

  pub scans_held : (r : Option ℕ) (n : ℕ) → r ≡ Some n → Scans text tokens r → TokensHeld text tokens n
  scans_held r n q p = held_as n (tokens_of (length text) text) refl (rw q at p)

  none_as : (x : math.Option (List Token)) → tokens_of (length text) text ≡ x → ScansAs text tokens None x → tokens_of (length text) text ≡ none
  none_as none q p = q
  none_as (some l) q p = absurd (omega (arith, p.0))

  pub scans_none : (r : Option ℕ) → r ≡ None → Scans text tokens r → tokens_of (length text) text ≡ none
  scans_none r q p = none_as (tokens_of (length text) text) refl (rw q at p)
