-- The tokens that the reader takes from a text are exactly those that the text is made of: at its front, by the tests
-- on up to four bytes and the run of digits (`first_says`, `first_reads`), and for the whole by induction.
use Rattle.lib_base.proofs.Prelude.{ℕ, ◌≤◌, ◌<◌, ◌+◌, ◌-◌, suc, zero, ◌*◌, ◌≡◌, refl, ◌∙◌, sym, ap, subst, true, false}
use Rattle.lib_base.proofs.Prelude.{true≢false, Option, some, none, List, [], ◌∷◌, ◌++◌, length, get_or, drop}
use Rattle.lib_base.proofs.Prelude.{length-append, eqb, ltb, ne_eqb, eqb-true, le-ltb, lt-ltb, ltb-false, eqb-false}
use Rattle.lib_base.proofs.Prelude.{ltb-true, arith}
use Rattle.lib_base.specs.Basics.{All}
use Rattle.lib_base.proofs.Tools.{by_test, by_elim}
use Rattle.text_formula.specs.Tokens.{Token, number, behaviour, Digit, decimal_value, NotFirst, Begins, b_number, b_digit, b_digits, b_or, b_and, b_not, b_plus, b_minus, b_times, b_divided, b_above, b_at_least, b_below, b_at_most, b_equal, b_different, b_if, b_opening, b_closing, b_comma, Tokens, t_end, t_space, t_token}
use Rattle.text_formula.specs.InRange.{InRange}
use Rattle.text_formula.specs.Reader.{FirstToken, no_token, begins, digit_of, name_of, single_of, double_of, marked_of, word_token, number_token, first_of, put_first, and_on, tokens_in, tokens_of}

-- ---- digits

is_digit : (b : ℕ) → digit_of b < 10 → Digit b × (digit_of b ≡ b - 48)
unfolding digit_of
is_digit b =
    by_test (λ x. x < 10 → Digit b × (x ≡ b - 48)) (ltb b 48) (λ e h. absurd (omega arith))
    (λ e. by_test (λ x. x < 10 → Digit b × (x ≡ b - 48)) (ltb 57 b) (λ d h. absurd (omega arith))
    (λ d h. ((ltb-false b 48 e, omega (arith, ltb-false 57 b d)), refl)))

digit_is : (b : ℕ) → Digit b → digit_of b ≡ b - 48
unfolding digit_of
digit_is b h = rw (le-ltb b 48 h.0, le-ltb 57 b (omega arith))

digit_number : (d : ℕ) → d < 10 → digit_of (48 + d) ≡ d
digit_number d h = digit_is (48 + d) (omega arith) ∙ omega arith

no_digit : (b : ℕ) → (Digit b → ⊥) → digit_of b ≡ 10
unfolding digit_of
no_digit b h =
    by_test (λ x. x ≡ 10) (ltb b 48) (λ e. refl)
    (λ e. by_test (λ x. x ≡ 10) (ltb 57 b) (λ d. refl) (λ d. absurd (h (ltb-false b 48 e, omega (arith, ltb-false 57 b d)))))

no_digit_first : (bs : List ℕ) → NotFirst Digit bs → digit_of (get_or bs 0 0) ≡ 10
unfolding digit_of
no_digit_first [] h = refl
no_digit_first (b ∷ bs) h = no_digit b h

digit_not_first : (bs : List ℕ) → 9 < digit_of (get_or bs 0 0) → NotFirst Digit bs
digit_not_first [] h = tt
digit_not_first (b ∷ bs) h = λ d. omega (arith, digit_is b d)

not_first : (c : ℕ) (bs : List ℕ) → eqb (get_or bs 0 0) c ≡ false → NotFirst (λ b. b ≡ c) bs
not_first c [] h = tt
not_first c (b ∷ bs) h = eqb-false b c h

first_not : (c : ℕ) (bs : List ℕ) → 0 < c → NotFirst (λ b. b ≡ c) bs → eqb (get_or bs 0 0) c ≡ false
first_not c [] l h = ne_eqb 0 c (omega arith)
first_not c (b ∷ bs) l h = ne_eqb b c h

-- ---- what the reader finds at the front

abbrev pub Says : List ℕ → FirstToken → Type 0
Says bs no_token = Unit {0}
Says bs (begins t rest) = Begins bs t rest

one_byte : (bs : List ℕ) (b : ℕ) {t : Token} → 0 < b → ((rest : List ℕ) → Begins (b ∷ rest) t rest) → eqb (get_or bs 0 0) b ≡ true → Begins bs t (drop 1 bs)
one_byte [] b l f e = absurd (omega (arith, eqb-true))
one_byte (a ∷ bs) b l f e = let q : a ≡ b = eqb-true a b e in rw q (f bs)

-- a byte that another would lengthen
lone_byte : (bs : List ℕ) (b c : ℕ) {t : Token} → 0 < b → ((rest : List ℕ) → NotFirst (λ x. x ≡ c) rest → Begins (b ∷ rest) t rest)
    → eqb (get_or bs 0 0) b ≡ true → eqb (get_or bs 1 0) c ≡ false → Begins bs t (drop 1 bs)
lone_byte [] b c l f e d = absurd (omega (arith, eqb-true))
lone_byte (a ∷ bs) b c l f e d = let q : a ≡ b = eqb-true a b e in rw q (f bs (not_first c bs d))

two_bytes : (bs : List ℕ) (b c : ℕ) {t : Token} → 0 < b → 0 < c → ((rest : List ℕ) → Begins (b ∷ c ∷ rest) t rest)
    → eqb (get_or bs 0 0) b ≡ true → eqb (get_or bs 1 0) c ≡ true → Begins bs t (drop 2 bs)
two_bytes [] b c l m f e d = absurd (omega (arith, eqb-true))
two_bytes (a ∷ []) b c l m f e d = absurd (omega (arith, eqb-true))
two_bytes (x ∷ (y ∷ bs)) b c l m f e d = let p : x ≡ b = eqb-true x b e in let q : y ≡ c = eqb-true y c d in rw (p, q) (f bs)

digit_byte : (b : ℕ) → digit_of b < 10 → b ≡ 48 + digit_of b
digit_byte b h = let r = is_digit b h in omega arith

name_one : (bs : List ℕ) → eqb (get_or bs 0 0) 98 ≡ true → ltb 9 (digit_of (get_or bs 1 0)) ≡ false → ltb 9 (digit_of (get_or bs 2 0)) ≡ true
    → Begins bs (behaviour (digit_of (get_or bs 1 0))) (drop 2 bs)
name_one [] e h g = absurd (omega (arith, eqb-true))
name_one (a ∷ []) e h g = absurd (omega (arith, ltb-false 9 (digit_of 0) h, no_digit_first [] tt))
name_one (a ∷ (c ∷ bs)) e h g =
    let l : digit_of c < 10 = omega (arith, ltb-false 9 (digit_of c) h) in
    let p : a ≡ 98 = eqb-true a 98 e in
    subst (λ x. Begins (a ∷ x ∷ bs) (behaviour (digit_of c)) bs) (sym (digit_byte c l))
    (rw p (b_digit (digit_of c) bs l (digit_not_first bs (ltb-true 9 (digit_of (get_or bs 0 0)) g))))

name_two : (bs : List ℕ) → eqb (get_or bs 0 0) 98 ≡ true → ltb 9 (digit_of (get_or bs 1 0)) ≡ false → ltb 9 (digit_of (get_or bs 2 0)) ≡ false
    → ltb (digit_of (get_or bs 3 0)) 10 ≡ false → eqb (digit_of (get_or bs 1 0)) 0 ≡ false → ltb 63 (digit_of (get_or bs 1 0) * 10 + digit_of (get_or bs 2 0)) ≡ false
    → Begins bs (behaviour (digit_of (get_or bs 1 0) * 10 + digit_of (get_or bs 2 0))) (drop 3 bs)
name_two [] e h g i j k = absurd (omega (arith, eqb-true))
name_two (a ∷ []) e h g i j k = absurd (omega (arith, ltb-false 9 (digit_of 0) h, no_digit_first [] tt))
name_two (a ∷ (c ∷ [])) e h g i j k = absurd (omega (arith, ltb-false 9 (digit_of 0) g, no_digit_first [] tt))
name_two (a ∷ (c ∷ (d ∷ bs))) e h g i j k =
    let l : digit_of c < 10 = omega (arith, ltb-false 9 (digit_of c) h) in
    let m : digit_of d < 10 = omega (arith, ltb-false 9 (digit_of d) g) in
    let p : a ≡ 98 = eqb-true a 98 e in
    let u = b_digits (digit_of c) (digit_of d) bs (omega (arith, eqb-false (digit_of c) 0 j)) m (omega (arith, ltb-false 63 (digit_of c * 10 + digit_of d) k))
    (digit_not_first bs (omega (arith, ltb-false (digit_of (get_or bs 0 0)) 10 i))) in
    subst (λ x. Begins (a ∷ x ∷ d ∷ bs) (behaviour (digit_of c * 10 + digit_of d)) bs) (sym (digit_byte c l))
    (subst (λ x. Begins (a ∷ (48 + digit_of c) ∷ x ∷ bs) (behaviour (digit_of c * 10 + digit_of d)) bs) (sym (digit_byte d m)) (rw p u))

word_says : (bs : List ℕ) → Says bs (word_token no_token (λ t w. begins t (drop w bs)) bs)
unfolding word_token name_of marked_of double_of single_of
word_says bs =
    by_test S (eqb (get_or bs 0 0) 98)
    (λ n. by_test S (ltb 9 (digit_of (get_or bs 1 0))) (λ e. tt)
    (λ e. by_test S (ltb 9 (digit_of (get_or bs 2 0))) (name_one bs n e)
    (λ d. by_test S (ltb (digit_of (get_or bs 3 0)) 10) (λ c. tt)
    (λ c. by_test S (eqb (digit_of (get_or bs 1 0)) 0) (λ b. tt)
    (λ b. by_test S (ltb 63 (digit_of (get_or bs 1 0) * 10 + digit_of (get_or bs 2 0))) (λ a. tt) (name_two bs n e d c b))))))
    (λ n. by_test S (eqb (get_or bs 0 0) 33) (λ e. by_test S (eqb (get_or bs 1 0) 61) (two_bytes bs 33 61 (omega arith) (omega arith) b_different e) (lone_byte bs 33 61 (omega arith) b_not e))
    (λ n. by_test S (eqb (get_or bs 0 0) 62) (λ e. by_test S (eqb (get_or bs 1 0) 61) (two_bytes bs 62 61 (omega arith) (omega arith) b_at_least e) (lone_byte bs 62 61 (omega arith) b_above e))
    (λ n. by_test S (eqb (get_or bs 0 0) 60) (λ e. by_test S (eqb (get_or bs 1 0) 61) (two_bytes bs 60 61 (omega arith) (omega arith) b_at_most e) (lone_byte bs 60 61 (omega arith) b_below e))
    (λ n. by_test S (eqb (get_or bs 0 0) 61) (λ e. by_test S (eqb (get_or bs 1 0) 61) (two_bytes bs 61 61 (omega arith) (omega arith) b_equal e) (λ d. tt))
    (λ n. by_test S (eqb (get_or bs 0 0) 124) (λ e. by_test S (eqb (get_or bs 1 0) 124) (two_bytes bs 124 124 (omega arith) (omega arith) b_or e) (λ d. tt))
    (λ n. by_test S (eqb (get_or bs 0 0) 38) (λ e. by_test S (eqb (get_or bs 1 0) 38) (two_bytes bs 38 38 (omega arith) (omega arith) b_and e) (λ d. tt))
    (λ n. by_test S (eqb (get_or bs 0 0) 105) (λ e. by_test S (eqb (get_or bs 1 0) 102) (two_bytes bs 105 102 (omega arith) (omega arith) b_if e) (λ d. tt))
    (λ n. by_test S (eqb (get_or bs 0 0) 40) (one_byte bs 40 (omega arith) b_opening)
    (λ n. by_test S (eqb (get_or bs 0 0) 41) (one_byte bs 41 (omega arith) b_closing)
    (λ n. by_test S (eqb (get_or bs 0 0) 44) (one_byte bs 44 (omega arith) b_comma)
    (λ n. by_test S (eqb (get_or bs 0 0) 43) (one_byte bs 43 (omega arith) b_plus)
    (λ n. by_test S (eqb (get_or bs 0 0) 45) (one_byte bs 45 (omega arith) b_minus)
    (λ n. by_test S (eqb (get_or bs 0 0) 42) (one_byte bs 42 (omega arith) b_times)
    (λ n. by_test S (eqb (get_or bs 0 0) 47) (one_byte bs 47 (omega arith) b_divided) (λ n. tt)))))))))))))))
  where
    S : FirstToken → Type 0
    S = Says bs

-- a run of digits
record Run (n : ℕ) (bs : List ℕ) (t : Token) (rest : List ℕ) : Type 0 where
  pub digits : List ℕ
  pub joined : bs ≡ digits ++ rest
  pub all : All Digit digits
  pub value : t ≡ number (decimal_value n digits)
  pub stops : NotFirst Digit rest

abbrev RunSays : ℕ → List ℕ → FirstToken → Type 0
RunSays n bs no_token = ⊥
RunSays n bs (begins t rest) = Run n bs t rest

longer : (n b : ℕ) (bs : List ℕ) → digit_of b < 10 → (f : FirstToken) → RunSays (n * 10 + digit_of b) bs f → RunSays n (b ∷ bs) f
unfolding decimal_value
longer n b bs h no_token r = r
longer n b bs h (begins t rest) r =
    let d = is_digit b h in
    let q : digit_of b ≡ b - 48 = d.1 in
    record { digits = b ∷ r.digits; joined = ap (λ (l : List ℕ). b ∷ l) r.joined; all = (d.0, r.all); value = r.value ∙ rw q; stops = r.stops }

number_says : (n : ℕ) (bs : List ℕ) → RunSays n bs (number_token n bs)
unfolding number_token decimal_value
number_says n [] = record { digits = []; joined = refl; all = tt; value = refl; stops = tt }
number_says n (b ∷ bs) =
    by_test (RunSays n (b ∷ bs)) (ltb (digit_of b) 10)
    (λ e. longer n b bs (ltb-true (digit_of b) 10 e) (number_token (n * 10 + digit_of b) bs) (number_says (n * 10 + digit_of b) bs))
    (λ e. record { digits = []; joined = refl; all = tt; value = refl; stops = digit_not_first (b ∷ bs) (omega (arith, ltb-false (digit_of b) 10 e)) })

-- a run that begins with a digit is a number
run_number : (bs : List ℕ) (t : Token) (rest ds : List ℕ) → digit_of (get_or bs 0 0) < 10 → bs ≡ ds ++ rest → All Digit ds → t ≡ number (decimal_value 0 ds) → NotFirst Digit rest
    → Begins bs t rest
run_number bs t rest [] h j a v s =
    let z : digit_of (get_or bs 0 0) ≡ 10 = ap (λ (l : List ℕ). digit_of (get_or l 0 0)) j ∙ no_digit_first rest s in
    absurd (omega arith)
run_number bs t rest (b ∷ ds) h j a v s = rw (j, v) (b_number b ds rest a.0 a.1 s)

run_says : (bs : List ℕ) (f : FirstToken) → digit_of (get_or bs 0 0) < 10 → RunSays 0 bs f → Says bs f
run_says bs no_token h r = absurd r
run_says bs (begins t rest) h r = run_number bs t rest r.digits h r.joined r.all r.value r.stops

pub first_says : (bs : List ℕ) → Says bs (first_of bs)
unfolding first_of
first_says bs =
    by_test (Says bs) (ltb (digit_of (get_or bs 0 0)) 10)
    (λ e. run_says bs (number_token 0 bs) (ltb-true (digit_of (get_or bs 0 0)) 10 e) (number_says 0 bs))
    (λ e. word_says bs)

-- ---- what stands at the front is found

number-reads : (n : ℕ) (ds rest : List ℕ) → All Digit ds → NotFirst Digit rest → number_token n (ds ++ rest) ≡ begins (number (decimal_value n ds)) rest
unfolding number_token decimal_value
number-reads n [] [] a s = refl
number-reads n [] (b ∷ rest) a s = rw (no_digit b s)
number-reads n (b ∷ ds) rest a s =
    let q : digit_of b ≡ b - 48 = digit_is b a.0 in
    rw (lt-ltb (digit_of b) 10 (omega (arith, a.0)), q) (number-reads (n * 10 + (b - 48)) ds rest a.1 s)

number_first : (b : ℕ) (ds rest : List ℕ) → Digit b → All Digit ds → NotFirst Digit rest → first_of (b ∷ (ds ++ rest)) ≡ begins (number (decimal_value 0 (b ∷ ds))) rest
unfolding first_of
number_first b ds rest h a s = rw (lt-ltb (digit_of b) 10 (omega (arith, digit_is b h))) (number-reads 0 (b ∷ ds) rest (h, a) s)

name_first : (c : ℕ) (bs : List ℕ)
    → first_of (98 ∷ c ∷ bs) ≡ name_of no_token (λ t w. begins t (drop w (98 ∷ c ∷ bs))) (digit_of c) (digit_of (get_or bs 0 0)) (digit_of (get_or bs 1 0))
unfolding first_of word_token digit_of
name_first c bs = refl

one_digit : (d : ℕ) (rest : List ℕ) → d < 10 → NotFirst Digit rest → first_of (98 ∷ (48 + d) ∷ rest) ≡ begins (behaviour d) rest
unfolding name_of
one_digit d rest h s = name_first (48 + d) rest ∙ rw (digit_number d h, no_digit_first rest s, le-ltb 9 d (omega arith))

two_digits : (d e : ℕ) (rest : List ℕ) → 0 < d → e < 10 → d * 10 + e < 64 → NotFirst Digit rest → first_of (98 ∷ (48 + d) ∷ (48 + e) ∷ rest) ≡ begins (behaviour (d * 10 + e)) rest
unfolding name_of
two_digits d e rest h g l s =
    let m : d < 10 = omega arith in
    name_first (48 + d) ((48 + e) ∷ rest)
    ∙ rw (digit_number d m, digit_number e g, no_digit_first rest s, le-ltb 9 d (omega arith), le-ltb 9 e (omega arith), ne_eqb d 0 (omega arith), le-ltb 63 (d * 10 + e) (omega arith))

first_reads : {bs : List ℕ} {t : Token} {rest : List ℕ} → Begins bs t rest → first_of bs ≡ begins t rest
unfolding first_of word_token name_of marked_of double_of single_of digit_of
first_reads (b_number b ds rest h a s) = number_first b ds rest h a s
first_reads (b_digit d rest h s) = one_digit d rest h s
first_reads (b_digits d e rest h g l s) = two_digits d e rest h g l s
first_reads (b_or rest) = refl
first_reads (b_and rest) = refl
first_reads (b_not rest s) = rw (first_not 61 rest (omega arith) s)
first_reads (b_plus rest) = refl
first_reads (b_minus rest) = refl
first_reads (b_times rest) = refl
first_reads (b_divided rest) = refl
first_reads (b_above rest s) = rw (first_not 61 rest (omega arith) s)
first_reads (b_at_least rest) = refl
first_reads (b_below rest s) = rw (first_not 61 rest (omega arith) s)
first_reads (b_at_most rest) = refl
first_reads (b_equal rest) = refl
first_reads (b_different rest) = refl
first_reads (b_if rest) = refl
first_reads (b_opening rest) = refl
first_reads (b_closing rest) = refl
first_reads (b_comma rest) = refl

-- ---- the whole text

-- a token is some bytes, and no space
pub begins_some : {bs : List ℕ} {t : Token} {rest : List ℕ} → Begins bs t rest → (length rest < length bs) × (eqb (get_or bs 0 0) 32 ≡ false)
begins_some (b_number b ds rest h a s) = (omega (arith, length-append ds rest), ne_eqb b 32 (omega arith))
begins_some (b_digit d rest h s) = (omega arith, refl)
begins_some (b_digits d e rest h g l s) = (omega arith, refl)
begins_some (b_or rest) = (omega arith, refl)
begins_some (b_and rest) = (omega arith, refl)
begins_some (b_not rest s) = (omega arith, refl)
begins_some (b_plus rest) = (omega arith, refl)
begins_some (b_minus rest) = (omega arith, refl)
begins_some (b_times rest) = (omega arith, refl)
begins_some (b_divided rest) = (omega arith, refl)
begins_some (b_above rest s) = (omega arith, refl)
begins_some (b_at_least rest) = (omega arith, refl)
begins_some (b_below rest s) = (omega arith, refl)
begins_some (b_at_most rest) = (omega arith, refl)
begins_some (b_equal rest) = (omega arith, refl)
begins_some (b_different rest) = (omega arith, refl)
begins_some (b_if rest) = (omega arith, refl)
begins_some (b_opening rest) = (omega arith, refl)
begins_some (b_closing rest) = (omega arith, refl)
begins_some (b_comma rest) = (omega arith, refl)

pub in_token : (go : List ℕ → Option (List Token)) (b : ℕ) (bs : List ℕ) → eqb b 32 ≡ false → tokens_in go (b ∷ bs) ≡ and_on go (first_of (b ∷ bs))
in_token go b bs e =
    by_elim (λ (o : Option (List Token)). o ≡ and_on go (first_of (b ∷ bs))) (eqb b 32) (λ t. absurd (true≢false (sym t ∙ e))) (λ f. refl)

on_token : (k : ℕ) (bs : List ℕ) (t : Token) (rest : List ℕ) (ts : List Token) → first_of bs ≡ begins t rest → (length rest < length bs) × (eqb (get_or bs 0 0) 32 ≡ false)
    → tokens_of k rest ≡ some ts → tokens_of (suc k) bs ≡ some (t ∷ ts)
unfolding tokens_of
on_token k [] t rest ts e h g = absurd (omega arith)
on_token k (b ∷ bs) t rest ts e h g = in_token (tokens_of k) b bs h.1 ∙ rw (e, g)

pub scans_all : {bs : List ℕ} {ts : List Token} → Tokens bs ts → (k : ℕ) → length bs ≤ k → tokens_of k bs ≡ some ts
unfolding tokens_of
scans_all t_end zero h = refl
scans_all t_end (suc k) h = refl
scans_all (t_space d) zero h = absurd (omega arith)
scans_all (t_space d) (suc k) h = scans_all d k (omega arith)
scans_all (t_token {bs} {rest} {t} b d) zero h = absurd (omega (arith, (begins_some b).0))
scans_all (t_token {bs} {rest} {t} {ts} b d) (suc k) h = on_token k bs t rest ts (first_reads b) (begins_some b) (scans_all d k (omega (arith, (begins_some b).0)))

abbrev pub Made : List ℕ → Option (List Token) → Type 0
Made bs none = Unit {0}
Made bs (some ts) = Tokens bs ts

before_made : (bs : List ℕ) (t : Token) (rest : List ℕ) → Begins bs t rest → (o : Option (List Token)) → Made rest o → Made bs (put_first t o)
before_made bs t rest b none h = tt
before_made bs t rest b (some ts) h = t_token b h

space_made : (bs : List ℕ) (o : Option (List Token)) → Made bs o → Made (32 ∷ bs) o
space_made bs none h = tt
space_made bs (some ts) h = t_space h

module _ (go : List ℕ → Option (List Token)) (ih : (rest : List ℕ) → Made rest (go rest)) where
  on_made : (bs : List ℕ) (f : FirstToken) → Says bs f → Made bs (and_on go f)
  on_made bs no_token h = tt
  on_made bs (begins t rest) h = before_made bs t rest h (go rest) (ih rest)

  in_made : (bs : List ℕ) → Made bs (tokens_in go bs)
  in_made [] = t_end
  in_made (b ∷ bs) =
      by_elim (Made (b ∷ bs)) (eqb b 32) (λ e. let q : b ≡ 32 = eqb-true b 32 e in rw q (space_made bs (go bs) (ih bs)))
      (λ e. on_made (b ∷ bs) (first_of (b ∷ bs)) (first_says (b ∷ bs)))

pub scans_only : (k : ℕ) (bs : List ℕ) → Made bs (tokens_of k bs)
unfolding tokens_of
scans_only zero bs = in_made (λ rest. none) (λ rest. tt) bs
scans_only (suc k) bs = in_made (tokens_of k) (scans_only k) bs

-- ---- the tokens of a text are in range

begins_fine : {bs : List ℕ} {t : Token} {rest : List ℕ} → Begins bs t rest → InRange t
begins_fine (b_number b ds rest h a s) = tt
begins_fine (b_digit d rest h s) = omega arith
begins_fine (b_digits d e rest h g l s) = l
begins_fine (b_or rest) = omega arith
begins_fine (b_and rest) = omega arith
begins_fine (b_not rest s) = omega arith
begins_fine (b_plus rest) = omega arith
begins_fine (b_minus rest) = omega arith
begins_fine (b_times rest) = omega arith
begins_fine (b_divided rest) = omega arith
begins_fine (b_above rest s) = omega arith
begins_fine (b_at_least rest) = omega arith
begins_fine (b_below rest s) = omega arith
begins_fine (b_at_most rest) = omega arith
begins_fine (b_equal rest) = omega arith
begins_fine (b_different rest) = omega arith
begins_fine (b_if rest) = omega arith
begins_fine (b_opening rest) = tt
begins_fine (b_closing rest) = tt
begins_fine (b_comma rest) = tt

pub tokens_fine : {bs : List ℕ} {ts : List Token} → Tokens bs ts → All InRange ts
tokens_fine t_end = tt
tokens_fine (t_space d) = tokens_fine d
tokens_fine (t_token b d) = (begins_fine b, tokens_fine d)
