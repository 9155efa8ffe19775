-- The scanner finds exactly the tokens that a text is made of. At the front by the kinds of bytes and the table of
-- marks (`first_says`, `first_reads`), for the whole by induction on the bytes left; so each text has one list of
-- tokens.
use Rattle.lib_base.proofs.Prelude.{ℕ, ◌≤◌, ◌<◌, suc, zero, ◌≡◌, refl, ◌∙◌, sym, ap, subst, true, false, Bool, ◌||◌}
use Rattle.lib_base.proofs.Prelude.{false≢true, true≢false, ◌&&◌, ◌≢◌, List, [], ◌∷◌, ◌++◌, length, get_or, length-append}
use Rattle.lib_base.proofs.Prelude.{eqb, leb, ne_eqb, eqb-true, eq-eqb, eqb-false, le-leb, leb-true, arith}
use Rattle.lib_base.specs.Basics.{pick}
use Rattle.lib_base.proofs.Tools.{by_test, by_elim, split, past}
use Rattle.text_formula.specs.Tokens.{decimal_value, NotFirst}
use Rattle.source_language.specs.Tokens.{SheetToken, number, sign, Spelling, spelled, marks, same, sign_of, is_digit, is_letter, in_word, is_blank, in_comment, Are, KindStops, place_in, word_at_place, stray_sign, TextBegins, a_number, a_word, a_long_mark, a_mark, TokensOfText, t_end, t_blank, t_comment, t_token, t_stray}
use Rattle.source_language.specs.Scanner.{run_of_kind, beyond_run, FirstInText, nothing, begins, short_mark, mark_at, first_in_text, scan_on, scanned_from, scanned_tokens, scan_text}

-- ---- runs of bytes of a kind

module _ (kind : ℕ → Bool) where
  run_joins : (bs : List ℕ) → bs ≡ run_of_kind kind bs ++ beyond_run kind bs
  unfolding run_of_kind beyond_run
  run_joins [] = refl
  run_joins (b ∷ bs) =
      split (kind b) (λ e. rw e (ap (λ (l : List ℕ). b ∷ l) (run_joins bs))) (λ e. rw e)

  run_are : (bs : List ℕ) → Are kind (run_of_kind kind bs)
  unfolding run_of_kind
  run_are [] = tt
  run_are (b ∷ bs) = by_test (Are kind) (kind b) (λ e. (e, run_are bs)) (λ e. tt)

  beyond_stops : (bs : List ℕ) → KindStops kind (beyond_run kind bs)
  unfolding beyond_run
  beyond_stops [] = tt
  beyond_stops (b ∷ bs) = by_test (KindStops kind) (kind b) (λ e. beyond_stops bs) (λ e h. false≢true (sym e ∙ h))

  is_false : (b : ℕ) → (kind b ≡ true → ⊥) → kind b ≡ false
  is_false b h = split (kind b) (λ e. absurd (h e)) (λ e. e)

  run_of : (w rest : List ℕ) → Are kind w → KindStops kind rest → run_of_kind kind (w ++ rest) ≡ w
  unfolding run_of_kind
  run_of [] [] a s = refl
  run_of [] (b ∷ rest) a s = rw (is_false b s)
  run_of (b ∷ w) rest a s = rw a.0 (ap (λ (l : List ℕ). b ∷ l) (run_of w rest a.1 s))

  beyond_of : (w rest : List ℕ) → Are kind w → KindStops kind rest → beyond_run kind (w ++ rest) ≡ rest
  unfolding beyond_run
  beyond_of [] [] a s = refl
  beyond_of [] (b ∷ rest) a s = rw (is_false b s)
  beyond_of (b ∷ w) rest a s = rw a.0 (beyond_of w rest a.1 s)

  beyond_less : (bs : List ℕ) → length (beyond_run kind bs) ≤ length bs
  unfolding beyond_run
  beyond_less [] = omega arith
  beyond_less (b ∷ bs) =
      by_test (λ (l : List ℕ). length l ≤ suc (length bs)) (kind b) (λ e. omega (arith, beyond_less bs)) (λ e. omega arith)

-- ---- the first bytes of marks

pub same_is : (l m : List ℕ) → same l m ≡ true → l ≡ m
unfolding same
same_is [] [] = λ h. refl
same_is [] (b ∷ m) = λ h. absurd (false≢true h)
same_is (a ∷ l) [] = λ h. absurd (false≢true h)
same_is (a ∷ l) (b ∷ m) =
    by_test (λ x. x ≡ true → a ∷ l ≡ b ∷ m) (eqb a b)
    (λ e h. let p : a ≡ b = eqb-true a b e in let q : l ≡ m = same_is l m h in rw (p, q))
    (λ e h. absurd (false≢true h))

pub same_self : (l : List ℕ) → same l l ≡ true
unfolding same
same_self [] = refl
same_self (b ∷ l) = rw (eq-eqb b b refl) (same_self l)

-- no row is spelled with a first byte of a kind
unfoldable none_first : (ℕ → Bool) → List Spelling → Bool
none_first kind [] = true
none_first kind (spelled s n ∷ rows) = pick (kind (get_or s 0 0)) false (none_first kind rows)

mark_first : (kind : ℕ → Bool) (b : ℕ) (w : List ℕ) (rows : List Spelling) → none_first kind rows ≡ true → sign_of (b ∷ w) rows ≢ 0 → kind b ≡ false
unfolding sign_of none_first
mark_first kind b w [] h = λ n. absurd (n refl)
mark_first kind b w (spelled s c ∷ rows) h =
    let r = past (kind (get_or s 0 0)) (none_first kind rows) h in
    by_test (λ y. y ≢ 0 → kind b ≡ false) (same (b ∷ w) s)
    (λ e n. let q : b ≡ get_or s 0 0 = ap (λ (l : List ℕ). get_or l 0 0) (same_is (b ∷ w) s e) in rw q r.0)
    (λ e n. mark_first kind b w rows r.1 n)

-- no mark begins with a byte of these kinds
is_hash : ℕ → Bool
is_hash b = eqb b 35

module _ (b : ℕ) (w : List ℕ) (h : sign_of (b ∷ w) marks ≢ 0) where
  mark_no_digit : is_digit b ≡ false
  unfolding marks is_digit none_first
  mark_no_digit = mark_first is_digit b w marks refl h

  mark_no_letter : is_letter b ≡ false
  unfolding marks is_letter none_first
  mark_no_letter = mark_first is_letter b w marks refl h

  mark_no_blank : is_blank b ≡ false
  unfolding marks is_blank none_first
  mark_no_blank = mark_first is_blank b w marks refl h

  mark_no_hash : eqb b 35 ≡ false
  unfolding marks is_hash none_first
  mark_no_hash = mark_first is_hash b w marks refl h

-- ---- the kinds of bytes

pub and_both : (a b : Bool) → a && b ≡ true → (a ≡ true) × (b ≡ true)
and_both true b h = (refl, h)
and_both false b h = absurd (false≢true h)

or_either : (a b : Bool) (P : Type 0) → (a ≡ true → P) → (b ≡ true → P) → a || b ≡ true → P
or_either true b P f g h = f refl
or_either false b P f g h = g h

digit_is : (b : ℕ) → is_digit b ≡ true → (48 ≤ b) × (b ≤ 57)
unfolding is_digit
digit_is b h = let r = and_both (leb 48 b) (leb b 57) h in (leb-true 48 b r.0, leb-true b 57 r.1)

letter_is : (b : ℕ) → is_letter b ≡ true → (65 ≤ b) × (b ≤ 122)
unfolding is_letter
letter_is b =
    or_either (leb 65 b && leb b 90) ((leb 97 b && leb b 122) || eqb b 95) ((65 ≤ b) × (b ≤ 122))
    (λ h. let r = and_both (leb 65 b) (leb b 90) h in (leb-true 65 b r.0, omega (arith, leb-true b 90 r.1)))
    (or_either (leb 97 b && leb b 122) (eqb b 95) ((65 ≤ b) × (b ≤ 122))
    (λ h. let r = and_both (leb 97 b) (leb b 122) h in (omega (arith, leb-true 97 b r.0), leb-true b 122 r.1))
    (λ h. omega (arith, eqb-true b 95 h)))

-- a byte above 47 is neither blank nor the beginning of a comment, and a letter is no digit
high_no_blank : (b : ℕ) → 48 ≤ b → is_blank b ≡ false
unfolding is_blank
high_no_blank b h = rw (ne_eqb b 32 (omega arith), ne_eqb b 9 (omega arith), ne_eqb b 10 (omega arith), ne_eqb b 13 (omega arith))

letter_no_digit : (b : ℕ) → is_letter b ≡ true → is_digit b ≡ false
letter_no_digit b h = is_false is_digit b (λ d. omega (arith, digit_is b d, letter_is b h))

-- ---- what stands at the front

abbrev Found : ℕ → List ℕ → FirstInText → Type 0
Found long bs nothing = (t : SheetToken) (rest : List ℕ) → TextBegins long bs t rest → ⊥
Found long bs (begins t rest) = TextBegins long bs t rest

abbrev front : ℕ → List ℕ → FirstInText
front long [] = nothing
front long (b ∷ bs) = first_in_text (place_in long (b ∷ bs)) b bs

no_mark : (c n : ℕ) → eqb (sign_of (c ∷ n ∷ []) marks) 0 ≡ true → sign_of (c ∷ n ∷ []) marks ≢ 0 → ⊥
no_mark c n e h = h (eqb-true (sign_of (c ∷ n ∷ []) marks) 0 e)

is_none : (n : ℕ) → (n ≢ 0 → ⊥) → eqb n 0 ≡ true
is_none zero h = refl
is_none (suc n) h = absurd (h (λ e. omega arith))

mark_front : (p b : ℕ) (bs : List ℕ) → is_digit b ≡ false → is_letter b ≡ false → first_in_text p b bs ≡ mark_at p b bs
unfolding first_in_text
mark_front p b bs d l = rw (d, l)

short-reads : (p b : ℕ) (bs : List ℕ) → sign_of (b ∷ []) marks ≢ 0 → NotFirst (λ c. sign_of (b ∷ c ∷ []) marks ≢ 0) bs
    → mark_at p b bs ≡ begins (sign p (sign_of (b ∷ []) marks)) bs
short-reads p b [] h s = rw (ne_eqb (sign_of (b ∷ []) marks) 0 h)
short-reads p b (c ∷ bs) h s = rw (is_none (sign_of (b ∷ c ∷ []) marks) s, ne_eqb (sign_of (b ∷ []) marks) 0 h)

first_reads : {long : ℕ} {bs : List ℕ} {t : SheetToken} {rest : List ℕ} → TextBegins long bs t rest → front long bs ≡ begins t rest
unfolding first_in_text
first_reads (a_number b ds rest h a s) = rw (h, run_of is_digit ds rest a s, beyond_of is_digit ds rest a s)
first_reads (a_word b w rest h a s l) =
    rw (letter_no_digit b h, h, run_of in_word w rest a s, beyond_of in_word w rest a s, le-leb (length (b ∷ w)) 32 l)
first_reads (a_long_mark b c rest h) =
    rw (mark_no_digit b (c ∷ []) h, mark_no_letter b (c ∷ []) h, ne_eqb (sign_of (b ∷ c ∷ []) marks) 0 h)
first_reads {long} (a_mark b rest h s) =
    mark_front (place_in long (b ∷ rest)) b rest (mark_no_digit b [] h) (mark_no_letter b [] h)
    ∙ short-reads (place_in long (b ∷ rest)) b rest h s

none_begins : (long : ℕ) (bs : List ℕ) → front long bs ≡ nothing → Found long bs nothing
none_begins long bs e t rest h = let q : ◌≡◌ {A = ℕ} 0 1 = cc (first_reads h) in omega arith

-- what the front gives is there
module _ (long b : ℕ) (bs : List ℕ) where
  P : FirstInText → Type 0
  P f = front long (b ∷ bs) ≡ f → Found long (b ∷ bs) f

  number_found : is_digit b ≡ true → TextBegins long (b ∷ bs) (number (place_in long (b ∷ bs)) (decimal_value 0 (b ∷ run_of_kind is_digit bs))) (beyond_run is_digit bs)
  number_found e =
      let q = run_joins is_digit bs in
      subst (λ (l : List ℕ). TextBegins long (b ∷ l) (number (place_in long (b ∷ l)) (decimal_value 0 (b ∷ run_of_kind is_digit bs))) (beyond_run is_digit bs)) (sym q)
      (a_number b (run_of_kind is_digit bs) (beyond_run is_digit bs) e (run_are is_digit bs) (beyond_stops is_digit bs))

  word_found : is_letter b ≡ true → length (b ∷ run_of_kind in_word bs) ≤ 32
      → TextBegins long (b ∷ bs) (word_at_place (place_in long (b ∷ bs)) (b ∷ run_of_kind in_word bs)) (beyond_run in_word bs)
  word_found e h =
      let q = run_joins in_word bs in
      subst (λ (l : List ℕ). TextBegins long (b ∷ l) (word_at_place (place_in long (b ∷ l)) (b ∷ run_of_kind in_word bs)) (beyond_run in_word bs)) (sym q)
      (a_word b (run_of_kind in_word bs) (beyond_run in_word bs) e (run_are in_word bs) (beyond_stops in_word bs) h)

short_says : (long b : ℕ) (bs : List ℕ) → NotFirst (λ c. sign_of (b ∷ c ∷ []) marks ≢ 0) bs → (f : FirstInText)
    → short_mark (place_in long (b ∷ bs)) b bs ≡ f → front long (b ∷ bs) ≡ f → Found long (b ∷ bs) f
short_says long b bs s f =
    by_test (λ x. x ≡ f → front long (b ∷ bs) ≡ f → Found long (b ∷ bs) f) (eqb (sign_of (b ∷ []) marks) 0)
    (λ e q r. subst (Found long (b ∷ bs)) q (none_begins long (b ∷ bs) (r ∙ sym q)))
    (λ e q r. subst (Found long (b ∷ bs)) q (a_mark b bs (eqb-false (sign_of (b ∷ []) marks) 0 e) s))

mark_says : (long b : ℕ) (bs : List ℕ) (f : FirstInText) → mark_at (place_in long (b ∷ bs)) b bs ≡ f → front long (b ∷ bs) ≡ f → Found long (b ∷ bs) f
mark_says long b [] f = short_says long b [] tt f
mark_says long b (c ∷ bs) f =
    by_test (λ x. x ≡ f → front long (b ∷ c ∷ bs) ≡ f → Found long (b ∷ c ∷ bs) f) (eqb (sign_of (b ∷ c ∷ []) marks) 0)
    (λ e. short_says long b (c ∷ bs) (no_mark b c e) f)
    (λ e q r. subst (Found long (b ∷ c ∷ bs)) q (a_long_mark b c bs (eqb-false (sign_of (b ∷ c ∷ []) marks) 0 e)))

first_says : (long b : ℕ) (bs : List ℕ) (f : FirstInText) → front long (b ∷ bs) ≡ f → front long (b ∷ bs) ≡ f → Found long (b ∷ bs) f
unfolding first_in_text
first_says long b bs f =
    by_test Q (is_digit b) (λ e q r. subst (Found long (b ∷ bs)) q (number_found long b bs e))
    (λ e. by_test Q (is_letter b)
    (λ d. by_test Q (leb (length (b ∷ run_of_kind in_word bs)) 32)
    (λ c q r. subst (Found long (b ∷ bs)) q (word_found long b bs d (leb-true (length (b ∷ run_of_kind in_word bs)) 32 c)))
    (λ c q r. subst (Found long (b ∷ bs)) q (none_begins long (b ∷ bs) (r ∙ sym q))))
    (λ d. mark_says long b bs f))
  where
    Q : FirstInText → Type 0
    Q x = x ≡ f → front long (b ∷ bs) ≡ f → Found long (b ∷ bs) f

-- ---- the whole text

-- a token is some bytes, and begins with none that is passed over
record Apart (bs rest : List ℕ) : Type 0 where
  pub less : length rest < length bs
  pub no_blank : is_blank (get_or bs 0 0) ≡ false
  pub no_hash : eqb (get_or bs 0 0) 35 ≡ false

begins_apart : {long : ℕ} {bs : List ℕ} {t : SheetToken} {rest : List ℕ} → TextBegins long bs t rest → Apart bs rest
begins_apart (a_number b ds rest h a s) =
    let d = digit_is b h in
    record { less = omega (arith, length-append ds rest); no_blank = high_no_blank b d.0; no_hash = ne_eqb b 35 (omega arith) }
begins_apart (a_word b w rest h a s l) =
    let d = letter_is b h in
    record { less = omega (arith, length-append w rest); no_blank = high_no_blank b (omega arith); no_hash = ne_eqb b 35 (omega arith) }
begins_apart (a_long_mark b c rest h) =
    record { less = omega arith; no_blank = mark_no_blank b (c ∷ []) h; no_hash = mark_no_hash b (c ∷ []) h }
begins_apart (a_mark b rest h s) =
    record { less = omega arith; no_blank = mark_no_blank b [] h; no_hash = mark_no_hash b [] h }

module _ (long : ℕ) (go : List ℕ → List SheetToken) (b : ℕ) (bs : List ℕ) where
  in_blank : is_blank b ≡ true → scanned_from long go (b ∷ bs) ≡ go bs
  in_blank e = by_elim (λ (l : List SheetToken). l ≡ go bs) (is_blank b) (λ t. refl) (λ f. absurd (true≢false (sym e ∙ f)))

  in_text : is_blank b ≡ false → eqb b 35 ≡ false → scanned_from long go (b ∷ bs) ≡ scan_on (place_in long (b ∷ bs)) go (front long (b ∷ bs))
  in_text e d =
      by_elim G (is_blank b) (λ t. absurd (true≢false (sym t ∙ e)))
      (λ f. by_elim G (eqb b 35) (λ t. absurd (true≢false (sym t ∙ d))) (λ f. refl))
    where
      G : List SheetToken → Type 0
      G l = l ≡ scan_on (place_in long (b ∷ bs)) go (front long (b ∷ bs))

in_comment_law : (long : ℕ) (go : List ℕ → List SheetToken) (bs : List ℕ) → scanned_from long go (35 ∷ bs) ≡ go (beyond_run in_comment bs)
unfolding is_blank
in_comment_law long go bs = refl

on_token : (long k : ℕ) (bs : List ℕ) (t : SheetToken) (rest : List ℕ) (ts : List SheetToken) → front long bs ≡ begins t rest → Apart bs rest
    → scanned_tokens long k rest ≡ ts → scanned_tokens long (suc k) bs ≡ t ∷ ts
unfolding scanned_tokens
on_token long k [] t rest ts e h g = absurd (omega (arith, h.less))
on_token long k (b ∷ bs) t rest ts e h g = in_text long (scanned_tokens long k) b bs h.no_blank h.no_hash ∙ rw (e, g)

on_stray : (long k b : ℕ) (bs : List ℕ) → is_blank b ≡ false → eqb b 35 ≡ false → (f : FirstInText) → front long (b ∷ bs) ≡ f → Found long (b ∷ bs) nothing
    → scanned_tokens long (suc k) (b ∷ bs) ≡ sign (place_in long (b ∷ bs)) stray_sign ∷ []
unfolding scanned_tokens
on_stray long k b bs e d nothing q n = in_text long (scanned_tokens long k) b bs e d ∙ rw q
on_stray long k b bs e d (begins t rest) q n = absurd (n t rest (first_says long b bs (begins t rest) q q))

pub scans_all : {long : ℕ} {bs : List ℕ} {ts : List SheetToken} → TokensOfText long bs ts → (k : ℕ) → length bs ≤ k → scanned_tokens long k bs ≡ ts
unfolding scanned_tokens
scans_all t_end zero h = refl
scans_all t_end (suc k) h = refl
scans_all (t_blank b e d) zero h = absurd (omega arith)
scans_all {long} (t_blank b {bs} e d) (suc k) h = in_blank long (scanned_tokens long k) b bs e ∙ scans_all d k (omega arith)
scans_all (t_comment c rest a s d) zero h = absurd (omega arith)
scans_all {long} (t_comment c rest a s d) (suc k) h =
    in_comment_law long (scanned_tokens long k) (c ++ rest) ∙ rw (beyond_of in_comment c rest a s) (scans_all d k (omega (arith, length-append c rest)))
scans_all (t_token b d) zero h = absurd (omega (arith, (begins_apart b).less))
scans_all {long} (t_token {bs} {rest} {t} {ts} b d) (suc k) h =
    on_token long k bs t rest ts (first_reads b) (begins_apart b) (scans_all d k (omega (arith, (begins_apart b).less)))
scans_all (t_stray b bs e d n) zero h = absurd (omega arith)
scans_all {long} (t_stray b bs e d n) (suc k) h = on_stray long k b bs e (ne_eqb b 35 d) (front long (b ∷ bs)) refl n

module _ (long : ℕ) (go : List ℕ → List SheetToken) where
  on_made : (b : ℕ) (bs : List ℕ) → is_blank b ≡ false → eqb b 35 ≡ false → ((rest : List ℕ) → length rest ≤ length bs → TokensOfText long rest (go rest))
      → (f : FirstInText) → Found long (b ∷ bs) f → TokensOfText long (b ∷ bs) (scan_on (place_in long (b ∷ bs)) go f)
  on_made b bs e d ih nothing n = t_stray b bs e (eqb-false b 35 d) n
  on_made b bs e d ih (begins t rest) h = t_token h (ih rest (omega (arith, (begins_apart h).less)))

  in_made : (bs : List ℕ) → ((rest : List ℕ) → length rest < length bs → TokensOfText long rest (go rest)) → TokensOfText long bs (scanned_from long go bs)
  in_made [] ih = t_end
  in_made (b ∷ bs) ih =
      by_elim (TokensOfText long (b ∷ bs)) (is_blank b) (λ e. t_blank b e (ih bs (omega arith)))
      (λ e. by_elim (TokensOfText long (b ∷ bs)) (eqb b 35)
      (λ d. let q : b ≡ 35 = eqb-true b 35 d in rw q (comment_made bs (λ rest h. ih rest (omega arith))))
      (λ d. on_made b bs e d (λ rest h. ih rest (omega arith)) (front long (b ∷ bs)) (first_says long b bs (front long (b ∷ bs)) refl refl)))
    where
      comment_made : (cs : List ℕ) → ((rest : List ℕ) → length rest ≤ length cs → TokensOfText long rest (go rest)) → TokensOfText long (35 ∷ cs) (go (beyond_run in_comment cs))
      comment_made cs jh =
          subst (λ (l : List ℕ). TokensOfText long (35 ∷ l) (go (beyond_run in_comment cs))) (sym (run_joins in_comment cs))
          (t_comment (run_of_kind in_comment cs) (beyond_run in_comment cs) (run_are in_comment cs) (beyond_stops in_comment cs) (jh (beyond_run in_comment cs) (beyond_less in_comment cs)))

scans_only : (long k : ℕ) (bs : List ℕ) → length bs ≤ k → TokensOfText long bs (scanned_tokens long k bs)
unfolding scanned_tokens
scans_only long zero bs h = in_made long (λ rest. []) bs (λ rest l. absurd (omega arith))
scans_only long (suc k) bs h = in_made long (scanned_tokens long k) bs (λ rest l. scans_only long k rest (omega arith))

-- a text's tokens, and no others
pub scanned : (bytes : List ℕ) → TokensOfText (length bytes) bytes (scan_text bytes)
scanned bytes = scans_only (length bytes) (length bytes) bytes (omega arith)

pub scan_is : (bytes : List ℕ) (ts : List SheetToken) → TokensOfText (length bytes) bytes ts → scan_text bytes ≡ ts
scan_is bytes ts d = scans_all d (length bytes) (omega arith)
