-- The tokens from a place on, one step at a time. Any bound that is large enough gives the same tokens, so a step leads
-- to the tokens from the next place on.
use Rattle.lib_base.proofs.Prelude.{ℕ, ◌≤◌, ◌<◌, ◌+◌, ◌-◌, suc, zero, ◌≡◌, refl, ◌∙◌, sym, ap, true, false, Bool}
use Rattle.lib_base.proofs.Prelude.{true≢false, List, [], ◌∷◌, length, get_or, drop, length-drop, drop_of_length-le}
use Rattle.lib_base.proofs.Prelude.{drop-cons, eqb, leb, add-one, eq-eqb, arith}
use Rattle.lib_base.proofs.Tools.{by_test, by_elim, split}
use Rattle.source_language.specs.Tokens.{SheetToken, sign, marks, sign_of, is_digit, is_letter, in_word, is_blank, in_comment, place_in, stray_sign, end_sign}
use Rattle.source_language.specs.Scanner.{run_of_kind, beyond_run, FirstInText, nothing, begins, short_mark, mark_at, first_in_text, scan_on, scanned_from, scanned_tokens}
use Rattle.source_coding.specs.Places.{tokens_from}
use Rattle.source_tokens.specs.Token.{TokenBegins}
use Rattle.source_tokens.proofs.Runs.{run_beyond, run_past}

-- ---- any bound that is large enough

beyond_short : (kind : ℕ → Bool) (bs : List ℕ) → length (beyond_run kind bs) ≤ length bs
beyond_short kind bs = rw (run_beyond kind bs) (omega (arith, length-drop (length (run_of_kind kind bs)) bs))

-- what follows a token is no longer than this
abbrev Shorter : ℕ → FirstInText → Type 0
Shorter n nothing = Unit {0}
Shorter n (begins t rest) = length rest ≤ n

short_shorter : (p b n : ℕ) (bs : List ℕ) → length bs ≤ n → Shorter n (short_mark p b bs)
short_shorter p b n bs h = by_test (Shorter n) (eqb (sign_of (b ∷ []) marks) 0) (λ e. tt) (λ e. h)

mark_shorter : (p b : ℕ) (bs : List ℕ) → Shorter (length bs) (mark_at p b bs)
mark_shorter p b [] = short_shorter p b 0 [] (omega arith)
mark_shorter p b (c ∷ rest) =
    by_test (Shorter (suc (length rest))) (eqb (sign_of (b ∷ c ∷ []) marks) 0)
    (λ e. short_shorter p b (suc (length rest)) (c ∷ rest) (omega arith)) (λ e. omega arith)

first_shorter : (p b : ℕ) (bs : List ℕ) → Shorter (length bs) (first_in_text p b bs)
unfolding first_in_text
first_shorter p b bs =
    by_test (Shorter (length bs)) (is_digit b) (λ e. beyond_short is_digit bs)
    (λ e. by_test (Shorter (length bs)) (is_letter b)
    (λ d. by_test (Shorter (length bs)) (leb (length (b ∷ run_of_kind in_word bs)) 32) (λ c. beyond_short in_word bs) (λ c. tt))
    (λ d. mark_shorter p b bs))

-- what is done at a byte: a blank and a comment are passed over, else a token begins
module _ (long : ℕ) (go : List ℕ → List SheetToken) (b : ℕ) (bs : List ℕ) where
  at_blank : is_blank b ≡ true → scanned_from long go (b ∷ bs) ≡ go bs
  at_blank e = by_elim (λ (l : List SheetToken). l ≡ go bs) (is_blank b) (λ t. refl) (λ f. absurd (true≢false (sym e ∙ f)))

  at_comment : is_blank b ≡ false → eqb b 35 ≡ true → scanned_from long go (b ∷ bs) ≡ go (beyond_run in_comment bs)
  at_comment e d =
      by_elim G (is_blank b) (λ t. absurd (true≢false (sym t ∙ e)))
      (λ f. by_elim G (eqb b 35) (λ t. refl) (λ f. absurd (true≢false (sym d ∙ f))))
    where
      G : List SheetToken → Type 0
      G l = l ≡ go (beyond_run in_comment bs)

  at_token : is_blank b ≡ false → eqb b 35 ≡ false
      → scanned_from long go (b ∷ bs) ≡ scan_on (place_in long (b ∷ bs)) go (first_in_text (place_in long (b ∷ bs)) b bs)
  at_token e d =
      by_elim G (is_blank b) (λ t. absurd (true≢false (sym t ∙ e)))
      (λ f. by_elim G (eqb b 35) (λ t. absurd (true≢false (sym t ∙ d))) (λ f. refl))
    where
      G : List SheetToken → Type 0
      G l = l ≡ scan_on (place_in long (b ∷ bs)) go (first_in_text (place_in long (b ∷ bs)) b bs)

module _ (long : ℕ) (go go' : List ℕ → List SheetToken) where
  same_on : (p n : ℕ) (f : FirstInText) → Shorter n f → ((rest : List ℕ) → length rest ≤ n → go rest ≡ go' rest) → scan_on p go f ≡ scan_on p go' f
  same_on p n nothing s h = refl
  same_on p n (begins t rest) s h = ap (λ (l : List SheetToken). t ∷ l) (h rest s)

  same_scan : (bs : List ℕ) → ((rest : List ℕ) → length rest < length bs → go rest ≡ go' rest) → scanned_from long go bs ≡ scanned_from long go' bs
  same_scan [] h = refl
  same_scan (b ∷ bs) h =
      split (is_blank b) (λ e. at_blank long go b bs e ∙ h bs (omega arith) ∙ sym (at_blank long go' b bs e))
      (λ e. split (eqb b 35)
      (λ d. at_comment long go b bs e d ∙ h (beyond_run in_comment bs) (omega (arith, beyond_short in_comment bs)) ∙ sym (at_comment long go' b bs e d))
      (λ d. at_token long go b bs e d
      ∙ same_on (place_in long (b ∷ bs)) (length bs) (first_in_text (place_in long (b ∷ bs)) b bs) (first_shorter (place_in long (b ∷ bs)) b bs) (λ rest l. h rest (omega arith))
      ∙ sym (at_token long go' b bs e d)))

any_bound : (long k j : ℕ) (bs : List ℕ) → length bs ≤ k → length bs ≤ j → scanned_tokens long k bs ≡ scanned_tokens long j bs
unfolding scanned_tokens
any_bound long zero zero bs h g = refl
any_bound long zero (suc j) bs h g = same_scan long (λ rest. []) (scanned_tokens long j) bs (λ rest l. absurd (omega arith))
any_bound long (suc k) zero bs h g = same_scan long (scanned_tokens long k) (λ rest. []) bs (λ rest l. absurd (omega arith))
any_bound long (suc k) (suc j) bs h g =
    same_scan long (scanned_tokens long k) (scanned_tokens long j) bs (λ rest l. any_bound long k j rest (omega arith) (omega arith))

-- ---- one step

module _ (text : List ℕ) where
  -- with the whole text's length as the bound
  abbrev pub all_from : List ℕ → List SheetToken
  all_from bs = scanned_tokens (length text) (length text) bs

  from_place : (at : ℕ) → all_from (drop at text) ≡ tokens_from text at
  unfolding tokens_from
  from_place at =
      any_bound (length text) (length text) (length (drop at text)) (drop at text) (omega (arith, length-drop at text)) (omega arith)

  place_is : (at b : ℕ) → at < length text → place_in (length text) (b ∷ drop (suc at) text) ≡ at
  place_is at b h = rw (length-drop (suc at) text) (omega arith)

  scan_nil : (long : ℕ) → scanned_tokens long 0 [] ≡ sign long end_sign ∷ []
  unfolding scanned_tokens
  scan_nil long = let q : long - 0 ≡ long = omega arith in ap (λ (p : ℕ). sign p end_sign ∷ []) q

  pub tokens_end : (at : ℕ) → at ≡ length text → tokens_from text at ≡ sign at end_sign ∷ []
  unfolding tokens_from
  tokens_end at h = let l : length text ≤ at = omega arith in rw (drop_of_length-le text l, h) (scan_nil (length text))

  module _ (at : ℕ) (h : at < length text) where
    unrolled : tokens_from text at ≡ scanned_from (length text) all_from (get_or text at 0 ∷ drop (suc at) text)
    unfolding tokens_from scanned_tokens
    unrolled =
        rw (drop-cons text at 0 h)
        (same_scan (length text) (scanned_tokens (length text) (length (drop (suc at) text))) all_from (get_or text at 0 ∷ drop (suc at) text)
        (λ rest l. any_bound (length text) (length (drop (suc at) text)) (length text) rest (omega arith) (omega (arith, length-drop (suc at) text))))

    pub tokens_blank : is_blank (get_or text at 0) ≡ true → tokens_from text at ≡ tokens_from text (at + 1)
    tokens_blank e = unrolled ∙ at_blank (length text) all_from (get_or text at 0) (drop (suc at) text) e ∙ rw (add-one at) (from_place (suc at))

    pub tokens_comment : (r : ℕ) → is_blank (get_or text at 0) ≡ false → get_or text at 0 ≡ 35
        → r ≡ (at + 1) + length (run_of_kind in_comment (drop (at + 1) text)) → tokens_from text at ≡ tokens_from text r
    tokens_comment r e d q =
        let p = run_past in_comment text (suc at) r (rw (add-one at) at q) in
        unrolled ∙ at_comment (length text) all_from (get_or text at 0) (drop (suc at) text) e (eq-eqb (get_or text at 0) 35 d) ∙ rw p (from_place r)

  module _ (at : ℕ) (u : TokenBegins text at) where
    pub tokens_first : tokens_from text at ≡ scan_on at all_from (first_in_text at (get_or text at 0) (drop (suc at) text))
    tokens_first =
        unrolled at u.inside ∙ at_token (length text) all_from (get_or text at 0) (drop (suc at) text) u.no_blank u.no_comment
        ∙ rw (place_is at (get_or text at 0) u.inside)

    pub tokens_begin : (t : SheetToken) (next : ℕ) → first_in_text at (get_or text at 0) (drop (suc at) text) ≡ begins t (drop next text)
        → tokens_from text at ≡ t ∷ tokens_from text next
    tokens_begin t next e = tokens_first ∙ rw e (ap (λ (l : List SheetToken). t ∷ l) (from_place next))

    pub tokens_stray : first_in_text at (get_or text at 0) (drop (suc at) text) ≡ nothing → tokens_from text at ≡ sign at stray_sign ∷ []
    tokens_stray e = tokens_first ∙ rw e
