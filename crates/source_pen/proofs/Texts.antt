-- The pen's bytes are the rendering's: a token's last byte is that of its spelling, and tells the gap after it.
-- By induction on the tokens, the signs by a check of the table.
use Rattle.lib_base.proofs.Prelude.{ℕ, ◌<◌, ◌+◌, suc, zero, ◌%◌, ◌/◌, ◌≡◌, refl, ◌∙◌, sym, ap, true, Bool, true≢false}
use Rattle.lib_base.proofs.Prelude.{List, [], ◌∷◌, ◌++◌, append_assoc, length, ltb, ne_eqb, ltb-true, arith}
use Rattle.lib_base.specs.Basics.{pick, All}
use Rattle.lib_base.proofs.Tools.{by_test, all_below, each_below}
use Rattle.spec_language.specs.Sheet.{Sheet, cell_count, fill_entries}
use Rattle.spec_language.specs.Grammar.{SheetFits}
use Rattle.spec_language.specs.Accepted.{BehaviourNamesIn}
use Rattle.source_language.specs.Tokens.{SheetToken, number, name, sign, marks, reserved, end_sign, is_digit, is_letter, in_word, Are}
use Rattle.source_rendering.specs.Describe.{digits_of, digits, spelled_as, spell, last_of, gap, rendered, render, parameters_from, described_events, described_behaviours, text_of, text_tokens, described}
use Rattle.spec_language.specs.Sheet.{params_of_entries}
use Rattle.source_rendering.proofs.Digits.{some_digits}
use Rattle.source_rendering.proofs.Lexes.{is_spelled, spelled_low, Spelt, Ended, at_end_law, before_end}
use Rattle.source_rendering.proofs.DescribedFits.{described_parameters, described_events_law, described_behaviours_law}
use Rattle.source_rendering.proofs.Prints.{text_ended}
use Rattle.source_pen.specs.Written.{space_after, spacing_after, gap_after, token_after, last_after, written_after}
use Rattle.source_pen.proofs.Pens.{last_joins}

-- ---- last bytes

last_of_law : (a : ℕ) (s : List ℕ) → 0 < length s → last_after a s ≡ last_of s
unfolding last_after last_of
last_of_law a [] h = absurd (omega arith)
last_of_law a (b ∷ []) h = refl
last_of_law a (b ∷ c ∷ s) h = last_of_law b (c ∷ s) (omega arith)

digits_last : (k n a : ℕ) → 0 < last_after a (digits_of k n)
unfolding digits_of last_after
digits_last zero n a = omega arith
digits_last (suc k) n a =
    by_test (λ (l : List ℕ). 0 < last_after a l) (ltb n 10) (λ e. omega arith)
    (λ e. rw (last_joins a (digits_of k (n / 10)) ((48 + n % 10) ∷ [])) (omega arith))

word_last : (w : List ℕ) → Are in_word w → 0 < length w → 0 < last_of w
unfolding last_of in_word is_letter is_digit
word_last [] a l = absurd (omega arith)
word_last (zero ∷ []) a l = absurd (true≢false (sym a.0))
word_last (suc b ∷ []) a l = omega arith
word_last (b ∷ c ∷ w) a l = word_last (c ∷ w) a.1 (omega arith)

sign_ends : ℕ → Bool
sign_ends c = pick (is_spelled c) (ltb 0 (last_of (spell (sign 0 c)))) true

signs_end : all_below end_sign sign_ends ≡ true
unfolding all_below sign_ends spelled_as marks reserved last_of
signs_end = refl

spelt_last : (t : SheetToken) → Spelt t → 0 < last_of (spell t)
unfolding sign_ends
spelt_last (number p n) v = rw (sym (last_of_law 0 (digits n) (some_digits n))) (digits_last n n 0)
spelt_last (name p s) v = word_last s v.0.within v.0.some
spelt_last (sign p c) v =
    let e : sign_ends c ≡ true = each_below end_sign sign_ends signs_end c (spelled_low c v).1 in
    ltb-true 0 (last_of (spell (sign 0 c))) (rw v at e)

nonempty : (s : List ℕ) → 0 < last_of s → 0 < length s
unfolding last_of
nonempty [] h = absurd (omega arith)
nonempty (b ∷ s) h = omega arith

token_last : (a : ℕ) (t : SheetToken) → Spelt t → last_after a (token_after a t) ≡ last_of (spell t)
token_last a t v = last_joins a (gap_after a t) (spell t) ∙ last_of_law (last_after a (gap_after a t)) (spell t) (nonempty (spell t) (spelt_last t v))

-- ---- gaps

spacing_is : (t u : SheetToken) → spacing_after (last_of (spell t)) u ≡ gap t u
unfolding space_after
spacing_is t (number p n) = refl
spacing_is t (name p s) = refl
spacing_is t (sign p c) = refl

gap_is : (t u : SheetToken) → Spelt t → gap_after (last_of (spell t)) u ≡ gap t u
gap_is t u v = rw (ne_eqb (last_of (spell t)) 0 (omega (arith, spelt_last t v))) (spacing_is t u)

-- ---- tokens

rendered_written : (u : SheetToken) (us : List SheetToken) → Spelt u → Ended us → rendered u us ≡ written_after (last_of (spell u)) us
unfolding rendered written_after
rendered_written u us v (at_end_law {p}) = rw (gap_is u (sign p end_sign) v) (sym (append_assoc (gap u (sign p end_sign)) (spell (sign p end_sign)) []))
rendered_written u us v (before_end {t} {ts} w k) =
    rw (token_last (last_of (spell u)) t w, gap_is u t v, rendered_written t ts w k)
    (sym (append_assoc (gap u t) (spell t) (written_after (last_of (spell t)) ts)))

-- "its tokens with minimal brackets, and their bytes": the pen writes them
pub render_written : (us : List SheetToken) → Ended us → render us ≡ written_after 0 us
unfolding render rendered written_after
render_written us at_end_law = refl
render_written us (before_end {t} {ts} v k) =
    rw (token_last 0 t v) (ap (λ (l : List ℕ). spell t ++ l) (rendered_written t ts v k))

-- the text that a sheet is described by, as the pen writes it
pub described_written : (v : ℕ → ℕ) (s : Sheet) → SheetFits s → All (BehaviourNamesIn (cell_count s.entries)) (fill_entries v s.entries)
    → described s ≡ written_after 0 (text_tokens (text_of s))
unfolding described
described_written v s f n =
    let g = described_behaviours_law v s f n in
    render_written (text_tokens (text_of s))
    (text_ended (parameters_from (params_of_entries s.entries) 0) (described_events 0 s.signals) (described_behaviours s.entries 0 s.entries)
    (described_parameters v s f n) (described_events_law v s f n) g.0 g.1)
