-- The tokens worked out from the bytes of an accepted sheet are those of the text that describes it; so what the pen
-- writes of them is that text, and what is answered is what `describe_on` says. From the parts (Declarations, Needed)
-- and the reader's theorem.
use Rattle.lib_base.proofs.Prelude.{ℕ, ◌≤◌, ◌<◌, ◌+◌, suc, zero, ◌≡◌, refl, ◌∙◌, sym, ap, subst, ◌≢◌, List, [], ◌++◌}
use Rattle.lib_base.proofs.Prelude.{length, get_or, drop, replicate, length-append, length-replicate, take-append-drop}
use Rattle.lib_base.proofs.Prelude.{ne_eqb, le-ltb, lt-ltb, eq-eqb, arith}
use Rattle.lib_base.specs.Basics.{All}
use Rattle.lib_word.specs.Word.{get}
use Rattle.spec_language.specs.Dependence.{size}
use Rattle.spec_language.specs.Sheet.{Sheet, cell_count, rows_out, fill_entries, fill}
use Rattle.spec_language.specs.Grammar.{encode_events, encode_behaviours, encode, SheetFits}
use Rattle.spec_language.specs.Accepted.{BehaviourNamesIn, Known}
use Rattle.spec_language.specs.Reading.{got, read_sheet}
use Rattle.spec_language.proofs.RowLaws.{length_out}
use Rattle.spec_language.proofs.RowNames.{names_sent}
use Rattle.spec_language.proofs.SheetLaws.{length_fill}
use Rattle.spec_grammar.proofs.Programs.{many_behaviours, many_events}
use Rattle.text_formula.specs.Answer.{answered}
use Rattle.source_language.specs.Tokens.{SheetToken, end_sign}
use Rattle.source_rendering.specs.Describe.{parameters_from, described_events, described_behaviours, text_of, mark, parameter_tokens, event_tokens, behaviour_tokens, text_tokens, described}
use Rattle.spec_language.specs.Sheet.{params_of_entries}
use Rattle.source_rendering.proofs.Lengths.{described_short}
use Rattle.source_pen.specs.declared.Pen.{Pen}
use Rattle.source_pen.specs.Written.{written_after, Penned}
use Rattle.source_pen.proofs.Pens.{penned_as}
use Rattle.source_pen.proofs.Texts.{described_written}
use Rattle.back_compile.specs.Number.{number_on}
use Rattle.back_compile.proofs.AcceptedExactly.{accepted_exactly}
use Rattle.sheet_walk.specs.Fields.{past_fields}
use Rattle.source_walk.specs.Fields.{needed_in}
use Rattle.source_describe.specs.Walk.{sheet_tokens}
use Rattle.source_terms.specs.Put.{TokensPut}
use Rattle.source_describe.specs.Describing.{text_delivered, TextPut, describe_on}
use Rattle.source_describe.proofs.Declarations.{past_events, behaviour_tag_law, signals_walk, entries_walk}
use Rattle.source_walk.proofs.Needed.{needed_entries}

parameters_on : (k i : ℕ) (ts : List SheetToken) → parameter_tokens (parameters_from k i) [] ++ ts ≡ parameter_tokens (parameters_from k i) ts
unfolding parameter_tokens parameters_from
parameters_on zero i ts = refl
parameters_on (suc k) i ts = rw (parameters_on k (suc i) ts)

pub sheet_walks : (s : Sheet) → SheetFits s → sheet_tokens (encode s) ≡ text_tokens (text_of s)
unfolding sheet_tokens encode
sheet_walks s f =
    let rs = s.signals in
    let xs = s.entries in
    let bs = encode_behaviours xs in
    let all = encode_events rs ++ bs in
    let long : length all ≡ length (encode_events rs) + length bs = length-append (encode_events rs) bs in
    let tag : get_or bs 0 0 ≢ 1 = behaviour_tag_law 1 (omega arith) (omega arith) (omega arith) (omega arith) xs in
    let past : past_fields 1 (length all) all ≡ bs = past_events (length all) rs bs (omega (arith, many_events rs)) tag in
    let few : length xs ≤ length all = omega (arith, many_behaviours xs) in
    let needed : needed_in 0 0 0 bs ≡ params_of_entries xs = needed_entries xs 0 ∙ omega arith in
    let us = mark end_sign [] in
    let ws = behaviour_tokens (described_behaviours xs 0 xs) us in
    rw (
      past,
      needed,
      entries_walk (length rs) xs f.each (length all) few (length all) 0 xs us few (omega arith) (omega (arith, f.few_behaviours)) f.each,
      signals_walk 32 0 rs bs ws f.few_events tag f.scale,
    )
    (parameters_on (params_of_entries xs) 0 (event_tokens (described_events 0 rs) ws))

-- ---- a text from the buffer's start on

pub text_put : {a b : Pen} {p : List ℕ} {ts : List SheetToken} → a.at ≡ 0 → a.last ≡ 0 → TokensPut a b ts → p ≡ b.out.now
    → TextPut a.out.now p b.at ts
text_put {a} {b} {p} {ts} z l w o =
    let first : written_after a.last ts ≡ written_after 0 ts = ap (λ (x : ℕ). written_after x ts) l in
    let d : length (written_after 0 ts) ≤ 65536 → Penned a b (written_after 0 ts) = λ h.
    let g : a.at + length (written_after a.last ts) ≤ 65536 = rw (z, first) (omega (arith, h)) in
    penned_as (w.tokens g).penned first in
    record {
      counted = λ h. let e = d h in omega (arith, e.counted);
      whole = λ h k. let e = d h in o ∙ (sym (take-append-drop b.at b.out.now) ∙ rw (e.bytes k, e.rest k, z) refl);
    }

-- ---- an accepted sheet

module _ (v : ℕ → ℕ) (s : Sheet) (f : SheetFits s) (k : Known (fill v s)) where
  names_known_law : All (BehaviourNamesIn (cell_count s.entries)) (fill_entries v s.entries)
  names_known_law =
      let e : size (fill v s) ≡ cell_count s.entries = length_fill v (rows_out s).entries ∙ length_out s.entries s.entries in
      subst (λ n. All (BehaviourNamesIn n) (fill_entries v s.entries)) e ((names_sent v s f).1 k)

  walked : written_after 0 (sheet_tokens (encode s)) ≡ described s
  walked = ap (written_after 0) (sheet_walks s f) ∙ sym (described_written v s f names_known_law)

  short : length (described s) ≤ 65536
  short = described_short v s f names_known_law

  fits : length (written_after 0 (sheet_tokens (encode s))) ≤ 65536
  fits = rw walked (omega (arith, short))

  pub counts : {o p : List ℕ} {n : ℕ} → TextPut o p n (sheet_tokens (encode s)) → n ≡ length (described s)
  counts w = rw (sym walked) (w.counted fits)

  pub writes : {o p : List ℕ} {n : ℕ} → TextPut o p n (sheet_tokens (encode s)) → length (described s) ≤ length o → p ≡ described s ++ drop (length (described s)) o
  writes {o} {p} {n} w h =
      let c : n ≡ length (described s) = counts w in
      rw (walked, c) at (w.whole fits (omega arith))

-- what is known of a sheet that compile accepts with 32 bytes lent
pub accepted_is : (b : List ℕ) → All (λ x. x < 256) b → number_on b (replicate 32 0) ≡ 0
    → (s : Sheet) × (encode s ≡ b) × SheetFits s × Known (fill (get (replicate 32 0)) s) × (read_sheet b ≡ got s [])
unfolding number_on
accepted_is b h e =
    let r = (accepted_exactly b (replicate 32 0) (replicate 34816 0) h (omega (arith, length-replicate {A = ℕ} 34816 0))).0 e in
    (r.0, r.1, r.2.fits, r.2.known, r.4)

-- ---- the answers

pub describe_refused : (b buffer : List ℕ) (n : ℕ) → n ≡ number_on b (replicate 32 0) → n ≢ 0 → answered n buffer ≡ describe_on b buffer
unfolding describe_on
describe_refused b buffer n e h = rw (← e, ne_eqb n 0 h)

module _ (b : List ℕ) (bytes : All (λ x. x < 256) b) {m : ℕ} (e : m ≡ number_on b (replicate 32 0)) (z : m ≡ 0) where
  opened : (buffer : List ℕ) (s : Sheet) → read_sheet b ≡ got s [] → describe_on b buffer ≡ text_delivered (described s) buffer
  unfolding describe_on
  opened buffer s q = rw (eq-eqb (number_on b (replicate 32 0)) 0 (sym e ∙ z), q)

  -- the first walk counted so many bytes, and the buffer has fewer
  pub describe_short : {o p : List ℕ} {k : ℕ} (buffer : List ℕ) → TextPut o p k (sheet_tokens b) → length buffer < k
      → answered 41 buffer ≡ describe_on b buffer
  describe_short {o} {p} {k} buffer w h =
      let r = accepted_is b bytes (sym e ∙ z) in
      let n = counts (get (replicate 32 0)) r.0 r.2 r.3 (rw (sym r.1) at w) in
      sym (opened buffer r.0 r.4 ∙ rw (lt-ltb (length buffer) (length (described r.0)) (omega arith)))

  -- or as many, and the second wrote them
  pub describe_done : {o p q : List ℕ} {k l : ℕ} (buffer : List ℕ) → TextPut o p k (sheet_tokens b) → k ≤ length buffer
      → TextPut buffer q l (sheet_tokens b) → answered (4294967296 + k) q ≡ describe_on b buffer
  describe_done {o} {p} {q} {k} {l} buffer w h u =
      let r = accepted_is b bytes (sym e ∙ z) in
      let v = get (replicate 32 0) in
      let n = counts v r.0 r.2 r.3 (rw (sym r.1) at w) in
      let few : length (described r.0) ≤ length buffer = omega arith in
      let d = writes v r.0 r.2 r.3 (rw (sym r.1) at u) few in
      sym (opened buffer r.0 r.4 ∙ rw (le-ltb (length buffer) (length (described r.0)) few, n, d))

  -- or the buffer has room for every text, and nothing is counted before
  pub describe_whole : {q : List ℕ} {k : ℕ} (buffer : List ℕ) → 65536 ≤ length buffer → TextPut buffer q k (sheet_tokens b)
      → answered (4294967296 + k) q ≡ describe_on b buffer
  describe_whole {q} {k} buffer h u =
      let r = accepted_is b bytes (sym e ∙ z) in
      let v = get (replicate 32 0) in
      let n = counts v r.0 r.2 r.3 (rw (sym r.1) at u) in
      describe_done buffer u (omega (arith, n, short v r.0 r.2 r.3)) u
