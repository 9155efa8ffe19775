-- Laws of the loops that write: handlers, the bits of a byte, behaviours, events and parameters. What is left to write
-- from the place on, after what is written, is all (`Underway`).
use Rattle.lib_base.proofs.Prelude.{ℕ, ◌≤◌, ◌<◌, ◌+◌, ◌-◌, suc, zero, ◌%◌, ◌/◌, ◌≡◌, refl, ◌∙◌, sym, ap, ◌≢◌, List, []}
use Rattle.lib_base.proofs.Prelude.{◌∷◌, ◌++◌, length, get_or, drop, drop_of_length-le, eqb, ltb, add-one, ne_eqb, le-ltb, by_cases, dec_lt}
use Rattle.lib_base.proofs.Prelude.{lt-ltb, eq-eqb, arith}
use Rattle.lib_base.specs.Basics.{pick}
use Rattle.spec_language.specs.Syntax.{later}
use Rattle.spec_language.specs.Reading.{phase_of}
use Rattle.source_language.specs.Tokens.{number, name, by_word, seen_word, param_word, end_sign}
use Rattle.source_rendering.specs.Describe.{parameter_name, described_constant, parameters_from, mark, value_tokens, parameter_tokens}
use Rattle.source_pen.specs.declared.Pen.{Pen}
use Rattle.sheet_walk.specs.Fields.{after_field, word_in_front, past_fields, cells_in_front}
use Rattle.source_walk.specs.Fields.{needed_in}
use Rattle.source_describe.specs.Walk.{handler_tokens, handlers_tokens, bit_tokens, right_tokens, viewer_tokens, active_tokens, entry_tokens, entries_tokens, signal_tokens, signals_tokens, sheet_tokens}
use Rattle.source_terms.specs.Put.{TokensPut}
use Rattle.source_terms.proofs.Writing.{Underway, under_start, under_turn, under_end}
use Rattle.source_walk.proofs.Places.{some_left}

pub phase_later : (n : ℕ) → n ≢ 0 → phase_of n ≡ later
phase_later zero h = absurd (h refl)
phase_later (suc n) h = refl

-- ---- handlers

pub record Handling (s : List ℕ) (first from : ℕ) (a b : Pen) (at left : ℕ) : Type 0 where
  pub underway : Underway a b (handlers_tokens (length s) (drop first s) left (drop at s)) (handlers_tokens (length s) (drop first s) (length s) (drop from s))
  pub inside : at ≤ length s

handlers_turn : (n : ℕ) (bs : List ℕ) (k : ℕ) (b : List ℕ)
    → handlers_tokens n bs (suc k) b ≡ pick (eqb (get_or b 0 0) 5) (handler_tokens n bs b ++ handlers_tokens n bs k (after_field b)) []
unfolding handlers_tokens
handlers_turn n bs k b = refl

handlers_open : (n : ℕ) (bs : List ℕ) (left : ℕ) (b : List ℕ) → 0 < left
    → handlers_tokens n bs left b ≡ pick (eqb (get_or b 0 0) 5) (handler_tokens n bs b ++ handlers_tokens n bs (left - 1) (after_field b)) []
handlers_open n bs left b h = let e : left ≡ suc (left - 1) = omega arith in ap (λ (k : ℕ). handlers_tokens n bs k b) e ∙ handlers_turn n bs (left - 1) b

handlers_end : (n : ℕ) (bs : List ℕ) (left : ℕ) → handlers_tokens n bs left [] ≡ []
unfolding handlers_tokens
handlers_end n bs zero = refl
handlers_end n bs (suc k) = refl

pub handling_ends : {s : List ℕ} {first from : ℕ} {a b : Pen} {at left : ℕ} → Handling s first from a b at left → at ≡ length s
    → TokensPut a b (handlers_tokens (length s) (drop first s) (length s) (drop from s))
handling_ends {s} {first} {from} {a} {b} {at} {left} u h =
    let d : drop at s ≡ [] = drop_of_length-le s (omega arith) in under_end u.underway (rw d (handlers_end (length s) (drop first s) left))

pub handling_on : {s : List ℕ} {first from : ℕ} {a b c : Pen} {at left x y : ℕ} → Handling s first from a b at left → 0 < left
    → x ≡ get_or (drop at s) 0 0 → x ≡ 5 → TokensPut b c (handler_tokens (length s) (drop first s) (drop at s)) → drop y s ≡ after_field (drop at s) → y ≤ length s
    → Handling s first from a c y (left - 1)
handling_on {s} {first} {from} {a} {b} {c} {at} {left} {x} {y} u h e t w d l = record {
  underway = under_turn u.underway w
      (handlers_open (length s) (drop first s) left (drop at s) h ∙ rw (eq-eqb (get_or (drop at s) 0 0) 5 (sym e ∙ t), ← d));
  inside = l;
}

pub handling_stops : {s : List ℕ} {first from : ℕ} {a b : Pen} {at left x : ℕ} → Handling s first from a b at left → 0 < left
    → x ≡ get_or (drop at s) 0 0 → x ≢ 5 → TokensPut a b (handlers_tokens (length s) (drop first s) (length s) (drop from s))
handling_stops {s} {first} {from} {a} {b} {at} {left} {x} u h e t =
    under_end u.underway (handlers_open (length s) (drop first s) left (drop at s) h ∙ rw (ne_eqb (get_or (drop at s) 0 0) 5 (λ q. t (e ∙ q))))

-- ---- bits

pub record Bits (m : ℕ) (a b : Pen) (i rest : ℕ) : Type 0 where
  pub underway : Underway a b (bit_tokens (8 - i) i rest) (bit_tokens 8 0 m)
  pub few : i ≤ 8

bits_turn : (k i m : ℕ) → bit_tokens (suc k) i m ≡ pick (eqb (m % 2) 1) (number 0 i ∷ []) [] ++ bit_tokens k (i + 1) (m / 2)
unfolding bit_tokens
bits_turn k i m = refl

pub bits_on : {m : ℕ} {a b c : Pen} {i rest : ℕ} → Bits m a b i rest → i < 8 → TokensPut b c (pick (eqb (rest % 2) 1) (number 0 i ∷ []) [])
    → Bits m a c (i + 1) (rest / 2)
bits_on {m} {a} {b} {c} {i} {rest} u h w =
    let e : 8 - i ≡ suc (8 - (i + 1)) = omega arith in
    record { underway = under_turn u.underway w (ap (λ (k : ℕ). bit_tokens k i rest) e ∙ bits_turn (8 - (i + 1)) i rest); few = omega arith }

pub bits_end : {m : ℕ} {a b : Pen} {i rest : ℕ} → Bits m a b i rest → 8 ≤ i → TokensPut a b (bit_tokens 8 0 m)
unfolding bit_tokens
bits_end {m} {a} {b} {i} {rest} u h = let e : 8 - i ≡ 0 = omega arith in under_end u.underway (rw e)

-- ---- behaviours

pub record Describing (s : List ℕ) (first : ℕ) (a b : Pen) (at j left : ℕ) : Type 0 where
  pub underway : Underway a b (entries_tokens (length s) (drop first s) left j (drop at s)) (entries_tokens (length s) (drop first s) (length s) 0 (drop first s))
  pub inside : at ≤ length s
  pub few : j ≤ 318

entries_turn : (n : ℕ) (bs : List ℕ) (k j : ℕ) (b : List ℕ)
    → entries_tokens n bs (suc k) j b ≡ pick (eqb (length b) 0) [] (pick (ltb 63 j) [] (entry_tokens n bs j b ++ entries_tokens n bs k (j + cells_in_front b) (after_field b)))
unfolding entries_tokens
entries_turn n bs k j b = refl

entries_open : (n : ℕ) (bs : List ℕ) (left j : ℕ) (b : List ℕ) → 0 < left
    → entries_tokens n bs left j b ≡ pick (eqb (length b) 0) [] (pick (ltb 63 j) [] (entry_tokens n bs j b ++ entries_tokens n bs (left - 1) (j + cells_in_front b) (after_field b)))
entries_open n bs left j b h = let e : left ≡ suc (left - 1) = omega arith in ap (λ (k : ℕ). entries_tokens n bs k j b) e ∙ entries_turn n bs (left - 1) j b

entries_end : (n : ℕ) (bs : List ℕ) (left j : ℕ) → entries_tokens n bs left j [] ≡ []
unfolding entries_tokens
entries_end n bs zero j = refl
entries_end n bs (suc k) j = refl

pub describing_on : {s : List ℕ} {first : ℕ} {a b c : Pen} {at j left x y : ℕ} → Describing s first a b at j left → 0 < left → at ≢ length s
    → j ≤ 63 → TokensPut b c (entry_tokens (length s) (drop first s) j (drop at s)) → x ≡ cells_in_front (drop at s) → x ≤ 255 → drop y s ≡ after_field (drop at s) → y ≤ length s
    → Describing s first a c y (j + x) (left - 1)
describing_on {s} {first} {a} {b} {c} {at} {j} {left} {x} {y} u h n k w e r d l = record {
  underway = under_turn u.underway w
      (entries_open (length s) (drop first s) left j (drop at s) h ∙ rw (ne_eqb (length (drop at s)) 0 (some_left s at u.inside n), le-ltb 63 j k, ← e, ← d));
  inside = l;
  few = omega arith;
}

pub describing_ends : {s : List ℕ} {first : ℕ} {a b : Pen} {at j left : ℕ} → Describing s first a b at j left → at ≡ length s
    → TokensPut a b (entries_tokens (length s) (drop first s) (length s) 0 (drop first s))
describing_ends {s} {first} {a} {b} {at} {j} {left} u h =
    let d : drop at s ≡ [] = drop_of_length-le s (omega arith) in under_end u.underway (rw d (entries_end (length s) (drop first s) left j))

pub describing_full : {s : List ℕ} {first : ℕ} {a b : Pen} {at j left : ℕ} → Describing s first a b at j left → 0 < left → at ≢ length s → 63 < j
    → TokensPut a b (entries_tokens (length s) (drop first s) (length s) 0 (drop first s))
describing_full {s} {first} {a} {b} {at} {j} {left} u h n k =
    under_end u.underway
    (entries_open (length s) (drop first s) left j (drop at s) h ∙ rw (ne_eqb (length (drop at s)) 0 (some_left s at u.inside n), lt-ltb 63 j k))

-- ---- events

pub record Declaring (s : List ℕ) (a b : Pen) (at i : ℕ) : Type 0 where
  pub underway : Underway a b (signals_tokens (32 - i) i (drop at s)) (signals_tokens 32 0 s)
  pub inside : at ≤ length s
  pub few : i ≤ 32

signals_turn : (k i : ℕ) (b : List ℕ) → signals_tokens (suc k) i b ≡ pick (eqb (get_or b 0 0) 1) (signal_tokens i b ++ signals_tokens k (i + 1) (after_field b)) []
unfolding signals_tokens
signals_turn k i b = refl

signals_none : (i : ℕ) (b : List ℕ) → signals_tokens 0 i b ≡ []
unfolding signals_tokens
signals_none i b = refl

signals_end : (k i : ℕ) → signals_tokens k i [] ≡ []
unfolding signals_tokens
signals_end zero i = refl
signals_end (suc k) i = refl

pub declaring_on : {s : List ℕ} {a b c : Pen} {at i x y : ℕ} → Declaring s a b at i → i < 32 → x ≡ get_or (drop at s) 0 0 → x ≡ 1
    → TokensPut b c (signal_tokens i (drop at s)) → drop y s ≡ after_field (drop at s) → y ≤ length s → Declaring s a c y (i + 1)
declaring_on {s} {a} {b} {c} {at} {i} {x} {y} u h e t w d l =
    let z : 32 - i ≡ suc (32 - (i + 1)) = omega arith in
    record {
      underway = under_turn u.underway w
          (ap (λ (k : ℕ). signals_tokens k i (drop at s)) z ∙ (signals_turn (32 - (i + 1)) i (drop at s) ∙ rw (eq-eqb (get_or (drop at s) 0 0) 1 (sym e ∙ t), ← d)));
      inside = l;
      few = omega arith;
    }

pub declaring_stops : {s : List ℕ} {a b : Pen} {at i x : ℕ} → Declaring s a b at i → i < 32 → x ≡ get_or (drop at s) 0 0 → x ≢ 1
    → TokensPut a b (signals_tokens 32 0 s)
declaring_stops {s} {a} {b} {at} {i} {x} u h e t =
    let z : 32 - i ≡ suc (32 - (i + 1)) = omega arith in
    under_end u.underway
    (ap (λ (k : ℕ). signals_tokens k i (drop at s)) z ∙ (signals_turn (32 - (i + 1)) i (drop at s) ∙ rw (ne_eqb (get_or (drop at s) 0 0) 1 (λ q. t (e ∙ q)))))

pub declaring_ends : {s : List ℕ} {a b : Pen} {at i : ℕ} → Declaring s a b at i → (i < 32 → at ≡ length s) → TokensPut a b (signals_tokens 32 0 s)
declaring_ends {s} {a} {b} {at} {i} u h = under_end u.underway (by_cases (dec_lt i 32) ended full)
  where
    ended : i < 32 → signals_tokens (32 - i) i (drop at s) ≡ []
    ended l = let d : drop at s ≡ [] = drop_of_length-le s (omega (arith, h l)) in rw d (signals_end (32 - i) i)

    full : (i < 32 → ⊥) → signals_tokens (32 - i) i (drop at s) ≡ []
    full l = let z : 32 - i ≡ 0 = omega (arith, u.few) in rw z (signals_none i (drop at s))

-- ---- parameters

pub record Parametric (n : ℕ) (a b : Pen) (i : ℕ) : Type 0 where
  pub underway : Underway a b (parameter_tokens (parameters_from (n - i) i) []) (parameter_tokens (parameters_from n 0) [])
  pub few : i ≤ n

pub parametric_start : (n : ℕ) (pen : Pen) → pen.at ≤ 65548 → Parametric n pen pen 0
parametric_start n pen h =
    let e : n - 0 ≡ n = omega arith in
    record { underway = rw e (under_start pen (parameter_tokens (parameters_from n 0) []) h); few = omega arith }

parameters_turn : (k i : ℕ) → parameter_tokens (parameters_from (suc k) i) [] ≡ mark param_word (name 0 (parameter_name i) ∷ parameter_tokens (parameters_from k (suc i)) [])
unfolding parameter_tokens parameters_from
parameters_turn k i = refl

pub parametric_on : {n : ℕ} {a b c : Pen} {i : ℕ} → Parametric n a b i → i < n → TokensPut b c (mark param_word (name 0 (parameter_name i) ∷ []))
    → Parametric n a c (i + 1)
parametric_on {n} {a} {b} {c} {i} u h w =
    let z : n - i ≡ suc (n - (i + 1)) = omega arith in
    record {
      underway = under_turn u.underway w (ap (λ (k : ℕ). parameter_tokens (parameters_from k i) []) z ∙ rw (add-one i) (parameters_turn (n - suc i) i));
      few = omega arith;
    }

pub parametric_end : {n : ℕ} {a b : Pen} {i : ℕ} → Parametric n a b i → n ≤ i → TokensPut a b (parameter_tokens (parameters_from n 0) [])
unfolding parameter_tokens parameters_from
parametric_end {n} {a} {b} {i} u h = let e : n - i ≡ 0 = omega arith in under_end u.underway (rw e)

-- ---- parts in a row

pub viewers_there : (b : List ℕ) {x m : ℕ} → x ≡ get_or b 0 0 → x ≡ 8 → m ≡ get_or b 3 0 → mark seen_word (mark by_word (right_tokens m)) ≡ viewer_tokens b
viewers_there b e t g = sym (rw (eq-eqb (get_or b 0 0) 8 (sym e ∙ t), ← g))

pub active_parts : (n : ℕ) (bs b x h v : List ℕ) {w : ℕ} → x ≡ drop 3 b → w ≡ word_in_front x → h ≡ drop 7 b → v ≡ past_fields 5 n h
    → value_tokens (described_constant w) [] ++ (viewer_tokens v ++ handlers_tokens n bs n h) ≡ active_tokens n bs b
active_parts n bs b x h v d e f g = rw (g, f, e, d)

-- ---- the whole

pub text_parts : (s : List ℕ) (first n : ℕ) → drop first s ≡ past_fields 1 (length s) (drop 0 s) → n ≡ needed_in 0 0 0 (drop first s)
    → parameter_tokens (parameters_from n 0) []
    ++ (signals_tokens 32 0 s ++ (entries_tokens (length s) (drop first s) (length s) 0 (drop first s) ++ mark end_sign []))
    ≡ sheet_tokens s
unfolding sheet_tokens
text_parts s first n d e = rw (e, d)
