-- The events worked out from the bytes of two sheets are those of the pooled sheet, in as many turns as the longer list
-- has events. By induction on the turns: each looks at the front of what is left.
use Rattle.lib_base.proofs.Prelude.{ℕ, ◌≤◌, ◌+◌, ◌-◌, suc, zero, ◌%◌, ◌/◌, ◌≡◌, refl, ◌∙◌, sym, ap, false, Option, some}
use Rattle.lib_base.proofs.Prelude.{none, List, [], ◌∷◌, ◌++◌, append_assoc, length, get_or, drop, get_or-drop, drop-drop}
use Rattle.lib_base.proofs.Prelude.{eqb, ne_eqb, le-ltb, arith}
use lib.Bits.{and_le_l, and_le_r}
use Rattle.lib_base.specs.Basics.{All}
use Rattle.spec_language.specs.Sheet.{Item, formula, state, row, Signal, Entry}
use Rattle.spec_language.specs.Grammar.{field, tag_of, encode_item, encode_viewer, encode_sender, encode_event, encode_events, encode_behaviours, ByteFits, SignalFits}
use Rattle.link_pooled.specs.Pooled.{merged_by_number, both_send, pool_signal, pool_signals, same_ranks}
use Rattle.link_pooled.proofs.Bits.{both_missing}
use Rattle.sheet_field.specs.Field.{field_of}
use Rattle.sheet_write.specs.Writes.{event_bytes}
use Rattle.link_events.specs.Merging.{width_at, rank_at, sender_at, merged, pair_bytes, events_from, end_from, agree_from}

-- ---- at a place as at the front of what follows it

module _ (s : List ℕ) (i : ℕ) where
  byte_drop : (n : ℕ) → get_or (drop i s) n 0 ≡ get_or s (i + n) 0
  byte_drop n = get_or-drop i s n 0

  width_drop : width_at s i ≡ width_at (drop i s) 0
  unfolding width_at
  width_drop = refl

  rank_drop : (w : ℕ) → rank_at s i w ≡ rank_at (drop i s) 0 w
  unfolding rank_at
  rank_drop w = rw (byte_drop 3)

  sender_drop : (w : ℕ) → sender_at s i w ≡ sender_at (drop i s) 0 w
  unfolding sender_at
  sender_drop w = rw (byte_drop 4)

-- ---- what stands at the front

-- no event
abbrev pub Ends : List ℕ → Type 0
Ends l = width_at l 0 ≡ 0

other_tag : (x : Item) (h l : ℕ) (rest : List ℕ) → width_at (tag_of x ∷ h ∷ l ∷ rest) 0 ≡ 0
unfolding width_at field_of
other_tag (formula x) h l rest = rw (le-ltb (suc (suc (suc (length rest)))) 3 (omega arith))
other_tag (state s cs) h l rest = rw (le-ltb (suc (suc (suc (length rest)))) 3 (omega arith))
other_tag (row c s cs) h l rest = rw (le-ltb (suc (suc (suc (length rest)))) 3 (omega arith))

none_there : width_at [] 0 ≡ 0
unfolding width_at field_of
none_there = refl

pub behaviours_end : (xs : List Entry) → Ends (encode_behaviours xs)
unfolding encode_behaviours
behaviours_end [] = none_there
behaviours_end (x ∷ xs) =
    let v : List ℕ = encode_item x.item ++ encode_viewer x.viewer in other_tag x.item (length v / 256) (length v % 256) (v ++ encode_behaviours xs)

width_of : Option ℕ → ℕ
width_of none = 4
width_of (some m) = 5

code_of : Option ℕ → ℕ
code_of none = 256
code_of (some m) = m

module _ (r : ℕ) (rest : List ℕ) where
  width_event : (m : Option ℕ) → width_at (field 1 (r ∷ encode_sender m) ++ rest) 0 ≡ width_of m
  unfolding width_at field_of width_of
  width_event none = rw (le-ltb (suc (suc (suc (suc (length rest))))) 3 (omega arith), le-ltb (suc (suc (suc (suc (length rest)))) - 3) 1 (omega arith))
  width_event (some m) = rw (le-ltb (suc (suc (suc (suc (suc (length rest)))))) 3 (omega arith), le-ltb (suc (suc (suc (suc (suc (length rest))))) - 3) 2 (omega arith))

  drop_event : (m : Option ℕ) → drop (width_of m) (field 1 (r ∷ encode_sender m) ++ rest) ≡ rest
  unfolding width_of
  drop_event none = refl
  drop_event (some m) = refl

  rank_event : (m : Option ℕ) → rank_at (field 1 (r ∷ encode_sender m) ++ rest) 0 (width_of m) ≡ r
  unfolding rank_at width_of
  rank_event none = refl
  rank_event (some m) = refl

  sender_event : (m : Option ℕ) → sender_at (field 1 (r ∷ encode_sender m) ++ rest) 0 (width_of m) ≡ code_of m
  unfolding sender_at width_of code_of
  sender_event none = refl
  sender_event (some m) = refl

sender_none : (l : List ℕ) → sender_at l 0 0 ≡ 256
unfolding sender_at
sender_none l = refl

-- ---- the field of both

bytes_of : (r : ℕ) (o : Option ℕ) → ByteFits o → event_bytes r (code_of o) ≡ field 1 (r ∷ encode_sender o)
unfolding event_bytes code_of
bytes_of r none h = refl
bytes_of r (some m) h = let z : m % 256 ≡ m = omega arith in rw (ne_eqb m 256 (λ e. omega arith), z)

merged_both : (a b : Option ℕ) → ByteFits a → ByteFits b → merged (code_of a) (code_of b) ≡ code_of (both_send a b)
unfolding merged code_of
merged_both none none h g = refl
merged_both none (some b) h g = sym (both_missing b g).0
merged_both (some a) none h g = rw (ne_eqb a 256 (λ e. omega arith)) (sym (both_missing a h).1)
merged_both (some a) (some b) h g = rw (ne_eqb a 256 (λ e. omega arith), ne_eqb b 256 (λ e. omega arith))

both_byte : (a b : Option ℕ) → ByteFits a → ByteFits b → ByteFits (both_send a b)
both_byte none none h g = tt
both_byte none (some b) h g = omega (arith, and_le_r 255 b)
both_byte (some a) none h g = omega (arith, and_le_l a 255)
both_byte (some a) (some b) h g = omega (arith, and_le_l a b)

merged_first : (a : Option ℕ) → ByteFits a → merged (code_of a) 256 ≡ code_of a
unfolding merged code_of
merged_first none h = refl
merged_first (some a) h = rw (ne_eqb a 256 (λ e. omega arith))

merged_second : (b : Option ℕ) → merged 256 (code_of b) ≡ code_of b
unfolding merged code_of
merged_second b = refl

-- ---- one turn

record Event (s : List ℕ) (i : ℕ) (a : Signal) : Type 0 where
  wide : width_at s i ≡ width_of a.sender
  ranked : rank_at s i (width_at s i) ≡ a.priority
  sent : sender_at s i (width_at s i) ≡ code_of a.sender

record Bare (s : List ℕ) (i : ℕ) : Type 0 where
  wide : width_at s i ≡ 0
  sent : sender_at s i (width_at s i) ≡ 256

module _ (s : List ℕ) (i : ℕ) (es : List ℕ) where
  bare : Ends es → drop i s ≡ es → Bare s i
  bare h q =
      let w : width_at s i ≡ 0 = width_drop s i ∙ ap (λ (u : List ℕ). width_at u 0) q ∙ h in
      record { wide = w; sent = sender_drop s i (width_at s i) ∙ rw (w, sender_none (drop i s)) }

  onward_bare : Ends es → drop i s ≡ es → drop (i + width_at s i) s ≡ es
  onward_bare h q = let z : i + 0 ≡ i = omega arith in ap (λ (w : ℕ). drop (i + w) s) (bare h q).wide ∙ ap (λ (k : ℕ). drop k s) z ∙ q

  module _ (a : Signal) (k : List Signal) (q : drop i s ≡ encode_events (a ∷ k) ++ es) where
    front : drop i s ≡ encode_event a ++ (encode_events k ++ es)
    unfolding encode_events
    front = q ∙ append_assoc (encode_event a) (encode_events k) es

    present : Event s i a
    present =
        let rest : List ℕ = encode_events k ++ es in
        let w : width_at s i ≡ width_of a.sender = width_drop s i ∙ ap (λ (u : List ℕ). width_at u 0) front ∙ width_event a.priority rest a.sender in
        record {
          wide = w;
          ranked = rank_drop s i (width_at s i) ∙ rw (w, front) (rank_event a.priority rest a.sender);
          sent = sender_drop s i (width_at s i) ∙ rw (w, front) (sender_event a.priority rest a.sender);
        }

    onward_event : drop (i + width_at s i) s ≡ encode_events k ++ es
    onward_event =
        sym (drop-drop (width_at s i) i s) ∙ rw (present.wide, front) (drop_event a.priority (encode_events k ++ es) a.sender)

wide_some : (o : Option ℕ) → eqb (width_of o) 0 ≡ false
unfolding width_of
wide_some none = refl
wide_some (some m) = refl

module _ {s t : List ℕ} {i j : ℕ} where
  pair_bare : Bare s i → Bare t j → pair_bytes s i (width_at s i) t j (width_at t j) ≡ []
  unfolding pair_bytes
  pair_bare x y = rw (x.wide, y.wide)

  pair_first : {a : Signal} → Event s i a → Bare t j → ByteFits a.sender → pair_bytes s i (width_at s i) t j (width_at t j) ≡ encode_event a
  unfolding pair_bytes
  pair_first {a} x y f =
      rw (x.sent, y.sent, x.ranked, x.wide, wide_some a.sender, merged_first a.sender f) (bytes_of a.priority a.sender f)

  pair_second : {b : Signal} → Bare s i → Event t j b → ByteFits b.sender → pair_bytes s i (width_at s i) t j (width_at t j) ≡ encode_event b
  unfolding pair_bytes
  pair_second {b} x y f =
      rw (x.sent, y.sent, y.ranked, x.wide, y.wide, wide_some b.sender, merged_second b.sender) (bytes_of b.priority b.sender f)

  pair_both : {a b : Signal} → Event s i a → Event t j b → ByteFits a.sender → ByteFits b.sender → pair_bytes s i (width_at s i) t j (width_at t j) ≡ encode_event (pool_signal a b)
  unfolding pair_bytes
  pair_both {a} {b} x y f g =
      rw (x.sent, y.sent, x.ranked, x.wide, wide_some a.sender, merged_both a.sender b.sender f g) (bytes_of a.priority (both_send a.sender b.sender) (both_byte a.sender b.sender f g))

-- ---- all turns

shared_none : {A : Type 0} (f : A → A → A) (k : List A) → merged_by_number f k [] ≡ k
unfolding merged_by_number
shared_none f [] = refl
shared_none f (a ∷ k) = refl

module _ (es fs : List ℕ) (ends : Ends es) (endt : Ends fs) where
  pub events_are : (n : ℕ) (k l : List Signal) (s t : List ℕ) (i j : ℕ) → drop i s ≡ encode_events k ++ es → drop j t ≡ encode_events l ++ fs → All SignalFits k → All SignalFits l
      → length k ≤ n → length l ≤ n → events_from n s i t j ≡ encode_events (pool_signals k l)
  unfolding events_from encode_events merged_by_number
  events_are zero [] [] s t i j p q f g x y = refl
  events_are zero [] (b ∷ l) s t i j p q f g x y = absurd (omega arith)
  events_are zero (a ∷ k) l s t i j p q f g x y = absurd (omega arith)
  events_are (suc n) [] [] s t i j p q f g x y =
      rw (pair_bare (bare s i es ends p) (bare t j fs endt q))
      (events_are n [] [] s t (i + width_at s i) (j + width_at t j) (onward_bare s i es ends p) (onward_bare t j fs endt q) f g (omega arith) (omega arith))
  events_are (suc n) (a ∷ k) [] s t i j p q f g x y =
      rw (pair_first (present s i es a k p) (bare t j fs endt q) f.0.1)
      (ap (λ (l : List ℕ). encode_event a ++ l)
      (events_are n k [] s t (i + width_at s i) (j + width_at t j) (onward_event s i es a k p) (onward_bare t j fs endt q) f.1 g (omega arith) (omega arith)
      ∙ ap encode_events (shared_none pool_signal k)))
  events_are (suc n) [] (b ∷ l) s t i j p q f g x y =
      rw (pair_second (bare s i es ends p) (present t j fs b l q) g.0.1)
      (ap (λ (l : List ℕ). encode_event b ++ l)
      (events_are n [] l s t (i + width_at s i) (j + width_at t j) (onward_bare s i es ends p) (onward_event t j fs b l q) f g.1 (omega arith) (omega arith)))
  events_are (suc n) (a ∷ k) (b ∷ l) s t i j p q f g x y =
      rw (pair_both (present s i es a k p) (present t j fs b l q) f.0.1 g.0.1)
      (ap (λ (l : List ℕ). encode_event (pool_signal a b) ++ l)
      (events_are n k l s t (i + width_at s i) (j + width_at t j) (onward_event s i es a k p) (onward_event t j fs b l q) f.1 g.1 (omega arith) (omega arith)))

  -- "26 when the sheets give one event different ranks"
  pub ranks_are : (n : ℕ) (k l : List Signal) (s t : List ℕ) (i j : ℕ) → drop i s ≡ encode_events k ++ es → drop j t ≡ encode_events l ++ fs
      → length k ≤ n → length l ≤ n → agree_from n s i t j ≡ same_ranks k l
  unfolding agree_from same_ranks encode_events
  ranks_are zero [] l s t i j p q x y = refl
  ranks_are zero (a ∷ k) l s t i j p q x y = absurd (omega arith)
  ranks_are (suc n) [] l s t i j p q x y = rw (bare s i es ends p).wide
  ranks_are (suc n) (a ∷ k) [] s t i j p q x y = rw ((present s i es a k p).wide, wide_some a.sender, (bare t j fs endt q).wide)
  ranks_are (suc n) (a ∷ k) (b ∷ l) s t i j p q x y =
      let u = present s i es a k p in
      let w = present t j fs b l q in
      rw (
        u.ranked,
        w.ranked,
        ap (λ (z : ℕ). eqb z 0) u.wide ∙ wide_some a.sender,
        ap (λ (z : ℕ). eqb z 0) w.wide ∙ wide_some b.sender,
        ranks_are n k l s t (i + width_at s i) (j + width_at t j) (onward_event s i es a k p) (onward_event t j fs b l q) (omega arith) (omega arith),
      )

-- after them the behaviours stand
module _ (es : List ℕ) (ends : Ends es) where
  pub end_is : (n : ℕ) (k : List Signal) (s : List ℕ) (i : ℕ) → drop i s ≡ encode_events k ++ es → length k ≤ n → drop (end_from n s i) s ≡ es
  unfolding end_from encode_events
  end_is zero [] s i p x = p
  end_is zero (a ∷ k) s i p x = absurd (omega arith)
  end_is (suc n) [] s i p x = end_is n [] s (i + width_at s i) (onward_bare s i es ends p) (omega arith)
  end_is (suc n) (a ∷ k) s i p x = end_is n k s (i + width_at s i) (onward_event s i es a k p) (omega arith)
