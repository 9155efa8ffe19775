-- Laws of the turns over behaviours: counting them, copying them with their names moved up, and parts written one after
-- another.
use Rattle.lib_base.proofs.Prelude.{ℕ, ◌≤◌, ◌<◌, ◌+◌, ◌-◌, zero, suc, ◌*◌, ◌≡◌, by_cases, dec_lt, refl, ◌∙◌, sym, ap, ◌≢◌, List, [], ◌∷◌, ◌++◌}
use Rattle.lib_base.proofs.Prelude.{append_assoc, append-nil, length, get_or, take, drop, length-set, set, length-append}
use Rattle.lib_base.proofs.Prelude.{length-drop, drop_of_length-le, drop-cons, take-suc-set, eqb, add-one, ne_eqb}
use Rattle.lib_base.proofs.Prelude.{arith}
use Rattle.lib_base.specs.Basics.{pick}
use Rattle.sheet_walk.specs.Fields.{after_field, cells_in_front}
use Rattle.sheet_walk.specs.Scanner.{left_after, tag_after}
use Rattle.link_events.specs.Written.{BytesWritten}
use Rattle.link_bytes.specs.Splice.{count_from, moved_byte, scan, spliced}
use Rattle.link_events.specs.Merging.{events_from, end_from}

-- ---- counting

pub record Counted (s : List ℕ) (i at c n : ℕ) : Type 0 where
  pub whole : count_from (64 - n) (drop at s) c ≡ count_from 64 (drop i s) 0
  pub inside : at ≤ length s
  pub few : c ≤ 255 * n
  pub turns : n ≤ 64

count_opens : (m : ℕ) (b : List ℕ) (c : ℕ) → count_from (suc m) b c ≡ pick (eqb (length b) 0) c (count_from m (after_field b) (c + cells_in_front b))
unfolding count_from
count_opens m b c = refl

count_none : (b : List ℕ) (c : ℕ) → count_from 0 b c ≡ c
unfolding count_from
count_none b c = refl

none_left : (m c : ℕ) → count_from m [] c ≡ c
unfolding count_from
none_left zero c = refl
none_left (suc m) c = refl

module _ {s : List ℕ} {i at c n : ℕ} (u : Counted s i at c n) where
  opened : n < 64 → count_from (64 - n) (drop at s) c ≡ pick (eqb (length (drop at s)) 0) c (count_from (64 - (n + 1)) (after_field (drop at s)) (c + cells_in_front (drop at s)))
  opened h = let z : 64 - n ≡ suc (64 - (n + 1)) = omega arith in ap (λ (m : ℕ). count_from m (drop at s) c) z ∙ count_opens (64 - (n + 1)) (drop at s) c

  pub count_on : {x y : ℕ} → n < 64 → at ≢ length s → x ≡ cells_in_front (drop at s) → x ≤ 255 → drop y s ≡ after_field (drop at s) → y ≤ length s → Counted s i y (c + x) (n + 1)
  count_on {x} {y} h e p l q g =
      let some : length (drop at s) ≢ 0 = simp length-drop (omega (arith, u.inside, e)) in
      record {
        whole = sym (opened h ∙ rw (ne_eqb (length (drop at s)) 0 some, ← p, ← q)) ∙ u.whole;
        inside = g;
        few = omega (arith, u.few);
        turns = omega arith;
      }

  pub count_end : (n < 64 → at ≡ length s) → c ≡ count_from 64 (drop i s) 0
  count_end h = sym (by_cases (dec_lt n 64) ended full) ∙ u.whole
    where
      ended : n < 64 → count_from (64 - n) (drop at s) c ≡ c
      ended l = let d : drop at s ≡ [] = drop_of_length-le s (omega (arith, h l)) in rw d (none_left (64 - n) c)

      full : (n < 64 → ⊥) → count_from (64 - n) (drop at s) c ≡ c
      full l = let z : 64 - n ≡ 0 = omega (arith, u.turns) in rw z (count_none (drop at s) c)

-- ---- copying

length_scan : (m t k : ℕ) (bs : List ℕ) → length (scan m t k bs) ≡ length bs
unfolding scan
length_scan m t k [] = refl
length_scan m t k (b ∷ bs) = ap suc (length_scan m (tag_after t k b) (left_after k b) bs)

pub record Moving (bs o₀ o : List ℕ) (m k at to tag left : ℕ) : Type 0 where
  pub whole : take to o ++ scan m tag left (drop at bs) ≡ take k o₀ ++ scan m 0 0 bs
  pub count : to ≡ k + at
  pub room : k + length bs ≤ length o₀
  pub kept : length o ≡ length o₀

pub moving_on : {bs o₀ o : List ℕ} {m k at to tag left b x y z : ℕ} → Moving bs o₀ o m k at to tag left → at < length bs → b ≡ get_or bs at 0 → x ≡ moved_byte m tag left b
    → z ≡ tag_after tag left b → y ≡ left_after left b → Moving bs o₀ (set o to x) m k (at + 1) (to + 1) z y
unfolding scan
moving_on {bs} {o₀} {o} {m} {k} {at} {to} {tag} {left} {b} {x} {y} {z} u h e p g q =
    let c = u.count in
    let r = u.room in
    let l = u.kept in
    let t : to < length o = omega arith in
    record {
      whole = rw (add-one to, add-one at, take-suc-set o to x t, append_assoc (take to o) (x ∷ []) (scan m z y (drop (suc at) bs)))
          (ap (λ (v : List ℕ). take to o ++ v) (rw (p, g, q, e) (sym (rw (drop-cons bs at 0 h)))) ∙ u.whole);
      count = omega arith;
      room = r;
      kept = rw length-set l;
    }

empty : (m t k : ℕ) → scan m t k [] ≡ []
unfolding scan
empty m t k = refl

pub moving_end : {bs o₀ o : List ℕ} {m k at to tag left : ℕ} → Moving bs o₀ o m k at to tag left → length bs ≡ at → BytesWritten o₀ k (scan m 0 0 bs) o to
moving_end {bs} {o₀} {o} {m} {k} {at} {to} {tag} {left} u h =
    let d : drop at bs ≡ [] = drop_of_length-le bs (omega arith) in
    record {
      up_to = rw (length_scan m 0 0 bs, h) u.count;
      bytes = sym (append-nil (take to o)) ∙ ap (λ (v : List ℕ). take to o ++ v) (sym (ap (scan m tag left) d ∙ empty m tag left)) ∙ u.whole;
    }

-- ---- one after another

pub in_turn_law : {o o₁ o₂ o₃ a b c : List ℕ} {i j k : ℕ} → BytesWritten o 0 a o₁ i → BytesWritten o₁ i b o₂ j → BytesWritten o₂ j c o₃ k → BytesWritten o 0 (a ++ (b ++ c)) o₃ k
in_turn_law {o} {o₁} {o₂} {o₃} {a} {b} {c} {i} {j} {k} x y z = record {
  up_to = simp length-append (omega (arith, x.up_to, y.up_to, z.up_to));
  bytes = z.bytes ∙ rw (y.bytes, x.bytes, append_assoc a b c);
}

pub spliced_is : (s t : List ℕ) {o o' : List ℕ} {i j n k : ℕ} → i ≡ end_from 32 s 0 → j ≡ end_from 32 t 0 → n ≡ count_from 64 (drop i s) 0
    → BytesWritten o 0 (events_from 32 s 0 t 0 ++ (scan 0 0 0 (drop i s) ++ scan n 0 0 (drop j t))) o' k → BytesWritten o 0 (spliced s t) o' k
unfolding spliced
spliced_is s t p q r w = rw (← p, ← q, ← r) w
