-- Laws of reading at a place, and of the loop over fields of a tag: what is left to do from the place on is what there
-- was to do at the start.
use Rattle.lib_base.proofs.Prelude.{ℕ, ◌≤◌, ◌<◌, ◌+◌, ◌-◌, ◌*◌, zero, suc, ◌≡◌, refl, ◌∙◌, sym, ap, ◌≢◌, List, [], length, get_or, take}
use Rattle.lib_base.proofs.Prelude.{drop, length-drop, drop_of_length-le, get_or-drop}
use Rattle.lib_base.proofs.Prelude.{drop-drop, take-length, eqb, ltb, ne_eqb, le-ltb, eq-eqb, ltb-true, arith}
use lib.Seq.{drop-length}
use Rattle.lib_base.specs.Basics.{pick}
use Rattle.lib_base.proofs.Tools.{split}
use Rattle.sheet_field.specs.Field.{Field, stated, field_of}
use Rattle.std.specs.Prelude.{Ok, Err}
use Rattle.spec_language.specs.declared.refusals.Refusal.{Refusal}
use Rattle.sheet_field.specs.declared.Header.{Header}
use Rattle.sheet_walk.specs.Fields.{after_field, past_fields, WalkDone, WentOn}

-- what is left of a number of turns
pub turns : (left : ℕ) → 0 < left → left ≡ suc (left - 1)
turns left h = omega arith

-- the slice from a place on, as a range of it is read
pub rest_is : (s : List ℕ) (at : ℕ) → take (length s - at) (drop at s) ≡ drop at s
rest_is s at = ap (λ (n : ℕ). take n (drop at s)) (sym (length-drop at s)) ∙ take-length (drop at s)

-- ---- behind a field, by the field reader

abbrev place_after : ℕ → ℕ → Field → ℕ
place_after at size (Ok h) = at + h.size + 3
place_after at size (Err r) = size

module _ (s : List ℕ) (at : ℕ) (h : at ≤ length s) (byte : get_or s at 0 < 256) {a : Field} (e : a ≡ field_of (take (length s - at) (drop at s)) 0 255) where
  past_end : length (drop at s) ≤ stated (drop at s) + 3 → drop (length s) s ≡ after_field (drop at s)
  past_end l = drop-length s ∙ sym (drop_of_length-le (drop at s) l)

  after_is : drop (place_after at (length s) a) s ≡ after_field (drop at s)
  unfolding field_of
  after_is =
      let b : List ℕ = drop at s in
      let l : length b ≡ length s - at = length-drop at s in
      let all : take (length s - at) b ≡ b = rest_is s at in
      let first : get_or b 0 0 ≡ get_or s at 0 = get_or-drop at s 0 0 ∙ ap (λ (n : ℕ). get_or s n 0) (omega arith) in
      let m : ℕ = stated b in
      rw (e, all, le-ltb (get_or b 0 0) 0 (omega arith), le-ltb 255 (get_or b 0 0) (omega arith))
      (split (ltb (length b) 3) (λ t. rw t (past_end (omega (arith, ltb-true (length b) 3 t))))
      (λ t. split (ltb (length b - 3) m)
      (λ u. rw (t, u) (past_end (omega (arith, ltb-true (length b - 3) m u))))
      (λ u. rw (t, u) (let z : at + (m + 3) ≡ at + m + 3 = omega arith in sym (drop-drop (m + 3) at s ∙ ap (λ (n : ℕ). drop n s) z)))))

  pub after_refused : {r : Refusal} → a ≡ Err r → drop (length s) s ≡ after_field (drop at s)
  after_refused q = sym (ap (λ (f : Field). drop (place_after at (length s) f) s) q) ∙ after_is

  pub after_value : {f : Header} → a ≡ Ok f → drop (at + f.size + 3) s ≡ after_field (drop at s)
  after_value q = sym (ap (λ (f : Field). drop (place_after at (length s) f) s) q) ∙ after_is

-- a field has a byte at least
pub moves_on : (s : List ℕ) (at to : ℕ) → at < length s → drop to s ≡ after_field (drop at s) → to ≤ length s → at < to
moves_on s at to h d l =
    let b : List ℕ = drop at s in
    let e : length s - to ≡ length s - at - (get_or b 1 0 * 256 + get_or b 2 0 + 3) =
    sym (length-drop to s) ∙ (ap length d ∙ (length-drop (get_or b 1 0 * 256 + get_or b 2 0 + 3) b ∙ ap (λ (n : ℕ). n - (get_or b 1 0 * 256 + get_or b 2 0 + 3)) (length-drop at s))) in
    omega arith

-- ---- a walk over the fields of s, after n turns: it is in t at the place `at`

pub record Going (s t : List ℕ) (at n : ℕ) : Type 0 where
  pub sheet : t ≡ s
  pub passed : n ≤ at
  pub inside : at ≤ length s

module _ {s t t' : List ℕ} {at x to n : ℕ} (u : Going s t at n) (g : WentOn t at x t' to) where
  pub going_on : Going s t' to (n + 1)
  going_on = record {
    sheet = g.sheet ∙ u.sheet;
    passed = omega (arith, u.passed, g.on);
    inside = rw (← u.sheet) g.inside;
  }

  pub going_behind : drop to s ≡ after_field (drop x s)
  going_behind = rw (g.place, ← u.sheet) g.behind

  pub going_within : x < length s
  going_within = rw (g.place, ← u.sheet) (omega (arith, g.on, g.inside))

  pub going_left : 0 < length s - n
  going_left = omega (arith, u.passed, going_within, g.place)

pub going_ends : {s t t' : List ℕ} {at to n : ℕ} → Going s t at n → WalkDone t at t' to → at ≡ length s
going_ends u g = g.end ∙ ap length u.sheet

-- ---- past the fields of a tag

pub record Passing (s : List ℕ) (from tag at left : ℕ) : Type 0 where
  pub whole : past_fields tag left (drop at s) ≡ past_fields tag (length s) (drop from s)
  pub inside : at ≤ length s

past_opens : (t k : ℕ) (b : List ℕ) → past_fields t (suc k) b ≡ pick (eqb (get_or b 0 0) t) (past_fields t k (after_field b)) b
unfolding past_fields
past_opens t k b = refl

past_end_of_all : (t k : ℕ) → past_fields t k [] ≡ []
unfolding past_fields
past_end_of_all t zero = refl
past_end_of_all t (suc k) = split (eqb 0 t) (λ e. rw e (past_end_of_all t k)) (λ e. rw e refl)

pub passing_on : {s : List ℕ} {from tag at left x y : ℕ} → Passing s from tag at left → 0 < left → x ≡ get_or (drop at s) 0 0 → x ≡ tag
    → drop y s ≡ after_field (drop at s) → y ≤ length s → Passing s from tag y (left - 1)
passing_on {s} {from} {tag} {at} {left} {x} {y} u h e t d l = record {
  whole =
      sym (ap (λ (k : ℕ). past_fields tag k (drop at s)) (turns left h)
      ∙ (past_opens tag (left - 1) (drop at s) ∙ rw (eq-eqb (get_or (drop at s) 0 0) tag (sym e ∙ t), ← d)))
      ∙ u.whole;
  inside = l;
}

pub passing_stops : {s : List ℕ} {from tag at left x : ℕ} → Passing s from tag at left → 0 < left → x ≡ get_or (drop at s) 0 0 → x ≢ tag
    → drop at s ≡ past_fields tag (length s) (drop from s)
passing_stops {s} {from} {tag} {at} {left} {x} u h e t =
    sym (ap (λ (k : ℕ). past_fields tag k (drop at s)) (turns left h)
    ∙ (past_opens tag (left - 1) (drop at s) ∙ rw (ne_eqb (get_or (drop at s) 0 0) tag (λ q. t (e ∙ q)))))
    ∙ u.whole

pub passing_ends : {s : List ℕ} {from tag at left : ℕ} → Passing s from tag at left → at ≡ length s → drop (length s) s ≡ past_fields tag (length s) (drop from s)
passing_ends {s} {from} {tag} {at} {left} u h =
    let d : drop at s ≡ [] = drop_of_length-le s (omega arith) in
    drop-length s ∙ (sym (rw d (past_end_of_all tag left)) ∙ u.whole)
