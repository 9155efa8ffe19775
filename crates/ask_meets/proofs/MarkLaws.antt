-- The code's branches on marks and sets, over plain variables.
use Rattle.lib_base.proofs.Prelude.{ℕ, ◌≤◌, ◌<◌, ◌+◌, ◌-◌, add-one, suc, zero, ◌*◌, ◌%◌, ◌/◌, ◌^◌, ◌≡◌, refl, ◌∙◌, sym, ap, true, false}
use Rattle.lib_base.proofs.Prelude.{Bool, ◌||◌, true≢false, ◌&&◌, not, or-false, or-true, and-false, and-true}
use Rattle.lib_base.proofs.Prelude.{List, length, get_or, List·getD-eq-default, eqb, ne_eqb, eqb-true, eq-eqb, eqb-false}
use Rattle.lib_base.proofs.Prelude.{take, take_all, set, get_or-set_other, get_or-set_same, by_cases, dec_lt, arith}
use native.Mathlib.Nat.{mod-lt, zero-lt-suc}
use lib.Bits.{bit_xor, xor_shr, xor_mod}
use lib.Pow.{shl_exact}
use Rattle.std.proofs.lemmas.List.{get_or_default}
use Rattle.lib_base.specs.Basics.{pick}
use Rattle.lib_base.proofs.Tools.{split, by_test}
use Rattle.lib_bits.specs.Bits.{bit}
use Rattle.draft_form.specs.Draft.{moved, used_by}
use Rattle.draft_form.proofs.DraftLaws.{used_at}
use Rattle.lib_bits.proofs.BitLaws.{bit_none, bit_one}
use Rattle.ask_meets.specs.Marks.{name_mark, push_mark, mark_step, marks_among, marks_packed}
use Rattle.ask_meets.specs.Marking.{mark_number, standing}
use denote.Enum.Bare.{sameb}
use Rattle.ask_meets.specs.contracts.Mark.{the_type}
use Rattle.ask_meets.specs.declared.Mark.{Mark}
use Rattle.ask_meets.specs.declared.Mark.TheVariants.{Apart, Names, Adds}

-- ---- names

pub name_past : (rows : List ℕ) (b j : ℕ) → length rows ≡ 64 → (j ≡ b → ⊥) → 64 ≤ j → 0 ≡ name_mark (λ k. bit (get_or rows k 0) b) b j
unfolding name_mark
name_past rows b j l n h = let k : length rows ≤ j = omega arith in rw (ne_eqb j b n, List·getD-eq-default rows 0 k, bit_none b)

-- ---- the stack

standing_length : (marks : List Mark) (k : ℕ) → length (standing marks k) ≡ k
unfolding standing
standing_length marks zero = refl
standing_length marks (suc k) = ap suc (standing_length marks k)

-- what is written above it does not count
standing_under : (marks : List Mark) (mark : Mark) (k j : ℕ) → j ≤ k → standing (set marks k mark) j ≡ standing marks j
unfolding standing
standing_under marks mark k zero h = refl
standing_under marks mark k (suc j) h =
    rw (get_or-set_other marks k j mark Apart (omega arith), standing_under marks mark k j (omega arith))

pub put_on : (marks : List Mark) (mark : Mark) (k : ℕ) → k < length marks → k < 32
    → standing (set marks k mark) (k + 1) ≡ push_mark (standing marks k) (mark_number mark)
unfolding standing push_mark
put_on marks mark k h b =
    let few : length (standing marks k) ≤ 31 = omega (arith, standing_length marks k) in
    rw (add-one k, get_or-set_same marks k mark Apart h, standing_under marks mark k k (omega arith), take_all 31 (standing marks k) few)

-- of marks that moved down by one the lowest is gone
moved_down : (marks after : List Mark) (k : ℕ) → ((j : ℕ) → j < k → get_or after j Apart ≡ get_or marks (suc j) Apart)
    → standing after k ≡ take k (standing marks (suc k))
unfolding standing
moved_down marks after zero h = refl
moved_down marks after (suc k) h = rw (h k (omega arith), moved_down marks after k (λ j l. h j (omega arith)))

pub put_full : (marks after : List Mark) (mark : Mark) (n : ℕ) → 31 < length after → 31 ≤ n
    → ((k : ℕ) (d : Mark) → 0 ≤ k → k < 0 + n → get_or after k d ≡ get_or marks (1 + (k - 0)) d)
    → standing (set after 31 mark) 32 ≡ push_mark (standing marks 32) (mark_number mark)
unfolding standing push_mark
put_full marks after mark n l r h =
    let moved : (j : ℕ) → j < 31 → get_or after j Apart ≡ get_or marks (suc j) Apart =
    λ j b. let e : 1 + (j - 0) ≡ suc j = omega arith in h j Apart (omega arith) (omega arith) ∙ ap (λ (i : ℕ). get_or marks i Apart) e in
    rw (get_or-set_same after 31 mark Apart l, standing_under after mark 31 31 (omega arith), moved_down marks after 31 moved)

-- ---- the stack as a number

-- it grows with the marks
number_grows : (marks : List Mark) (j k : ℕ) → j ≤ k → marks_packed (standing marks j) ≤ marks_packed (standing marks k)
unfolding standing marks_packed
number_grows marks j zero h = let e : j ≡ 0 = omega arith in rw e (omega arith)
number_grows marks j (suc k) h =
    by_cases (dec_lt k j)
    (λ l. let e : j ≡ suc k = omega arith in rw e (omega arith))
    (λ l. let g = number_grows marks j k (omega arith) in omega arith)

most : (m : Mark) → mark_number m ≤ 3
most Apart = omega arith
most Names = omega arith
most Adds = omega arith

same_number : (m n : Mark) → sameb the_type m n ≡ eqb (mark_number m) (mark_number n)
same_number Apart Apart = refl
same_number Apart Names = refl
same_number Apart Adds = refl
same_number Names Apart = refl
same_number Names Names = refl
same_number Names Adds = refl
same_number Adds Apart = refl
same_number Adds Names = refl
same_number Adds Adds = refl

-- an empty stack is that of what does not name the behaviour
pub none_is : (marks : List Mark) (k : ℕ) (m : Mark) → k ≡ 0 → sameb the_type m Apart ≡ eqb (marks_packed (standing marks k)) (mark_number m)
unfolding standing marks_packed
none_is marks k Apart e = rw e
none_is marks k Names e = rw e
none_is marks k Adds e = rw e

-- a mark on those that do not name it
apart_number : (x : Mark) → not (sameb the_type x Apart) ≡ false → mark_number x ≡ 0
apart_number Apart t = refl
apart_number Names t = absurd (true≢false t)
apart_number Adds t = absurd (true≢false t)

naming_number : (x : Mark) → not (sameb the_type x Apart) ≡ true → 0 < mark_number x
naming_number Apart t = absurd (true≢false (sym t))
naming_number Names t = omega arith
naming_number Adds t = omega arith

one_more : (marks : List Mark) (k : ℕ) → marks_packed (standing marks (suc k)) ≡ marks_packed (standing marks k) * 4 + mark_number (get_or marks k Apart)
unfolding standing marks_packed
one_more marks k = refl

-- what is read at a place of the array, whatever stands for a place past its end
read : (marks : List Mark) (k : ℕ) (x D : Mark) → k < length marks → x ≡ get_or marks k D → mark_number (get_or marks k Apart) ≡ mark_number x
read marks k x D l e = ap mark_number (get_or_default marks k Apart D l ∙ sym e)

pub still_none : (marks : List Mark) (k : ℕ) (x D : Mark) → marks_packed (standing marks k) ≡ 0 → k < length marks → x ≡ get_or marks k D
    → not (sameb the_type x Apart) ≡ false → marks_packed (standing marks (k + 1)) ≡ 0
still_none marks k x D h l e t = rw (add-one k) (omega (arith, one_more marks k, h, read marks k x D l e, apart_number x t))

-- one below the topmost that names it makes the number more than a mark's
pub some_below : (marks : List Mark) (j top k : ℕ) (x m D : Mark) → k ≡ suc top → j < top → j < length marks → x ≡ get_or marks j D
    → not (sameb the_type x Apart) ≡ true → false ≡ eqb (marks_packed (standing marks k)) (mark_number m)
some_below marks j top k x m D q h l e t =
    let g : marks_packed (standing marks (suc j)) ≤ marks_packed (standing marks top) = number_grows marks (suc j) top (omega arith) in
    let large : 3 < marks_packed (standing marks (suc top)) = omega (arith, one_more marks j, one_more marks top, read marks j x D l e, g, naming_number x t) in
    rw q (sym (ne_eqb (marks_packed (standing marks (suc top))) (mark_number m) (λ p. omega (arith, most m, large, p))))

-- with none below it the number is that of the topmost
pub top_is_all : (marks : List Mark) (j top k : ℕ) (x m D : Mark) → k ≡ suc top → marks_packed (standing marks j) ≡ 0 → top ≤ j → top < length marks
    → x ≡ get_or marks top D → sameb the_type x m ≡ eqb (marks_packed (standing marks k)) (mark_number m)
top_is_all marks j top k x m D q h r l e =
    let v : marks_packed (standing marks (suc top)) ≡ mark_number x = omega (arith, one_more marks top, number_grows marks top j r, h, read marks top x D l e) in
    rw (q, v) (same_number x m)

-- ---- nodes

-- node k of those from `start` on, as behaviour i means it
pub node_marked : (d rows : List ℕ) (i start k : ℕ) {s next : List ℕ} {x : ℕ} → s ≡ marks_among (λ j. bit (get_or rows j 0) i) i (used_by d i) start k
    → x ≡ moved d i (get_or d (start + k) 0) → next ≡ mark_step (λ j. bit (get_or rows j 0) i) i s x
    → next ≡ marks_among (λ j. bit (get_or rows j 0) i) i (used_by d i) start (k + 1)
unfolding marks_among
node_marked d rows i start k t q e = rw (add-one k, e, q, t, used_at d i (start + k))

-- ---- a set without a number

differ_digit : (x y : ℕ) → x < 2 → y < 2 → (eqb y 1 ≡ true → eqb x 1 ≡ true) → eqb (bit_xor x y) 1 ≡ eqb x 1 && not (eqb y 1)
differ_digit zero zero h k i = refl
differ_digit zero (suc zero) h k i = absurd (true≢false (sym (i refl)))
differ_digit zero (suc (suc y)) h k i = absurd (omega arith)
differ_digit (suc zero) zero h k i = refl
differ_digit (suc zero) (suc zero) h k i = refl
differ_digit (suc zero) (suc (suc y)) h k i = absurd (omega arith)
differ_digit (suc (suc x)) y h k i = absurd (omega arith)

-- of a set that has all of b
bit_less : (a b i : ℕ) → (bit b i ≡ true → bit a i ≡ true) → bit (bit_xor a b) i ≡ bit a i && not (bit b i)
unfolding bit
bit_less a b i h =
    ap (λ (x : ℕ). eqb (x % 2) 1) (xor_shr a b i)
    ∙ ap (λ (x : ℕ). eqb x 1) (xor_mod (a / 2 ^ i) (b / 2 ^ i) 1)
    ∙ differ_digit (a / 2 ^ i % 2) (b / 2 ^ i % 2) (mod-lt (a / 2 ^ i) (zero-lt-suc 1)) (mod-lt (b / 2 ^ i) (zero-lt-suc 1)) h

pub removed : (a j i : ℕ) {t : Bool} → j < 64 → t ≡ bit a j → t ≡ true → bit (bit_xor a ((1 * 2 ^ j) % 2 ^ 64)) i ≡ bit a i && not (eqb i j)
removed a j i h q e =
    let s : (1 * 2 ^ j) % 2 ^ 64 ≡ 1 * 2 ^ j = shl_exact 1 j 64 (omega arith) (omega arith) in
    let t : 1 * 2 ^ j ≡ 2 ^ j = omega arith in
    let z : (1 * 2 ^ j) % 2 ^ 64 ≡ 2 ^ j = s ∙ t in
    let own : bit (2 ^ j) i ≡ true → bit a i ≡ true = λ u. let k : i ≡ j = eqb-true i j (sym (bit_one i j) ∙ u) in rw k (sym q ∙ e) in
    rw z (bit_less a (2 ^ j) i own ∙ rw (bit_one i j))

pub not_there : (a j i : ℕ) {t : Bool} → t ≡ bit a j → t ≡ false → bit a i ≡ bit a i && not (eqb i j)
not_there a j i q e =
    split (eqb i j)
    (λ u. let k : i ≡ j = eqb-true i j u in rw (u, and-false (bit a i), k) (sym q ∙ e))
    (λ u. rw (u, and-true (bit a i)))

-- ---- a set with a number or without it

eqb_turned : (i j : ℕ) → eqb j i ≡ eqb i j
eqb_turned i j =
    split (eqb i j) (λ t. eq-eqb j i (sym (eqb-true i j t)) ∙ sym t) (λ t. ne_eqb j i (λ q. eqb-false i j t (sym q)) ∙ sym t)

pub put_in : (set next i j : ℕ) (t : Bool) → t ≡ true → bit next j ≡ bit set j || eqb j i → bit next j ≡ pick (eqb i j) t (bit set j)
put_in set next i j t h e =
    e ∙ rw (eqb_turned i j, h) (by_test (λ x. bit set j || eqb i j ≡ x) (eqb i j) (λ u. rw (u, or-true (bit set j))) (λ u. rw (u, or-false (bit set j))))

pub put_out : (set next i j : ℕ) (t : Bool) → t ≡ false → bit next j ≡ bit set j && not (eqb j i) → bit next j ≡ pick (eqb i j) t (bit set j)
put_out set next i j t h e =
    e ∙ rw (eqb_turned i j, h) (by_test (λ x. bit set j && not (eqb i j) ≡ x) (eqb i j) (λ u. rw (u, and-false (bit set j))) (λ u. rw (u, and-true (bit set j))))
