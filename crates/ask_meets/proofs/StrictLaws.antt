-- What an event is strict about, from the sets and marks that the code has: bit by bit.
use Rattle.lib_base.proofs.Prelude.{ℕ, ◌≤◌, ◌<◌, ◌≡◌, ◌∙◌, sym, ap, true, false, Bool, ◌||◌, ◌&&◌, not, or-false, List}
use Rattle.lib_base.proofs.Prelude.{get_or, eqb, leb, arith}
use Rattle.lib_base.specs.Basics.{pick}
use Rattle.lib_bits.specs.Bits.{bit, Gathers}
use Rattle.draft_form.specs.Draft.{entry_of, used_by}
use Rattle.draft_form.specs.Entry.{entry_kind, entry_start, entry_count}
use Rattle.check_graph.specs.Any.{any_below}
use Rattle.check_graph.proofs.Any.{any_same}
use Rattle.check_reads.specs.Sets.{named_among, names_on, writes_on, closed_by}
use Rattle.ask_leak.specs.Leaking.{names_any}
use Rattle.ask_meets.specs.Strict.{cone_on, mark_in, adds_on, refers_on, strict_at_on}

-- ---- by one handler

refers_is : (d rows : List ℕ) (n e i v names set j : ℕ) → n ≤ 64 → v ≡ entry_of d e i → j < 64
    → Gathers 64 names (λ j. named_among (used_by d i) j (entry_start v) (entry_count v))
    → bit set j ≡ bit names j || any_below n (λ k. bit names k && bit (get_or rows k 0) j) → bit set j ≡ refers_on d rows n e i j
unfolding refers_on names_on
refers_is d rows n e i v names set j few q b g h =
    h
    ∙ rw (← q)
    (ap (λ (x : Bool). x || any_below n (λ k. bit names k && bit (get_or rows k 0) j)) (g j b)
    ∙ ap (λ (x : Bool). named_among (used_by d i) j (entry_start v) (entry_count v) || x)
    (any_same n (λ k. bit names k && bit (get_or rows k 0) j) (λ k. named_among (used_by d i) k (entry_start v) (entry_count v) && bit (get_or rows k 0) j)
    (λ k c. rw (g k (omega arith)))))

pub strict_is : (d rows : List ℕ) (n i v names set m next : ℕ) → n ≤ 64 → Gathers 64 names (λ j. named_among (used_by d i) j (entry_start v) (entry_count v))
    → Gathers 64 set (λ j. bit names j || any_below n (λ k. bit names k && bit (get_or rows k 0) j)) → m ≡ mark_in d rows i v
    → ((j : ℕ) → bit next j ≡ pick (eqb i j) (not (eqb m 3)) (bit set j)) → (e : ℕ) → v ≡ entry_of d e i → Gathers 64 next (strict_at_on d rows n e i)
unfolding strict_at_on adds_on
strict_is d rows n i v names set m next few g h k p e q j b =
    p j
    ∙ ap (λ (x : Bool). pick (eqb i j) (not (eqb m 3)) x) (refers_is d rows n e i v names set j few q b g (h j b))
    ∙ ap (λ (x : ℕ). pick (eqb i j) (not (eqb x 3)) (refers_on d rows n e i j)) (k ∙ ap (mark_in d rows i) q)

-- ---- where it is a handler of one of the cone

pub joins : (d rows : List ℕ) (n set cone i v names next : ℕ) {t : Bool} → t ≡ bit cone i → t ≡ true → leb 2 (entry_kind v) ≡ true
    → ((e : ℕ) → v ≡ entry_of d e i → Gathers 64 names (strict_at_on d rows n e i)) → ((j : ℕ) → bit next j ≡ bit set j || bit names j)
    → (e : ℕ) → v ≡ entry_of d e i → Gathers 64 next (λ j. bit set j || ((bit cone i && leb 2 (entry_kind v)) && strict_at_on d rows n e i j))
joins d rows n set cone i v names next q s k g u e w j b = rw (← q, s, k, ← g e w j b) (u j)

pub no_handler : (d rows : List ℕ) (n set cone i v : ℕ) {t : Bool} → t ≡ bit cone i → t ≡ true → leb 2 (entry_kind v) ≡ false
    → (e : ℕ) → v ≡ entry_of d e i → Gathers 64 set (λ j. bit set j || ((bit cone i && leb 2 (entry_kind v)) && strict_at_on d rows n e i j))
no_handler d rows n set cone i v q s k e w j b = rw (← q, s, k) (sym (or-false (bit set j)))

pub outside : (d rows : List ℕ) (n set cone i v : ℕ) {t : Bool} → t ≡ bit cone i → t ≡ false
    → (e : ℕ) → v ≡ entry_of d e i → Gathers 64 set (λ j. bit set j || ((bit cone i && leb 2 (entry_kind v)) && strict_at_on d rows n e i j))
outside d rows n set cone i v q s e w j b = rw (← q, s) (sym (or-false (bit set j)))

-- one handler more
pub one_handler : (d rows : List ℕ) (n set cone e i v next : ℕ) → v ≡ entry_of d e i
    → ((f : ℕ) → v ≡ entry_of d f i → Gathers 64 next (λ j. bit set j || ((bit cone i && leb 2 (entry_kind v)) && strict_at_on d rows n f i j)))
    → (j : ℕ) → j < 64 → bit next j ≡ bit set j || ((bit cone i && writes_on d e i) && strict_at_on d rows n e i j)
unfolding writes_on
one_handler d rows n set cone e i v next q g j b = rw (← q) (g e q j b)

-- ---- the cone

pub cone_is : (d : List ℕ) (ev n b row next : ℕ) → Gathers n row (closed_by n (names_any d ev) b) → ((j : ℕ) → bit next j ≡ bit row j || eqb j b)
    → Gathers n next (cone_on d ev n b)
unfolding cone_on
cone_is d ev n b row next r g j c = g j ∙ ap (λ (x : Bool). x || eqb j b) (r j c)
