-- Two histories with the same changes after the same commits lead to one store, if in each sheet those of unequal
-- priority commute (they do where they are independent) and those of equal priority go by number: under each sheet the
-- commits are confluent, and a change is a function of the store. What was committed under the last sheet is what is
-- left of the same arrivals. By induction on the histories.
use Rattle.lib_base.proofs.Prelude.{ℕ, ◌<◌, ◌≡◌, refl, ◌∙◌, sym, ap, subst, ◌≢◌, List, [], ◌∷◌, ◌++◌, List-as-Permᴰ}
use Rattle.lib_base.proofs.Prelude.{List·Permᴰ·trans, List-as-Nodup, Permᴰ·symm, Pairwise·of-cons, Pairwise·nil, Pairwise}
use Rattle.lib_base.proofs.Prelude.{Pairwise·cons, Pairwise-cons, length, arith}
use mathlib.Core.List.Permᴰ
use mathlib.Core.List.{Nodup-append}
use Rattle.lib_base.specs.Basics.{All}
use Rattle.lib_base.proofs.Tools.{all_mem, all_of_mem, all_imp}
use Rattle.spec_language.specs.Syntax.{Program}
use Rattle.spec_language.specs.Valid.{Valid}
use Rattle.spec_language.specs.Dependence.{size, events, Independent}
use Rattle.spec_semantics.specs.Event.{event, play}
use Rattle.spec_semantics.proofs.Commute.{commute}
use Rattle.spec_execution.proofs.CodeRight.{code_facts}
use Rattle.spec_model.specs.Carried.{carried}
use Rattle.spec_model.specs.Model.{Arrival, rank}
use Rattle.spec_model.specs.Claims.{events_of, History, last, then_change, onward, SameChanges, ApartIn, ApartEach, unsigned, committed_by}
use Rattle.spec_model.specs.Evaluated.{replayed}
use Rattle.spec_model.proofs.Moments.{Moment, commits, changes, by_sheets, Commit, commits_under}
use Rattle.spec_model.proofs.Carries.{length_carried}
use Rattle.spec_model.proofs.Choice.{numbers, distinct_numbers, perm_rest}
use Rattle.spec_model.proofs.Equals.{Sooner, sooner_prop}
use Rattle.spec_model.proofs.Replaying.{Known}
use Rattle.spec_model.proofs.Unsigned.{all_unsigned, same_events, same_numbers, all_unsigned_law, pairs_unsigned}
use Rattle.spec_model.proofs.Confluence.{Declared, Likeness, CommuteBy, Commute, confluent, one_store}

-- the arrivals committed under the first sheet
abbrev firsts : History → List Arrival
firsts (last l) = l
firsts (then_change l q c) = l

-- ---- under each sheet: in order

abbrev pub Orderly : Program → History → Type 0
Orderly p (last l) = Pairwise (Sooner p) l
Orderly p (then_change l q c) = Pairwise (Sooner p) l × Orderly q c

sooner_cons : (p : Program) (a : Arrival) (l : List Arrival) → All (Sooner p a) l → Pairwise (Sooner p) l → Pairwise (Sooner p) (a ∷ l)
sooner_cons p a l h k = Pairwise·cons (λ x m. all_mem (Sooner p a) (sooner_prop p a) l h x m) k

orderly_onward : (p : Program) (a : Arrival) (c : History) → All (Sooner p a) (firsts c) → Orderly p c → Orderly p (onward a c)
orderly_onward p a (last l) h k = sooner_cons p a l h k
orderly_onward p a (then_change l q c) h k = (sooner_cons p a l h k.0, k.1)

firsts_onward : (P : Arrival → Type 0) (a : Arrival) (c : History) → P a → All P (firsts c) → All P (firsts (onward a c))
firsts_onward P a (last l) h k = (h, k)
firsts_onward P a (then_change l q c) h k = (h, k)

all_firsts : (P : Arrival → Type 0) (p : Program) (h : List Moment) → All (λ (x : Commit). P x.what) (commits_under p h) → All P (firsts (by_sheets h))
unfolding commits_under by_sheets
all_firsts P p [] k = tt
all_firsts P p (commits a ∷ h) k = firsts_onward P a (by_sheets h) k.0 (all_firsts P p h k.1)
all_firsts P p (changes q ∷ h) k = tt

pub orderly : (p : Program) (h : List Moment) → Pairwise (λ (x y : Commit). Sooner x.under x.what y.what) (commits_under p h) → Orderly p (by_sheets h)
unfolding commits_under by_sheets
orderly p [] k = Pairwise·nil
orderly p (commits a ∷ h) k =
    orderly_onward p a (by_sheets h) (all_firsts (Sooner p a) p h (all_of_mem (λ (x : Commit). Sooner p a x.what) (commits_under p h) (Pairwise-cons.0 k).0))
    (orderly p h (Pairwise·of-cons k))
orderly p (changes q ∷ h) k = (Pairwise·nil, orderly q h k)

-- ---- what is left of the same arrivals

nodup_right : (l m : List Arrival) → List-as-Nodup (numbers (l ++ m)) → List-as-Nodup (numbers m)
nodup_right [] m h = h
nodup_right (a ∷ l) m h = nodup_right l m (Pairwise·of-cons h)

-- the same front may go
front_goes : (l m n : List Arrival) → List-as-Permᴰ (l ++ m) (l ++ n) → List-as-Nodup (numbers (l ++ n)) → List-as-Permᴰ m n
front_goes [] m n d h = d
front_goes (a ∷ l) m n d h = front_goes l m n (perm_rest a d h) (Pairwise·of-cons h)

pub rest_same : (l k m n : List Arrival) → List-as-Permᴰ l k → List-as-Permᴰ (l ++ m) (k ++ n) → List-as-Nodup (numbers (l ++ m)) → List-as-Permᴰ m n
rest_same l k m n d e h =
    let f : List-as-Permᴰ (l ++ m) (l ++ n) = List·Permᴰ·trans e (Permᴰ.append_right n (Permᴰ·symm d)) in
    front_goes l m n f (distinct_numbers f h)

unsigned_append : (l m : List Arrival) → all_unsigned (l ++ m) ≡ all_unsigned l ++ all_unsigned m
unsigned_append [] m = refl
unsigned_append (a ∷ l) m = ap (λ (x : List Arrival). unsigned a ∷ x) (unsigned_append l m)

-- ---- what is independent commutes

module _ (p : Program) where
  module _ (commute : (e f : ℕ) → e < events p → f < events p → Independent p e f → (s : List ℕ) → length s ≡ size p
      → event p e (event p f s) ≡ event p f (event p e s)) where
    -- what is independent commutes, one with each and each with each
    one_commutes : (a : Arrival) (l : List Arrival) → Declared p a → All (Declared p) l
        → All (λ b. rank p a ≢ rank p b → Independent p a.event b.event) l → All (Commute p a) l
    one_commutes a [] f g h = tt
    one_commutes a (b ∷ l) f g h = ((λ r s n. commute a.event b.event f g.0 (h.0 r) s n), one_commutes a l f g.1 h.1)

    pub each_commutes : (l m : List Arrival) → All (Declared p) l → All (Declared p) m
        → All (λ a. All (λ b. rank p a ≢ rank p b → Independent p a.event b.event) m) l → All (λ a. All (Commute p a) m) l
    each_commutes [] m f g h = tt
    each_commutes (a ∷ l) m f g h = (one_commutes a m f.0 g h.0, each_commutes l m f.1 g h.1)

-- ---- under one sheet

numbers_append : (l m : List Arrival) → numbers (l ++ m) ≡ numbers l ++ numbers m
numbers_append [] m = refl
numbers_append (a ∷ l) m = ap (λ (x : List ℕ). a.number ∷ x) (numbers_append l m)

nodup_left : (l m : List Arrival) → List-as-Nodup (numbers (l ++ m)) → List-as-Nodup (numbers l)
nodup_left l m h = (Nodup-append.0 (rw (numbers_append l m) at h)).0

module _ (p : Program) (v : Valid p) where
  commuting : (e f : ℕ) → e < events p → f < events p → Independent p e f → (s : List ℕ) → length s ≡ size p → event p e (event p f s) ≡ event p f (event p e s)
  commuting e f d b i s n = commute p v e f (omega arith) (omega arith) i s n

  commutes_in : (l : List Arrival) → All (Declared p) l → ApartIn p l → All (λ a. All (Commute p a) l) l
  commutes_in l f h = each_commutes p commuting l l f f h

  -- the same commits in two orders, up to a likeness
  module _ (R : List ℕ → List ℕ → Type 0) (like : Likeness p R) where
    pub one_sheet : (l m : List Arrival) (s : List ℕ) → length s ≡ size p → List-as-Permᴰ (all_unsigned l) (all_unsigned m) → List-as-Nodup (numbers l) → All (Declared p) l
        → All (λ a. All (CommuteBy p R a) l) l → Pairwise (Sooner p) l → Pairwise (Sooner p) m → R (play p (events_of l) s) (play p (events_of m) s)
    one_sheet l m s n d h f commute sl sm =
        let u : List Arrival = all_unsigned l in
        let k : All (Declared p) u = all_unsigned_law (Declared p) l f in
        let c : All (λ a. All (CommuteBy p R a) u) u =
        all_unsigned_law (λ a. All (CommuteBy p R a) u) l (all_imp _ _ (λ a k. all_unsigned_law (CommuteBy p R a) l k) l commute) in
        let r : R (play p (events_of u) s) (play p (events_of (all_unsigned m)) s) =
        confluent p (code_facts p v) R like u (all_unsigned m) s n d (rw (same_numbers l) h) k c (pairs_unsigned p l sl) (pairs_unsigned p m sm) in
        subst (λ (es : List ℕ). R (play p es s) (play p (events_of m) s)) (same_events l)
        (subst (λ (es : List ℕ). R (play p (events_of u) s) (play p es s)) (same_events m) r)

-- ---- under each sheet, those of unequal priority commute

abbrev pub CommuteEach : Program → History → Type 0
CommuteEach p (last l) = All (λ a. All (Commute p a) l) l
CommuteEach p (then_change l q c) = All (λ a. All (Commute p a) l) l × CommuteEach q c

-- what is independent does
pub apart_commute : (p : Program) (c : History) → Known p c → ApartEach p c → CommuteEach p c
apart_commute p (last l) k a = commutes_in p k.0 l k.1 a
apart_commute p (then_change l q c) k a = (commutes_in p k.0 l k.1 a.0, apart_commute q c k.2 a.1)

-- ---- two histories

pub same_history : (p : Program) (c d : History) (s : List ℕ) → length s ≡ size p → SameChanges c d → List-as-Permᴰ (all_unsigned (committed_by c)) (all_unsigned (committed_by d))
    → List-as-Nodup (numbers (committed_by c)) → Known p c → CommuteEach p c → Orderly p c → Orderly p d → replayed p c s ≡ replayed p d s
unfolding replayed
same_history p (last l) (last m) s n h e z k a oc od = one_sheet p k.0 (λ x y. x ≡ y) (one_store p) l m s n e z k.1 a oc od
same_history p (last l) (then_change m r d) s n h e z k a oc od = absurd h
same_history p (then_change l q c) (last m) s n h e z k a oc od = absurd h
same_history p (then_change l q c) (then_change m r d) s n h e z k a oc od =
    let first : play p (events_of l) s ≡ play p (events_of m) s = one_sheet p k.0 (λ x y. x ≡ y) (one_store p) l m s n h.0 (nodup_left l (committed_by c) z) k.1 a.0 oc.0 od.0 in
    let w : List-as-Permᴰ (all_unsigned l ++ all_unsigned (committed_by c)) (all_unsigned m ++ all_unsigned (committed_by d)) = rw (← unsigned_append l (committed_by c), ← unsigned_append m (committed_by d)) e in
    let y : List-as-Nodup (numbers (all_unsigned l ++ all_unsigned (committed_by c))) = rw (← unsigned_append l (committed_by c), same_numbers (l ++ committed_by c)) z in
    let left : List-as-Permᴰ (all_unsigned (committed_by c)) (all_unsigned (committed_by d)) = rest_same (all_unsigned l) (all_unsigned m) (all_unsigned (committed_by c)) (all_unsigned (committed_by d)) h.0 w y in
    same_history q c d (carried p q (play p (events_of l) s)) (length_carried p q (play p (events_of l) s)) h.2 left (nodup_right l (committed_by c) z) k.2 a.1 oc.1
    (subst (λ (x : Program). Orderly x d) (sym h.1) od.1)
    ∙ ap (λ (x : List ℕ). replayed q d (carried p q x)) first
    ∙ ap (λ (x : Program). replayed x d (carried p x (play p (events_of m) s))) h.1

-- ---- two histories under one sheet, up to a likeness

abbrev pub OneSheet : History → Type 0
OneSheet (last l) = Unit {0}
OneSheet (then_change l q c) = ⊥

pub alike_history : (p : Program) (R : List ℕ → List ℕ → Type 0) (like : Likeness p R) (c d : History) (s : List ℕ) → length s ≡ size p → OneSheet c → OneSheet d
    → List-as-Permᴰ (all_unsigned (committed_by c)) (all_unsigned (committed_by d)) → List-as-Nodup (numbers (committed_by c)) → Known p c → All (λ a. All (CommuteBy p R a) (committed_by c)) (committed_by c)
    → Orderly p c → Orderly p d → R (replayed p c s) (replayed p d s)
unfolding replayed
alike_history p R like (last l) (last m) s n g h e z k a oc od = one_sheet p k.0 R like l m s n e z k.1 a oc od
alike_history p R like (last l) (then_change m r d) s n g h e z k a oc od = absurd h
alike_history p R like (then_change l q c) d s n g h e z k a oc od = absurd g
