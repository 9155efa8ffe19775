-- Two orders of the same commits give one store, or stores alike, if each has those of equal priority in order of
-- number and those of unequal priority commute: both play as the list sorted by number does.
use Rattle.lib_base.proofs.Prelude.{ℕ, ◌≤◌, ◌<◌, ◌≡◌, refl, ◌∙◌, sym, ap, true, false, ◌≢◌, by_cases, List, [], ◌∷◌}
use Rattle.lib_base.proofs.Prelude.{map, List-as-Permᴰ, List·Permᴰ·trans, List-as-Nodup, List·Permᴰ·cons, List·Permᴰ·swap}
use Rattle.lib_base.proofs.Prelude.{List·Permᴰ·nil, Pairwise·of-cons, Permᴰ·refl, Pairwise, Pairwise-cons, length, ltb}
use Rattle.lib_base.proofs.Prelude.{dec_lt, le-ltb, lt-ltb, ltb-true, arith}
use mathlib.Core.Path.{ap₂}
use mathlib.Core.List.{mem-cons_self, rel_of_Pairwise-cons}
use Rattle.lib_base.specs.Basics.{All}
use Rattle.lib_base.proofs.Tools.{by_elim, all_perm, all_imp, all_of_mem}
use Rattle.spec_language.specs.Syntax.{Program}
use Rattle.spec_language.specs.Dependence.{size, events}
use Rattle.spec_semantics.specs.Event.{event, play}
use Rattle.spec_execution.specs.CodeFacts.{CodeFacts}
use Rattle.spec_model.specs.Model.{Arrival, rank}
use Rattle.spec_model.proofs.Choice.{numbers, distinct_numbers}
use Rattle.spec_model.proofs.Equals.{Sooner}

-- ---- sorting by number

insert : Arrival → List Arrival → List Arrival
insert a [] = a ∷ []
insert a (b ∷ l) = elim (ltb b.number a.number) [ true ↦ b ∷ insert a l | false ↦ a ∷ (b ∷ l) ]

sort : List Arrival → List Arrival
sort [] = []
sort (a ∷ l) = insert a (sort l)

insert_past : (a b : Arrival) (l : List Arrival) → b.number < a.number → insert a (b ∷ l) ≡ b ∷ insert a l
unfolding insert
insert_past a b l h = rw (lt-ltb b.number a.number h, insert)

insert_here : (a b : Arrival) (l : List Arrival) → a.number ≤ b.number → insert a (b ∷ l) ≡ a ∷ (b ∷ l)
unfolding insert
insert_here a b l h = rw (le-ltb b.number a.number h, insert)

insert_swap : (a b : Arrival) (l : List Arrival) → a.number < b.number → insert a (insert b l) ≡ insert b (insert a l)
unfolding insert
insert_swap a b [] h = let k : a.number ≤ b.number = omega arith in simp (insert_here, insert_past)
insert_swap a b (c ∷ l) h =
    let k : a.number ≤ b.number = omega arith in
    by_cases (dec_lt c.number a.number)
    (λ p. let j : c.number < b.number = omega arith in simp (insert_past, insert_swap a b l h))
    (λ p. let j : a.number ≤ c.number = omega arith in
    by_cases (dec_lt c.number b.number) (λ r. simp (insert_past, insert_here))
    (λ r. let i : b.number ≤ c.number = omega arith in simp (insert_past, insert_here)))

insert_comm : (a b : Arrival) (l : List Arrival) → a.number ≢ b.number → insert a (insert b l) ≡ insert b (insert a l)
insert_comm a b l h = by_cases (dec_lt a.number b.number) (λ p. insert_swap a b l p) (λ p. sym (insert_swap b a l (omega arith)))

sort_same : {l m : List Arrival} → List-as-Permᴰ l m → List-as-Nodup (numbers l) → sort l ≡ sort m
unfolding sort
sort_same List·Permᴰ·nil h = refl
sort_same (List·Permᴰ·cons e d) h = ap₂ insert e (sort_same d (Pairwise·of-cons h))
sort_same (List·Permᴰ·swap {l = l} p q) h = insert_comm _ _ (sort l) (rel_of_Pairwise-cons h mem-cons_self) ∙ ap₂ (λ x y. insert x (insert y (sort l))) q p
sort_same (List·Permᴰ·trans d e) h = sort_same d h ∙ sort_same e (distinct_numbers d h)

insert_perm : (a : Arrival) (l : List Arrival) → List-as-Permᴰ (a ∷ l) (insert a l)
unfolding insert
insert_perm a [] = Permᴰ·refl (a ∷ [])
insert_perm a (b ∷ l) =
    by_elim (List-as-Permᴰ (a ∷ (b ∷ l))) (ltb b.number a.number)
    (λ e. List·Permᴰ·trans (List·Permᴰ·swap refl refl) (List·Permᴰ·cons refl (insert_perm a l)))
    (λ e. Permᴰ·refl (a ∷ (b ∷ l)))

sort_perm : (l : List Arrival) → List-as-Permᴰ l (sort l)
unfolding sort
sort_perm [] = List·Permᴰ·nil
sort_perm (a ∷ l) = List·Permᴰ·trans (List·Permᴰ·cons refl (sort_perm l)) (insert_perm a (sort l))

-- each with each
pub each_perm : (R : Arrival → Arrival → Type 0) {l m : List Arrival} → List-as-Permᴰ l m → All (λ a. All (R a) l) l → All (λ a. All (R a) m) m
each_perm R {l} {m} d h = all_perm (λ a. All (R a) m) d (all_imp _ _ (λ x k. all_perm (R x) d k) l h)

-- ---- playing

module _ (p : Program) where
  abbrev pub played : List Arrival → List ℕ → List ℕ
  played l s = play p (map (λ (a : Arrival). a.event) l) s

  abbrev pub Declared : Arrival → Type 0
  Declared a = a.event < events p

  -- stores that count as alike: an equivalence that every event keeps
  pub record Likeness (R : List ℕ → List ℕ → Type 0) : Type 0 where
    pub same : {s : List ℕ} → R s s
    pub back : {s t : List ℕ} → R s t → R t s
    pub join : {s t u : List ℕ} → R s t → R t u → R s u
    pub kept : (e : ℕ) → e < events p → (s t : List ℕ) → length s ≡ size p → length t ≡ size p → R s t → R (event p e s) (event p e t)

  -- either order of the two gives stores alike
  abbrev pub CommuteBy : (List ℕ → List ℕ → Type 0) → Arrival → Arrival → Type 0
  CommuteBy R a b =
      rank p a ≢ rank p b → (s : List ℕ) → length s ≡ size p
      → R (event p a.event (event p b.event s)) (event p b.event (event p a.event s))

  -- one store
  abbrev pub Commute : Arrival → Arrival → Type 0
  Commute = CommuteBy (λ s t. s ≡ t)

  module _ (facts : CodeFacts p) (R : List ℕ → List ℕ → Type 0) (like : Likeness R) where
    play_alike : (l : List Arrival) (s t : List ℕ) → length s ≡ size p → length t ≡ size p → All Declared l → R s t → R (played l s) (played l t)
    unfolding play
    play_alike [] s t n m f r = r
    play_alike (a ∷ l) s t n m f r =
        play_alike l (event p a.event s) (event p a.event t) (facts.kept a.event f.0 s n) (facts.kept a.event f.0 t m) f.1
        (like.kept a.event f.0 s t n m r)

    play_insert : (a : Arrival) (l : List Arrival) (s : List ℕ) → length s ≡ size p → Declared a → All Declared l → All (Sooner p a) l → All (CommuteBy R a) l
        → R (played (insert a l) s) (played l (event p a.event s))
    unfolding play insert
    play_insert a [] s n da f h c = like.same
    play_insert a (b ∷ l) s n da f h c =
        let na : length (event p a.event s) ≡ size p = facts.kept a.event da s n in
        let nb : length (event p b.event s) ≡ size p = facts.kept b.event f.0 s n in
        by_elim (λ m. R (played m s) (played l (event p b.event (event p a.event s)))) (ltb b.number a.number)
        (λ e. like.join (play_insert a l (event p b.event s) nb da f.1 h.1 c.1)
        (play_alike l (event p a.event (event p b.event s)) (event p b.event (event p a.event s))
        (facts.kept a.event da (event p b.event s) nb) (facts.kept b.event f.0 (event p a.event s) na) f.1
        (c.0 (λ r. omega (arith, ltb-true, h.0 r)) s n)))
        (λ e. like.same)

    play_sort : (l : List Arrival) (s : List ℕ) → length s ≡ size p → All Declared l → Pairwise (Sooner p) l → All (λ a. All (CommuteBy R a) l) l
        → R (played (sort l) s) (played l s)
    unfolding play sort
    play_sort [] s n f h c = like.same
    play_sort (a ∷ l) s n f h c =
        like.join
        (play_insert a (sort l) s n f.0 (all_perm Declared (sort_perm l) f.1) (all_perm _ (sort_perm l) (all_of_mem _ l (Pairwise-cons.0 h).0))
        (all_perm _ (sort_perm l) c.0.1))
        (play_sort l (event p a.event s) (facts.kept a.event f.0 s n) f.1 (Pairwise·of-cons h) (all_imp _ _ (λ x k. k.1) l c.1))

    pub confluent : (l m : List Arrival) (s : List ℕ) → length s ≡ size p → List-as-Permᴰ l m → List-as-Nodup (numbers l) → All Declared l
        → All (λ a. All (CommuteBy R a) l) l → Pairwise (Sooner p) l → Pairwise (Sooner p) m → R (played l s) (played m s)
    confluent l m s n d h f c il im =
        like.join (like.back (play_sort l s n f il c))
        (rw (sort_same d h) (play_sort m s n (all_perm Declared d f) im (each_perm (CommuteBy R) d c)))

  pub one_store : Likeness (λ s t. s ≡ t)
  one_store = record {
    same = refl;
    back = λ r. sym r;
    join = λ r q. r ∙ q;
    kept = λ e d s t n m r. ap (event p e) r;
  }
