-- 01's order of each phase is derived by the rules of Figure 3, if everyone that has a turn in phase one stands in it.
-- Along the order: whatever an expression names is marked by then, and who comes later is not. The part of the program
-- still to come is who is not marked, or goes by number.
use Rattle.lib_base.proofs.Prelude.{ℕ, ◌≤◌, ◌<◌, ◌+◌, suc, zero, ◌≡◌, refl, ◌∙◌, sym, ap, subst, true, false, Bool}
use Rattle.lib_base.proofs.Prelude.{false≢true, true≢false, not, ◌≢◌, ◌⊎◌, ⊎_elim, inr, inl, List, [], ◌∷◌, ◌++◌}
use Rattle.lib_base.proofs.Prelude.{append_assoc, flat_map, length, get_or, length-set, set, get_or-set_other, eqb, ne_eqb}
use Rattle.lib_base.proofs.Prelude.{lt-ltb, eqb-false, ltb-true, arith}
use Rattle.lib_base.specs.Basics.{All}
use Rattle.lib_base.proofs.Tools.{split, all_imp, all_join}
use Rattle.spec_language.specs.Syntax.{Program}
use Rattle.spec_language.specs.Dependence.{Response, follows, takes, defers, keeps, size, response, needs, depends_on}
use Rattle.spec_language.specs.Order.{early, met_at_once, phase_one}
use Rattle.spec_language.specs.Accepted.{Known}
use Rattle.spec_language.proofs.Laws.{get_d_up_to, depends_within}
use Rattle.spec_semantics.proofs.Graph.{Marked, Unmarked, stays}
use Rattle.spec_semantics.proofs.OrderLaws.{mark_all, Ordered, ordered_unmarked, unmarked_set, length_met, met_late, phase_one_ordered}
use Rattle.back_figure3.specs.Figure3.{Assign, assigned, every_behaviour, without, FirstPhaseRule, none₁, passive₁, immediate₁, later₁, unhandled₁, SecondPhaseRule, none₂, passive₂, immediate₂, later₂, unhandled₂}
use Rattle.back_figure3.proofs.Parts.{turn_of, later_of, move_of, again_of, from, along, first_of, second_of}

-- ---- a part without one

without_says : (i : ℕ) (P : ℕ → Bool) (j : ℕ) → without i P j ≡ true → (i ≢ j) × (P j ≡ true)
without_says i P j h = split (eqb i j) (λ t. absurd (false≢true (rw t at h))) (λ t. (eqb-false i j t, rw t at h))

pub without_is : (i : ℕ) (P : ℕ → Bool) (j : ℕ) → i ≢ j → P j ≡ true → without i P j ≡ true
without_is i P j n h = rw (ne_eqb i j n) h

-- ---- what is not assigned

-- no assignment of k's is to j
turn_other : (j k : ℕ) (r : Response) → k ≢ j → All (λ b. assigned j b ≡ false) (turn_of k r)
turn_other j k (follows x) n = (ne_eqb k j n, tt)
turn_other j k (takes x) n = (ne_eqb k j n, tt)
turn_other j k (defers x) n = tt
turn_other j k keeps n = tt

again_other : (j k : ℕ) (r : Response) → k ≢ j → All (λ b. assigned j b ≡ false) (again_of k r)
again_other j k (follows x) n = (ne_eqb k j n, tt)
again_other j k (takes x) n = tt
again_other j k (defers x) n = tt
again_other j k keeps n = tt

later_other : (j k : ℕ) (r : Response) → All (λ b. assigned j b ≡ false) (later_of k r)
later_other j k (follows x) = tt
later_other j k (takes x) = tt
later_other j k (defers x) = (refl, tt)
later_other j k keeps = tt

is_follows : Response → Bool
is_follows (follows x) = true
is_follows (takes x) = false
is_follows (defers x) = false
is_follows keeps = false

module _ (p : Program) (e : ℕ) where
  abbrev resp : ℕ → Response
  resp i = response p e i

  abbrev n : ℕ
  n = size p

  abbrev dep : ℕ → ℕ → Bool
  dep = depends_on p e

  along_other : (f : ℕ → Response → List Assign) (j : ℕ) → ((k : ℕ) (r : Response) → k ≢ j → All (λ b. assigned j b ≡ false) (f k r))
      → (is : List ℕ) → All (λ k. k ≢ j) is → All (λ b. assigned j b ≡ false) (along p e f is)
  unfolding along flat_map
  along_other f j h [] a = tt
  along_other f j h (i ∷ is) a =
      all_join (λ b. assigned j b ≡ false) (f i (resp i)) (along p e f is) (h i (resp i) a.0) (along_other f j h is a.1)

  laters_other : (j : ℕ) (is : List ℕ) → All (λ b. assigned j b ≡ false) (along p e later_of is)
  unfolding along flat_map
  laters_other j [] = tt
  laters_other j (i ∷ is) = all_join (λ b. assigned j b ≡ false) (later_of i (resp i)) (along p e later_of is) (later_other j i (resp i)) (laters_other j is)

  -- whoever is marked does not come later
  not_later : (i j : ℕ) (is : List ℕ) (done : List Bool) → length done ≡ n → i < n → j < n → Marked done j → Ordered n dep (set done i true) is → All (λ k. k ≢ j) is
  not_later i j is done l b c m o =
      all_imp (λ k. (k < n) × Unmarked (set done i true) k) (λ k. k ≢ j)
      (λ k h q. true≢false (sym (stays done i j (omega arith) m) ∙ subst (Unmarked (set done i true)) q h.1)) is
      (ordered_unmarked n dep is (set done i true) (simp length-set l) o)

  other : (i j : ℕ) (done : List Bool) → Unmarked done i → Marked done j → i ≢ j
  other i j done u m = λ q. true≢false (sym m ∙ subst (Unmarked done) q u)

  -- ---- phase one: the later handlers, by number

  late_step : (s : ℕ) (P : ℕ → Bool) (A : List Assign) (r : Response) → resp s ≡ r → early r ≡ false → P s ≡ true → FirstPhaseRule p e (without s P) A
      → ((j : ℕ) → All (λ b. assigned j b ≡ false) A) → FirstPhaseRule p e P (later_of s r ++ A)
  late_step s P A (follows x) q h t f o = absurd (true≢false h)
  late_step s P A (takes x) q h t f o = absurd (true≢false h)
  late_step s P A (defers x) q h t f o = later₁ s t q f (λ j m. (refl, o j))
  late_step s P A keeps q h t f o = unhandled₁ s t q f

  early_step : (s : ℕ) (P : ℕ → Bool) (A : List Assign) (r : Response) → early r ≡ true → FirstPhaseRule p e P A → FirstPhaseRule p e P (later_of s r ++ A)
  early_step s P A (follows x) h f = f
  early_step s P A (takes x) h f = f
  early_step s P A (defers x) h f = absurd (false≢true h)
  early_step s P A keeps h f = absurd (false≢true h)

  -- the late ones of k from s on
  record Late (s k : ℕ) (P : ℕ → Bool) : Type 0 where
    says : (j : ℕ) → P j ≡ true → (s ≤ j) × (j < s + k) × (early (resp j) ≡ false)
    holds : (j : ℕ) → s ≤ j → j < s + k → early (resp j) ≡ false → P j ≡ true

  laters : (k s : ℕ) (P : ℕ → Bool) → Late s k P → FirstPhaseRule p e P (along p e later_of (from s k))
  unfolding along from flat_map
  laters zero s P l = none₁ (λ j. split (P j) (λ t. let h = l.says j t in absurd (omega arith)) (λ t. t))
  laters (suc k) s P l =
      split (early (resp s))
      (λ t. early_step s P (along p e later_of (from (suc s) k)) (resp s) t (laters k (suc s) P (record {
        says = λ j h. let w = l.says j h in
            let d : s ≢ j = λ q. true≢false (sym t ∙ ap (λ x. early (resp x)) q ∙ w.2) in
            (omega arith, omega arith, w.2);
        holds = λ j a b h. l.holds j (omega arith) (omega arith) h;
      })))
      (λ t. late_step s P (along p e later_of (from (suc s) k)) (resp s) refl t (l.holds s (omega arith) (omega arith) t)
      (laters k (suc s) (without s P) (record {
        says = λ j h. let v = without_says s P j h in
            let w = l.says j v.1 in
            let d : s ≢ j = v.0 in
            (omega arith, omega arith, w.2);
        holds = λ j a b h. without_is s P j (omega arith) (l.holds j (omega arith) (omega arith) h);
      }))
      (λ j. laters_other j (from (suc s) k)))

  -- ---- phase one: along the order

  place : (i : ℕ) (P : ℕ → Bool) (A : List Assign) (r : Response) → resp i ≡ r → early r ≡ true → P i ≡ true → FirstPhaseRule p e (without i P) A
      → ((j : ℕ) → needs i j r ≡ true → (i ≢ j) × All (λ b. assigned j b ≡ false) A) → FirstPhaseRule p e P (turn_of i r ++ A)
  place i P A (follows x) q h t f o = passive₁ i t q f (λ j m. let w = o j m in (ne_eqb i j w.0, w.1))
  place i P A (takes x) q h t f o = immediate₁ i t q f (λ j m. let w = o j m in (ne_eqb i j w.0, w.1))
  place i P A (defers x) q h t f o = absurd (false≢true h)
  place i P A keeps q h t f o = absurd (false≢true h)

  -- who is late or not marked
  record Left (done : List Bool) (P : ℕ → Bool) : Type 0 where
    says : (j : ℕ) → P j ≡ true → (j < n) × ((early (resp j) ≡ false) ⊎ Unmarked done j)
    holds : (j : ℕ) → j < n → (early (resp j) ≡ false) ⊎ Unmarked done j → P j ≡ true
    late : (j : ℕ) → j < n → early (resp j) ≡ false → Marked done j

  left_less : (done : List Bool) (P : ℕ → Bool) (i : ℕ) → length done ≡ n → i < n → early (resp i) ≡ true → Left done P → Left (set done i true) (without i P)
  left_less done P i l b h w = record {
    says = λ j t. let v = without_says i P j t in
        let s = w.says j v.1 in
        let d : j ≢ i = λ q. v.0 (sym q) in
        (s.0, ⊎_elim inl (λ u. inr (get_or-set_other done i j true false d ∙ u)) s.1);
    holds = λ j c t. ⊎_elim
        (λ f. let d : i ≢ j = λ q. true≢false (sym h ∙ ap (λ x. early (resp x)) q ∙ f) in without_is i P j d (w.holds j c (inl f)))
        (λ u. let v = unmarked_set done i j (omega arith) u in without_is i P j v.0 (w.holds j c (inr v.1))) t;
    late = λ j c f. stays done i j (omega arith) (w.late j c f);
  }

  module _ (within : (a b : ℕ) → dep a b ≡ true → (a < n) × (b < n)) where
    turns : (is : List ℕ) (done : List Bool) (P : ℕ → Bool) → length done ≡ n → Ordered n dep done is → Left done P
        → ((Q : ℕ → Bool) → Left (mark_all is done) Q → FirstPhaseRule p e Q (along p e later_of (from 0 n))) → FirstPhaseRule p e P (along p e turn_of is ++ along p e later_of (from 0 n))
    unfolding along flat_map
    turns [] done P l o w rest = rest P w
    turns (i ∷ is) done P l o w rest =
        let h : early (resp i) ≡ true = split (early (resp i)) (λ t. t) (λ t. absurd (true≢false (sym (w.late i o.0 t) ∙ o.1))) in
        let tail : FirstPhaseRule p e (without i P) (along p e turn_of is ++ along p e later_of (from 0 n)) =
        turns is (set done i true) (without i P) (simp length-set l) o.3 (left_less done P i l o.0 h w) rest in
        rw (append_assoc (turn_of i (resp i)) (along p e turn_of is) (along p e later_of (from 0 n)))
        (place i P (along p e turn_of is ++ along p e later_of (from 0 n)) (resp i) refl h (w.holds i o.0 (inr o.1)) tail
        (λ j d. let m : Marked done j = o.2 j d in (
          other i j done o.1 m,
          all_join (λ b. assigned j b ≡ false) (along p e turn_of is) (along p e later_of (from 0 n))
              (along_other turn_of j (turn_other j) is (not_later i j is done l o.0 (within i j d).1 m o.3)) (laters_other j (from 0 n)),
        )))

    -- ---- phase two: the passives along the order

    -- the passives that are not marked
    record Again (done : List Bool) (P : ℕ → Bool) : Type 0 where
      says : (j : ℕ) → P j ≡ true → (j < n) × (is_follows (resp j) ≡ true) × Unmarked done j
      holds : (j : ℕ) → j < n → is_follows (resp j) ≡ true → Unmarked done j → P j ≡ true

    again_step_law : (i : ℕ) (P : ℕ → Bool) (A : List Assign) (r : Response) → resp i ≡ r → is_follows r ≡ true → P i ≡ true → SecondPhaseRule p e (without i P) A
        → ((j : ℕ) → needs i j r ≡ true → (i ≢ j) × All (λ b. assigned j b ≡ false) A) → SecondPhaseRule p e P (again_of i r ++ A)
    unfolding is_follows
    again_step_law i P A (follows x) q h t f o = passive₂ i t q f (λ j m. let w = o j m in (ne_eqb i j w.0, w.1))
    again_step_law i P A (takes x) q h t f o = absurd (false≢true h)
    again_step_law i P A (defers x) q h t f o = absurd (false≢true h)
    again_step_law i P A keeps q h t f o = absurd (false≢true h)

    pass_step : (i : ℕ) (P : ℕ → Bool) (A : List Assign) (r : Response) → is_follows r ≡ false → SecondPhaseRule p e P A → SecondPhaseRule p e P (again_of i r ++ A)
    unfolding is_follows
    pass_step i P A (follows x) h f = absurd (true≢false h)
    pass_step i P A (takes x) h f = f
    pass_step i P A (defers x) h f = f
    pass_step i P A keeps h f = f

    agains : (is : List ℕ) (done : List Bool) (P : ℕ → Bool) → length done ≡ n → Ordered n dep done is → Again done P
        → ((j : ℕ) → j < n → Marked (mark_all is done) j) → SecondPhaseRule p e P (along p e again_of is)
    unfolding along flat_map
    agains [] done P l o w all = none₂ (λ j. split (P j) (λ t. let h = w.says j t in absurd (true≢false (sym (all j h.0) ∙ h.2))) (λ t. t))
    agains (i ∷ is) done P l o w all =
        split (is_follows (resp i))
        (λ t. again_step_law i P (along p e again_of is) (resp i) refl t (w.holds i o.0 t o.1)
        (agains is (set done i true) (without i P) (simp length-set l) o.3
        (record {
          says = λ j h. let v = without_says i P j h in
              let s = w.says j v.1 in
              let d : j ≢ i = λ q. v.0 (sym q) in
              (s.0, s.1, get_or-set_other done i j true false d ∙ s.2);
          holds = λ j c f u. let v = unmarked_set done i j (omega arith) u in without_is i P j v.0 (w.holds j c f v.1);
        })
        all)
        (λ j d. let m : Marked done j = o.2 j d in
        (other i j done o.1 m, along_other again_of j (again_other j) is (not_later i j is done l o.0 (within i j d).1 m o.3))))
        (λ t. pass_step i P (along p e again_of is) (resp i) t
        (agains is (set done i true) P (simp length-set l) o.3
        (record {
          says = λ j h. let s = w.says j h in
              let d : j ≢ i = λ q. true≢false (sym s.1 ∙ ap (λ x. is_follows (resp x)) q ∙ t) in
              (s.0, s.1, get_or-set_other done i j true false d ∙ s.2);
          holds = λ j c f u. w.holds j c f (unmarked_set done i j (omega arith) u).1;
        })
        all))

    -- ---- phase two: the moves, by number

    -- the passives, and whoever comes from s on
    record Moving (s k : ℕ) (P : ℕ → Bool) : Type 0 where
      ends : s + k ≡ n
      says : (j : ℕ) → P j ≡ true → (j < n) × ((is_follows (resp j) ≡ true) ⊎ (s ≤ j))
      holds : (j : ℕ) → j < n → (is_follows (resp j) ≡ true) ⊎ (s ≤ j) → P j ≡ true

    move_step : (s : ℕ) (P : ℕ → Bool) (A : List Assign) (r : Response) → resp s ≡ r → is_follows r ≡ false → P s ≡ true → SecondPhaseRule p e (without s P) A
        → SecondPhaseRule p e P (move_of s r ++ A)
    unfolding is_follows
    move_step s P A (follows x) q h t f = absurd (true≢false h)
    move_step s P A (takes x) q h t f = immediate₂ s t q f
    move_step s P A (defers x) q h t f = later₂ s t q f
    move_step s P A keeps q h t f = unhandled₂ s t q f

    stay_step : (s : ℕ) (P : ℕ → Bool) (A : List Assign) (r : Response) → is_follows r ≡ true → SecondPhaseRule p e P A → SecondPhaseRule p e P (move_of s r ++ A)
    unfolding is_follows
    stay_step s P A (follows x) h f = f
    stay_step s P A (takes x) h f = absurd (false≢true h)
    stay_step s P A (defers x) h f = absurd (false≢true h)
    stay_step s P A keeps h f = absurd (false≢true h)

    moves : (k s : ℕ) (P : ℕ → Bool) (A : List Assign) → Moving s k P → ((Q : ℕ → Bool) → Moving n 0 Q → SecondPhaseRule p e Q A)
        → SecondPhaseRule p e P (along p e move_of (from s k) ++ A)
    unfolding along from flat_map
    moves zero s P A w rest = let q : s ≡ n = omega (arith, w.ends) in rest P (rw q at w)
    moves (suc k) s P A w rest =
        rw (append_assoc (move_of s (resp s)) (along p e move_of (from (suc s) k)) A)
        (split (is_follows (resp s))
        (λ t. stay_step s P (along p e move_of (from (suc s) k) ++ A) (resp s) t (moves k (suc s) P A
        (record {
          ends = omega (arith, w.ends);
          says = λ j h. let v = w.says j h in (
            v.0,
            split (is_follows (resp j)) (λ f. inl f)
                (λ f. ⊎_elim (λ g. absurd (true≢false (sym g ∙ f)))
                (λ b. let d : s ≢ j = λ q. true≢false (sym t ∙ ap (λ x. is_follows (resp x)) q ∙ f) in let c : suc s ≤ j = omega arith in inr c) v.1),
          );
          holds = λ j c h. w.holds j c (⊎_elim inl (λ b. let d : s ≤ j = omega arith in inr d) h);
        }) rest))
        (λ t. let here : s < n = omega (arith, w.ends) in
        let self : s ≤ s = omega arith in
        move_step s P (along p e move_of (from (suc s) k) ++ A) (resp s) refl t (w.holds s here (inr self))
        (moves k (suc s) (without s P) A
        (record {
          ends = omega (arith, w.ends);
          says = λ j h. let v = without_says s P j h in
              let u = w.says j v.1 in
              let d : s ≢ j = v.0 in
              (u.0, ⊎_elim inl (λ b. let c : suc s ≤ j = omega arith in inr c) u.1);
          holds = λ j c h. ⊎_elim
              (λ f. let d : s ≢ j = λ q. true≢false (sym f ∙ ap (λ x. is_follows (resp x)) (sym q) ∙ t) in without_is s P j d (w.holds j c (inl f)))
              (λ b. let d : s ≢ j = omega arith in let a : s ≤ j = omega arith in without_is s P j d (w.holds j c (inr a))) h;
        }) rest)))

-- ---- the whole program

follows_early : (r : Response) → is_follows r ≡ true → early r ≡ true
unfolding is_follows
follows_early (follows x) h = refl
follows_early (takes x) h = absurd (false≢true h)
follows_early (defers x) h = absurd (false≢true h)
follows_early keeps h = absurd (false≢true h)

module _ (p : Program) (e : ℕ) (known : Known p) (all : (i : ℕ) → i < size p → Marked (mark_all (phase_one p e) (met_at_once p e)) i) where
  met_is : (i : ℕ) → i < size p → get_or (met_at_once p e) i false ≡ not (early (response p e i))
  unfolding met_at_once
  met_is i h = get_d_up_to (size p) _ i false h

  left_whole : Left p e (met_at_once p e) (every_behaviour p)
  left_whole = record {
    says = λ j t. let b = ltb-true j (size p) t in (b, split (get_or (met_at_once p e) j false) (λ m. inl (met_late p e j b m)) (λ u. inr u));
    holds = λ j b t. lt-ltb j (size p) b;
    late = λ j b f. met_is j b ∙ ap not f;
  }

  late_left : (Q : ℕ → Bool) → Left p e (mark_all (phase_one p e) (met_at_once p e)) Q → Late p e 0 (size p) Q
  late_left Q w = record {
    says = λ j t. let v = w.says j t in
        (omega arith, omega arith, ⊎_elim (λ f. f) (λ u. absurd (true≢false (sym (all j v.0) ∙ u))) v.1);
    holds = λ j a b f. w.holds j (omega arith) (inl f);
  }

  pub first_derived : FirstPhaseRule p e (every_behaviour p) (first_of p e)
  first_derived =
      turns p e (depends_within p known e) (phase_one p e) (met_at_once p e) (every_behaviour p) (length_met p e) (phase_one_ordered p e known) left_whole
      (λ Q w. laters p e (size p) 0 Q (late_left Q w))

  moving_whole : Moving p e (depends_within p known e) 0 (size p) (every_behaviour p)
  moving_whole = record {
    ends = omega arith;
    says = λ j t. let b : 0 ≤ j = omega arith in (ltb-true j (size p) t, inr b);
    holds = λ j b t. lt-ltb j (size p) b;
  }

  again_left : (Q : ℕ → Bool) → Moving p e (depends_within p known e) (size p) 0 Q → Again p e (depends_within p known e) (met_at_once p e) Q
  again_left Q w = record {
    says = λ j t. let v = w.says j t in
        let f : is_follows (response p e j) ≡ true = ⊎_elim (λ f. f) (λ b. absurd (omega arith)) v.1 in
        (v.0, f, met_is j v.0 ∙ ap not (follows_early (response p e j) f));
    holds = λ j b f u. w.holds j b (inl f);
  }

  pub second_derived : SecondPhaseRule p e (every_behaviour p) (second_of p e)
  second_derived =
      moves p e (depends_within p known e) (size p) 0 (every_behaviour p) _ moving_whole
      (λ Q w. agains p e (depends_within p known e) (phase_one p e) (met_at_once p e) Q (length_met p e) (phase_one_ordered p e known) (again_left Q w) all)
