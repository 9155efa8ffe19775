-- The tests decide where two events meet: what an event is strict about is what it reads elsewhere in the set or has a
-- handler of that does not add; so where they meet one writes what the other is strict about, and else both only add.
use Rattle.lib_base.proofs.Prelude.{ℕ, ◌≤◌, ◌<◌, ◌≡◌, refl, ◌∙◌, sym, ap, subst, true, false, Bool, ◌||◌, false≢true}
use Rattle.lib_base.proofs.Prelude.{true≢false, ◌&&◌, not, and-eq-true_iff, or-true, by_cases, ◌⊎◌, ⊎_elim, inr}
use Rattle.lib_base.proofs.Prelude.{inl, [], List·getD-eq-default, eqb, dec_lt, ne_eqb, eqb-true, eq-eqb, eqb-false}
use Rattle.lib_base.proofs.Prelude.{not-true, arith}
use Rattle.lib_base.specs.Basics.{All}
use Rattle.lib_base.proofs.Tools.{split, or_either}
use Rattle.spec_language.specs.Syntax.{Behaviour, active, Program}
use Rattle.spec_language.specs.Dependence.{handled, size, events, respond, response, written, writes}
use Rattle.spec_language.specs.Fits.{BehaviourFits}
use Rattle.spec_language.specs.Accepted.{Known}
use Rattle.spec_language.proofs.Laws.{response_names}
use Rattle.check_graph.specs.Any.{any_below}
use Rattle.check_graph.proofs.Any.{any_some, any_member}
use Rattle.check_reads.specs.Named.{through_passives}
use Rattle.check_reads.specs.InResponse.{in_response}
use Rattle.ask_commute.specs.Meets.{itself, ReadsAt, AddsTo, ReadsIn, ReadsElsewhere, SharedIn, two_write, one_writes, other_writes, OnlyAdd, MeetAt}
use Rattle.ask_commute.proofs.CommuteOn.{Clear}
use Rattle.ask_meets.specs.Marks.{adds_of}
use Rattle.ask_meets.specs.Meeting.{refers_at, strict_at, strict_in, meeting, meets}
use Rattle.ask_meets.proofs.Leading.{via_says, via_is}
use Rattle.ask_meets.proofs.MarkDecides.{adds_says, adds_is}
use Rattle.ask_commute.proofs.OnSet.{in_range}

-- what is written is a behaviour of the program
pub written_in : (p : Program) (e i : ℕ) → writes p e i ≡ true → i < size p
unfolding handled
written_in p e i h =
    by_cases (dec_lt i (size p)) (λ s. s)
    (λ s. absurd (false≢true (sym (ap (λ (y : Behaviour). written (respond e y)) (List·getD-eq-default p.behaviours (active 0 []) (omega arith))) ∙ h)))

module _ (p : Program) (each : All (BehaviourFits (events p)) p.behaviours) (known : Known p) (few : size p ≤ 64) where
  named_in_range : (e i k : ℕ) → in_response k (response p e i) ≡ true → k < size p
  named_in_range e i k m = in_range (size p) k (response p e i) (response_names p known e i) m

  -- ---- what a handler names

  refers_says : (e i j : ℕ) → j < size p → writes p e i ≡ true → refers_at p e i j ≡ true → ReadsAt p e i j
  unfolding refers_at
  refers_says e i j b w h =
      ⊎_elim (λ t. (w, (j, t, itself)))
      (λ t. let f = any_member (size p) (λ k. in_response k (response p e i) && through_passives p k j) t in
      let g = (and-eq-true_iff (in_response f.0 (response p e i)) (through_passives p f.0 j)).0 f.2 in
      (w, (f.0, g.0, via_says p each known few f.0 j f.1 b g.1)))
      (or_either (in_response j (response p e i)) (any_below (size p) (λ k. in_response k (response p e i) && through_passives p k j)) h)

  refers_is : (e i j : ℕ) → j < size p → ReadsAt p e i j → refers_at p e i j ≡ true
  unfolding refers_at
  refers_is e i j b (w, (k, m, u)) =
      let h = named_in_range e i k m in
      ⊎_elim (λ q. let z : in_response j (response p e i) ≡ true = subst (λ (x : ℕ). in_response x (response p e i) ≡ true) q m in rw z)
      (λ t. ap (λ (x : Bool). in_response j (response p e i) || x)
      (any_some (size p) (λ l. in_response l (response p e i) && through_passives p l j) k h ((and-eq-true_iff (in_response k (response p e i)) (through_passives p k j)).1 (m, t)))
      ∙ or-true (in_response j (response p e i)))
      (via_is p each known few k j h b u)

  -- ---- a set, and the test that decides it

  module _ (D : ℕ → Bool) (T : ℕ → Type 0) (says : (i : ℕ) → i < size p → D i ≡ true → T i) (is : (i : ℕ) → i < size p → T i → D i ≡ true) where
    abbrev Plain : ℕ → ℕ → Type 0
    Plain e j = (writes p e j ≡ true) × (AddsTo p e j → ⊥)

    strict_says : (e j : ℕ) → j < size p → strict_in p D e j ≡ true → ReadsElsewhere p T e j ⊎ Plain e j
    unfolding strict_in strict_at
    strict_says e j b h =
        let f = any_member (size p) (λ i. (D i && writes p e i) && strict_at p e i j) h in
        let i = f.0 in
        let g = (and-eq-true_iff (D i && writes p e i) (strict_at p e i j)).0 f.2 in
        let k = (and-eq-true_iff (D i) (writes p e i)).0 g.0 in
        split (eqb i j)
        (λ t. let q : i ≡ j = eqb-true i j t in
        let n : not (adds_of p e i) ≡ true = rw t at g.1 in
        inr (
          subst (λ (x : ℕ). writes p e x ≡ true) q k.1,
          λ a. true≢false (sym (adds_is p j each known few b e a) ∙ subst (λ (x : ℕ). adds_of p e x ≡ false) q (not-true (adds_of p e i) n)),
        ))
        (λ t. let n : refers_at p e i j ≡ true = rw t at g.1 in
        inl (i, says i f.1 k.0, eqb-false i j t, refers_says e i j b k.1 n))

    strict_read : (e j : ℕ) → j < size p → ReadsElsewhere p T e j → strict_in p D e j ≡ true
    unfolding strict_in strict_at
    strict_read e j b (i, m, n, r) =
        let h = written_in p e i r.0 in
        any_some (size p) (λ i. (D i && writes p e i) && strict_at p e i j) i h
        (rw (is i h m, r.0, ne_eqb i j n) (refers_is e i j b r))

    strict_plain : (e j : ℕ) → T j → writes p e j ≡ true → adds_of p e j ≡ false → strict_in p D e j ≡ true
    unfolding strict_in strict_at
    strict_plain e j m w a =
        let h = written_in p e j w in
        any_some (size p) (λ i. (D i && writes p e i) && strict_at p e i j) j h
        (rw (is j h m, w, eq-eqb j j refl, a))

    -- ---- meeting

    both : (e f j : ℕ) → D j ≡ true → writes p e j ≡ true → strict_in p D f j ≡ true → meets p D e f j ≡ true
    unfolding meets meeting
    both e f j d w s = rw (d, w, s)

    back : (e f j : ℕ) → D j ≡ true → writes p f j ≡ true → strict_in p D e j ≡ true → meets p D e f j ≡ true
    unfolding meets meeting
    back e f j d w s = rw (d, w, s) (or-true (writes p e j && strict_in p D f j))

    -- one writes j and the other is strict about it
    one_way : (e f j : ℕ) → j < size p → T j → writes p e j ≡ true → ReadsElsewhere p T f j ⊎ Plain f j → MeetAt p T e f j
    one_way e f j b m w (inl r) = record {
      inside = m;
      shared = one_writes w (r.0, r.1, r.3);
      not_only_add = λ a. a.other_elsewhere r;
    }
    one_way e f j b m w (inr r) = record {
      inside = m;
      shared = two_write w r.0;
      not_only_add = λ a. r.1 a.other;
    }

    other_way : (e f j : ℕ) → j < size p → T j → writes p f j ≡ true → ReadsElsewhere p T e j ⊎ Plain e j → MeetAt p T e f j
    other_way e f j b m w (inl r) = record {
      inside = m;
      shared = other_writes w (r.0, r.1, r.3);
      not_only_add = λ a. a.one_elsewhere r;
    }
    other_way e f j b m w (inr r) = record {
      inside = m;
      shared = two_write r.0 w;
      not_only_add = λ a. r.1 a.one;
    }

    pub meets_says : (e f j : ℕ) → j < size p → meets p D e f j ≡ true → MeetAt p T e f j
    unfolding meets meeting
    meets_says e f j b h =
        let g = (and-eq-true_iff (D j) ((writes p e j && strict_in p D f j) || (writes p f j && strict_in p D e j))).0 h in
        let m = says j b g.0 in
        ⊎_elim
        (λ t. let k = (and-eq-true_iff (writes p e j) (strict_in p D f j)).0 t in one_way e f j b m k.0 (strict_says f j b k.1))
        (λ t. let k = (and-eq-true_iff (writes p f j) (strict_in p D e j)).0 t in other_way e f j b m k.0 (strict_says e j b k.1))
        (or_either (writes p e j && strict_in p D f j) (writes p f j && strict_in p D e j) g.1)

    -- where both write, one of them is strict or both only add
    both_write : (e f j : ℕ) → T j → writes p e j ≡ true → writes p f j ≡ true → (meets p D e f j ≡ true) ⊎ OnlyAdd p T e f j
    both_write e f j m we wf =
        let b = written_in p e j we in
        let d = is j b m in
        split (strict_in p D e j) (λ s. inl (back e f j d wf s))
        (λ s. split (strict_in p D f j) (λ t. inl (both e f j d we t))
        (λ t. split (adds_of p e j)
        (λ a. split (adds_of p f j)
        (λ c. inr (record {
          one = adds_says p j each known few b e a;
          other = adds_says p j each known few b f c;
          one_elsewhere = λ r. true≢false (sym (strict_read e j b r) ∙ s);
          other_elsewhere = λ r. true≢false (sym (strict_read f j b r) ∙ t);
        }))
        (λ c. absurd (true≢false (sym (strict_plain f j m wf c) ∙ t))))
        (λ a. absurd (true≢false (sym (strict_plain e j m we a) ∙ s)))))

    -- a reading of j in the set: elsewhere, or in the handler of j
    reads_or_writes : (e j : ℕ) → ReadsIn p T e j → ReadsElsewhere p T e j ⊎ (writes p e j ≡ true)
    reads_or_writes e j (i, m, r) =
        split (eqb i j) (λ t. inr (subst (λ (x : ℕ). writes p e x ≡ true) (eqb-true i j t) r.0)) (λ t. inl (i, m, eqb-false i j t, r))

    -- what two events share in the set: they meet there, or both only add to it
    pub meets_or_adds : (e f j : ℕ) → T j → SharedIn p T e f j → (meets p D e f j ≡ true) ⊎ OnlyAdd p T e f j
    meets_or_adds e f j m (two_write we wf) = both_write e f j m we wf
    meets_or_adds e f j m (one_writes we r) =
        let b = written_in p e j we in
        ⊎_elim (λ t. inl (both e f j (is j b m) we (strict_read f j b t))) (λ wf. both_write e f j m we wf) (reads_or_writes f j r)
    meets_or_adds e f j m (other_writes wf r) =
        let b = written_in p f j wf in
        ⊎_elim (λ t. inl (back e f j (is j b m) wf (strict_read e j b t))) (λ we. both_write e f j m we wf) (reads_or_writes e j r)

    pub meets_is : (e f j : ℕ) → MeetAt p T e f j → meets p D e f j ≡ true
    meets_is e f j m = ⊎_elim (λ t. t) (λ a. absurd (m.not_only_add a)) (meets_or_adds e f j m.inside m.shared)

    -- ---- not to meet is to be clear of each other

    pub clear_by : (e f : ℕ) → ((j : ℕ) → j < size p → meets p D e f j ≡ false) → Clear p T e f
    clear_by e f h j m w = (
      λ i n o r. let b = written_in p f j w in true≢false (sym (back e f j (is j b m) w (strict_read e j b (i, n, o, r))) ∙ h j b),
      λ we. let b = written_in p f j w in
          split (adds_of p e j) (λ a. adds_says p j each known few b e a)
          (λ a. absurd (true≢false (sym (back e f j (is j b m) w (strict_plain e j m we a)) ∙ h j b))),
    )
