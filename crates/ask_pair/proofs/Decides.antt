-- The answer for two events of a program is 0 exactly if they are independent, and what it names is true: each test
-- decides what it is named for, the first behaviour found is the least, and where two events share one they meet there
-- or both only add to it.
use Rattle.lib_base.proofs.Prelude.{ℕ, ◌≤◌, ◌<◌, ◌+◌, ◌-◌, ◌*◌, ◌≡◌, refl, ◌∙◌, sym, subst, true, false, Bool}
use Rattle.lib_base.proofs.Prelude.{true≢false, ◌≢◌, by_cases, ◌⊎◌, ⊎_elim, inr, inl, eqb, dec_lt, eqb-true, eqb-false}
use Rattle.lib_base.proofs.Prelude.{arith}
use Rattle.lib_base.specs.Basics.{pick, All}
use Rattle.lib_base.proofs.Tools.{split, chosen, not_chosen}
use Rattle.spec_language.specs.Syntax.{Program}
use Rattle.spec_language.specs.Fits.{BehaviourFits}
use Rattle.spec_language.specs.Accepted.{Known}
use Rattle.spec_language.specs.Dependence.{size, events, behaviour_at, is_active, writes, Reads, Independent}
use Rattle.ask_commute.specs.Meets.{SharedIn, two_write, one_writes, other_writes, OnlyAdd, MeetAt}
use Rattle.check_reads.specs.Named.{named_by}
use Rattle.check_reads.proofs.FirstLaws.{first_found, first_all, first_none}
use Rattle.check_reads.proofs.Decides.{named_says, named_is}
use Rattle.ask_agree.specs.Agree.{clashes}
use Rattle.ask_agree.specs.Claims.{SharedBehaviour, both_write, first_writes, second_writes}
use Rattle.ask_agree.proofs.Decides.{active_written, shared_says, shared_is, shared_within, none_shared, apart}
use Rattle.ask_meets.specs.Meeting.{meets}
use Rattle.ask_meets.proofs.Reading.{reads_named, named-reads}
use Rattle.ask_meets.proofs.MeetDecides.{meets_says, meets_is, meets_or_adds}
use Rattle.ask_pair.specs.Pair.{everyone, least_told, flags_at, packed_pair, pair_by, pair_of}
use Rattle.ask_pair.specs.Claims.{AllOfThem, FlagOf, packed_told, PairNamed}

-- ---- the least number that a test finds

pub record Least (n : ℕ) (t : ℕ → Bool) (i : ℕ) : Type 0 where
  pub below : i < n
  pub holds : t i ≡ true
  pub least : (j : ℕ) → t j ≡ true → i ≤ j

least_found : (n : ℕ) (t : ℕ → Bool) → least_told n t ≢ 0 → Least n t (least_told n t - 1)
unfolding least_told
least_found n t h =
    let a = first_found n 0 (λ i. pick (t i) (i + 1) 0) (least_told n t) refl h in
    let c = chosen (t a.place) (a.place + 1) (λ z. h (sym a.answer ∙ z)) in
    let q : least_told n t ≡ a.place + 1 = sym a.answer ∙ c.1 in
    let k : least_told n t - 1 ≡ a.place = omega (arith, q) in
    subst (Least n t) (sym k)
    (record {
      below = omega (arith, a.below);
      holds = c.0;
      least = λ j m. by_cases (dec_lt j a.place)
          (λ w. absurd (true≢false (sym m ∙ not_chosen (t j) (j + 1) (λ z. omega arith) (a.before j (omega arith) w)))) (λ w. omega arith);
    })

least_none : (n : ℕ) (t : ℕ → Bool) → least_told n t ≡ 0 → (i : ℕ) → i < n → t i ≡ false
unfolding least_told
least_none n t z i h =
    not_chosen (t i) (i + 1) (λ q. omega arith) (first_all n 0 (λ j. pick (t j) (j + 1) 0) z i (omega arith) (omega arith))

none_least : (n : ℕ) (t : ℕ → Bool) → ((i : ℕ) → i < n → t i ≡ false) → least_told n t ≡ 0
unfolding least_told
none_least n t h = first_none n 0 (λ j. pick (t j) (j + 1) 0) (λ i a b. rw (h i (omega arith)))

-- ---- the answer's number

packed_some : (we wf re rf : ℕ → Bool) (kind i : ℕ) → packed_pair we wf re rf kind i ≢ 0
unfolding packed_pair
packed_some we wf re rf kind i h = omega arith

with_meet : (i a b c d : ℕ) → 4294967296 + (i + 256 * (a + (b + (c + d)) + 32)) ≡ 4294967296 + (i + 256 * (a + (b + (c + (d + (0 + 32))))))
with_meet i a b c d = omega arith

with_adds : (i a b c d : ℕ) → 4294967296 + (i + 256 * (a + (b + (c + d)) + 16)) ≡ 4294967296 + (i + 256 * (a + (b + (c + (d + (16 + 0))))))
with_adds i a b c d = omega arith

meet_told : (we wf re rf : ℕ → Bool) (i : ℕ) → packed_pair we wf re rf 32 i ≡ packed_told i (we i) (wf i) (re i) (rf i) false true
unfolding packed_pair flags_at packed_told
meet_told we wf re rf i = with_meet i (pick (we i) 1 0) (pick (wf i) 2 0) (pick (re i) 4 0) (pick (rf i) 8 0)

adds_told : (we wf re rf : ℕ → Bool) (i : ℕ) → packed_pair we wf re rf 16 i ≡ packed_told i (we i) (wf i) (re i) (rf i) true false
unfolding packed_pair flags_at packed_told
adds_told we wf re rf i = with_adds i (pick (we i) 1 0) (pick (wf i) 2 0) (pick (re i) 4 0) (pick (rf i) 8 0)

module _ (p : Program) (each : All (BehaviourFits (events p)) p.behaviours) (known : Known p) (few : size p ≤ 64) (e f : ℕ) where
  abbrev met : ℕ → Bool
  met = meets p everyone e f

  abbrev share : ℕ → Bool
  share = clashes p e f

  -- ---- what is shared in 01's word is shared in a handler of some behaviour

  to_handlers : (i : ℕ) → SharedBehaviour p e f i → SharedIn p AllOfThem e f i
  to_handlers i (both_write a b) = two_write a b
  to_handlers i (first_writes a r) = let g = named-reads p f r.0 in one_writes a (g.0, tt, g.1)
  to_handlers i (second_writes b r) = let g = named-reads p e r.0 in other_writes b (g.0, tt, g.1)

  from_handlers : (i : ℕ) → SharedIn p AllOfThem e f i → SharedBehaviour p e f i
  from_handlers i (two_write a b) = both_write a b
  from_handlers i (one_writes a r) = first_writes a (reads_named p f r.0 i r.2, active_written e (behaviour_at p i) a)
  from_handlers i (other_writes b r) = second_writes b (reads_named p e r.0 i r.2, active_written f (behaviour_at p i) b)

  shared_active : (i : ℕ) → SharedBehaviour p e f i → is_active (behaviour_at p i) ≡ true
  shared_active i (both_write a b) = active_written e (behaviour_at p i) a
  shared_active i (first_writes a r) = r.1
  shared_active i (second_writes b r) = r.1

  -- ---- the tests decide

  met_says : (i : ℕ) → i < size p → met i ≡ true → MeetAt p AllOfThem e f i
  met_says i b h = meets_says p each known few everyone AllOfThem (λ i b d. tt) (λ i b d. refl) e f i b h

  met_is : (i : ℕ) → MeetAt p AllOfThem e f i → met i ≡ true
  met_is i m = meets_is p each known few everyone AllOfThem (λ i b d. tt) (λ i b d. refl) e f i m

  met_or_adds : (i : ℕ) → SharedBehaviour p e f i → (met i ≡ true) ⊎ OnlyAdd p AllOfThem e f i
  met_or_adds i h = meets_or_adds p each known few everyone AllOfThem (λ i b d. tt) (λ i b d. refl) e f i tt (to_handlers i h)

  share_says : (i : ℕ) → share i ≡ true → SharedBehaviour p e f i
  share_says i h = shared_says p each known few e f i h

  share_is : (i : ℕ) → SharedBehaviour p e f i → share i ≡ true
  share_is i h = shared_is p each known few e f i h

  within : (i : ℕ) → SharedBehaviour p e f i → i < size p
  within i h = shared_within p each known few e f i h

  reads_flag : (g i : ℕ) → i < size p → is_active (behaviour_at p i) ≡ true → FlagOf (named_by p g i) (Reads p g i)
  reads_flag g i b a = ((λ h. (named_says p each known few g i b h, a)), (λ r. named_is p each known few g r.0))

  -- ---- none is found exactly if they are independent

  none_found : Independent p e f → (i : ℕ) → SharedBehaviour p e f i → ⊥
  none_found h i s = none_shared p each known few e f h i s

  no_test : (t : Bool) → (t ≡ true → ⊥) → t ≡ false
  no_test true h = absurd (h refl)
  no_test false h = refl

  pub zero_is : Independent p e f → pair_of p e f ≡ 0
  unfolding pair_of pair_by
  zero_is h =
      let a : least_told (size p) met ≡ 0 = none_least (size p) met (λ i b. no_test (met i) (λ t. none_found h i (from_handlers i (met_says i b t).shared))) in
      let c : least_told (size p) share ≡ 0 = none_least (size p) share (λ i b. no_test (share i) (λ t. none_found h i (share_says i t))) in
      rw (a, c)

  not_met : least_told (size p) met ≡ 0 → (i : ℕ) → MeetAt p AllOfThem e f i → ⊥
  not_met z i m = true≢false (sym (met_is i m) ∙ least_none (size p) met z i (within i (from_handlers i m.shared)))

  not_shared : least_told (size p) share ≡ 0 → (i : ℕ) → SharedBehaviour p e f i → ⊥
  not_shared z i s = true≢false (sym (share_is i s) ∙ least_none (size p) share z i (within i s))

  -- ---- what is named

  abbrev tells_meet : ℕ → ℕ
  tells_meet i = packed_pair (writes p e) (writes p f) (named_by p e) (named_by p f) 32 i

  abbrev tells_adds : ℕ → ℕ
  tells_adds i = packed_pair (writes p e) (writes p f) (named_by p e) (named_by p f) 16 i

  at_meeting : (i : ℕ) → Least (size p) met i → PairNamed p e f (tells_meet i)
  at_meeting i l =
      let m = met_says i l.below l.holds in
      let s = from_handlers i m.shared in
      let a = shared_active i s in
      record {
        behaviour = i;
        first_writes = writes p e i;
        second_writes = writes p f i;
        first_reads = named_by p e i;
        second_reads = named_by p f i;
        both_add = false;
        meet = true;
        is = meet_told (writes p e) (writes p f) (named_by p e) (named_by p f) i;
        in_sheet = l.below;
        shared = s;
        writes_first = ((λ h. h), (λ h. h));
        writes_second = ((λ h. h), (λ h. h));
        reads_first = reads_flag e i l.below a;
        reads_second = reads_flag f i l.below a;
        adds = ((λ h. absurd (true≢false (sym h))), (λ h. absurd (m.not_only_add h)));
        meets_there = ((λ h. m), (λ h. refl));
        either = refl;
        least_met = λ h j k. l.least j (met_is j k);
        none_met = λ h. absurd (true≢false h);
        least_shared = λ h. absurd (true≢false h);
      }

  at_sharing : least_told (size p) met ≡ 0 → (i : ℕ) → Least (size p) share i → PairNamed p e f (tells_adds i)
  at_sharing z i l =
      let s = share_says i l.holds in
      let a = shared_active i s in
      let o : OnlyAdd p AllOfThem e f i = ⊎_elim (λ t. absurd (true≢false (sym t ∙ least_none (size p) met z i l.below))) (λ o. o) (met_or_adds i s) in
      record {
        behaviour = i;
        first_writes = writes p e i;
        second_writes = writes p f i;
        first_reads = named_by p e i;
        second_reads = named_by p f i;
        both_add = true;
        meet = false;
        is = adds_told (writes p e) (writes p f) (named_by p e) (named_by p f) i;
        in_sheet = l.below;
        shared = s;
        writes_first = ((λ h. h), (λ h. h));
        writes_second = ((λ h. h), (λ h. h));
        reads_first = reads_flag e i l.below a;
        reads_second = reads_flag f i l.below a;
        adds = ((λ h. o), (λ h. refl));
        meets_there = ((λ h. absurd (true≢false (sym h))), (λ m. absurd (not_met z i m)));
        either = refl;
        least_met = λ h. absurd (true≢false (sym h));
        none_met = λ h. not_met z;
        least_shared = λ h j k. l.least j (share_is j k);
      }

  -- ---- the answer: none is shared, or the least is named

  pub told : (v : ℕ) → pair_of p e f ≡ v → ((v ≡ 0) × Independent p e f) ⊎ ((4294967296 ≤ v) × PairNamed p e f v)
  unfolding pair_of pair_by packed_pair
  told v q =
      split (eqb (least_told (size p) met) 0)
      (λ t. let z = eqb-true (least_told (size p) met) 0 t in
      split (eqb (least_told (size p) share) 0)
      (λ u. inl (sym q ∙ rw (t, u), apart p each known few e f (not_shared (eqb-true (least_told (size p) share) 0 u))))
      (λ u. let k : tells_adds (least_told (size p) share - 1) ≡ v = rw (t, u) at q in
      inr (subst (λ (y : ℕ). (4294967296 ≤ y) × PairNamed p e f y) k
      (omega arith, at_sharing z (least_told (size p) share - 1) (least_found (size p) share (eqb-false (least_told (size p) share) 0 u))))))
      (λ t. let k : tells_meet (least_told (size p) met - 1) ≡ v = rw t at q in
      inr (subst (λ (y : ℕ). (4294967296 ≤ y) × PairNamed p e f y) k
      (omega arith, at_meeting (least_told (size p) met - 1) (least_found (size p) met (eqb-false (least_told (size p) met) 0 t)))))
