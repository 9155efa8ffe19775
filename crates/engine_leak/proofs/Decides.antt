-- The answer is 0 exactly if no behaviour that the player sees depends on a hidden one, and what it names is true: a
-- chain from one that is seen stays among those that are seen, step by step, and the first answer that is not 0 is the
-- least.
use Rattle.lib_base.proofs.Prelude.{ℕ, ◌<◌, ◌-◌, ◌≡◌, refl, ◌∙◌, sym, true, false, Bool, true≢false, ◌&&◌}
use Rattle.lib_base.proofs.Prelude.{and-eq-true_iff, ◌≢◌, by_cases, dec_lt, not-true, not-false, arith}
use Rattle.lib_base.specs.Basics.{All}
use Rattle.lib_base.proofs.Tools.{split, by_test, chosen, not_chosen, passed}
use Rattle.spec_language.specs.Syntax.{Program}
use Rattle.spec_language.specs.Rights.{may_see}
use Rattle.spec_language.specs.Dependence.{size, events}
use Rattle.spec_language.specs.Fits.{BehaviourFits}
use Rattle.spec_language.specs.Accepted.{Known}
use Rattle.check_reads.specs.First.{first_from}
use Rattle.check_reads.proofs.FirstLaws.{first_found, first_all, first_none}
use Rattle.ask_leak.specs.Leaking.{leak_at, leak_from, leak_by}
use Rattle.ask_leak.specs.Answer.{packed_leak}
use Rattle.ask_leak.specs.Leak.{behaviour_names, hidden_in, leak_in}
use Rattle.ask_leak.proofs.LeakLaws.{packed_some, by_same}
use Rattle.secrecy_model.specs.Sight.{names, Sealed}
use Rattle.secrecy_model.proofs.Stores.{sealed_direct, direct_sealed}
use Rattle.engine_leak.specs.Leakless.{LeakNamed}
use Rattle.engine_leak.proofs.ByNames.{names_are, named_within}

module _ (p : Program) (each : All (BehaviourFits (events p)) p.behaviours) (known : Known p) (player : ℕ) where
  abbrev hid : ℕ → Bool
  hid = hidden_in p player

  -- the answer, by all names of a behaviour
  by_names : leak_in p player ≡ leak_by (size p) hid (names p)
  by_names = by_same (size p) hid hid (behaviour_names p) (names p) (λ i b. refl) (λ i j b. names_are p each known i j)

  -- ---- one behaviour that is seen

  from_zero : (i : ℕ) → may_see p player i ≡ true → leak_from (size p) hid (names p) i ≡ 0 → (j : ℕ) → names p i j ≡ true → may_see p player j ≡ false → ⊥
  unfolding leak_from leak_at
  from_zero i s z j n h =
      let a : first_from (size p) 0 (leak_at (size p) hid (names p) i) ≡ 0 = rw s at z in
      let b = (named_within p each known i j n).1 in
      let c = first_all (size p) 0 (leak_at (size p) hid (names p) i) a j (omega arith) (omega arith) in
      let t : names p i j && hid j ≡ true = rw (n, h) in
      true≢false (sym t ∙ not_chosen (names p i j && hid j) (packed_leak i j) (packed_some i j) c)

  zero_at : leak_by (size p) hid (names p) ≡ 0 → (i : ℕ) → i < size p → leak_from (size p) hid (names p) i ≡ 0
  unfolding leak_by
  zero_at z i b = first_all (size p - 0) 0 (leak_from (size p) hid (names p)) z i (omega arith) (omega arith)

  pub zero_says : leak_in p player ≡ 0 → Sealed p player
  zero_says z =
      direct_sealed p player
      (λ i j s n. split (may_see p player j) (λ t. t)
      (λ t. absurd (from_zero i s (zero_at (sym by_names ∙ z) i (named_within p each known i j n).0) j n t)))

  none_found : Sealed p player → leak_by (size p) hid (names p) ≡ 0
  unfolding leak_by leak_from leak_at
  none_found h =
      first_none (size p - 0) 0 (leak_from (size p) hid (names p))
      (λ i a b. by_test (λ x. x ≡ 0) (hid i) (λ t. refl)
      (λ t. first_none (size p) 0 (leak_at (size p) hid (names p) i)
      (λ j c d. by_test (λ x. x ≡ 0) (names p i j && hid j)
      (λ u. let g = (and-eq-true_iff (names p i j) (hid j)).0 u in
      absurd (true≢false (sym (sealed_direct p player h i j (not-false (may_see p player i) t) g.0) ∙ not-true (may_see p player j) g.1)))
      (λ u. refl))))

  pub zero_is : Sealed p player → leak_in p player ≡ 0
  zero_is h = by_names ∙ none_found h

  -- ---- what is named

  found : (v : ℕ) → leak_by (size p) hid (names p) ≡ v → v ≢ 0 → LeakNamed p player v
  unfolding leak_by leak_from leak_at
  found v q h =
      let a = first_found (size p - 0) 0 (leak_from (size p) hid (names p)) v q h in
      let i = a.place in
      let g = passed (hid i) (first_from (size p) 0 (leak_at (size p) hid (names p) i)) (λ z. h (sym a.answer ∙ z)) in
      let b = first_found (size p) 0 (leak_at (size p) hid (names p) i) v (sym g.1 ∙ a.answer) h in
      let j = b.place in
      let c = chosen (names p i j && hid j) (packed_leak i j) (λ z. h (sym b.answer ∙ z)) in
      let t = (and-eq-true_iff (names p i j) (hid j)).0 c.0 in
      record {
        seen = i;
        hidden = j;
        is = sym b.answer ∙ c.1;
        seen_in = omega (arith, a.below);
        hidden_in_law = omega (arith, b.below);
        sees = not-false (may_see p player i) g.0;
        not_sees = not-true (may_see p player j) t.1;
        named = t.0;
        least_seen = λ k l s n u. by_cases (dec_lt k i) (λ w. absurd (from_zero k s (a.before k (omega arith) w) l n u)) (λ w. omega arith);
        least_hidden = λ l n u. by_cases (dec_lt l j)
            (λ w. let o : names p i l && hid l ≡ true = rw (n, u) in
            absurd (true≢false (sym o ∙ not_chosen (names p i l && hid l) (packed_leak i l) (packed_some i l) (b.before l (omega arith) w))))
            (λ w. omega arith);
      }

  pub named_is_true : (v : ℕ) → leak_in p player ≡ v → v ≢ 0 → LeakNamed p player v
  named_is_true v q = found v (sym by_names ∙ q)
