-- The length of an event's code: of each part, and of the whole by 01's count. Phase one's order holds everyone that
-- has a turn there, once: so a sum over it is one over all.
use Rattle.lib_base.proofs.Prelude.{ℕ, ◌≤◌, ◌+◌, ◌*◌, ◌≡◌, refl, ◌∙◌, ap, false, Bool, true≢false, List, [], ◌∷◌, ◌++◌}
use Rattle.lib_base.proofs.Prelude.{map, flat_map, sum, length, length-append, arith}
use Rattle.spec_language.specs.Syntax.{Expr, con, name, app1, app2, app3, Program}
use Rattle.spec_language.specs.Dependence.{Response, follows, takes, defers, keeps, size, no_event, response, depends_on}
use Rattle.spec_language.specs.Order.{up_to, early, phase_one, met_at_once}
use Rattle.spec_language.specs.Valid.{Valid}
use Rattle.spec_language.specs.Code.{Instr, copy, restore}
use Rattle.spec_language.specs.Code.{postfix, of_c, first_code, later_code, move_code, again_code, in_c, copied, by_number, in_order, copy_part}
use Rattle.spec_language.specs.Code.{first_part, second_part, restore_part, code, size_of, share, instructions, one?, members}
use Rattle.spec_language.proofs.Laws.{up_to_same}
use Rattle.spec_semantics.proofs.OrderLaws.{phase_one_ordered, phase_one_marks, length_met, met_late}
use Rattle.spec_execution.proofs.Sums.{length_flatten, sum_add, total_is_sum}

pub length_postfix : (c : ℕ → Bool) (x : Expr) → length (postfix c x) ≡ size_of x
unfolding postfix size_of
length_postfix c (con w) = refl
length_postfix c (name i) = refl
length_postfix c (app1 f a) = simp length-append (omega (arith, length_postfix c a))
length_postfix c (app2 f a b) = simp length-append (omega (arith, length_postfix c a, length_postfix c b))
length_postfix c (app3 f a b d) = simp length-append (omega (arith, length_postfix c a, length_postfix c b, length_postfix c d))

length_of_c : (f : ℕ → Instr) (i : ℕ) (r : Response) → length (of_c f i r) ≡ one? (copied r)
length_of_c f i (follows x) = refl
length_of_c f i (takes x) = refl
length_of_c f i (defers x) = refl
length_of_c f i keeps = refl

-- what the parts between the copies and the copies back give
abbrev between : (ℕ → Bool) → ℕ → Response → ℕ
between c i r = (length (first_code c i r) + length (later_code c i r)) + (length (move_code i r) + length (again_code c i r))

share_is : (c : ℕ → Bool) (i : ℕ) (r : Response) → share r ≡ (one? (copied r) + one? (copied r)) + between c i r
share_is c i (follows x) = simp length-append (omega (arith, length_postfix c x))
share_is c i (takes x) = simp length-append (omega (arith, length_postfix c x))
share_is c i (defers x) = simp length-append (omega (arith, length_postfix c x))
share_is c i keeps = refl

late_first : (c : ℕ → Bool) (i : ℕ) (r : Response) → early r ≡ false → length (first_code c i r) ≡ 0
late_first c i (follows x) h = absurd (true≢false h)
late_first c i (takes x) h = absurd (true≢false h)
late_first c i (defers x) h = refl
late_first c i keeps h = refl

pub late_again : (c : ℕ → Bool) (i : ℕ) (r : Response) → early r ≡ false → length (again_code c i r) ≡ 0
late_again c i (follows x) h = absurd (true≢false h)
late_again c i (takes x) h = refl
late_again c i (defers x) h = refl
late_again c i keeps h = refl

module _ (p : Program) (e : ℕ) where
  abbrev pub mid : List Instr
  mid = first_part p e ++ second_part p e

  -- the numbers that one part gives
  abbrev lengths : (ℕ → Response → List Instr) → ℕ → ℕ
  lengths f i = length (f i (response p e i))

  length_in_order : (f : ℕ → Response → List Instr) (is : List ℕ) → length (in_order p e f is) ≡ sum ◌+◌ 0 (map (lengths f) is)
  unfolding in_order flat_map sum
  length_in_order f [] = refl
  length_in_order f (i ∷ is) = rw (length-append (f i (response p e i)) (in_order p e f is), length_in_order f is)

  pub length_C : (f : ℕ → Instr) → length (by_number p e (of_c f)) ≡ members p e
  unfolding members
  length_C f = length_flatten (size p) _ ∙ ap (sum ◌+◌ 0) (up_to_same (size p) _ _ (λ i _. length_of_c f i (response p e i)))

  -- masked stretches of known length, and the rest
  pub length_code : length (code p e) ≡ 4 + 2 * members p e + length mid
  unfolding code copy_part restore_part
  length_code = simp length-append (omega (arith, length_C copy, length_C restore))

  module _ (v : Valid p) (declared : e ≤ no_event p) where
    pub length_turns : (f : ℕ → Response → List Instr) → ((i : ℕ) (r : Response) → early r ≡ false → length (f i r) ≡ 0)
        → length (in_order p e f (phase_one p e)) ≡ sum ◌+◌ 0 (up_to (size p) (lengths f))
    length_turns f late =
        length_in_order f (phase_one p e)
        ∙ total_is_sum (size p) (depends_on p e) (lengths f) (phase_one p e) (met_at_once p e) (length_met p e) (phase_one_ordered p e v.known)
        (phase_one_marks p v e declared) (λ i b m. late i (response p e i) (met_late p e i b m))

    length_mid : length mid ≡ sum ◌+◌ 0 (up_to (size p) (λ i. between (in_c p e) i (response p e i)))
    unfolding first_part second_part
    length_mid =
        let c = in_c p e in
        let n = size p in
        let f = lengths (first_code c) in
        let l = lengths (later_code c) in
        let m = lengths move_code in
        let a = lengths (again_code c) in
        let first : length (in_order p e (first_code c) (phase_one p e)) ≡ sum ◌+◌ 0 (up_to n f) = length_turns (first_code c) (late_first c) in
        let later : length (by_number p e (later_code c)) ≡ sum ◌+◌ 0 (up_to n l) = length_flatten n _ in
        let moves : length (by_number p e move_code) ≡ sum ◌+◌ 0 (up_to n m) = length_flatten n _ in
        let again : length (in_order p e (again_code c) (phase_one p e)) ≡ sum ◌+◌ 0 (up_to n a) = length_turns (again_code c) (late_again c) in
        simp length-append (omega (arith, first, later, moves, again, sum_add n (λ i. f i + l i) (λ i. m i + a i), sum_add n f l, sum_add n m a))

    pub length_counted : length (code p e) ≡ instructions p e
    unfolding instructions members
    length_counted =
        let n = size p in
        let o : ℕ → ℕ = λ i. one? (in_c p e i) in
        let b : ℕ → ℕ = λ i. between (in_c p e) i (response p e i) in
        let shares : sum ◌+◌ 0 (up_to n (λ i. share (response p e i))) ≡ sum ◌+◌ 0 (up_to n (λ i. (o i + o i) + b i)) = ap (sum ◌+◌ 0) (up_to_same n _ _ (λ i _. share_is (in_c p e) i (response p e i))) in
        omega (arith, shares, sum_add n (λ i. o i + o i) b, sum_add n o o, length_mid, length_code)
