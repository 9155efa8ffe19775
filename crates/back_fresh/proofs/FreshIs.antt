-- What compile works out from a draft are the values of a fresh round: the start values are the draft's, and each turn
-- of the order is one of phase one under no event. The 64 values are those of the behaviours, and zeros; so a turn on
-- them is a turn on the behaviours' values alone.
use Rattle.lib_base.proofs.Prelude.{ℕ, ◌≤◌, ◌<◌, ◌+◌, ◌-◌, suc, zero, ◌%◌, ◌≡◌, refl, ◌∙◌, sym, ap, true, false≢true}
use Rattle.lib_base.proofs.Prelude.{by_cases, List, [], ◌∷◌, ◌++◌, length, get_or, length-set, set, replicate}
use Rattle.lib_base.proofs.Prelude.{length-append, length-replicate, List·getD-eq-default, get_or-set_other}
use Rattle.lib_base.proofs.Prelude.{get_or-set_same, ext_get_or, ltb, dec_lt, ℕ_discrete, lt-ltb, arith}
use lib.Seq.{set-append_left}
use Rattle.lib_base.specs.Basics.{All}
use Rattle.lib_base.proofs.Tools.{all_at}
use Rattle.spec_language.specs.Syntax.{Expr, Behaviour, passive, active, Program}
use Rattle.spec_language.specs.Dependence.{Response, follows, takes, defers, keeps, size, no_event, response, behaviour_at}
use Rattle.spec_language.specs.Order.{early, phase_one}
use Rattle.spec_language.specs.Fits.{Nested, BehaviourFits, Fits}
use Rattle.spec_language.specs.Accepted.{NamesIn}
use Rattle.spec_language.specs.Valid.{Valid}
use Rattle.spec_language.proofs.Laws.{get_d_up_to}
use Rattle.spec_semantics.specs.Meaning.{value, at, first_step, in_turn, first_phase, start_of, starts, fresh}
use Rattle.spec_semantics.proofs.OrderLaws.{phase_one_early}
use Rattle.spec_semantics.proofs.Lengths.{length_first, length_starts, length_fresh}
use Rattle.spec_execution.proofs.Responses.{ResponseFits, response_fits}
use Rattle.spec_execution.proofs.Running.{value_same}
use Rattle.draft_form.specs.Draft.{entry_of, used_by, Stands, EntrySays, StartIs, Drafted}
use Rattle.back_fresh.specs.Evaluate.{starts_on, turn_on, turns_on, fresh_on}
use Rattle.back_fresh.proofs.NodesAre.{entry_is}

-- ---- values and zeros

zeros_at : (m j : ℕ) → at (replicate m 0) j ≡ 0
zeros_at zero j = refl
zeros_at (suc m) zero = refl
zeros_at (suc m) (suc j) = zeros_at m j

pad_at : (s : List ℕ) (m j : ℕ) → at (s ++ replicate m 0) j ≡ at s j
pad_at [] m j = zeros_at m j
pad_at (x ∷ s) m zero = refl
pad_at (x ∷ s) m (suc j) = pad_at s m j

-- ---- the start values

length_starts_on : (d : List ℕ) (n : ℕ) → length (starts_on d n) ≡ 64
unfolding starts_on
length_starts_on d zero = refl
length_starts_on d (suc n) = length-set (starts_on d n) n _ ∙ length_starts_on d n

starts_past : (d : List ℕ) (n j : ℕ) → n ≤ j → get_or (starts_on d n) j 0 ≡ 0
unfolding starts_on
starts_past d zero j h = zeros_at 64 j
starts_past d (suc n) j h = get_or-set_other (starts_on d n) n j _ 0 (omega arith) ∙ starts_past d n j (omega arith)

starts_below : (d : List ℕ) (n j : ℕ) → n ≤ 64 → j < n → get_or (starts_on d n) j 0 ≡ get_or d (4160 + j) 0 % 4294967296
unfolding starts_on
starts_below d zero j b h = absurd (omega arith)
starts_below d (suc n) j b h =
    by_cases (ℕ_discrete j n)
    (λ e. rw e (get_or-set_same (starts_on d n) n _ 0 (omega (arith, length_starts_on d n))))
    (λ e. get_or-set_other (starts_on d n) n j _ 0 e ∙ starts_below d n j (omega arith) (omega arith))

start_is : (d : List ℕ) (m i : ℕ) (b : Behaviour) → BehaviourFits m b → StartIs d i b → get_or d (4160 + i) 0 % 4294967296 ≡ start_of b
start_is d m i (passive x) f h = rw h
start_is d m i (active s hs) f h = rw h (omega (arith, f.0))

module _ (p : Program) (d : List ℕ) (k : ℕ) (drafted : Drafted p d k) (fits : Fits p) (valid : Valid p) where
  abbrev rest : List ℕ
  rest = replicate (64 - size p) 0

  starts_at : (j : ℕ) → j < size p → get_or (starts_on d (size p)) j 0 ≡ at (starts p) j
  unfolding starts
  starts_at j h =
      starts_below d (size p) j fits.few_behaviours h
      ∙ start_is d (length p.priorities) j (behaviour_at p j)
      (all_at (BehaviourFits (length p.priorities)) p.behaviours j (active 0 []) fits.each h) (drafted.starts j h)
      ∙ sym (get_d_up_to (size p) (λ i. start_of (behaviour_at p i)) j 0 h)

  starts_are : starts_on d (size p) ≡ starts p ++ rest
  starts_are =
      ext_get_or 0 (starts_on d (size p)) (starts p ++ rest)
      (length_starts_on d (size p) ∙ rw (length-append, length_starts p, length-replicate) (omega (arith, fits.few_behaviours)))
      (λ j b. by_cases (dec_lt j (size p))
      (λ h. starts_at j h ∙ sym (pad_at (starts p) (64 - size p) j))
      (λ h. starts_past d (size p) j (omega arith) ∙ sym (pad_at (starts p) (64 - size p) j ∙ List·getD-eq-default (starts p) 0 (omega (arith, length_starts p)))))

  -- ---- one turn

  module _ (e : ℕ) (known : e ≤ 32) where
    sets_value : (i : ℕ) (s : List ℕ) (kind : ℕ) (x : Expr) → kind < 4 → i < size p → length s ≡ size p → Stands (used_by d i) kind (entry_of d e i) x → Nested 16 x
        → NamesIn (size p) x → turn_on d e i (s ++ rest) ≡ set s i (value (at s) x) ++ rest
    unfolding turn_on
    sets_value i s kind x q b l t h n =
        let few : size p ≤ 64 = fits.few_behaviours in
        let g : ltb i 64 ≡ true = lt-ltb i 64 (omega arith) in
        rw (
          g,
          entry_is (s ++ rest) (used_by d i) kind (entry_of d e i) x q t h (size p) few n,
          value_same (size p) (at (s ++ rest)) (at s) (λ j c. pad_at s (64 - size p) j) x n,
        ) (set-append_left s rest i (value (at s) x) (omega arith))

    turn_is : (i : ℕ) (s : List ℕ) (r : Response) → early r ≡ true → i < size p → length s ≡ size p → EntrySays (used_by d i) (entry_of d e i) r → ResponseFits (size p) r
        → turn_on d e i (s ++ rest) ≡ first_step i r s ++ rest
    turn_is i s (follows x) y b l t h = sets_value i s 1 x (omega arith) b l t h.0 h.1
    turn_is i s (takes x) y b l t h = sets_value i s 2 x (omega arith) b l t h.0 h.1
    turn_is i s (defers x) y b l t h = absurd (false≢true y)
    turn_is i s keeps y b l t h = absurd (false≢true y)

    turns_are : (is : List ℕ) → All (λ i. (i < size p) × (early (response p e i) ≡ true)) is → (s : List ℕ) → length s ≡ size p
        → turns_on d e is (s ++ rest) ≡ in_turn p e first_step is s ++ rest
    unfolding turns_on in_turn
    turns_are [] a s l = refl
    turns_are (i ∷ is) a s l =
        ap (turns_on d e is) (turn_is i s (response p e i) a.0.1 a.0.0 l (drafted.says e i known a.0.0) (response_fits p valid e i))
        ∙ turns_are is a.1 (first_step i (response p e i) s) (length_first i (response p e i) s ∙ l)

  -- ---- all of them

  pub fresh_is : fresh_on d (size p) (no_event p) (phase_one p (no_event p)) ≡ fresh p ++ replicate (64 - size p) 0
  unfolding fresh_on fresh first_phase
  fresh_is =
      ap (turns_on d (no_event p) (phase_one p (no_event p))) starts_are
      ∙ turns_are (no_event p) fits.few_events (phase_one p (no_event p)) (phase_one_early p (no_event p) valid.known) (starts p) (length_starts p)

  -- the zeros counted from their number
  pub fresh_padded : fresh_on d (size p) (no_event p) (phase_one p (no_event p)) ≡ fresh p ++ replicate (64 - length (fresh p)) 0
  fresh_padded = rw (length_fresh p) fresh_is
