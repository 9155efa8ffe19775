-- The instructions that work out the passives, of an event or of none (language `again_code`), run with all of the
-- store in scratch: they give the passives of the carried store, use no more than the stack has and leave it empty. By
-- the laws of the second phase, and since the passives follow from the actives alone.
use Rattle.lib_base.proofs.Prelude.{ℕ, ◌≤◌, ◌<◌, ◌+◌, ◌≡◌, refl, ◌∙◌, sym, ap, subst, true, false, false≢true, List, []}
use Rattle.lib_base.proofs.Prelude.{sum, length, get_or, length-append, ext_get_or, arith}
use Rattle.lib_base.proofs.Tools.{by_test}
use Rattle.spec_language.specs.Syntax.{Expr, Handler, Behaviour, passive, active, Program}
use Rattle.spec_language.specs.Dependence.{Response, follows, takes, defers, keeps, handled, respond, size, no_event, behaviour_at, response, is_active}
use Rattle.spec_language.specs.Order.{up_to, phase_one}
use Rattle.spec_language.specs.Valid.{Valid}
use Rattle.spec_language.specs.Code.{Instr, again_code, in_c, in_order, size_of}
use Rattle.spec_language.proofs.Laws.{length_up_to, get_d_up_to, up_to_same}
use Rattle.spec_semantics.specs.Meaning.{at, in_turn}
use Rattle.spec_semantics.specs.Event.{again_step}
use Rattle.spec_semantics.proofs.Solution.{again_of, again_solved, Follows, passives_unique}
use Rattle.spec_semantics.proofs.Handlers.{Says, handled_says}
use Rattle.spec_execution.specs.Execution.{Values, held_at}
use Rattle.spec_execution.specs.Runs.{execute_all}
use Rattle.spec_execution.specs.Safe.{Filled, Safe, filled_after as checked}
use Rattle.spec_execution.proofs.Right.{Seen, after_again}
use Rattle.spec_execution.proofs.SafeParts.{again_passes, again_held}
use Rattle.spec_execution.proofs.Lengths.{length_postfix, late_again, length_turns}
use Rattle.spec_model.specs.Carried.{is_active_in, carried_start, carried}
use Rattle.spec_model.proofs.Carries.{length_carried, carried_consistent, carried_active}

-- the passives' code on event e
abbrev pub passives_code : Program → ℕ → List Instr
passives_code q e = in_order q e (again_code (in_c q e)) (phase_one q e)

-- all of the store t stands in scratch, and the stack is empty
pub record Loaded (n : ℕ) (t : List ℕ) (d : Values) : Type 0 where
  pub stored : d.store ≡ t
  pub scratched : length d.scratch ≡ n
  pub places : length d.deferred ≡ n
  pub empty : d.stack ≡ []
  pub copied : (i : ℕ) → i < n → held_at d.scratch i ≡ at t i

-- a passive's scratch goes back to the store
abbrev pub back : Behaviour → ℕ → ℕ → ℕ
back (passive x) scratch store = scratch
back (active c hs) scratch store = store

-- what the passives' code adds for a behaviour
abbrev pub passive_share : Response → ℕ
passive_share (follows x) = size_of x + 1
passive_share (takes x) = 0
passive_share (defers x) = 0
passive_share keeps = 0

again_active : (e : ℕ) (t : List ℕ) (look : ℕ → ℕ) (i : ℕ) (hs : List Handler) (r : Response) → Says e hs r → again_of t look i r ≡ at t i
again_active e t look i hs (follows x) h = absurd h
again_active e t look i hs (takes x) h = refl
again_active e t look i hs (defers x) h = refl
again_active e t look i hs keeps h = refl

module _ (q : Program) (v : Valid q) (e : ℕ) (declared : e ≤ no_event q) where
  -- ---- the store that the second time over leads to

  abbrev again : List ℕ → List ℕ
  again t = in_turn q e again_step (phase_one q e) t

  again_kept : (t : List ℕ) → length t ≡ size q → (i : ℕ) → i < size q → (b : Behaviour) → behaviour_at q i ≡ b → is_active b ≡ true → at (again t) i ≡ at t i
  again_kept t n i l (passive x) h a = absurd (false≢true a)
  again_kept t n i l (active c hs) h a =
      (again_solved q v e declared t n).1 i l ∙ ap (λ y. again_of t (at (again t)) i (respond e y)) h
      ∙ again_active e t (at (again t)) i hs (handled e hs) (handled_says e hs)

  again_follows : (t : List ℕ) → length t ≡ size q → Follows q (at (again t))
  again_follows t n i x l h = (again_solved q v e declared t n).1 i l ∙ ap (λ y. again_of t (at (again t)) i (respond e y)) h

  -- ---- where the actives are those of the carried store, it is that store

  module _ (p : Program) (s t : List ℕ) (sized : length t ≡ size q)
      (same : (i : ℕ) → i < size q → is_active (behaviour_at q i) ≡ true → at t i ≡ carried_start (is_active_in p i) (at s i) (behaviour_at q i)) where
    pub again_carried : again t ≡ carried p q s
    again_carried =
        let n : length (again t) ≡ size q = (again_solved q v e declared t sized).0 in
        ext_get_or 0 (again t) (carried p q s) (n ∙ sym (length_carried p q s)) (λ i b.
        passives_unique q v (at (again t)) (at (carried p q s)) (again_follows t sized) (carried_consistent p q v s).1
        (λ j l a. again_kept t sized j l (behaviour_at q j) refl a ∙ same j l a ∙ sym (carried_active p q v s j l a)) i (subst (λ (m : ℕ). i < m) n b))

    module _ (d : Values) (loaded : Loaded (size q) t d) where
      seen_first : Seen q v e t d t
      seen_first = record {
        kept = loaded.stored;
        scratched = loaded.scratched;
        places = loaded.places;
        empty = loaded.empty;
        sized = sized;
        seen = λ i l. by_test (λ (x : ℕ). x ≡ at t i) (in_c q e i) (λ _. loaded.copied i l) (λ _. ap (λ (x : List ℕ). at x i) loaded.stored);
      }

      seen_last : Seen q v e t (execute_all (passives_code q e) d) (carried p q s)
      seen_last = subst (Seen q v e t (execute_all (passives_code q e) d)) again_carried (after_again q v e t d t seen_first)

      -- the store is as it was, and the stack is empty again
      pub passives_store : (execute_all (passives_code q e) d).store ≡ t
      passives_store = seen_last.kept

      pub passives_stack : (execute_all (passives_code q e) d).stack ≡ []
      passives_stack = seen_last.empty

      -- each passive's scratch is its carried value
      pub passives_right : (i : ℕ) (x : Expr) → i < size q → behaviour_at q i ≡ passive x → held_at (execute_all (passives_code q e) d).scratch i ≡ at (carried p q s) i
      passives_right i x l h =
          let inside : in_c q e i ≡ true = rw h in
          rw inside at (seen_last.seen i l)

      back_right : (i : ℕ) → i < size q → (b : Behaviour) → behaviour_at q i ≡ b
          → back b (held_at (execute_all (passives_code q e) d).scratch i) (at t i) ≡ at (carried p q s) i
      back_right i l (passive x) h = passives_right i x l h
      back_right i l (active c hs) h = same i l (ap is_active h) ∙ sym (carried_active p q v s i l (ap is_active h))

      -- the passives' scratch brought back: the carried store
      pub passives_carried : up_to (size q) (λ i. back (behaviour_at q i) (held_at (execute_all (passives_code q e) d).scratch i) (at t i)) ≡ carried p q s
      passives_carried =
          ext_get_or 0 _ (carried p q s) (length_up_to (size q) _ ∙ sym (length_carried p q s)) (λ i b.
          let l : i < size q = subst (λ (m : ℕ). i < m) (length_up_to (size q) _) b in
          get_d_up_to (size q) _ i 0 l ∙ back_right i l (behaviour_at q i) refl)

  -- ---- each instruction has what it needs, and the stack is empty in the end

  pub passives_safe : (a : Filled) → length a.scratch ≡ size q → length a.deferred ≡ size q → a.depth ≡ 0
      → ((i : ℕ) → i < size q → get_or a.scratch i false ≡ true) → Safe a (passives_code q e)
  passives_safe a n m z h = again_passes q v e a (record { scratched = n; places = m; level = z; have = λ i l _. h i l })

  -- and a passive's place of scratch is filled after it
  pub passives_held : (a : Filled) → length a.scratch ≡ size q → length a.deferred ≡ size q → a.depth ≡ 0
      → ((i : ℕ) → i < size q → get_or a.scratch i false ≡ true) → (i : ℕ) (x : Expr) → i < size q → behaviour_at q i ≡ passive x
      → get_or (checked a (passives_code q e)).scratch i false ≡ true
  passives_held a n m z h i x l k =
      let inside : in_c q e i ≡ true = rw k in
      (again_held q v e a (record { scratched = n; places = m; level = z; have = λ j b _. h j b })).have i l inside

  -- ---- how many they are

  share_again : (i : ℕ) (r : Response) → length (again_code (in_c q e) i r) ≡ passive_share r
  share_again i (follows x) = simp length-append (omega (arith, length_postfix (in_c q e) x))
  share_again i (takes x) = refl
  share_again i (defers x) = refl
  share_again i keeps = refl

  pub passives_length_law : length (passives_code q e) ≡ sum ◌+◌ 0 (up_to (size q) (λ i. passive_share (response q e i)))
  passives_length_law =
      length_turns q e v declared (again_code (in_c q e)) (late_again (in_c q e)) ∙ ap (sum ◌+◌ 0) (up_to_same (size q) _ _ (λ i _. share_again i (response q e i)))
