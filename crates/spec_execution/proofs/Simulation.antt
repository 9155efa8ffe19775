-- What one behaviour's code does, part by part: the view (scratch for members of C, else the store) takes the step that
-- the meaning's store takes.
use Rattle.lib_base.proofs.Prelude.{ℕ, ◌≤◌, ◌<◌, suc, ◌≡◌, refl, ◌∙◌, sym, ap, true, false, Bool, ◌≢◌, by_cases, Option}
use Rattle.lib_base.proofs.Prelude.{some, none, List, [], ◌∷◌, ◌++◌, length, length-set, set, get_or-set_other}
use Rattle.lib_base.proofs.Prelude.{get_or-set_same, ℕ_discrete, arith}
use Rattle.lib_base.specs.Basics.{pick}
use Rattle.spec_language.specs.Syntax.{Expr}
use Rattle.spec_language.specs.Dependence.{Response, follows, takes, defers, keeps}
use Rattle.spec_language.specs.Fits.{Nested}
use Rattle.spec_language.specs.Accepted.{NamesIn}
use Rattle.spec_language.specs.Code.{copy, restore, save, defer, postfix, of_c, first_code, later_code, move_code, again_code, copied}
use Rattle.spec_semantics.specs.Meaning.{value, first_step, at}
use Rattle.spec_semantics.specs.Event.{later_value, again_step}
use Rattle.spec_semantics.specs.OverMeaning.{over_in}
use Rattle.spec_execution.specs.Execution.{Values, held, held_at, execute}
use Rattle.spec_execution.specs.Runs.{execute_all}
use Rattle.spec_execution.proofs.Responses.{ResponseFits}
use Rattle.spec_execution.proofs.Running.{looked, noted, run_postfix, value_same}

-- the values are those of a store t, seen through scratch where c says so; the store itself is still s
pub record View (n : ℕ) (c : ℕ → Bool) (s : List ℕ) (d : Values) (t : List ℕ) : Type 0 where
  pub kept : d.store ≡ s
  pub scratched : length d.scratch ≡ n
  pub places : length d.deferred ≡ n
  pub empty : d.stack ≡ []
  pub sized : length t ≡ n
  pub seen : (i : ℕ) → i < n → looked c d i ≡ at t i

-- w put in place i of scratch
abbrev pub filled : ℕ → ℕ → Values → Values
filled i w d = record { store = d.store; scratch = set d.scratch i (some w); stack = d.stack; deferred = d.deferred; mark = d.mark }

-- one place filled where scratch counts: the view has the new value there and the old ones elsewhere
pub look_same : (c : ℕ → Bool) (d : Values) (i w : ℕ) → i < length d.scratch → c i ≡ true → looked c (filled i w d) i ≡ w
look_same c d i w h inside = rw (inside, get_or-set_same d.scratch i (some w) none h)

pub look_other : (c : ℕ → Bool) (d : Values) (i j w : ℕ) → j ≢ i → looked c (filled i w d) j ≡ looked c d j
look_other c d i j w h = rw (get_or-set_other d.scratch i j (some w) none h)

module _ (n : ℕ) (c : ℕ → Bool) (s : List ℕ) where
  pub view_fill : (d : Values) (t : List ℕ) (i w : ℕ) → i < n → c i ≡ true → View n c s d t → View n c s (filled i w d) (set t i w)
  view_fill d t i w b inside v = record {
    kept = v.kept;
    scratched = length-set d.scratch i (some w) ∙ v.scratched;
    places = v.places;
    empty = v.empty;
    sized = length-set t i w ∙ v.sized;
    seen = λ j h. by_cases (ℕ_discrete j i)
        (λ e. rw e (look_same c d i w (omega (arith, v.scratched)) inside ∙ sym (get_or-set_same t i w 0 (omega (arith, v.sized)))))
        (λ e. look_other c d i j w e ∙ v.seen j h ∙ sym (get_or-set_other t i j w 0 e));
  }

  -- a mark changes no value
  view_noted : (m : Bool) (d : Values) (t : List ℕ) → View n c s d t → View n c s (noted m d) t
  view_noted m d t v = record { kept = v.kept; scratched = v.scratched; places = v.places; empty = v.empty; sized = v.sized; seen = v.seen }

  -- code of an expression and then a save: the meaning's store takes the value there
  view_save : (d : Values) (t : List ℕ) (i : ℕ) (x : Expr) (k : ℕ) → Nested k x → NamesIn n x → i < n → c i ≡ true → View n c s d t
      → View n c s (execute_all (postfix c x ++ (save i ∷ [])) d) (set t i (value (at t) x))
  unfolding execute_all execute
  view_save d t i x k h names b inside v =
      let o = over_in (looked c d) x in
      rw (run_postfix c h (save i ∷ []) d, value_same n (looked c d) (at t) v.seen x names) (view_fill (noted o d) t i (value (at t) x) b inside (view_noted o d t v))

  -- ---- phase one, and the second time

  pub first_one : (d : Values) (t : List ℕ) (i : ℕ) (r : Response) → ResponseFits n r → copied r ≡ c i → i < n → View n c s d t
      → View n c s (execute_all (first_code c i r) d) (first_step i r t)
  unfolding execute_all
  first_one d t i (follows x) h k b v = view_save d t i x 16 h.0 h.1 b (sym k) v
  first_one d t i (takes x) h k b v = view_save d t i x 16 h.0 h.1 b (sym k) v
  first_one d t i (defers x) h k b v = v
  first_one d t i keeps h k b v = v

  pub again_one : (d : Values) (t : List ℕ) (i : ℕ) (r : Response) → ResponseFits n r → copied r ≡ c i → i < n → View n c s d t
      → View n c s (execute_all (again_code c i r) d) (again_step i r t)
  unfolding execute_all
  again_one d t i (follows x) h k b v = view_save d t i x 16 h.0 h.1 b (sym k) v
  again_one d t i (takes x) h k b v = v
  again_one d t i (defers x) h k b v = v
  again_one d t i keeps h k b v = v

  -- ---- later handlers: their values wait in their places

  abbrev pub Waits : List ℕ → List (Option ℕ) → ℕ → Response → Type 0
  Waits t places i (follows x) = Unit {0}
  Waits t places i (takes x) = Unit {0}
  Waits t places i (defers x) = held_at places i ≡ value (at t) x
  Waits t places i keeps = Unit {0}

  pub waits_other : (t : List ℕ) (places : List (Option ℕ)) (i w : ℕ) (j : ℕ) (q : Response) → j ≢ i → Waits t places j q → Waits t (set places i (some w)) j q
  waits_other t places i w j (follows x) h k = tt
  waits_other t places i w j (takes x) h k = tt
  waits_other t places i w j (defers x) h k = rw (get_or-set_other places i j (some w) none h) k
  waits_other t places i w j keeps h k = tt

  abbrev pub LaterOne : List ℕ → Values → Values → ℕ → Response → Type 0
  LaterOne t d d' i r =
      View n c s d' t × Waits t d'.deferred i r × ((j : ℕ) (q : Response) → j ≢ i → Waits t d.deferred j q → Waits t d'.deferred j q)

  -- w put in place i of the deferred values
  abbrev deferred : ℕ → ℕ → Values → Values
  deferred i w d = record { store = d.store; scratch = d.scratch; stack = d.stack; deferred = set d.deferred i (some w); mark = d.mark }

  later_defers : (d : Values) (t : List ℕ) (i w : ℕ) (x : Expr) → w ≡ value (at t) x → i < n → View n c s d t → LaterOne t d (deferred i w d) i (defers x)
  later_defers d t i w x e b v = (
    record { kept = v.kept; scratched = v.scratched; places = length-set d.deferred i (some w) ∙ v.places; empty = v.empty; sized = v.sized; seen = v.seen },
    ap held (get_or-set_same d.deferred i (some w) none (omega (arith, v.places))) ∙ e,
    λ j q h k. waits_other t d.deferred i w j q h k,
  )

  pub later_one : (d : Values) (t : List ℕ) (i : ℕ) (r : Response) → ResponseFits n r → i < n → View n c s d t → LaterOne t d (execute_all (later_code c i r) d) i r
  unfolding execute_all execute
  later_one d t i (follows x) h b v = (v, tt, λ j q m k. k)
  later_one d t i (takes x) h b v = (v, tt, λ j q m k. k)
  later_one d t i (defers x) h b v =
      let o = over_in (looked c d) x in
      rw (run_postfix c h.0 (defer i ∷ []) d)
      (later_defers (noted o d) t i (value (looked c d) x) x (value_same n (looked c d) (at t) v.seen x h.1) b (view_noted o d t v))
  later_one d t i keeps h b v = (v, tt, λ j q m k. k)

  -- ---- moves

  abbrev pub MoveOne : List ℕ → List ℕ → Values → Values → ℕ → Response → Type 0
  MoveOne t u d d' i r =
      (u' : List ℕ) × View n c s d' u' × (at u' i ≡ later_value t i r) × ((j : ℕ) → j ≢ i → at u' j ≡ at u j) × (d'.deferred ≡ d.deferred)

  pub move_one : (d : Values) (t u : List ℕ) (i : ℕ) (r : Response) → copied r ≡ c i → i < n → View n c s d u → Waits t d.deferred i r → at u i ≡ at t i
      → MoveOne t u d (execute_all (move_code i r) d) i r
  unfolding execute_all execute
  move_one d t u i (follows x) k b v w e = (u, v, e, λ j h. refl, refl)
  move_one d t u i (takes x) k b v w e = (u, v, e, λ j h. refl, refl)
  move_one d t u i (defers x) k b v w e =
      let y = held_at d.deferred i in
      (set u i y, view_fill d u i y b (sym k) v, get_or-set_same u i y 0 (omega (arith, v.sized)) ∙ w, λ j h. get_or-set_other u i j y 0 h, refl)
  move_one d t u i keeps k b v w e = (u, v, e, λ j h. refl, refl)

  -- ---- copies and copies back

  -- copied so far: below k the view is the store
  pub record Copied (k : ℕ) (d : Values) : Type 0 where
    pub kept : d.store ≡ s
    pub scratched : length d.scratch ≡ n
    pub places : length d.deferred ≡ n
    pub empty : d.stack ≡ []
    pub seen : (i : ℕ) → i < k → looked c d i ≡ at s i

  copy_member : (d : Values) (k : ℕ) → true ≡ c k → k < n → Copied k d → Copied (suc k) (filled k (at d.store k) d)
  copy_member d k inside b v =
      let w = at d.store k in
      record {
        kept = v.kept;
        scratched = length-set d.scratch k (some w) ∙ v.scratched;
        places = v.places;
        empty = v.empty;
        seen = λ i h. by_cases (ℕ_discrete i k)
            (λ e. rw e (look_same c d k w (omega (arith, v.scratched)) (sym inside) ∙ ap (λ l. at l k) v.kept))
            (λ e. look_other c d k i w e ∙ v.seen i (omega arith));
      }

  copy_other : (d : Values) (k : ℕ) → false ≡ c k → Copied k d → Copied (suc k) d
  copy_other d k outside v = record {
    kept = v.kept;
    scratched = v.scratched;
    places = v.places;
    empty = v.empty;
    seen = λ i h. by_cases (ℕ_discrete i k) (λ e. rw (e, ← outside) (ap (λ l. at l k) v.kept)) (λ e. v.seen i (omega arith));
  }

  pub copy_one : (d : Values) (k : ℕ) (r : Response) → copied r ≡ c k → k < n → Copied k d → Copied (suc k) (execute_all (of_c copy k r) d)
  unfolding execute_all execute
  copy_one d k (follows x) h b v = copy_member d k h b v
  copy_one d k (takes x) h b v = copy_member d k h b v
  copy_one d k (defers x) h b v = copy_member d k h b v
  copy_one d k keeps h b v = copy_other d k h v

  -- brought back so far: below k the store is t, above it still s; scratch stays
  module _ (held_by : List (Option ℕ)) (t : List ℕ) (told : (i : ℕ) → i < n → pick (c i) (held_at held_by i) (at s i) ≡ at t i) where
    pub record Restored (k : ℕ) (d : Values) : Type 0 where
      pub same : d.scratch ≡ held_by
      pub stored : length d.store ≡ n
      pub back : (i : ℕ) → i < k → at d.store i ≡ at t i
      pub ahead : (i : ℕ) → k ≤ i → at d.store i ≡ at s i

    -- w put in place i of the store
    abbrev written : ℕ → ℕ → Values → Values
    written i w d = record { store = set d.store i w; scratch = d.scratch; stack = d.stack; deferred = d.deferred; mark = d.mark }

    restore_member : (d : Values) (k : ℕ) → true ≡ c k → k < n → Restored k d → Restored (suc k) (written k (held_at d.scratch k) d)
    restore_member d k inside b v =
        let w = held_at d.scratch k in
        let there : held_at held_by k ≡ at t k = rw (← inside) at (told k b) in
        let e : w ≡ at t k = ap (λ l. held_at l k) v.same ∙ there in
        record {
          same = v.same;
          stored = length-set d.store k w ∙ v.stored;
          back = λ i h. by_cases (ℕ_discrete i k)
              (λ q. rw q (get_or-set_same d.store k w 0 (omega (arith, v.stored)) ∙ e))
              (λ q. get_or-set_other d.store k i w 0 q ∙ v.back i (omega arith));
          ahead = λ i h. get_or-set_other d.store k i w 0 (omega arith) ∙ v.ahead i (omega arith);
        }

    restore_other : (d : Values) (k : ℕ) → false ≡ c k → k < n → Restored k d → Restored (suc k) d
    restore_other d k outside b v =
        let e : at s k ≡ at t k = rw (← outside) at (told k b) in
        record {
          same = v.same;
          stored = v.stored;
          back = λ i h. by_cases (ℕ_discrete i k) (λ q. rw q (v.ahead k (omega arith) ∙ e)) (λ q. v.back i (omega arith));
          ahead = λ i h. v.ahead i (omega arith);
        }

    pub restore_one : (d : Values) (k : ℕ) (r : Response) → copied r ≡ c k → k < n → Restored k d → Restored (suc k) (execute_all (of_c restore k r) d)
    unfolding execute_all execute
    restore_one d k (follows x) h b v = restore_member d k h b v
    restore_one d k (takes x) h b v = restore_member d k h b v
    restore_one d k (defers x) h b v = restore_member d k h b v
    restore_one d k keeps h b v = restore_other d k h b v
