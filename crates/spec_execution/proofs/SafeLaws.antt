-- What the abstract check says of running: a prefix leaves the rest safe, and execution keeps the values filled exactly
-- as the check has it, instruction by instruction. And that an event's code passes it.
use Rattle.lib_base.proofs.Prelude.{ℕ, ◌≤◌, ◌<◌, ◌+◌, ◌-◌, suc, zero, ◌≡◌, refl, ◌∙◌, sym, ap, subst, true, false, Bool}
use Rattle.lib_base.proofs.Prelude.{◌||◌, false≢true, by_cases, Option, some, none, List, [], ◌∷◌, ◌++◌, length, get_or}
use Rattle.lib_base.proofs.Prelude.{take, drop, length-set, set, replicate, length-drop, length-replicate}
use Rattle.lib_base.proofs.Prelude.{take-append-drop, get_or-set_other, get_or-set_same, drop-cons, ℕ_discrete, arith}
use Rattle.lib_signature.specs.Signature.{arity}
use Rattle.spec_language.specs.Syntax.{Program}
use Rattle.spec_language.specs.Dependence.{size}
use Rattle.spec_language.specs.Valid.{Valid}
use Rattle.spec_language.specs.Code.{code, Instr, off, on, copy, restore, load, fetch, save, defer, move, push, apply}
use Rattle.spec_semantics.specs.Meaning.{at}
use Rattle.spec_execution.specs.Execution.{Values, held_at, top, on_arguments, applied, execute, emptied}
use Rattle.spec_execution.specs.Runs.{execute_all}
use Rattle.lib_arith.specs.Functions.{over}
use Rattle.spec_execution.specs.Safe.{Filled, start, Ok, with_depth, filled_next, filled_after, Safe, is_filled, Matches}
use Rattle.spec_execution.proofs.SafeParts.{passes}

pub safe_prefix : (a : Filled) (xs ys : List Instr) → Safe a (xs ++ ys) → Safe (filled_after a xs) ys
unfolding filled_after
safe_prefix a [] ys h = h
safe_prefix a (x ∷ xs) ys h = safe_prefix (filled_next a x) xs ys h.1

-- a full place holds a value
pub full_some : (o : Option ℕ) → is_filled o ≡ true → (v : ℕ) × (o ≡ some v)
full_some none h = absurd (false≢true h)
full_some (some v) h = (v, refl)

-- one place filled on both sides
full_set : (l : List (Option ℕ)) (m : List Bool) (i w : ℕ) → length l ≡ length m → i < length m → ((j : ℕ) → is_filled (get_or l j none) ≡ get_or m j false)
    → (j : ℕ) → is_filled (get_or (set l i (some w)) j none) ≡ get_or (set m i true) j false
full_set l m i w e b h j =
    by_cases (ℕ_discrete j i)
    (λ q. rw (q, get_or-set_same l i (some w) none (omega arith), get_or-set_same m i true false b))
    (λ q. rw (get_or-set_other l i j (some w) none q, get_or-set_other m i j true false q) (h j))

-- the stack's length after a function
length_applied : (f : ℕ) (st : List ℕ) → arity f ≤ length st → length (applied f st) ≡ length st - arity f + 1
length_applied f st h = omega (arith, length-drop (arity f) st)

module _ (d : Values) (a : Filled) where
  -- scratch place i filled, the stack changed
  scratch_matches : (i w : ℕ) (st : List ℕ) (n : ℕ) → i < length a.scratch → length st ≡ n → Matches d a
      → Matches (record { store = d.store; scratch = set d.scratch i (some w); stack = st; deferred = d.deferred; mark = d.mark })
      (record { scratch = set a.scratch i true; deferred = a.deferred; depth = n })
  scratch_matches i w st n b e m = record {
    stored = m.stored ∙ sym (length-set a.scratch i true);
    scratched = length-set d.scratch i (some w) ∙ m.scratched ∙ sym (length-set a.scratch i true);
    places = m.places;
    stacked = e;
    in_scratch = full_set d.scratch a.scratch i w m.scratched b m.in_scratch;
    in_places = m.in_places;
  }

  place_matches : (i w : ℕ) (st : List ℕ) (n : ℕ) → i < length a.deferred → length st ≡ n → Matches d a
      → Matches (record { store = d.store; scratch = d.scratch; stack = st; deferred = set d.deferred i (some w); mark = d.mark })
      (record { scratch = a.scratch; deferred = set a.deferred i true; depth = n })
  place_matches i w st n b e m = record {
    stored = m.stored;
    scratched = m.scratched;
    places = length-set d.deferred i (some w) ∙ m.places ∙ sym (length-set a.deferred i true);
    stacked = e;
    in_scratch = m.in_scratch;
    in_places = full_set d.deferred a.deferred i w m.places b m.in_places;
  }

  stack_matches : (st : List ℕ) (n : ℕ) (b : Bool) → length st ≡ n → Matches d a
      → Matches (record { store = d.store; scratch = d.scratch; stack = st; deferred = d.deferred; mark = b }) (with_depth n a)
  stack_matches st n b e m = record {
    stored = m.stored;
    scratched = m.scratched;
    places = m.places;
    stacked = e;
    in_scratch = m.in_scratch;
    in_places = m.in_places;
  }

  store_matches : (l : List ℕ) → length l ≡ length d.store → Matches d a
      → Matches (record { store = l; scratch = d.scratch; stack = d.stack; deferred = d.deferred; mark = d.mark }) a
  store_matches l e m = record {
    stored = e ∙ m.stored;
    scratched = m.scratched;
    places = m.places;
    stacked = m.stacked;
    in_scratch = m.in_scratch;
    in_places = m.in_places;
  }

pub next_matches : (i : Instr) (d : Values) (a : Filled) → Ok a i → Matches d a → Matches (execute i d) (filled_next a i)
unfolding execute filled_next
next_matches off d a k m = m
next_matches on d a k m = m
next_matches (copy i) d a k m = scratch_matches d a i (at d.store i) d.stack a.depth k m.stacked m
next_matches (restore i) d a k m = store_matches d a (set d.store i (held_at d.scratch i)) (length-set d.store i (held_at d.scratch i)) m
next_matches (load i) d a k m = stack_matches d a (at d.store i ∷ d.stack) (a.depth + 1) d.mark (omega (arith, m.stacked)) m
next_matches (fetch i) d a k m = stack_matches d a (held_at d.scratch i ∷ d.stack) (a.depth + 1) d.mark (omega (arith, m.stacked)) m
next_matches (save i) d a k m =
    scratch_matches d a i (top d.stack) (drop 1 d.stack) (a.depth - 1) k.0 (length-drop 1 d.stack ∙ ap (λ n. n - 1) m.stacked) m
next_matches (defer i) d a k m =
    place_matches d a i (top d.stack) (drop 1 d.stack) (a.depth - 1) k.0 (length-drop 1 d.stack ∙ ap (λ n. n - 1) m.stacked) m
next_matches (move i) d a k m = scratch_matches d a i (held_at d.deferred i) d.stack a.depth k.0 m.stacked m
next_matches (push w) d a k m = stack_matches d a (w ∷ d.stack) (a.depth + 1) d.mark (omega (arith, m.stacked)) m
next_matches (apply f) d a k m =
    stack_matches d a (applied f d.stack) (a.depth - arity f + 1) (on_arguments (over f) f d.stack || d.mark)
    (length_applied f d.stack (rw m.stacked k.2) ∙ ap (λ n. n - arity f + 1) m.stacked) m

pub after_matches : (xs ys : List Instr) (d : Values) (a : Filled) → Safe a (xs ++ ys) → Matches d a → Matches (execute_all xs d) (filled_after a xs)
unfolding execute_all filled_after
after_matches [] ys d a h m = m
after_matches (x ∷ xs) ys d a h m = after_matches xs ys (execute x d) (filled_next a x) h.1 (next_matches x d a h.0 m)

pub start_matches : (n : ℕ) (s : List ℕ) → length s ≡ n → Matches (emptied s) (start n)
unfolding emptied start
start_matches n s e = record {
  stored = e ∙ sym (length-replicate n false);
  scratched = length-replicate (length s) none ∙ e ∙ sym (length-replicate n false);
  places = length-replicate (length s) none ∙ e ∙ sym (length-replicate n false);
  stacked = refl;
  in_scratch = λ i. rw e (nothing n i);
  in_places = λ i. rw e (nothing n i);
}
  where
    nothing : (n i : ℕ) → is_filled (get_or (replicate n none) i none) ≡ get_or (replicate n false) i false
    nothing zero i = refl
    nothing (suc n) zero = refl
    nothing (suc n) (suc i) = nothing n i

-- at each count the next instruction has what it needs
pub safe_at : (a : Filled) (is : List Instr) (c : ℕ) → Safe a is → c < length is → Ok (filled_after a (take c is)) (get_or is c off)
safe_at a is c h b =
    let s : Safe (filled_after a (take c is)) (drop c is) = safe_prefix a (take c is) (drop c is) (subst (Safe a) (sym (take-append-drop c is)) h) in
    let t : Safe (filled_after a (take c is)) (get_or is c off ∷ drop (suc c) is) = subst (Safe (filled_after a (take c is))) (drop-cons is c off b) s in
    t.0

-- and the values are filled as the check has it
pub matches_at : (a : Filled) (is : List Instr) (c : ℕ) (d : Values) → Safe a is → Matches d a → Matches (execute_all (take c is) d) (filled_after a (take c is))
matches_at a is c d h m = after_matches (take c is) (drop c is) d a (subst (Safe a) (sym (take-append-drop c is)) h) m

-- ---- an event's code

-- at each count: the values are filled as the check has it, and the next instruction has what it needs
pub code_at : (p : Program) → Valid p → (e : ℕ) (s : List ℕ) → length s ≡ size p → (c : ℕ) → c < length (code p e)
    → Matches (execute_all (take c (code p e)) (emptied s)) (filled_after (start (size p)) (take c (code p e)))
    × Ok (filled_after (start (size p)) (take c (code p e))) (get_or (code p e) c off)
code_at p v e s l c b =
    let safe = passes p v e in
    (matches_at (start (size p)) (code p e) c (emptied s) safe (start_matches (size p) s l), safe_at (start (size p)) (code p e) c safe b)
