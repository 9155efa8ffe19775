-- An event's code passes the abstract check, part by part: copies fill C's places of scratch, later handlers their own,
-- and an expression nested k deep takes at most 2 × k − 1 places of the stack.
use Rattle.lib_base.proofs.Prelude.{ℕ, ◌≤◌, ◌<◌, ◌+◌, ◌-◌, suc, zero, ◌*◌, ◌≡◌, refl, ◌∙◌, sym, ap, subst, true, false}
use Rattle.lib_base.proofs.Prelude.{Bool, false≢true, by_cases, List, [], ◌∷◌, ◌++◌, flat_map, flatten, length, get_or}
use Rattle.lib_base.proofs.Prelude.{length-set, set, length-replicate, get_or-set_other, get_or-set_same, ℕ_discrete, arith}
use Rattle.lib_base.specs.Basics.{pick, All}
use Rattle.lib_base.proofs.Tools.{all_imp}
use Rattle.lib_signature.specs.Signature.{arity, last}
use Rattle.spec_language.specs.Syntax.{Expr, Program}
use Rattle.spec_language.specs.Dependence.{Response, follows, takes, defers, keeps, size, response}
use Rattle.spec_language.specs.Order.{up_to, phase_one}
use Rattle.spec_language.specs.Fits.{Nested, n_con, n_name, n_app1, n_app2, n_app3}
use Rattle.spec_language.specs.Accepted.{NamesIn}
use Rattle.spec_language.specs.Valid.{Valid}
use Rattle.spec_language.specs.Code.{Instr, off, on, copy, restore, load, fetch, save, defer, apply}
use Rattle.spec_language.specs.Code.{postfix, of_c, first_code, later_code, move_code, again_code}
use Rattle.spec_language.specs.Code.{copied, in_c, by_number, in_order, first_part, second_part, code}
use Rattle.spec_semantics.proofs.OrderLaws.{phase_one_early}
use Rattle.spec_execution.specs.Safe.{Filled, start, Ok, with_depth, filled_next, filled_after, Safe}
use Rattle.spec_execution.proofs.Responses.{ResponseFits, response_fits}
use Rattle.spec_execution.proofs.Running.{arity_is}
use Rattle.spec_execution.proofs.Lengths.{mid}
use Rattle.spec_execution.proofs.Masks.{copies, restores, code_shape}

-- ---- lists that lead somewhere

abbrev Fine : Filled → List Instr → Type 0
Fine a [] = Unit {0}
Fine a (i ∷ is) = Ok a i × Fine (filled_next a i) is

fine_join : (a : Filled) (xs ys : List Instr) → Fine a xs → Fine (filled_after a xs) ys → Fine a (xs ++ ys)
unfolding filled_after
fine_join a [] ys h k = k
fine_join a (x ∷ xs) ys h k = (h.0, fine_join (filled_next a x) xs ys h.1 k)

after_append : (a : Filled) (xs ys : List Instr) → filled_after a (xs ++ ys) ≡ filled_after (filled_after a xs) ys
unfolding filled_after
after_append a [] ys = refl
after_append a (x ∷ xs) ys = after_append (filled_next a x) xs ys

-- from a each instruction has what it needs, and they lead to P
abbrev Goes : Filled → List Instr → (Filled → Type 0) → Type 0
Goes a xs P = Fine a xs × P (filled_after a xs)

goes_join : (a : Filled) (xs ys : List Instr) (P Q : Filled → Type 0) → Goes a xs P → ((b : Filled) → P b → Goes b ys Q) → Goes a (xs ++ ys) Q
goes_join a xs ys P Q h k =
    let t : Goes (filled_after a xs) ys Q = k (filled_after a xs) h.1 in
    (fine_join a xs ys h.0 t.0, subst Q (sym (after_append a xs ys)) t.1)

-- and to one state
abbrev Leads : Filled → List Instr → Filled → Type 0
Leads a xs b = Goes a xs (λ x. x ≡ b)

leads_on : (a b z : Filled) (xs ys : List Instr) → Leads a xs b → Leads b ys z → Leads a (xs ++ ys) z
leads_on a b z xs ys h k = goes_join a xs ys (λ x. x ≡ b) (λ x. x ≡ z) h (λ x e. subst (λ y. Leads y ys z) (sym e) k)

goes_parts : (n : ℕ) (f : ℕ → List Instr) (Inv : ℕ → Filled → Type 0) → ((i : ℕ) → i < n → (a : Filled) → Inv i a → Goes a (f i) (Inv (suc i)))
    → (a : Filled) → Inv 0 a → Goes a (flatten (up_to n f)) (Inv n)
unfolding up_to flatten filled_after
goes_parts zero f Inv step a h = (tt, h)
goes_parts (suc n) f Inv step a h =
    goes_join a (f 0) (flatten (up_to n (λ i. f (suc i)))) (Inv 1) (Inv (suc n)) (step 0 (omega arith) a h)
    (goes_parts n (λ i. f (suc i)) (λ i. Inv (suc i)) (λ i b. step (suc i) (omega arith)))

goes_turns : (p : Program) (e : ℕ) (f : ℕ → Response → List Instr) (P : Filled → Type 0)
    → ((i : ℕ) → i < size p → (a : Filled) → P a → Goes a (f i (response p e i)) P)
    → (is : List ℕ) → All (λ i. i < size p) is → (a : Filled) → P a → Goes a (in_order p e f is) P
unfolding in_order flat_map filled_after
goes_turns p e f P step [] b a h = (tt, h)
goes_turns p e f P step (i ∷ is) b a h =
    goes_join a (f i (response p e i)) (in_order p e f is) P P (step i b.0 a h) (goes_turns p e f P step is b.1)

safe_of : (a : Filled) (xs : List Instr) → Goes a xs (λ b. b.depth ≡ 0) → Safe a xs
unfolding filled_after
safe_of a [] h = h.1
safe_of a (x ∷ xs) h = (h.0.0, safe_of (filled_next a x) xs (h.0.1, h.1))

-- ---- an expression's code

abbrev deeper : Filled → Filled
deeper a = with_depth (a.depth + 1) a

same_depth : (a : Filled) (m n : ℕ) → m ≡ n → with_depth m a ≡ with_depth n a
same_depth a m n e = ap (λ k. with_depth k a) e

goes_apply : (a : Filled) (f k m : ℕ) → (arity f ≡ k) × (0 < f) × (f ≤ last) → m ≡ a.depth + k → Leads (with_depth m a) (apply f ∷ []) (deeper a)
unfolding filled_next filled_after
goes_apply a f k m h e =
    (((h.1, h.2, omega (arith, h.0)), tt), same_depth a (m - arity f + 1) (a.depth + 1) (rw h.0 (omega arith)))

module _ (n : ℕ) (c : ℕ → Bool) where
  -- all of C is in scratch
  abbrev Has : List Bool → Type 0
  Has l = (length l ≡ n) × ((i : ℕ) → i < n → c i ≡ true → get_or l i false ≡ true)

  goes_name : (a : Filled) (i : ℕ) (b : Bool) → c i ≡ b → i < n → Has a.scratch → a.depth < 64 → Leads a (pick b (fetch i) (load i) ∷ []) (deeper a)
  unfolding filled_next filled_after
  goes_name a i true e b h l = (((omega arith, h.1 i b e, l), tt), refl)
  goes_name a i false e b h l = (((omega arith, l), tt), refl)

  goes_postfix : {k : ℕ} {x : Expr} → Nested k x → NamesIn n x → (a : Filled) → Has a.scratch → a.depth + 2 * k ≤ 65 → Leads a (postfix c x) (deeper a)
  unfolding postfix filled_next filled_after
  goes_postfix (n_con {k = k} h) w a s l = (((h, omega arith), tt), refl)
  goes_postfix (n_name {k = k} {i = i} h) w a s l = goes_name a i (c i) refl w s (omega arith)
  goes_postfix (n_app1 {k = k} {f = f} {a = x} r hx) w a s l =
      leads_on a (deeper a) (deeper a) (postfix c x) (apply f ∷ []) (goes_postfix hx w a s (omega arith)) (goes_apply a f 1 (a.depth + 1) (arity_is r) refl)
  goes_postfix (n_app2 {k = k} {f = f} {a = x} {b = y} r hx hy) w a s l =
      leads_on a (deeper a) (deeper a) (postfix c x) (postfix c y ++ (apply f ∷ [])) (goes_postfix hx w.0 a s (omega arith))
      (leads_on (deeper a) (deeper (deeper a)) (deeper a) (postfix c y) (apply f ∷ []) (goes_postfix hy w.1 (deeper a) s (omega arith))
      (goes_apply a f 2 (a.depth + 1 + 1) (arity_is r) (omega arith)))
  goes_postfix (n_app3 {k = k} {f = f} {a = x} {b = y} {c = z} r hx hy hz) w a s l =
      leads_on a (deeper a) (deeper a) (postfix c x) (postfix c y ++ (postfix c z ++ (apply f ∷ []))) (goes_postfix hx w.0 a s (omega arith))
      (leads_on (deeper a) (deeper (deeper a)) (deeper a) (postfix c y) (postfix c z ++ (apply f ∷ [])) (goes_postfix hy w.1 (deeper a) s (omega arith))
      (leads_on (deeper (deeper a)) (deeper (deeper (deeper a))) (deeper a) (postfix c z) (apply f ∷ []) (goes_postfix hz w.2 (deeper (deeper a)) s (omega arith))
      (goes_apply a f 3 (a.depth + 1 + 1 + 1) (arity_is r) (omega arith))))

  -- ---- a behaviour's code

  -- flags so far: below k those of C
  pub record Ready (k : ℕ) (a : Filled) : Type 0 where
    pub scratched : length a.scratch ≡ n
    pub places : length a.deferred ≡ n
    pub level : a.depth ≡ 0
    pub have : (i : ℕ) → i < k → c i ≡ true → get_or a.scratch i false ≡ true

  has : (a : Filled) → Ready n a → Has a.scratch
  has a h = (h.scratched, h.have)

  stays : (l : List Bool) (i j : ℕ) → i < length l → get_or l j false ≡ true → get_or (set l i true) j false ≡ true
  stays l i j b h = by_cases (ℕ_discrete j i) (λ e. rw e (get_or-set_same l i true false b)) (λ e. get_or-set_other l i j true false e ∙ h)

  abbrev scratch_filled : ℕ → ℕ → Filled → Filled
  scratch_filled i m a = record { scratch = set a.scratch i true; deferred = a.deferred; depth = m }

  abbrev place_filled : ℕ → ℕ → Filled → Filled
  place_filled i m a = record { scratch = a.scratch; deferred = set a.deferred i true; depth = m }

  ready_fill : (k : ℕ) (a : Filled) (i m : ℕ) → i < n → m ≡ 0 → Ready k a → Ready k (scratch_filled i m a)
  ready_fill k a i m b e h = record {
    scratched = length-set a.scratch i true ∙ h.scratched;
    places = h.places;
    level = e;
    have = λ j l t. stays a.scratch i j (omega (arith, h.scratched)) (h.have j l t);
  }

  ready_place : (a : Filled) (i m : ℕ) → m ≡ 0 → Ready n a → Ready n (place_filled i m a)
  ready_place a i m e h = record {
    scratched = h.scratched;
    places = length-set a.deferred i true ∙ h.places;
    level = e;
    have = h.have;
  }

  goes_save : (a : Filled) (i : ℕ) (x : Expr) → Nested 16 x → NamesIn n x → i < n → Ready n a
      → Leads a (postfix c x ++ (save i ∷ [])) (scratch_filled i (a.depth + 1 - 1) a)
  unfolding filled_next filled_after
  goes_save a i x h w b r =
      leads_on a (deeper a) (scratch_filled i (a.depth + 1 - 1) a) (postfix c x) (save i ∷ [])
      (goes_postfix h w a (has a r) (omega (arith, r.level))) (((omega (arith, r.scratched), omega arith), tt), refl)

  goes_defer : (a : Filled) (i : ℕ) (x : Expr) → Nested 16 x → NamesIn n x → i < n → Ready n a
      → Leads a (postfix c x ++ (defer i ∷ [])) (place_filled i (a.depth + 1 - 1) a)
  unfolding filled_next filled_after
  goes_defer a i x h w b r =
      leads_on a (deeper a) (place_filled i (a.depth + 1 - 1) a) (postfix c x) (defer i ∷ [])
      (goes_postfix h w a (has a r) (omega (arith, r.level))) (((omega (arith, r.places), omega arith), tt), refl)

  -- the places of later handlers
  abbrev Waits : List Bool → ℕ → Response → Type 0
  Waits l i (follows x) = Unit {0}
  Waits l i (takes x) = Unit {0}
  Waits l i (defers x) = get_or l i false ≡ true
  Waits l i keeps = Unit {0}

  waits_fill : (l : List Bool) (i j : ℕ) (r : Response) → i < length l → Waits l j r → Waits (set l i true) j r
  waits_fill l i j (follows x) b h = tt
  waits_fill l i j (takes x) b h = tt
  waits_fill l i j (defers x) b h = stays l i j b h
  waits_fill l i j keeps b h = tt

  -- from one state to what holds of it
  leads_to : (a b : Filled) (xs : List Instr) (P : Filled → Type 0) → Leads a xs b → P b → Goes a xs P
  leads_to a b xs P h k = (h.0, subst P (sym h.1) k)

  copy_member : (a : Filled) (k : ℕ) → k < n → Ready k a → Goes a (copy k ∷ []) (Ready (suc k))
  unfolding filled_next filled_after
  copy_member a k b h = (
    (omega (arith, h.scratched), tt),
    record {
      scratched = length-set a.scratch k true ∙ h.scratched;
      places = h.places;
      level = h.level;
      have = λ j l t. by_cases (ℕ_discrete j k)
          (λ e. rw e (get_or-set_same a.scratch k true false (omega (arith, h.scratched))))
          (λ e. stays a.scratch k j (omega (arith, h.scratched)) (h.have j (omega arith) t));
    },
  )

  copy_safe : (a : Filled) (k : ℕ) (r : Response) → copied r ≡ c k → k < n → Ready k a → Goes a (of_c copy k r) (Ready (suc k))
  unfolding filled_after
  copy_safe a k (follows x) e b h = copy_member a k b h
  copy_safe a k (takes x) e b h = copy_member a k b h
  copy_safe a k (defers x) e b h = copy_member a k b h
  copy_safe a k keeps e b h = (
    tt,
    record {
      scratched = h.scratched;
      places = h.places;
      level = h.level;
      have = λ j l t. by_cases (ℕ_discrete j k) (λ q. absurd (false≢true (e ∙ (rw q at t)))) (λ q. h.have j (omega arith) t);
    },
  )

  save_safe : (a : Filled) (i : ℕ) (x : Expr) → Nested 16 x → NamesIn n x → i < n → Ready n a → Goes a (postfix c x ++ (save i ∷ [])) (Ready n)
  save_safe a i x h w b r =
      leads_to a (scratch_filled i (a.depth + 1 - 1) a) (postfix c x ++ (save i ∷ [])) (Ready n) (goes_save a i x h w b r)
      (ready_fill n a i (a.depth + 1 - 1) b (omega (arith, r.level)) r)

  first_safe : (a : Filled) (i : ℕ) (r : Response) → ResponseFits n r → i < n → Ready n a → Goes a (first_code c i r) (Ready n)
  unfolding filled_after
  first_safe a i (follows x) h b r = save_safe a i x h.0 h.1 b r
  first_safe a i (takes x) h b r = save_safe a i x h.0 h.1 b r
  first_safe a i (defers x) h b r = (tt, r)
  first_safe a i keeps h b r = (tt, r)

  again_safe : (a : Filled) (i : ℕ) (r : Response) → ResponseFits n r → i < n → Ready n a → Goes a (again_code c i r) (Ready n)
  unfolding filled_after
  again_safe a i (follows x) h b r = save_safe a i x h.0 h.1 b r
  again_safe a i (takes x) h b r = (tt, r)
  again_safe a i (defers x) h b r = (tt, r)
  again_safe a i keeps h b r = (tt, r)

  -- what a later handler's code leads to: its own place filled, the others as they were or filled
  abbrev LaterOne : List Bool → ℕ → Response → Filled → Type 0
  LaterOne l i r a = Ready n a × Waits a.deferred i r × ((j : ℕ) (q : Response) → Waits l j q → Waits a.deferred j q)

  later_safe : (a : Filled) (i : ℕ) (r : Response) → ResponseFits n r → i < n → Ready n a → Goes a (later_code c i r) (LaterOne a.deferred i r)
  unfolding filled_after
  later_safe a i (follows x) h b r = (tt, (r, tt, λ j q k. k))
  later_safe a i (takes x) h b r = (tt, (r, tt, λ j q k. k))
  later_safe a i (defers x) h b r =
      let l : i < length a.deferred = omega (arith, r.places) in
      leads_to a (place_filled i (a.depth + 1 - 1) a) (postfix c x ++ (defer i ∷ [])) (LaterOne a.deferred i (defers x)) (goes_defer a i x h.0 h.1 b r)
      (ready_place a i (a.depth + 1 - 1) (omega (arith, r.level)) r, get_or-set_same a.deferred i true false l, λ j q k. waits_fill a.deferred i j q l k)
  later_safe a i keeps h b r = (tt, (r, tt, λ j q k. k))

  abbrev MoveOne : List Bool → Filled → Type 0
  MoveOne l a = Ready n a × (a.deferred ≡ l)

  move_safe : (a : Filled) (i : ℕ) (r : Response) → i < n → Ready n a → Waits a.deferred i r → Goes a (move_code i r) (MoveOne a.deferred)
  unfolding filled_next filled_after
  move_safe a i (follows x) b h w = (tt, (h, refl))
  move_safe a i (takes x) b h w = (tt, (h, refl))
  move_safe a i (defers x) b h w = (((omega (arith, h.scratched), omega (arith, h.places), w), tt), (ready_fill n a i a.depth b h.level h, refl))
  move_safe a i keeps b h w = (tt, (h, refl))

  restore_safe : (a : Filled) (i : ℕ) (r : Response) → copied r ≡ c i → i < n → Ready n a → Goes a (of_c restore i r) (Ready n)
  unfolding filled_next filled_after
  restore_safe a i (follows x) e b h = (((omega (arith, h.scratched), h.have i b (sym e)), tt), h)
  restore_safe a i (takes x) e b h = (((omega (arith, h.scratched), h.have i b (sym e)), tt), h)
  restore_safe a i (defers x) e b h = (((omega (arith, h.scratched), h.have i b (sym e)), tt), h)
  restore_safe a i keeps e b h = (tt, h)

-- ---- the whole code

module _ (p : Program) (v : Valid p) (e : ℕ) where
  abbrev pub Held : ℕ → Filled → Type 0
  Held k a = Ready (size p) (in_c p e) k a

  abbrev pub AllHeld : Filled → Type 0
  AllHeld a = Held (size p) a

  below : All (λ i. i < size p) (phase_one p e)
  below = all_imp _ _ (λ i h. h.0) (phase_one p e) (phase_one_early p e v.known)

  copies_safe : Goes (start (size p)) (copies p e) AllHeld
  unfolding start
  copies_safe =
      goes_parts (size p) _ Held (λ k b a. copy_safe (size p) (in_c p e) a k (response p e k) refl b) (start (size p))
      (record { scratched = length-replicate (size p) false; places = length-replicate (size p) false; level = refl; have = λ i l. absurd (omega arith) })

  abbrev Wait : ℕ → Filled → Type 0
  Wait k a = AllHeld a × ((i : ℕ) → i < k → Waits (size p) (in_c p e) a.deferred i (response p e i))

  later_on : (k : ℕ) → k < size p → (a : Filled) → Wait k a → Goes a (later_code (in_c p e) k (response p e k)) (Wait (suc k))
  later_on k b a h =
      let o : Goes a (later_code (in_c p e) k (response p e k)) (LaterOne (size p) (in_c p e) a.deferred k (response p e k)) =
      later_safe (size p) (in_c p e) a k (response p e k) (response_fits p v e k) b h.0 in
      (o.0, (o.1.0, λ i l. by_cases (ℕ_discrete i k) (λ q. rw q o.1.1) (λ q. o.1.2 i (response p e i) (h.1 i (omega arith)))))

  move_on : (k : ℕ) → k < size p → (a : Filled) → Wait (size p) a → Goes a (move_code k (response p e k)) (Wait (size p))
  move_on k b a h =
      let o : Goes a (move_code k (response p e k)) (MoveOne (size p) (in_c p e) a.deferred) = move_safe (size p) (in_c p e) a k (response p e k) b h.0 (h.1 k b) in
      (o.0, (o.1.0, λ i l. subst (λ x. Waits (size p) (in_c p e) x i (response p e i)) (sym o.1.1) (h.1 i l)))

  firsts_safe : (a : Filled) → AllHeld a → Goes a (first_part p e) (Wait (size p))
  unfolding first_part
  firsts_safe a h =
      goes_join a (in_order p e (first_code (in_c p e)) (phase_one p e)) (by_number p e (later_code (in_c p e))) AllHeld (Wait (size p))
      (goes_turns p e (first_code (in_c p e)) AllHeld (λ i b x. first_safe (size p) (in_c p e) x i (response p e i) (response_fits p v e i) b) (phase_one p e) below a h)
      (λ x k. goes_parts (size p) _ Wait later_on x (k, λ i l. absurd (omega arith)))

  agains_safe : (a : Filled) → AllHeld a → Goes a (in_order p e (again_code (in_c p e)) (phase_one p e)) AllHeld
  agains_safe a h =
      goes_turns p e (again_code (in_c p e)) AllHeld (λ i b y. again_safe (size p) (in_c p e) y i (response p e i) (response_fits p v e i) b) (phase_one p e) below a h

  -- the passives' code alone, where all of C is in scratch
  pub again_passes : (a : Filled) → AllHeld a → Safe a (in_order p e (again_code (in_c p e)) (phase_one p e))
  again_passes a h = let g = agains_safe a h in safe_of a (in_order p e (again_code (in_c p e)) (phase_one p e)) (g.0, g.1.level)

  -- and all of C is in scratch after it
  pub again_held : (a : Filled) → AllHeld a → AllHeld (filled_after a (in_order p e (again_code (in_c p e)) (phase_one p e)))
  again_held a h = (agains_safe a h).1

  seconds_safe : (a : Filled) → Wait (size p) a → Goes a (second_part p e) AllHeld
  unfolding second_part
  seconds_safe a h =
      goes_join a (by_number p e move_code) (in_order p e (again_code (in_c p e)) (phase_one p e)) (Wait (size p)) AllHeld
      (goes_parts (size p) _ (λ k. Wait (size p)) move_on a h)
      (λ x k. agains_safe x k.0)

  mid_safe : (a : Filled) → AllHeld a → Goes a (mid p e) AllHeld
  mid_safe a h = goes_join a (first_part p e) (second_part p e) (Wait (size p)) AllHeld (firsts_safe a h) seconds_safe

  restores_safe : (a : Filled) → AllHeld a → Goes a (restores p e) AllHeld
  restores_safe = goes_parts (size p) _ (λ k. AllHeld) (λ k b a. restore_safe (size p) (in_c p e) a k (response p e k) refl b)

  -- off and on change nothing
  mask : (i : Instr) → ((a : Filled) → Ok a i) → ((a : Filled) → filled_next a i ≡ a)
      → (xs : List Instr) (P : Filled → Type 0) (a : Filled) → Goes a xs P → Goes a (i ∷ xs) P
  unfolding filled_after
  mask i ok same xs P a h = ((ok a, subst (λ x. Fine x xs) (sym (same a)) h.0), subst (λ x. P (filled_after x xs)) (sym (same a)) h.1)

  mask_off : (xs : List Instr) (P : Filled → Type 0) (a : Filled) → Goes a xs P → Goes a (off ∷ xs) P
  unfolding filled_next
  mask_off = mask off (λ a. tt) (λ a. refl)

  mask_on : (xs : List Instr) (P : Filled → Type 0) (a : Filled) → Goes a xs P → Goes a (on ∷ xs) P
  unfolding filled_next
  mask_on = mask on (λ a. tt) (λ a. refl)

  pub passes : Safe (start (size p)) (code p e)
  unfolding filled_after
  passes =
      let tail = restores p e ++ (on ∷ []) in
      let rest = mid p e ++ (off ∷ tail) in
      let ends : (a : Filled) → AllHeld a → Goes a tail AllHeld =
      λ a h. goes_join a (restores p e) (on ∷ []) AllHeld AllHeld (restores_safe a h) (λ x k. mask_on [] AllHeld x (tt, k)) in
      let middles : (a : Filled) → AllHeld a → Goes a rest AllHeld =
      λ a h. goes_join a (mid p e) (off ∷ tail) AllHeld AllHeld (mid_safe a h) (λ x k. mask_off tail AllHeld x (ends x k)) in
      let all : Goes (start (size p)) (off ∷ (copies p e ++ (on ∷ rest))) AllHeld =
      mask_off (copies p e ++ (on ∷ rest)) AllHeld (start (size p))
      (goes_join (start (size p)) (copies p e) (on ∷ rest) AllHeld AllHeld copies_safe (λ x k. mask_on rest AllHeld x (middles x k))) in
      subst (Safe (start (size p))) (sym (code_shape p e)) (safe_of (start (size p)) (off ∷ (copies p e ++ (on ∷ rest))) (all.0, all.1.level))
