-- Evaluating the nodes of an expression gives its value, and so does its entry: from a stack of depth k they push it,
-- and leave the places below k as they are. By induction on the nesting; an expression nested m deep takes at most 2 ×
-- m − 1 places.
use Rattle.lib_base.proofs.Prelude.{ℕ, ◌≤◌, ◌<◌, ◌+◌, ◌-◌, ◌*◌, ◌≡◌, refl, ◌∙◌, sym, ap, subst, true, false, List, []}
use Rattle.lib_base.proofs.Prelude.{◌∷◌, ◌++◌, append_assoc, append-nil, length, length-set, set, replicate}
use Rattle.lib_base.proofs.Prelude.{get_or-set_other, get_or-set_same, ltb, le-ltb, lt-ltb, arith}
use native.Mathlib.Nat.{add-zero}
use Rattle.lib_signature.specs.Signature.{arity, last}
use Rattle.lib_arith.specs.Functions.{result_of}
use Rattle.spec_language.specs.Syntax.{Expr}
use Rattle.spec_language.specs.Fits.{Nested, n_con, n_name, n_app1, n_app2, n_app3}
use Rattle.spec_language.specs.Accepted.{NamesIn}
use Rattle.spec_language.specs.Code.{size_of}
use Rattle.spec_semantics.specs.Meaning.{value, at}
use Rattle.spec_execution.proofs.Running.{arity_is}
use Rattle.draft_form.specs.Draft.{nodes, Stands}
use Rattle.draft_form.specs.Entry.{entry_start, entry_count, node_tag, node_word}
use Rattle.back_fresh.specs.Evaluate.{function_of, applied_at, node_depth, node_stack, nodes_on, evaluated, entry_value}

module _ (v : List ℕ) where
  -- from depth k, the nodes xs push the value w
  record Pushes (xs : List ℕ) (s : List ℕ) (k w : ℕ) : Type 0 where
    stack : List ℕ
    long : length stack ≡ 64
    top : at stack k ≡ w
    below : (j : ℕ) → j < k → at stack j ≡ at s j
    on : (rest : List ℕ) → nodes_on v (xs ++ rest) s k ≡ nodes_on v rest stack (k + 1)

  next : (x : ℕ) (rest s t : List ℕ) (k m : ℕ) → node_stack v x s k ≡ t → node_depth x k ≡ m → nodes_on v (x ∷ rest) s k ≡ nodes_on v rest t m
  unfolding nodes_on
  next x rest s t k m a b = λ i. nodes_on v rest (a i) (b i)

  -- a node that puts w at place k
  puts : (x : ℕ) (s : List ℕ) (k w : ℕ) → node_stack v x s k ≡ set s k w → node_depth x k ≡ k + 1 → length s ≡ 64 → k < 64 → Pushes (x ∷ []) s k w
  puts x s k w a b l h = record {
    stack = set s k w;
    long = length-set s k w ∙ l;
    top = get_or-set_same s k w 0 (omega arith);
    below = λ j q. get_or-set_other s k j w 0 (omega arith);
    on = λ rest. next x rest s (set s k w) k (k + 1) a b;
  }

  -- ---- constants and names

  push_constant : (w : ℕ) (s : List ℕ) (k : ℕ) → w < 4294967296 → length s ≡ 64 → k < 64 → Pushes ((68719476736 + w) ∷ []) s k w
  unfolding node_stack node_depth
  push_constant w s k b l h =
      let t : node_tag (68719476736 + w) ≡ 16 = omega arith in
      let u : node_word (68719476736 + w) ≡ w = omega arith in
      let q : ltb k 64 ≡ true = lt-ltb k 64 h in
      puts (68719476736 + w) s k w (rw (t, u, q)) (rw (t, q)) l h

  push_name : (i : ℕ) (s : List ℕ) (k : ℕ) → i < 64 → length s ≡ 64 → k < 64 → Pushes ((73014444032 + i) ∷ []) s k (at v i)
  unfolding node_stack node_depth
  push_name i s k b l h =
      let t : node_tag (73014444032 + i) ≡ 17 = omega arith in
      let u : node_word (73014444032 + i) ≡ i = omega arith in
      let q : ltb k 64 ≡ true = lt-ltb k 64 h in
      let r : ltb i 64 ≡ true = lt-ltb i 64 b in
      puts (73014444032 + i) s k (at v i) (rw (t, u, q, r)) (rw (t, q)) l h

  -- ---- applications

  apply_node : (f n : ℕ) (s rest : List ℕ) (k w : ℕ) → f ≤ last → arity f ≡ n → applied_at f n s k ≡ w
      → nodes_on v ((77309411328 + f) ∷ rest) s (k + n) ≡ nodes_on v rest (set s k w) (k + 1)
  unfolding node_stack node_depth
  apply_node f n s rest k w b a e =
      let t : node_tag (77309411328 + f) ≡ 18 = omega arith in
      let u : function_of (77309411328 + f) ≡ f = omega arith in
      let q : ltb (k + n) n ≡ false = le-ltb (k + n) n (omega arith) in
      let r : k + n - n ≡ k = omega arith in
      next (77309411328 + f) rest s (set s k w) (k + n) (k + 1) (rw (t, u, a, q, r, e)) (rw (t, u, a, q, r))

  -- the arguments stand on the stack t, from place k on; what is below is as in s
  calls : (xs : List ℕ) (f n : ℕ) (s t : List ℕ) (k m w : ℕ) → m ≡ k + n → f ≤ last → arity f ≡ n → applied_at f n t k ≡ w → length t ≡ 64 → k < 64
      → ((j : ℕ) → j < k → at t j ≡ at s j) → ((rest : List ℕ) → nodes_on v (xs ++ rest) s k ≡ nodes_on v rest t m)
      → Pushes (xs ++ ((77309411328 + f) ∷ [])) s k w
  calls xs f n s t k m w d b a e l h under on = record {
    stack = set t k w;
    long = length-set t k w ∙ l;
    top = get_or-set_same t k w 0 (omega arith);
    below = λ j q. get_or-set_other t k j w 0 (omega arith) ∙ under j q;
    on = λ rest.
        ap (λ ys. nodes_on v ys s k) (append_assoc xs ((77309411328 + f) ∷ []) rest)
        ∙ on ((77309411328 + f) ∷ rest) ∙ ap (nodes_on v ((77309411328 + f) ∷ rest) t) d ∙ apply_node f n t rest k w b a e;
  }

  -- one expression after the other
  joined : (xs ys : List ℕ) (s t u : List ℕ) (k m n : ℕ) → ((rest : List ℕ) → nodes_on v (xs ++ rest) s k ≡ nodes_on v rest t m)
      → ((rest : List ℕ) → nodes_on v (ys ++ rest) t m ≡ nodes_on v rest u n) → (rest : List ℕ) → nodes_on v ((xs ++ ys) ++ rest) s k ≡ nodes_on v rest u n
  joined xs ys s t u k m n g h rest = ap (λ zs. nodes_on v zs s k) (append_assoc xs ys rest) ∙ g (ys ++ rest) ∙ h rest

  call_one : (f : ℕ) (xs s : List ℕ) (k a : ℕ) → f ≤ last → arity f ≡ 1 → k < 64 → Pushes xs s k a → Pushes (xs ++ ((77309411328 + f) ∷ [])) s k (result_of f a 0 0)
  call_one f xs s k a b r h p =
      calls xs f 1 s p.stack k (k + 1) (result_of f a 0 0) refl b r (rw (add-zero, p.top)) p.long h p.below p.on

  call_two : (f : ℕ) (xs ys s : List ℕ) (k a c : ℕ) → f ≤ last → arity f ≡ 2 → k < 64 → (p : Pushes xs s k a) → Pushes ys p.stack (k + 1) c
      → Pushes ((xs ++ ys) ++ ((77309411328 + f) ∷ [])) s k (result_of f a c 0)
  call_two f xs ys s k a c b r h p q =
      let z : at q.stack k ≡ a = q.below k (omega arith) ∙ p.top in
      calls (xs ++ ys) f 2 s q.stack k (k + 1 + 1) (result_of f a c 0) (omega arith) b r (rw (add-zero, z, q.top)) q.long h
      (λ j l. q.below j (omega arith) ∙ p.below j l)
      (joined xs ys s p.stack q.stack k (k + 1) (k + 1 + 1) p.on q.on)

  call_three : (f : ℕ) (xs ys zs s : List ℕ) (k a c g : ℕ) → f ≤ last → arity f ≡ 3 → k < 64 → (p : Pushes xs s k a) → (q : Pushes ys p.stack (k + 1) c)
      → Pushes zs q.stack (k + 1 + 1) g → Pushes ((xs ++ (ys ++ zs)) ++ ((77309411328 + f) ∷ [])) s k (result_of f a c g)
  call_three f xs ys zs s k a c g b r h p q t =
      let y : at t.stack k ≡ a = t.below k (omega arith) ∙ q.below k (omega arith) ∙ p.top in
      let z : at t.stack (k + 1) ≡ c = t.below (k + 1) (omega arith) ∙ q.top in
      let o : k + 1 + 1 ≡ k + 2 = omega arith in
      let w : at t.stack (k + 2) ≡ g = rw o at t.top in
      calls (xs ++ (ys ++ zs)) f 3 s t.stack k (k + 1 + 1 + 1) (result_of f a c g) (omega arith) b r (rw (add-zero, y, z, w)) t.long h
      (λ j l. t.below j (omega arith) ∙ q.below j (omega arith) ∙ p.below j l)
      (joined xs (ys ++ zs) s p.stack t.stack k (k + 1) (k + 1 + 1 + 1) p.on
      (joined ys zs p.stack q.stack t.stack (k + 1) (k + 1 + 1) (k + 1 + 1 + 1) q.on t.on))

  -- ---- expressions

  same_nodes : {xs ys s : List ℕ} {k w : ℕ} → xs ≡ ys → Pushes xs s k w → Pushes ys s k w
  same_nodes {s = s} {k = k} {w = w} e p = subst (λ zs. Pushes zs s k w) e p

  pushes : {m : ℕ} {x : Expr} → Nested m x → (n : ℕ) → n ≤ 64 → NamesIn n x → (s : List ℕ) (k : ℕ) → length s ≡ 64 → k + 2 * m ≤ 65
      → Pushes (nodes x) s k (value (at v) x)
  unfolding nodes value arity
  pushes (n_con {k = m} {w = w} h) n b i s k l d = push_constant w s k h l (omega arith)
  pushes (n_name {k = m} {i = j} h) n b i s k l d = push_name j s k (omega arith) l (omega arith)
  pushes (n_app1 {k = m} {f = f} {a = x} r hx) n b i s k l d =
      let o = arity_is r in
      call_one f (nodes x) s k (value (at v) x) o.2 o.0 (omega arith) (pushes hx n b i s k l (omega arith))
  pushes (n_app2 {k = m} {f = f} {a = x} {b = y} r hx hy) n b i s k l d =
      let o = arity_is r in
      let p : Pushes (nodes x) s k (value (at v) x) = pushes hx n b i.0 s k l (omega arith) in
      let q : Pushes (nodes y) p.stack (k + 1) (value (at v) y) = pushes hy n b i.1 p.stack (k + 1) p.long (omega arith) in
      same_nodes (append_assoc (nodes x) (nodes y) ((77309411328 + f) ∷ []))
      (call_two f (nodes x) (nodes y) s k (value (at v) x) (value (at v) y) o.2 o.0 (omega arith) p q)
  pushes (n_app3 {k = m} {f = f} {a = x} {b = y} {c = z} r hx hy hz) n b i s k l d =
      let o = arity_is r in
      let p : Pushes (nodes x) s k (value (at v) x) = pushes hx n b i.0 s k l (omega arith) in
      let q : Pushes (nodes y) p.stack (k + 1) (value (at v) y) = pushes hy n b i.1 p.stack (k + 1) p.long (omega arith) in
      let t : Pushes (nodes z) q.stack (k + 1 + 1) (value (at v) z) = pushes hz n b i.2 q.stack (k + 1 + 1) q.long (omega arith) in
      same_nodes (append_assoc (nodes x) (nodes y ++ nodes z) ((77309411328 + f) ∷ [])
      ∙ ap (λ ys. nodes x ++ ys) (append_assoc (nodes y) (nodes z) ((77309411328 + f) ∷ [])))
      (call_three f (nodes x) (nodes y) (nodes z) s k (value (at v) x) (value (at v) y) (value (at v) z) o.2 o.0 (omega arith) p q t)

  -- from an empty stack
  pub evaluated_is : (x : Expr) → Nested 16 x → (n : ℕ) → n ≤ 64 → NamesIn n x → evaluated v (nodes x) ≡ value (at v) x
  unfolding evaluated nodes_on
  evaluated_is x h n b i =
      let p : Pushes (nodes x) (replicate 64 0) 0 (value (at v) x) = pushes h n b i (replicate 64 0) 0 refl (omega arith) in
      ap (λ ys. nodes_on v ys (replicate 64 0) 0) (sym (append-nil (nodes x))) ∙ p.on [] ∙ p.top

  -- an expression that stands in the draft, by its entry
  pub entry_is : (d : List ℕ) (kind w : ℕ) (x : Expr) → kind < 4 → Stands d kind w x → Nested 16 x → (n : ℕ) → n ≤ 64 → NamesIn n x
      → entry_value d v w ≡ value (at v) x
  unfolding entry_value
  entry_is d kind w x q t h n b i =
      let e : w ≡ (size_of x * 4096 + t.start) * 4 + kind = t.packed in
      let f : t.start + size_of x ≤ 2048 = t.within in
      let a : entry_start w ≡ t.start = omega arith in
      let c : entry_count w ≡ size_of x = omega arith in
      let g : ltb 2048 (t.start + size_of x) ≡ false = le-ltb 2048 (t.start + size_of x) f in
      rw (a, c, g, t.there) (evaluated_is x h n b i)
