-- An expression that stands in the draft with its entry, and that later writes leave it there: they go to nodes after
-- it, and to other entries.
use Rattle.std.specs.Prelude.{Err, IsErrAnd}
use Rattle.std.proofs.lemmas.Result.{err_from_is_err_and}
use Rattle.spec_language.specs.Numbers.{refusal_number}
use Rattle.spec_language.specs.declared.refusals.Refusal.TheVariants.{WrongLength}
use Rattle.lib_base.proofs.Prelude.{ℕ, ◌≤◌, ◌<◌, ◌+◌, ◌-◌, ◌*◌, ◌≡◌, refl, ◌∙◌, sym, ap, subst, false, not, ◌≢◌, List}
use Rattle.lib_base.proofs.Prelude.{[], ◌∷◌, ◌++◌, length, get_or, take, drop, length-set, set, get_or-set_other}
use Rattle.lib_base.proofs.Prelude.{get_or-set_same, length-take-le, sets, take-set-le, eqb, ne_eqb, eq-eqb, arith}
use native.Mathlib.Nat.{add-sub_cancel_left}
use lib.Seq.{take-take, drop_at, length-sets}
use Rattle.lib_base.specs.Basics.{pick}
use Rattle.lib_base.proofs.Tools.{split, neither}
use Rattle.spec_language.specs.Syntax.{Expr, Phase, immediate, later, Handler}
use Rattle.spec_language.specs.Sheet.{Term, Clause, clause, fill_clauses}
use Rattle.spec_language.specs.Dependence.{Response, follows, takes, defers, keeps, in_phase, handled}
use Rattle.spec_language.specs.Code.{size_of}
use Rattle.spec_language.specs.Reading.{Got, bad, got, then, filling, expr_at, handles}
use Rattle.spec_language.proofs.Laws.{handled_here, handled_there}
use Rattle.front_field.specs.Expression.{done, Out, out, go_on_after, expr_of}
use Rattle.draft_form.specs.Draft.{draft_length, nodes, packed_entry, unfilled}
use Rattle.draft_form.proofs.DraftLaws.{length_nodes, size_positive}
use Rattle.front_behaviours.specs.Handler.{entry_at, slot}
use Rattle.front_correct.proofs.Fields.{span, whole_at}
use Rattle.front_correct.proofs.Stores.{get_d_sets, take_sets, take_sets_all, take_drop}
use Rattle.front_correct.proofs.Expressions.{raw, SameExpr, same_expr}

-- ---- both readers

-- an expression that fills v
pub same_entry : {A : Type 0} (P : Got A → Out → Type 0) (F : Term → A) (v r d : List ℕ) (n place kind over : ℕ)
    → ((k : ℕ) (o : Out) → IsErrAnd o.0 (λ r. refusal_number r ≡ k) → P (bad k) o)
    → ((x : Term) → size_of (raw x) * 4 ≤ length v
    → P (got (F x) r) (out (done (length v + over) (n + size_of (raw x))) (set (sets d n (nodes (raw x))) place (packed_entry kind n (size_of (raw x))))))
    → P (filling (then (expr_at 16 v) (λ x left. got (F x) left)) r) (entry_at v d n place kind over)
unfolding entry_at
same_entry P F v r d n place kind over bads gots = go (expr_at 16 v) (expr_of 16 v d n) (same_expr 16 v d n)
  where
    go : (g : Got Term) (o : Out) → SameExpr v (span v) d n g o
        → P (filling (then g (λ x left. got (F x) left)) r)
        (go_on_after o.0 o.1
        (λ size m. pick (eqb size (length v)) (out (done (size + over) m) (set o.1 place (packed_entry kind n (m - n)))) (out (Err WrongLength) o.1)))
    go (bad k) o e = let p = err_from_is_err_and o.0 e in rw p.1 (bads k (out (Err p.0) o.1) p.2)
    go (got x l) o h =
        rw (h.3, h.0, add-sub_cancel_left n (size_of (raw x)))
        (whole_at P (got (F x) r) v (span v) _ _ h.1 (λ e. rw e (gots x (omega arith))) (bads 6 (out (Err WrongLength) (sets d n (nodes (raw x)))) refl))

-- ---- an expression that stands

-- among the first n nodes
abbrev pub StandsBy : List ℕ → ℕ → ℕ → ℕ → Expr → Type 0
StandsBy d n kind v x = (start : ℕ) × (v ≡ packed_entry kind start (size_of x)) × (start + size_of x ≤ n) × (take (size_of x) (drop start d) ≡ nodes x)

pub take_less : (m n : ℕ) (d d' : List ℕ) → m ≤ n → take n d' ≡ take n d → take m d' ≡ take m d
take_less m n d d' h e = sym (take-take m n d' h) ∙ ap (λ (l : List ℕ). take m l) e ∙ take-take m n d h

pub stands_kept : (d d' : List ℕ) (n n' kind v : ℕ) (x : Expr) → n ≤ n' → take n d' ≡ take n d → StandsBy d n kind v x → StandsBy d' n' kind v x
stands_kept d d' n n' kind v x h e (start, packed, within, there) = (
  start,
  packed,
  omega arith,
  take_drop (size_of x) start d' ∙ ap (λ (l : List ℕ). drop start l) (take_less (start + size_of x) n d d' within e) ∙ sym (take_drop (size_of x) start d) ∙ there,
)

pub stands_some : (d : List ℕ) (n kind v : ℕ) (x : Expr) → StandsBy d n kind v x → v ≢ 0
stands_some d n kind v x (start, packed, within, there) e = omega (arith, size_positive x)

abbrev pub SaysBy : List ℕ → ℕ → ℕ → Response → Type 0
SaysBy d n v (follows x) = StandsBy d n 1 v x
SaysBy d n v (takes x) = StandsBy d n 2 v x
SaysBy d n v (defers x) = StandsBy d n 3 v x
SaysBy d n v keeps = v ≡ 0

pub says_kept : (d d' : List ℕ) (n n' v : ℕ) (r : Response) → n ≤ n' → take n d' ≡ take n d → SaysBy d n v r → SaysBy d' n' v r
says_kept d d' n n' v (follows x) h e s = stands_kept d d' n n' 1 v x h e s
says_kept d d' n n' v (takes x) h e s = stands_kept d d' n n' 2 v x h e s
says_kept d d' n n' v (defers x) h e s = stands_kept d d' n n' 3 v x h e s
says_kept d d' n n' v keeps h e s = s

-- ---- the nodes of x written after n others, and an entry

module _ (d : List ℕ) (n : ℕ) (x : Expr) (p v : ℕ) (long : length d ≡ draft_length) (room : n + size_of x ≤ 2048) (lo : 2048 ≤ p) (hi : p < draft_length) where
  abbrev pub written : List ℕ
  written = set (sets d n (nodes x)) p v

  pub written_long : length written ≡ draft_length
  written_long = length-set (sets d n (nodes x)) p v ∙ length-sets d n (nodes x) ∙ long

  pub written_take : take n written ≡ take n d
  written_take = take-set-le n (sets d n (nodes x)) p v (omega arith) ∙ take_sets n d n (nodes x) (omega arith)

  pub written_pool : take (n + size_of x) written ≡ take n d ++ nodes x
  written_pool =
      take-set-le (n + size_of x) (sets d n (nodes x)) p v (omega arith)
      ∙ rw (length_nodes x) at (take_sets_all d n (nodes x) (omega (arith, length_nodes x)))

  pub written_there : take (size_of x) (drop n written) ≡ nodes x
  written_there = take_drop (size_of x) n written ∙ rw written_pool (drop_at (take n d) (nodes x) n (length-take-le n d (omega arith)))

  pub written_same : get_or written p 0 ≡ v
  written_same = get_or-set_same (sets d n (nodes x)) p v 0 (omega (arith, length-sets d n (nodes x)))

  pub written_other : (j : ℕ) → 2048 ≤ j → j ≢ p → get_or written j 0 ≡ get_or d j 0
  written_other j h e = get_or-set_other (sets d n (nodes x)) p j v 0 e ∙ get_d_sets d n (nodes x) j (omega (arith, length_nodes x))

-- ---- only the first n nodes, and entries that are not of behaviour i, are sure to be as they were

abbrev pub Frame : ℕ → ℕ → List ℕ → List ℕ → Type 0
Frame i n d d' =
    (take n d' ≡ take n d)
    × ((j : ℕ) → 2048 ≤ j → ((e : ℕ) → e < 32 → j ≢ slot i e) → j ≢ 4096 + i → j ≢ 4160 + i → j ≢ 4256 + i → get_or d' j 0 ≡ get_or d j 0)

pub frame_on : (i n m : ℕ) (d d' d'' : List ℕ) → n ≤ m → Frame i n d d' → Frame i m d' d'' → Frame i n d d''
frame_on i n m d d' d'' h f g = (
  take_less n m d' d'' h g.0 ∙ f.0,
  λ j a b c e x. g.1 j a b c e x ∙ f.1 j a b c e x,
)

-- ---- handlers by their events

-- the handlers as they stand in the draft
abbrev pub raws : List Clause → List Handler
raws hs = fill_clauses unfilled hs

pub handled_other : (f e : ℕ) (φ : Phase) (x : Term) (hs : List Clause) → f ≢ e → handled f (raws (hs ++ (clause e φ x ∷ []))) ≡ handled f (raws hs)
unfolding fill_clauses
handled_other f e φ x [] h = handled_there f e φ (raw x) [] (ne_eqb f e h)
handled_other f e φ x (clause g ψ y ∷ hs) h =
    split (eqb f g)
    (λ c. handled_here f g ψ (raw y) (raws (hs ++ (clause e φ x ∷ []))) c ∙ sym (handled_here f g ψ (raw y) (raws hs) c))
    (λ c. handled_there f g ψ (raw y) (raws (hs ++ (clause e φ x ∷ []))) c ∙ handled_other f e φ x hs h ∙ sym (handled_there f g ψ (raw y) (raws hs) c))

pub handled_new : (e : ℕ) (φ : Phase) (x : Term) (hs : List Clause) → handles e hs ≡ false → handled e (raws (hs ++ (clause e φ x ∷ []))) ≡ in_phase φ (raw x)
unfolding handles fill_clauses
handled_new e φ x [] h = handled_here e e φ (raw x) [] (eq-eqb e e refl)
handled_new e φ x (clause g ψ y ∷ hs) h =
    let r = neither (eqb e g) (handles e hs) h in
    handled_there e g ψ (raw y) (raws (hs ++ (clause e φ x ∷ []))) r.0 ∙ handled_new e φ x hs r.1

phase_some : (d : List ℕ) (n v : ℕ) (φ : Phase) (x : Expr) → SaysBy d n v (in_phase φ x) → v ≢ 0
phase_some d n v immediate x h = stands_some d n 2 v x h
phase_some d n v later x h = stands_some d n 3 v x h

-- the reader's test for a second handler
pub cell_test : (d : List ℕ) (n v e : ℕ) (hs : List Clause) → SaysBy d n v (handled e (raws hs)) → eqb v 0 ≡ not (handles e hs)
unfolding handled handles fill_clauses
cell_test d n v e [] h = eq-eqb v 0 h
cell_test d n v e (clause f φ x ∷ hs) h =
    split (eqb e f)
    (λ c. rw c (ne_eqb v 0 (phase_some d n v φ (raw x) (subst (SaysBy d n v) (handled_here e f φ (raw x) (raws hs) c) h))))
    (λ c. rw c (cell_test d n v e hs (subst (SaysBy d n v) (handled_there e f φ (raw x) (raws hs) c) h)))
