-- Laws of `expr_of` and `read_arguments` that the reader's proof cites, and what its loop keeps. Assumes nothing.
use Rattle.lib_base.proofs.Prelude.{ℕ, ◌≤◌, ◌<◌, ◌+◌, ◌-◌, suc, zero, ◌*◌, ◌≡◌, refl, ◌∙◌, List, length}
use Rattle.lib_base.proofs.Prelude.{sub-one, arith}
use Rattle.std.specs.Prelude.{Ok, Err}
use Rattle.spec_language.specs.declared.refusals.Refusal.{Refusal}
use Rattle.sheet_field.specs.Field.{Field, field_of}
use Rattle.front_field.proofs.RestLaws.{rest_length}
use Rattle.front_field.specs.Expression.{DoneRead, done, Out, out, rest_from, go_on_after, read_arguments, close_at, read_body, head_at, head_from, head_of, expression_value, expr_of, ReadIn, CloseIn}
use Rattle.front_field.specs.declared.Done.{Done}

module _ (rd : List ℕ → List ℕ → ℕ → Out) where
  pub args_done : (k : ℕ) (v : List ℕ) (at : ℕ) (draft : List ℕ) (n : ℕ) {r : DoneRead} {p : List ℕ} {d : Done}
      → (k ≡ 0 → ⊥) → out r p ≡ rd (rest_from at v) draft n → r ≡ Ok d
      → read_arguments rd k v at draft n ≡ read_arguments rd (k - 1) v (at + d.size) p d.next
  unfolding read_arguments
  args_done zero v at draft n h e q = absurd (h refl)
  args_done (suc k) v at draft n h e q = rw (sub-one, ← e, q)

  pub args_fault : (k : ℕ) (v : List ℕ) (at : ℕ) (draft : List ℕ) (n : ℕ) {r : DoneRead} {p : List ℕ} {j : Refusal}
      → (k ≡ 0 → ⊥) → out r p ≡ rd (rest_from at v) draft n → r ≡ Err j
      → read_arguments rd k v at draft n ≡ out (Err j) p
  unfolding read_arguments
  args_fault zero v at draft n h e d = absurd (h refl)
  args_fault (suc k) v at draft n h e d = rw (← e, d)

  pub args_none : (v : List ℕ) (at : ℕ) (draft : List ℕ) (n : ℕ) → read_arguments rd 0 v at draft n ≡ out (done at n) draft
  unfolding read_arguments
  args_none v at draft n = refl

any_reader : (rd rd' : List ℕ → List ℕ → ℕ → Out) (f : Field) (v draft : List ℕ) (n : ℕ)
    → read_body rd (head_from 0 f v) v draft n ≡ read_body rd' (head_from 0 f v) v draft n
unfolding head_at
any_reader rd rd' (Ok h) v draft n = refl
any_reader rd rd' (Err r) v draft n = refl

pub unroll : (left : ℕ) (s draft : List ℕ) (n : ℕ) → expr_of left s draft n ≡ read_body (expr_of (left - 1)) (head_of left s) (expression_value s) draft n
unfolding expr_of head_of
unroll zero s draft n = any_reader _ _ (field_of s 16 19) (expression_value s) draft n
unroll (suc left) s draft n = rw sub-one

-- what the loop over the arguments keeps: what is left gives the whole, and there is room
abbrev pub finish : ℕ → List ℕ → Out → Out
finish f v o = go_on_after o.0 o.1 (λ at m. close_at f (length v) at o.1 m)

pub record Turn (left : ℕ) (s draft₀ : List ℕ) (n f : ℕ) (v draft : List ℕ) (at m k : ℕ) : Type 0 where
  pub whole : finish f v (read_arguments (expr_of (left - 1)) k v at draft m) ≡ expr_of left s draft₀ n
  pub deep : 0 < left
  pub within : length v + 3 ≤ length s
  pub first : 0 < at
  pub reached : at ≤ length v
  pub nodes : m * 4 + 1 ≤ n * 4 + at
  pub onwards : n ≤ m
  pub room : n * 4 + length s ≤ 8192

module _ {left : ℕ} {s draft₀ : List ℕ} {n f : ℕ} {v draft : List ℕ} {at m k : ℕ} (i : Turn left s draft₀ n f v draft at m k) where
  -- an argument's fault is the whole's
  pub turn_fault : {r : DoneRead} {p : List ℕ} {j : Refusal} → (k ≡ 0 → ⊥) → out r p ≡ expr_of (left - 1) (rest_from at v) draft m → r ≡ Err j
      → out (Err j) p ≡ expr_of left s draft₀ n
  turn_fault h e d = rw (args_fault (expr_of (left - 1)) k v at draft m h e d) at i.whole

  -- an argument that is done leaves one fewer
  pub turn_done : {r : DoneRead} {p : List ℕ} {d : Done} → (k ≡ 0 → ⊥) → out r p ≡ expr_of (left - 1) (rest_from at v) draft m → r ≡ Ok d
      → ReadIn (length (rest_from at v)) m r
      → Turn left s draft₀ n f v p (at + d.size) d.next (k - 1)
  turn_done {d} h e q b =
      let b' : ReadIn (length (rest_from at v)) m (Ok d) = rw q at b in
      let rest = rest_length at v in
      record {
        whole = rw (← args_done (expr_of (left - 1)) k v at draft m h e q) i.whole;
        deep = i.deep;
        within = i.within;
        first = omega arith;
        reached = omega arith;
        nodes = omega arith;
        onwards = omega arith;
        room = i.room;
      }

  -- after the last argument the closing is the whole
  pub turn_end : (r : DoneRead) {p : List ℕ} → k ≡ 0 → out r p ≡ close_at f (length v) at draft m → CloseIn (length v) at m r
      → (out r p ≡ expr_of left s draft₀ n) × ReadIn (length s) n r
  turn_end r z e b = (e ∙ (rw (z, args_none) at i.whole), closed r b)
    where
      closed : (r : DoneRead) → CloseIn (length v) at m r → ReadIn (length s) n r
      closed (Ok d) h = omega arith
      closed (Err j) h = tt
