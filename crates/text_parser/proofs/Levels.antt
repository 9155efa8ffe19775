-- What a level's loop keeps, and its start, turn and end: the operand so far stands in the level's `operator_chain`
-- (`Midway`).
use Rattle.lib_base.proofs.Prelude.{ℕ, ◌≤◌, ◌<◌, ◌+◌, ◌-◌, suc, zero, ◌*◌, ◌≡◌, refl, ◌∙◌, sym, ap, subst, List, [], ◌∷◌, ◌++◌}
use Rattle.lib_base.proofs.Prelude.{map, append_assoc, length, take, drop, length-append, length-map, ltb, add-one}
use Rattle.lib_base.proofs.Prelude.{sub-one, ne_eqb, eq-eqb, ltb-false, ltb-true, arith}
use Rattle.std.specs.Prelude.{Option, Some, None, IsSome}
use Rattle.spec_language.specs.Sheet.{as_sent}
use Rattle.lib_base.specs.Basics.{All}
use Rattle.lib_base.proofs.Tools.{split}
use Rattle.spec_language.specs.Syntax.{Expr, app2}
use Rattle.spec_language.specs.Grammar.{field, encode_expr}
use Rattle.text_formula.specs.Tokens.{Token}
use Rattle.text_formula.specs.InRange.{InRange}
use Rattle.text_formula.specs.Reader.{level_of, operator_of, Parsed, unparsed, parsed, then_parse, operator_chain, tower, read_at}
use Rattle.text_formula.specs.Answer.{nesting}
use Rattle.text_formula.specs.Nesting.{deeper}
use Rattle.text_formula.specs.declared.tokens.Token as code
use Rattle.text_formula.proofs.Deeper.{deeper_sum, deeper_none}
use Rattle.text_lexer.specs.Codes.{token_code}
use Rattle.text_phrase.specs.Phrase.{operator_in, closed_of, wrapped_in, Closable}
use Rattle.text_phrase.specs.declared.Read.{Read}
use Rattle.text_parser.specs.Parser.{bounded, expression_bytes, Agrees, Reading, ReadWithin}
use Rattle.sheet_write.proofs.Laws.{applied_taken}
use Rattle.text_parser.proofs.Places.{Here, here, nowhere, operator_some, operator_none}

-- ---- the level's state

pub record Midway (m : ℕ) (ts : List Token) (k n : ℕ) (o p : List ℕ) (r : Read) (g : Parsed) : Type 0 where
  pub expr : Expr
  pub left : ℕ
  pub enough : length ts - r.at ≤ left
  pub is : g ≡ operator_chain (suc m) (read_at m k) left expr (drop r.at ts)
  pub size : r.end ≡ n + length (expression_bytes expr)
  pub written : take r.end p ≡ take n o ++ expression_bytes expr
  pub nests : r.depth ≡ nesting expr

pub record Turn (m : ℕ) (cs : List code.Token) (at n : ℕ) (o p : List ℕ) (r : Read) : Type 0 where
  pub whole : (ts : List Token) → All InRange ts → cs ≡ map token_code ts → (k : ℕ) → length cs - at ≤ k → Midway m ts k n o p r (read_at (suc m) k (drop at ts))
  pub inside : ReadWithin (length cs) at n 0 (Some r)
  pub room : n ≤ at * 7
  pub few : length cs ≤ 1024
  pub kept : length p ≡ 7168
  pub long : length o ≡ 7168

up : (m k : ℕ) (ts : List Token) (g : Parsed) → read_at m k ts ≡ g → read_at (suc m) k ts ≡ then_parse g (λ a us. operator_chain (suc m) (read_at m k) k a us)
unfolding tower
up m k ts g e = rw e

begun : (m : ℕ) (ts : List Token) (k at n : ℕ) (o p : List ℕ) (r : Read) (g : Parsed) → read_at m k (drop at ts) ≡ g → length ts - at ≤ k → ReadWithin (length ts) at n 0 (Some r)
    → Agrees ts 0 n o p (Some r) g → Midway m ts k n o p r (read_at (suc m) k (drop at ts))
begun m ts k at n o p r unparsed e h w a = absurd (omega arith)
begun m ts k at n o p r (parsed x rest) e h w a =
    record {
      expr = x;
      left = k;
      enough = omega arith;
      is = up m k (drop at ts) (parsed x rest) e ∙ rw a.onward;
      size = a.size;
      written = a.written;
      nests = a.nests ∙ deeper_none (nesting x);
    }

long_as : (ts : List Token) (cs : List code.Token) → cs ≡ map token_code ts → length cs ≡ length ts
long_as ts cs e = ap length e ∙ length-map ts token_code

pub level_start : (m : ℕ) (cs : List code.Token) (at n : ℕ) (o p : List ℕ) (r : Read) → Reading m cs at n o p (Some r) → ReadWithin (length cs) at n 0 (Some r) → n ≤ at * 7
    → length cs ≤ 1024 → length p ≡ 7168 → length o ≡ 7168 → Turn m cs at n o p r
level_start m cs at n o p r a w h f l j =
    record {
      whole = λ ts fine e k g.
          let s : length cs ≡ length ts = long_as ts cs e in
          begun m ts k at n o p r (read_at m k (drop at ts)) refl (rw (sym s) g) (rw (sym s) w) (a ts fine e k g);
      inside = w;
      room = h;
      few = f;
      kept = l;
      long = j;
    }

-- ---- its end

-- where the tighter level reads nothing
pub level_none : (m : ℕ) (cs : List code.Token) (at n : ℕ) (o p : List ℕ) (x : Option Read) → x ≡ None → Reading m cs at n o p None → Reading (suc m) cs at n o p x
level_none m cs at n o p x i a ts fine e k g = rw i (none_up (read_at m k (drop at ts)) refl (a ts fine e k g))
  where
    none_up : (y : Parsed) → read_at m k (drop at ts) ≡ y → Agrees ts 0 n o p None y → Agrees ts 0 n o p None (read_at (suc m) k (drop at ts))
    none_up unparsed q b = rw (up m k (drop at ts) unparsed q) refl
    none_up (parsed x rest) q b = absurd (omega (arith, b.number))

-- what the loop keeps of a reading that failed, and of one that is done
abbrev KeptOf : ℕ → List code.Token → ℕ → ℕ → List ℕ → List ℕ → Option Read → Type 0
KeptOf m cs at n o p None = Reading (suc m) cs at n o p None × length p ≡ 7168
KeptOf m cs at n o p (Some r) = Turn m cs at n o p r

pub record Kept (m : ℕ) (cs : List code.Token) (at n : ℕ) (o p : List ℕ) (x : Option Read) : Type 0 where
  pub case : KeptOf m cs at n o p x

abbrev pub to_come : ℕ → Option Read → ℕ
to_come size None = 0
to_come size (Some r) = suc (size - r.at)

pub level_begins : (m : ℕ) (cs : List code.Token) (at n : ℕ) (o p : List ℕ) (q : Option Read) → Reading m cs at n o p q → ReadWithin (length cs) at n 0 q → n ≤ at * 7 → length cs ≤ 1024
    → length p ≡ 7168 → length o ≡ 7168 → Kept m cs at n o p q
level_begins m cs at n o p None a w h f l j = record { case = (level_none m cs at n o p None refl a, l) }
level_begins m cs at n o p (Some r) a w h f l j = record { case = level_start m cs at n o p r a w h f l j }

pub still : {m : ℕ} {cs : List code.Token} {at n : ℕ} {o p : List ℕ} {x : Option Read} {r : Read} → x ≡ Some r → Kept m cs at n o p x → Turn m cs at n o p r
still {m} {cs} {at} {n} {o} {p} {x} {r} e k = subst (KeptOf m cs at n o p) e k.case

chain_ends : (l : ℕ) (next : List Token → Parsed) (k : ℕ) (a : Expr) (ts : List Token) → ((t : Token) (us : List Token) → ts ≡ t ∷ us → level_of t ≡ l → ⊥)
    → operator_chain l next k a ts ≡ parsed a ts
unfolding operator_chain
chain_ends l next zero a ts h = refl
chain_ends l next (suc k) a [] h = refl
chain_ends l next (suc k) a (t ∷ us) h = rw (ne_eqb (level_of t) l (h t us refl))

done_here : (m : ℕ) (ts : List Token) (k n : ℕ) (o p : List ℕ) (r : Read) (g : Parsed) → Midway m ts k n o p r g
    → ((t : Token) (us : List Token) → drop r.at ts ≡ t ∷ us → level_of t ≡ suc m → ⊥) → Agrees ts 0 n o p (Some r) g
done_here m ts k n o p r g w h =
    let e : g ≡ parsed w.expr (drop r.at ts) = w.is ∙ chain_ends (suc m) (read_at m k) w.left w.expr (drop r.at ts) h in
    rw e record { number = refl; onward = refl; size = w.size; written = w.written; nests = w.nests ∙ sym (deeper_none (nesting w.expr)) }

-- no operator of the level stands at the place
no_operator : {x : Option ℕ} (l : ℕ) (ts : List Token) (cs : List code.Token) (at : ℕ) → 0 < l → All InRange ts → cs ≡ map token_code ts → x ≡ operator_in cs at l → x ≡ None
    → (t : Token) (us : List Token) → drop at ts ≡ t ∷ us → level_of t ≡ l → ⊥
no_operator l ts cs at g fine e i h t us q d =
    split (ltb at (length cs))
    (λ b. let w = here ts cs fine e at (ltb-true at (length cs) b) in
    let s : t ∷ us ≡ w.token ∷ drop (at + 1) ts = sym q ∙ w.onward in
    let u : t ≡ w.token = cc in
    operator_none ts cs at l w g i h (rw (← u) d))
    (λ b. let s : t ∷ us ≡ [] = sym q ∙ nowhere ts cs e at (ltb-false at (length cs) b) in
    let z : ◌≡◌ {A = ℕ} 0 1 = cc in omega arith)

pub level_end : {m : ℕ} {cs : List code.Token} {at n : ℕ} {o p : List ℕ} {r : Read} {x : Option ℕ} → Turn m cs at n o p r → x ≡ operator_in cs r.at (suc m) → x ≡ None
    → Reading (suc m) cs at n o p (Some r)
level_end {m} {cs} {at} {n} {o} {p} {r} t i h ts fine e k g =
    done_here m ts k n o p r (read_at (suc m) k (drop at ts)) (t.whole ts fine e k g) (no_operator (suc m) ts cs r.at (omega arith) fine e i h)

-- ---- a turn: an operator of the level and its operand

pub some_there : {x : Option ℕ} {f : ℕ} (A : Type 0) → x ≡ Some f → (IsSome x → A) → A
some_there {x} {f} A e h = h (subst IsSome (sym e) refl)

chain_goes : (l : ℕ) (next : List Token → Parsed) (k : ℕ) (a : Expr) (t : Token) (us : List Token) → 0 < k → level_of t ≡ l
    → operator_chain l next k a (t ∷ us) ≡ then_parse (next us) (λ b vs. operator_chain l next (k - 1) (app2 (operator_of t) a b) vs)
unfolding operator_chain
chain_goes l next zero a t us h e = absurd (omega arith)
chain_goes l next (suc k) a t us h e = rw (eq-eqb (level_of t) l e, sub-one)

bytes_two : (f : ℕ) (a b : Expr) → expression_bytes (app2 f a b) ≡ field 18 (f ∷ (expression_bytes a ++ expression_bytes b))
unfolding expression_bytes bounded encode_expr as_sent
bytes_two f a b = refl

nesting_two : (f : ℕ) (a b : Expr) → nesting (app2 f a b) ≡ suc (deeper (nesting a) (nesting b))
unfolding nesting
nesting_two f a b = refl

module _ (m : ℕ) (ts : List Token) (cs : List code.Token) (k n : ℕ) (o p : List ℕ) (r : Read) (g : Parsed) (w : Midway m ts k n o p r g) (h : Here ts cs r.at)
    (lev : level_of h.token ≡ suc m) (in_ts : r.at < length ts) (fits : n ≤ length o) where
  goes : g ≡ then_parse (read_at m k (drop (r.at + 1) ts)) (λ b vs. operator_chain (suc m) (read_at m k) (w.left - 1) (app2 (operator_of h.token) w.expr b) vs)
  goes = w.is ∙ rw h.onward (chain_goes (suc m) (read_at m k) w.left w.expr h.token (drop (r.at + 1) ts) (omega (arith, w.enough)) lev)

  fails : (p₁ : List ℕ) (x : Parsed) → read_at m k (drop (r.at + 1) ts) ≡ x → Agrees ts 0 r.end p p₁ None x → g ≡ unparsed
  fails p₁ unparsed e a = goes ∙ rw e
  fails p₁ (parsed x rest) e a = absurd (omega (arith, a.number))

  turned : (q : Read) (p₁ : List ℕ) (f : ℕ) → f ≡ operator_of h.token → (x : Parsed) → read_at m k (drop (r.at + 1) ts) ≡ x → Agrees ts 0 r.end p p₁ (Some q) x
      → ReadWithin (length ts) (r.at + 1) r.end 0 (Some q) → Closable n r.depth (length p₁) (Some q)
      → Midway m ts k n o (wrapped_in f n (Some q) p₁) (record { at = q.at; end = q.end + 4; depth = deeper r.depth q.depth + 1 }) g
  turned q p₁ f fe unparsed e a b c = absurd (omega arith)
  turned q p₁ f fe (parsed x rest) e a b c =
      let v : List ℕ = expression_bytes w.expr ++ expression_bytes x in
      let s : q.end ≡ n + length v = rw (length-append (expression_bytes w.expr) (expression_bytes x)) (omega (arith, w.size, a.size)) in
      let z : q.depth ≡ nesting x = a.nests ∙ deeper_none (nesting x) in
      let y : take q.end p₁ ≡ take n o ++ v = a.written ∙ rw w.written (append_assoc (take n o) (expression_bytes w.expr) (expression_bytes x)) in
      record {
        expr = app2 (operator_of h.token) w.expr x;
        left = w.left - 1;
        enough = omega (arith, w.enough);
        is = goes ∙ rw (e, a.onward);
        size = rw (bytes_two (operator_of h.token) w.expr x) (omega arith);
        written = rw (bytes_two (operator_of h.token) w.expr x, ← fe) (applied_taken n q.end f v o p₁ y s fits c.1);
        nests = rw (nesting_two (operator_of h.token) w.expr x, add-one, w.nests, z);
      }

module _ {m : ℕ} {cs : List code.Token} {at n : ℕ} {o p : List ℕ} {r : Read} (t : Turn m cs at n o p r) where
  -- there is room for the operand, and then for the head
  pub next_room : r.end ≤ (r.at + 1) * 7
  next_room = let w = t.inside in omega (arith, t.room)

  pub level_closable : (q : Option Read) (p₁ : List ℕ) → length p₁ ≡ 7168 → ReadWithin (length cs) (r.at + 1) r.end 0 q → Closable n r.depth (length p₁) q
  level_closable None p₁ l b = tt
  level_closable (Some q) p₁ l b = rw l (let w = t.inside in omega (arith, t.room, t.few))

  module _ {x : Option ℕ} {f : ℕ} (i : x ≡ operator_in cs r.at (suc m)) (is : x ≡ Some f) (lt : r.at < length cs) where
    -- no operand stands behind the operator
    pub level_fails : (p₁ : List ℕ) (y : Option Read) → y ≡ None → Reading m cs (r.at + 1) r.end p p₁ None → Reading (suc m) cs at n o p₁ y
    level_fails p₁ y j rd ts fine e k g =
        let s : length cs ≡ length ts = long_as ts cs e in
        let h = here ts cs fine e r.at lt in
        let v = operator_some ts cs r.at (suc m) f h (omega arith) i is in
        rw (
          j,
          fails m ts cs k n o p r (read_at (suc m) k (drop at ts)) (t.whole ts fine e k g) h v.0 (omega arith) (omega (arith, t.room, t.few, t.long, t.inside)) p₁
              (read_at m k (drop (r.at + 1) ts)) refl (rd ts fine e k (omega (arith, t.inside))),
        ) refl

    pub level_turn : (q : Option Read) (p₁ : List ℕ) → Reading m cs (r.at + 1) r.end p p₁ q → ReadWithin (length cs) (r.at + 1) r.end 0 q → length p₁ ≡ 7168
        → (q₂ : Read) (p₂ : List ℕ) → Some q₂ ≡ closed_of r.depth q → p₂ ≡ wrapped_in f n q p₁ → length p₂ ≡ 7168 → Turn m cs at n o p₂ q₂
    level_turn None p₁ rd b l q₂ p₂ e pe l₂ = let z : ◌≡◌ {A = ℕ} 0 1 = cc in absurd (omega arith)
    level_turn (Some q) p₁ rd b l q₂ p₂ e pe l₂ =
        let w = t.inside in
        let d = deeper_sum r.depth q.depth in
        let qe : q₂ ≡ record { at = q.at; end = q.end + 4; depth = deeper r.depth q.depth + 1 } = cc in
        record {
          whole = λ ts fine e k g.
              let s : length cs ≡ length ts = long_as ts cs e in
              let h = here ts cs fine e r.at lt in
              let v = operator_some ts cs r.at (suc m) f h (omega arith) i is in
              rw (qe, pe)
              (turned m ts cs k n o p r (read_at (suc m) k (drop at ts)) (t.whole ts fine e k g) h v.0 (omega arith) (omega (arith, t.room, t.few, t.long)) q p₁ f v.1
              (read_at m k (drop (r.at + 1) ts)) refl (rd ts fine e k (omega arith)) (rw (sym s) b) (level_closable (Some q) p₁ l b));
          inside = rw qe (omega arith);
          room = t.room;
          few = t.few;
          kept = l₂;
          long = t.long;
        }

    pub level_goes_on : (q : Option Read) (p₁ : List ℕ) → Reading m cs (r.at + 1) r.end p p₁ q → ReadWithin (length cs) (r.at + 1) r.end 0 q → length p₁ ≡ 7168
        → (y : Option Read) (p₂ : List ℕ) → y ≡ closed_of r.depth q → p₂ ≡ wrapped_in f n q p₁ → length p₂ ≡ 7168 → Kept m cs at n o p₂ y
    level_goes_on None p₁ rd b l y p₂ e pe l₂ = rw (e, pe) (record { case = (level_fails p₁ None refl rd, l) })
    level_goes_on (Some q) p₁ rd b l y p₂ e pe l₂ = rw e (record { case = level_turn (Some q) p₁ rd b l (record { at = q.at; end = q.end + 4; depth = deeper r.depth q.depth + 1 }) p₂ refl pe l₂ })
