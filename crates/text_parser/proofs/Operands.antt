-- Arguments, brackets, `if`, `!` and the primaries: each function's answer is that of the definition's, case by case.
use Rattle.lib_base.proofs.Prelude.{ℕ, ◌≤◌, ◌<◌, ◌+◌, ◌-◌, suc, zero, ◌*◌, ◌≡◌, refl, ◌∙◌, sym, ap, subst, List, [], Bool, true}
use Rattle.lib_base.proofs.Prelude.{false, ◌∷◌, ◌++◌, map, append_assoc, length, get_or, take, drop, length-append, eqb, ltb}
use Rattle.lib_base.proofs.Prelude.{add-one, ne_eqb, eqb-true, ltb-false, ltb-true, arith}
use Rattle.std.specs.Prelude.{Option, Some, None, slice_get}
use Rattle.lib_signature.specs.Numbers.{not_fn, if_fn}
use Rattle.spec_language.specs.Sheet.{as_sent}
use Rattle.lib_base.specs.Basics.{pick, All}
use Rattle.lib_base.proofs.Tools.{by_test, by_two, split}
use Rattle.spec_language.specs.Syntax.{Expr, con, name, app1, app3}
use Rattle.spec_language.specs.Grammar.{field, word, encode_expr}
use Rattle.text_formula.specs.Tokens.{Token, number, behaviour, function, opening, closing, comma}
use Rattle.text_formula.specs.InRange.{InRange}
use Rattle.text_formula.specs.Reader.{bracket_of, Parsed, unparsed, parsed, then_parse, past, bracketed_of, choice_of, operand_of, operand_at, tower, read_at}
use Rattle.text_formula.specs.Answer.{nesting}
use Rattle.text_formula.specs.Nesting.{deeper}
use Rattle.text_formula.specs.declared.tokens.Token as code
use Rattle.text_formula.specs.declared.tokens.Token.TheVariants.{Number, Name, Function, Opening, Closing, Comma}
use Rattle.text_formula.proofs.Deeper.{deeper_sum, deeper_none}
use Rattle.text_lexer.specs.Codes.{capped, token_code}
use Rattle.sheet_write.specs.Writes.{fitted}
use Rattle.sheet_write.proofs.Laws.{fitted_taken, applied_taken}
use Rattle.text_phrase.specs.Phrase.{bracket_at, under_of, closed_of, wrapped_in, ended_in, leaf_read, leaf_out, Closable}
use Rattle.text_phrase.specs.declared.Read.{Read}
use Rattle.text_parser.specs.Parser.{bounded, expression_bytes, ExpressionWritten, Agrees, Reading, ChoiceRead, ReadWithin, ArgumentIn, Argued}
use Rattle.text_parser.proofs.Places.{here, nowhere, no_mark}

-- ---- a bracket or comma that is due

past_mark : (m : ℕ) (f : List Token → Parsed) (ts : List Token) (cs : List code.Token) (at : ℕ) → 0 < m → All InRange ts → cs ≡ map token_code ts
    → past m f (drop at ts) ≡ pick (eqb (bracket_at cs at) m) (f (drop (at + 1) ts)) unparsed
past_mark m f ts cs at h fine e =
    split (ltb at (length cs))
    (λ b. let w = here ts cs fine e at (ltb-true at (length cs) b) in rw (w.onward, w.mark_is))
    (λ b. let g = ltb-false at (length cs) b in rw (nowhere ts cs e at g, no_mark cs at g, ne_eqb 0 m (omega arith)))

past_then : (m : ℕ) (all : List Token → Parsed) (f : Expr → List Token → Parsed) (ts : List Token) → past m (λ us. then_parse (all us) f) ts ≡ then_parse (past m all ts) f
past_then m all f [] = refl
past_then m all f (t ∷ ts) = by_two (λ (x y : Parsed). x ≡ then_parse y f) (eqb (bracket_of t) m) (λ e. refl) (λ e. refl)

-- ---- arguments

agrees_under : (ts : List Token) (d n : ℕ) (o p : List ℕ) (q : Read) (g : Parsed) → Agrees ts 0 n o p (Some q) g → Agrees ts d n o p (under_of d (Some q)) g
agrees_under ts d n o p q unparsed a = absurd (omega arith)
agrees_under ts d n o p q (parsed e rest) a =
    record { number = refl; onward = a.onward; size = a.size; written = a.written; nests = ap (deeper d) (a.nests ∙ deeper_none (nesting e)) }

agrees_none : (ts : List Token) (d n : ℕ) (o p : List ℕ) (g : Parsed) → Agrees ts 0 n o p None g → Agrees ts d n o p None g
agrees_none ts d n o p unparsed a = refl
agrees_none ts d n o p (parsed e rest) a = absurd (omega (arith, a.number))

pub argument_missing : (m : ℕ) (cs : List code.Token) (o p : List ℕ) (r : Read) (b : Bool) → 0 < m → b ≡ eqb (bracket_at cs r.at) m → b ≡ false → Argued m cs o p r None
argument_missing m cs o p r b h g f =
    (λ ts fine q k l. rw (past_mark m (read_at 6 k) ts cs r.at h fine q, ← g, f) refl, tt)

module _ (m : ℕ) (cs : List code.Token) (o p : List ℕ) (r : Read) (b : Bool) (h : 0 < m) (g : b ≡ eqb (bracket_at cs r.at) m) (f : b ≡ true) where
  pub argument_none : (q : Option Read) → q ≡ None → Reading 6 cs (r.at + 1) r.end o p None → Argued m cs o p r q
  argument_none q i rd =
      rw i (λ ts fine x k l. rw (past_mark m (read_at 6 k) ts cs r.at h fine x, ← g, f) (agrees_none ts r.depth r.end o p (read_at 6 k (drop (r.at + 1) ts)) (rd ts fine x k (omega arith))), tt)

  pub argument_read : (q : Option Read) → Reading 6 cs (r.at + 1) r.end o p q → ReadWithin (length cs) (r.at + 1) r.end 0 q → Argued m cs o p r (under_of r.depth q)
  argument_read None rd w = argument_none None refl rd
  argument_read (Some q) rd w =
      let l = deeper_sum r.depth q.depth in (
        λ ts fine x k l. rw (past_mark m (read_at 6 k) ts cs r.at h fine x, ← g, f) (agrees_under ts r.depth r.end o p q (read_at 6 k (drop (r.at + 1) ts)) (rd ts fine x k (omega arith))),
        omega arith,
      )

pub argued_in : (m : ℕ) (cs : List code.Token) (o p : List ℕ) (r q : Read) → ArgumentIn r → Argued m cs o p r (Some q) → ArgumentIn q
argued_in m cs o p r q i a = let w = a.1 in omega arith

-- ---- brackets

ended_agrees : (ts : List Token) (cs : List code.Token) → All InRange ts → cs ≡ map token_code ts → (n : ℕ) (o p : List ℕ) (q : Read) (g : Parsed) → Agrees ts 0 n o p (Some q) g
    → Agrees ts 0 n o p (ended_in cs (Some q)) (then_parse g (λ e vs. past 2 (λ ws. parsed e ws) vs))
ended_agrees ts cs fine x n o p q unparsed a = absurd (omega arith)
ended_agrees ts cs fine x n o p q (parsed e rest) a =
    rw (a.onward, past_mark 2 (λ ws. parsed e ws) ts cs q.at (omega arith) fine x)
    (by_two (Agrees ts 0 n o p) (eqb (bracket_at cs q.at) 2) (λ t. record { number = refl; onward = refl; size = a.size; written = a.written; nests = a.nests }) (λ t. refl))

none_then : (ts : List Token) (n : ℕ) (o p : List ℕ) (g : Parsed) (f : Expr → List Token → Parsed) → Agrees ts 0 n o p None g → Agrees ts 0 n o p None (then_parse g f)
none_then ts n o p unparsed f a = refl
none_then ts n o p (parsed e rest) f a = absurd (omega (arith, a.number))

mark_inside : (cs : List code.Token) (to : ℕ) → bracket_at cs to ≡ 2 → to < length cs
mark_inside cs to e =
    split (ltb to (length cs)) (λ b. ltb-true to (length cs) b) (λ b. absurd (omega (arith, e, no_mark cs to (ltb-false to (length cs) b))))

within_ended : (cs : List code.Token) (at n : ℕ) (q : Read) → ReadWithin (length cs) at n 0 (Some q) → ReadWithin (length cs) at n 0 (ended_in cs (Some q))
within_ended cs at n q w =
    by_test (ReadWithin (length cs) at n 0) (eqb (bracket_at cs q.at) 2)
    (λ e. let h : q.at < length cs = mark_inside cs q.at (eqb-true (bracket_at cs q.at) 2 e) in omega arith)
    (λ e. tt)

brackets_as : (all : List Token → Parsed) (ts : List Token) → bracketed_of all ts ≡ then_parse (past 1 all ts) (λ e vs. past 2 (λ ws. parsed e ws) vs)
unfolding bracketed_of
brackets_as all ts = past_then 1 all (λ e vs. past 2 (λ ws. parsed e ws) vs) ts

-- ---- `if`

choice_as : (all : List Token → Parsed) (ts : List Token)
    → choice_of all ts ≡ then_parse (past 1 all ts) (λ a vs. then_parse (past 3 all vs) (λ b xs. then_parse (past 3 all xs) (λ c zs. past 2 (λ rest. parsed (app3 if_fn a b c) rest) zs)))
unfolding choice_of
choice_as all ts =
    past_then 1 all _ ts ∙ simp (past_then 3 all)

bytes_three : (f : ℕ) (a b c : Expr) → expression_bytes (app3 f a b c) ≡ field 18 (f ∷ (expression_bytes a ++ (expression_bytes b ++ expression_bytes c)))
unfolding expression_bytes bounded encode_expr as_sent
bytes_three f a b c = refl

nesting_three : (f : ℕ) (a b c : Expr) → nesting (app3 f a b c) ≡ suc (deeper (deeper (nesting a) (nesting b)) (nesting c))
unfolding nesting
nesting_three f a b c = refl

-- the same steps, where what was read before may be nothing
abbrev pub Follows : ℕ → List code.Token → List ℕ → List ℕ → Option Read → Option Read → Type 0
Follows m cs o p None q = q ≡ None
Follows m cs o p (Some r) q = Argued m cs o p r q

abbrev Roomy : ℕ → Option Read → Type 0
Roomy size None = Unit {0}
Roomy size (Some r) = r.end + 4 ≤ size

-- what is read so far: bytes v from n to the end
record SoFar (n : ℕ) (o p v : List ℕ) (end : ℕ) : Type 0 where
  pub size : end ≡ n + length v
  pub written : take end p ≡ take n o ++ v

further : {n : ℕ} {o p q v : List ℕ} {end to : ℕ} (w : List ℕ) → SoFar n o p v end → to ≡ end + length w → take to q ≡ take end p ++ w → SoFar n o q (v ++ w) to
further {n} {o} {p} {q} {v} {end} {to} w s h e =
    record { size = rw (length-append v w) (omega (arith, s.size)); written = e ∙ rw s.written (append_assoc (take n o) v w) }

module _ (ts : List Token) (cs : List code.Token) (fine : All InRange ts) (x : cs ≡ map token_code ts) (k n : ℕ) (o p₃ : List ℕ) (fits : n ≤ length o) where
  third : (a b : Expr) (p₂ : List ℕ) (end₂ d₂ : ℕ) → SoFar n o p₂ (expression_bytes a ++ expression_bytes b) end₂ → d₂ ≡ deeper (nesting a) (nesting b) → (r : Option Read) (g : Parsed) → Agrees ts d₂ end₂ p₂ p₃ r g
      → Roomy (length p₃) r → Agrees ts 0 n o (wrapped_in if_fn n (ended_in cs r) p₃) (closed_of 0 (ended_in cs r)) (then_parse g (λ c zs. past 2 (λ rest. parsed (app3 if_fn a b c) rest) zs))
  third a b p₂ end₂ d₂ s d None unparsed h m = refl
  third a b p₂ end₂ d₂ s d None (parsed c zs) h m = absurd (omega (arith, h.number))
  third a b p₂ end₂ d₂ s d (Some r) unparsed h m = absurd (omega arith)
  third a b p₂ end₂ d₂ s d (Some r) (parsed c zs) h m =
      let v : List ℕ = expression_bytes a ++ (expression_bytes b ++ expression_bytes c) in
      let u : SoFar n o p₃ ((expression_bytes a ++ expression_bytes b) ++ expression_bytes c) r.end = further (expression_bytes c) s h.size h.written in
      let q : (expression_bytes a ++ expression_bytes b) ++ expression_bytes c ≡ v = append_assoc (expression_bytes a) (expression_bytes b) (expression_bytes c) in
      let y : SoFar n o p₃ v r.end = rw q at u in
      let z : deeper 0 r.depth ≡ deeper (deeper (nesting a) (nesting b)) (nesting c) = deeper_none r.depth ∙ h.nests ∙ rw d in
      rw (h.onward, past_mark 2 (λ rest. parsed (app3 if_fn a b c) rest) ts cs r.at (omega arith) fine x)
      (by_two (λ (q : Option Read) (g : Parsed). Agrees ts 0 n o (wrapped_in if_fn n q p₃) (closed_of 0 q) g) (eqb (bracket_at cs r.at) 2)
      (λ t. record {
        number = refl;
        onward = refl;
        size = rw (bytes_three if_fn a b c) (omega (arith, y.size));
        written = rw (bytes_three if_fn a b c) (applied_taken n r.end if_fn v o p₃ y.written y.size fits m);
        nests = rw (deeper_none (nesting (app3 if_fn a b c)), nesting_three if_fn a b c, add-one) (ap suc z);
      }) (λ t. refl))

  second : (a : Expr) (p₁ p₂ : List ℕ) (at₁ end₁ d₁ : ℕ) → SoFar n o p₁ (expression_bytes a) end₁ → d₁ ≡ nesting a → length cs - at₁ ≤ suc k → (r r₃ : Option Read) (g : Parsed) → Agrees ts d₁ end₁ p₁ p₂ r g
      → ReadWithin (length cs) at₁ end₁ d₁ r → Follows 3 cs p₂ p₃ r r₃ → Roomy (length p₃) r₃
      → Agrees ts 0 n o (wrapped_in if_fn n (ended_in cs r₃) p₃) (closed_of 0 (ended_in cs r₃))
      (then_parse g (λ b xs. then_parse (past 3 (read_at 6 k) xs) (λ c zs. past 2 (λ rest. parsed (app3 if_fn a b c) rest) zs)))
  second a p₁ p₂ at₁ end₁ d₁ s d l None r₃ unparsed h w y m = rw y refl
  second a p₁ p₂ at₁ end₁ d₁ s d l None r₃ (parsed b xs) h w y m = absurd (omega (arith, h.number))
  second a p₁ p₂ at₁ end₁ d₁ s d l (Some r) r₃ unparsed h w y m = absurd (omega arith)
  second a p₁ p₂ at₁ end₁ d₁ s d l (Some r) r₃ (parsed b xs) h w y m =
      rw h.onward
      (third a b p₂ r.end r.depth (further (expression_bytes b) s h.size h.written) (h.nests ∙ rw d) r₃ (past 3 (read_at 6 k) (drop r.at ts)) (y.0 ts fine x k (omega arith)) m)

  first : (p₁ p₂ : List ℕ) (at : ℕ) → length cs - at ≤ suc k → (r r₂ r₃ : Option Read) (g : Parsed) → Agrees ts 0 n o p₁ r g → ReadWithin (length cs) at n 0 r
      → Follows 3 cs p₁ p₂ r r₂ → Follows 3 cs p₂ p₃ r₂ r₃ → Roomy (length p₃) r₃
      → Agrees ts 0 n o (wrapped_in if_fn n (ended_in cs r₃) p₃) (closed_of 0 (ended_in cs r₃))
      (then_parse g (λ a vs. then_parse (past 3 (read_at 6 k) vs) (λ b xs. then_parse (past 3 (read_at 6 k) xs) (λ c zs. past 2 (λ rest. parsed (app3 if_fn a b c) rest) zs))))
  first p₁ p₂ at l None r₂ r₃ unparsed h w y z m = let e : r₃ ≡ None = rw y at z in rw e refl
  first p₁ p₂ at l None r₂ r₃ (parsed a vs) h w y z m = absurd (omega (arith, h.number))
  first p₁ p₂ at l (Some r) r₂ r₃ unparsed h w y z m = absurd (omega arith)
  first p₁ p₂ at l (Some r) r₂ r₃ (parsed a vs) h w y z m =
      rw h.onward
      (second a p₁ p₂ r.at r.end r.depth record { size = h.size; written = h.written } (h.nests ∙ deeper_none (nesting a)) (omega arith) r₂ r₃ (past 3 (read_at 6 k) (drop r.at ts)) (y.0 ts fine x k (omega arith)) y.1 z m)

-- where readings go on
within_more : (m : ℕ) (cs : List code.Token) (o p : List ℕ) (at n : ℕ) (r q : Option Read) → ReadWithin (length cs) at n 0 r → Follows m cs o p r q → ReadWithin (length cs) at n 0 q
within_more m cs o p at n None q w a = rw a tt
within_more m cs o p at n (Some r) None w a = tt
within_more m cs o p at n (Some r) (Some q) w a = let v = a.1 in omega arith

within_closed : (size at n : ℕ) (r : Option Read) → ReadWithin size (at + 1) n 0 r → ReadWithin size at n 0 (closed_of 0 r)
within_closed size at n None w = tt
within_closed size at n (Some r) w = let l = deeper_sum 0 r.depth in omega arith

pub one_closable : (cs : List code.Token) (at n : ℕ) (p : List ℕ) (r : Option Read) → ReadWithin (length cs) (at + 1) n 0 r → n ≤ at * 7 → length cs ≤ 1024 → length p ≡ 7168 → Closable n 0 (length p) r
one_closable cs at n p None w h f l = tt
one_closable cs at n p (Some r) w h f l = rw l (omega arith)

roomy_after : (size at n : ℕ) (r : Option Read) → ReadWithin size (at + 1) n 0 r → n ≤ at * 7 → size ≤ 1024 → Roomy 7168 r
roomy_after size at n None w h f = tt
roomy_after size at n (Some r) w h f = omega arith

within_end : (cs : List code.Token) (at n : ℕ) (r : Option Read) → ReadWithin (length cs) at n 0 r → ReadWithin (length cs) at n 0 (ended_in cs r)
within_end cs at n None w = tt
within_end cs at n (Some r) w = within_ended cs at n r w

module _ (cs : List code.Token) (at n : ℕ) (o p₁ p₂ p₃ : List ℕ) (ra rb rc : Option Read) (A : Argued 1 cs o p₁ (record { at = at + 1; end = n; depth = 0 }) ra)
    (B : Follows 3 cs p₁ p₂ ra rb) (C : Follows 3 cs p₂ p₃ rb rc) (room : n ≤ at * 7) (few : length cs ≤ 1024) where
  three_within : ReadWithin (length cs) (at + 1) n 0 rc
  three_within = within_more 3 cs p₂ p₃ (at + 1) n rb rc (within_more 3 cs p₁ p₂ (at + 1) n ra rb A.1 B) C

  pub choice_closable : (re : Option Read) → re ≡ ended_in cs rc → length p₃ ≡ 7168 → Closable n 0 (length p₃) re
  choice_closable re e l = one_closable cs at n p₃ re (subst (ReadWithin (length cs) (at + 1) n 0) (sym e) (within_end cs (at + 1) n rc three_within)) room few l

  pub chosen : (re q : Option Read) (p₄ : List ℕ) → re ≡ ended_in cs rc → q ≡ closed_of 0 re → p₄ ≡ wrapped_in if_fn n re p₃ → at < length cs → length o ≡ 7168 → length p₃ ≡ 7168
      → ChoiceRead cs at n o p₄ q × ReadWithin (length cs) at n 0 q
  chosen re q p₄ e f w g l l₃ =
      rw (f, w, e) (
        λ ts fine x k h.
            rw (choice_as (read_at 6 k) (drop (at + 1) ts))
            (first ts cs fine x k n o p₃ (omega arith) p₁ p₂ (at + 1) (omega arith) ra rb rc (past 1 (read_at 6 k) (drop (at + 1) ts)) (A.0 ts fine x k (omega arith)) A.1 B C
            (rw l₃ (roomy_after (length cs) at n rc three_within room few))),
        within_closed (length cs) at n (ended_in cs rc) (within_end cs (at + 1) n rc three_within),
      )

-- ---- operands

none_left : (k : ℕ) → read_at 0 k [] ≡ unparsed
unfolding tower operand_at
none_left zero = refl
none_left (suc k) = refl

pub operand_none : (cs : List code.Token) (at n : ℕ) (o p : List ℕ) (q : Option Read) → q ≡ None → length cs ≤ at → Reading 0 cs at n o p q
operand_none cs at n o p q i h ts fine x k g = rw (i, nowhere ts cs x at h, none_left k) refl

-- an operand at a place that holds a token, with one token's bound taken
taken : (ts : List Token) (at : ℕ) (k : ℕ) (t : Token) → 0 < k → drop at ts ≡ t ∷ drop (at + 1) ts
    → read_at 0 k (drop at ts) ≡ operand_of (read_at 0 (k - 1)) (read_at 6 (k - 1)) (t ∷ drop (at + 1) ts)
unfolding tower operand_at
taken ts at zero t h e = absurd (omega arith)
taken ts at (suc k) t h e =
    let q : k ≡ suc k - 1 = omega arith in
    subst (λ l. read_at 0 (suc k) l ≡ operand_of (read_at 0 (suc k - 1)) (read_at 6 (suc k - 1)) (t ∷ drop (at + 1) ts)) (sym e)
    (subst (λ m. read_at 0 (suc k) (t ∷ drop (at + 1) ts) ≡ operand_of (read_at 0 m) (read_at 6 m) (t ∷ drop (at + 1) ts)) q refl)

is_function : (t : Token) (f : ℕ) → token_code t ≡ Function f → t ≡ function f
is_function (number n) f e = let z : ◌≡◌ {A = ℕ} 0 1 = cc in absurd (omega arith)
is_function (behaviour i) f e = let z : ◌≡◌ {A = ℕ} 0 1 = cc in absurd (omega arith)
is_function (function j) f e = let q : j ≡ f = cc in ap function q
is_function opening f e = let z : ◌≡◌ {A = ℕ} 0 1 = cc in absurd (omega arith)
is_function closing f e = let z : ◌≡◌ {A = ℕ} 0 1 = cc in absurd (omega arith)
is_function comma f e = let z : ◌≡◌ {A = ℕ} 0 1 = cc in absurd (omega arith)

is_opening : (t : Token) → token_code t ≡ Opening → t ≡ opening
is_opening (number n) e = let z : ◌≡◌ {A = ℕ} 0 1 = cc in absurd (omega arith)
is_opening (behaviour i) e = let z : ◌≡◌ {A = ℕ} 0 1 = cc in absurd (omega arith)
is_opening (function j) e = let z : ◌≡◌ {A = ℕ} 0 1 = cc in absurd (omega arith)
is_opening opening e = refl
is_opening closing e = let z : ◌≡◌ {A = ℕ} 0 1 = cc in absurd (omega arith)
is_opening comma e = let z : ◌≡◌ {A = ℕ} 0 1 = cc in absurd (omega arith)

bytes_one : (f : ℕ) (a : Expr) → expression_bytes (app1 f a) ≡ field 18 (f ∷ expression_bytes a)
unfolding expression_bytes bounded encode_expr as_sent
bytes_one f a = refl

nesting_one : (f : ℕ) (a : Expr) → nesting (app1 f a) ≡ suc (nesting a)
unfolding nesting
nesting_one f a = refl

not_agrees : (ts : List Token) (n : ℕ) (o p : List ℕ) (r : Read) (g : Parsed) → Agrees ts 0 n o p (Some r) g → Closable n 0 (length p) (Some r) → n ≤ length o
    → Agrees ts 0 n o (wrapped_in not_fn n (Some r) p) (closed_of 0 (Some r)) (then_parse g (λ a us. parsed (app1 not_fn a) us))
not_agrees ts n o p r unparsed a c h = absurd (omega arith)
not_agrees ts n o p r (parsed e rest) a c h =
    record {
      number = refl;
      onward = a.onward;
      size = rw (bytes_one not_fn e) (omega (arith, a.size));
      written = rw (bytes_one not_fn e) (applied_taken n r.end not_fn (expression_bytes e) o p a.written a.size h c.1);
      nests = rw (deeper_none (nesting (app1 not_fn e)), nesting_one not_fn e, deeper_none r.depth, add-one, a.nests ∙ deeper_none (nesting e));
    }

-- what an index reads stands at its place
pub got : {A : Type 0} (cs : List A) (at : ℕ) (t : A) → at < length cs → ((d : A) → t ≡ get_or cs at d) → slice_get cs at ≡ Some t
got [] at t h e = absurd (omega arith)
got (c ∷ cs) zero t h e = rw (e c)
got (c ∷ cs) (suc at) t h e = got cs at t (omega arith) e

pub got_function : (cs : List code.Token) (at : ℕ) {t : code.Token} {v g : ℕ} (f : ℕ) → at < length cs → ((d : code.Token) → t ≡ get_or cs at d) → t ≡ Function g → v ≡ g → v ≡ f
    → slice_get cs at ≡ Some (Function f)
got_function cs at {t} {v} {g} f h e p q r = let s : g ≡ f = sym q ∙ r in got cs at t h e ∙ rw (p, s)

some_inside : {A : Type 0} (cs : List A) (at : ℕ) (t : A) → slice_get cs at ≡ Some t → at < length cs
some_inside [] at t e = let z : ◌≡◌ {A = ℕ} 0 1 = cc in absurd (omega arith)
some_inside (c ∷ cs) zero t e = omega arith
some_inside (c ∷ cs) (suc at) t e = let h = some_inside cs at t e in omega arith

module _ (cs : List code.Token) (at n : ℕ) (o : List ℕ) (room : n ≤ at * 7) (few : length cs ≤ 1024) (long : length o ≡ 7168) where
  module _ (e : slice_get cs at ≡ Some (Function not_fn)) (p : List ℕ) where
    negated : (q : Option Read) (p₂ : List ℕ) → ((ts : List Token) → All InRange ts → cs ≡ map token_code ts → (k : ℕ) → length cs - (at + 1) ≤ k
        → Agrees ts 0 n o p₂ q (then_parse (read_at 0 k (drop (at + 1) ts)) (λ a us. parsed (app1 not_fn a) us))) → Reading 0 cs at n o p₂ q
    negated q p₂ a ts fine x k h =
        let lt = some_inside cs at (Function not_fn) e in
        let t = here ts cs fine x at lt in
        let same : token_code t.token ≡ Function not_fn = cc (e, t.code_is) in
        rw (taken ts at k t.token (omega arith) t.onward, is_function t.token not_fn same) (a ts fine x (k - 1) (omega arith))

    pub operand_not_none : (q : Option Read) → q ≡ None → Reading 0 cs (at + 1) n o p None → Reading 0 cs at n o p q
    operand_not_none q i rd = subst (Reading 0 cs at n o p) (sym i) (negated None p (λ ts fine x k h. none_then ts n o p (read_at 0 k (drop (at + 1) ts)) _ (rd ts fine x k h)))

    pub operand_not : (r : Option Read) (p₂ : List ℕ) → Reading 0 cs (at + 1) n o p r → ReadWithin (length cs) (at + 1) n 0 r → length p ≡ 7168
        → p₂ ≡ wrapped_in not_fn n r p → Reading 0 cs at n o p₂ (closed_of 0 r) × ReadWithin (length cs) at n 0 (closed_of 0 r)
    operand_not None p₂ rd w l g = (rw g (operand_not_none None refl rd), tt)
    operand_not (Some r) p₂ rd w l g = (
      negated (closed_of 0 (Some r)) p₂
          (λ ts fine x k h. rw g (not_agrees ts n o p r (read_at 0 k (drop (at + 1) ts)) (rd ts fine x k h) (one_closable cs at n p (Some r) w room few l) (omega arith))),
      within_closed (length cs) at n (Some r) w,
    )

  pub operand_if : slice_get cs at ≡ Some (Function if_fn) → (p : List ℕ) (r : Option Read) → ChoiceRead cs at n o p r → Reading 0 cs at n o p r
  operand_if e p r c ts fine x k h =
      let lt = some_inside cs at (Function if_fn) e in
      let t = here ts cs fine x at lt in
      let same : token_code t.token ≡ Function if_fn = cc (e, t.code_is) in
      rw (taken ts at k t.token (omega arith) t.onward, is_function t.token if_fn same) (c ts fine x (k - 1) (omega arith))

  bracket_agrees : (ts : List Token) → All InRange ts → cs ≡ map token_code ts → (p : List ℕ) (r : Option Read) (g : Parsed) → Agrees ts 0 n o p r g
      → Agrees ts 0 n o p (ended_in cs r) (then_parse g (λ e vs. past 2 (λ ws. parsed e ws) vs))
  bracket_agrees ts fine x p None g a = none_then ts n o p g _ a
  bracket_agrees ts fine x p (Some r) g a = ended_agrees ts cs fine x n o p r g a

  pub operand_brackets : slice_get cs at ≡ Some Opening → (p : List ℕ) (r q : Option Read) → q ≡ ended_in cs r → Argued 1 cs o p (record { at = at; end = n; depth = 0 }) r
      → Reading 0 cs at n o p q × ReadWithin (length cs) at n 0 q
  operand_brackets e p r q i a =
      rw i (
        λ ts fine x k h.
            let lt = some_inside cs at Opening e in
            let t = here ts cs fine x at lt in
            let same : token_code t.token ≡ Opening = cc (e, t.code_is) in
            let y : drop at ts ≡ opening ∷ drop (at + 1) ts = rw (is_opening t.token same) at t.onward in
            rw (taken ts at k opening (omega arith) y, ← y, brackets_as (read_at 6 (k - 1)) (drop at ts))
            (bracket_agrees ts fine x p r (past 1 (read_at 6 (k - 1)) (drop at ts)) (a.0 ts fine x (k - 1) (omega arith))),
        within_end cs at n r a.1,
      )

-- ---- numbers and names

bytes_number : (m : ℕ) → expression_bytes (con m) ≡ field 16 (word (capped m))
unfolding expression_bytes bounded encode_expr as_sent
bytes_number m = refl

bytes_name : (i : ℕ) → expression_bytes (name i) ≡ field 17 (i ∷ [])
unfolding expression_bytes bounded encode_expr as_sent
bytes_name i = refl

leaf_nesting : (n i : ℕ) → (nesting (con n) ≡ 1) × (nesting (name i) ≡ 1)
unfolding nesting
leaf_nesting n i = (refl, refl)

-- bytes placed from n on
placed_wrote : (ts : List Token) (n : ℕ) (o v : List ℕ) (at end : ℕ) (e : Expr) → end ≡ n + length v → v ≡ expression_bytes e → n + length v ≤ length o → nesting e ≡ 1
    → ExpressionWritten ts 0 n o (fitted o n v) (Some (record { at = at; end = end; depth = 1 })) e (drop at ts)
placed_wrote ts n o v at end e s q h d =
    record {
      number = refl;
      onward = refl;
      size = s ∙ ap (λ (l : List ℕ). n + length l) q;
      written = rw s (fitted_taken o n v h ∙ rw q);
      nests = rw (d, deeper_none 1);
    }

leaf_agrees : (ts : List Token) (at n : ℕ) (o : List ℕ) (operand all : List Token → Parsed) (t : Token) → n + 7 ≤ length o
    → (token_code t ≡ Function not_fn → ⊥) → (token_code t ≡ Function if_fn → ⊥) → (token_code t ≡ Opening → ⊥)
    → Agrees ts 0 n o (leaf_out (token_code t) n o) (leaf_read (token_code t) at n) (operand_of operand all (t ∷ drop (at + 1) ts))
unfolding leaf_out leaf_read
leaf_agrees ts at n o operand all (number m) l a b c =
    placed_wrote ts n o (field 16 (word (capped m))) (at + 1) (n + 7) (con m) refl (sym (bytes_number m)) l (leaf_nesting m 0).0
leaf_agrees ts at n o operand all (behaviour i) l a b c =
    placed_wrote ts n o (field 17 (i ∷ [])) (at + 1) (n + 4) (name i) refl (sym (bytes_name i)) (omega arith) (leaf_nesting 0 i).1
leaf_agrees ts at n o operand all (function f) l a b c =
    rw (ne_eqb f not_fn (λ e. a (ap (λ (j : ℕ). Function j) e)), ne_eqb f if_fn (λ e. b (ap (λ (j : ℕ). Function j) e))) refl
leaf_agrees ts at n o operand all opening l a b c = absurd (c refl)
leaf_agrees ts at n o operand all closing l a b c = refl
leaf_agrees ts at n o operand all comma l a b c = refl

within_leaf : (size : ℕ) (t : code.Token) (at n : ℕ) → at < size → ReadWithin size at n 0 (leaf_read t at n)
unfolding leaf_read
within_leaf size (Number v) at n h = omega arith
within_leaf size (Name i) at n h = omega arith
within_leaf size (Function f) at n h = tt
within_leaf size Opening at n h = tt
within_leaf size Closing at n h = tt
within_leaf size Comma at n h = tt

pub operand_leaf : (cs : List code.Token) (at n : ℕ) (o : List ℕ) (t : code.Token) → slice_get cs at ≡ Some t → n ≤ at * 7 → length cs ≤ 1024 → length o ≡ 7168
    → (t ≡ Function not_fn → ⊥) → (t ≡ Function if_fn → ⊥) → (t ≡ Opening → ⊥)
    → (q : Option Read) (p : List ℕ) → q ≡ leaf_read t at n → p ≡ leaf_out t n o → Reading 0 cs at n o p q × ReadWithin (length cs) at n 0 q
operand_leaf cs at n o t is room few long a b c q p f g =
    let lt = some_inside cs at t is in
    rw (f, g) (
      λ ts fine x k h.
          let u = here ts cs fine x at lt in
          let same : t ≡ token_code u.token = cc (is, u.code_is) in
          rw (taken ts at k u.token (omega arith) u.onward)
          (subst (λ (s : code.Token). Agrees ts 0 n o (leaf_out s n o) (leaf_read s at n) (operand_of (read_at 0 (k - 1)) (read_at 6 (k - 1)) (u.token ∷ drop (at + 1) ts))) (sym same)
          (leaf_agrees ts at n o (read_at 0 (k - 1)) (read_at 6 (k - 1)) u.token (omega arith) (λ e. a (same ∙ e)) (λ e. b (same ∙ e)) (λ e. c (same ∙ e)))),
      within_leaf (length cs) t at n lt,
    )
