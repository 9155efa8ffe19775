-- Every round of the table holds: each sheet is within the grammar's limits, its program has no circle since what a
-- behaviour depends on is lower by a height, and then the rules give what the evaluator computes, and nothing else.
use Rattle.lib_base.proofs.Prelude.{ℕ, ◌≤◌, ◌<◌, suc, zero, ◌^◌, ◌≡◌, refl, ◌∙◌, sym, subst, true, false, Bool, ◌||◌}
use Rattle.lib_base.proofs.Prelude.{false≢true, ◌&&◌, not, ◌≢◌, none, List, [], ◌∷◌, map, flat_map, sum, length, eqb}
use Rattle.lib_base.proofs.Prelude.{eqb-true, arith}
use lib.IntN.{ℤ}
use Rattle.lib_base.specs.Basics.{All}
use Rattle.lib_base.proofs.Tools.{split}
use Rattle.lib_signature.specs.Numbers.{add_fn, subtract_fn}
use Rattle.lib_signature.specs.Signature.{last, arity}
use Rattle.lib_signature.proofs.Laws.{is_two}
use Rattle.lib_arith.specs.Exact.{signed}
use Rattle.lib_arith.specs.Functions.{exact, result_of}
use Rattle.spec_language.specs.Syntax.{Expr, con, name, app2, immediate, later, handler, Behaviour, passive, active, Program}
use Rattle.spec_language.specs.Sheet.{Term, literal, variable, apply2, clause, state, Sheet, cell_count, entries_out, fill_term, fill_clauses, fill_entries, fill, params_of, params_of_clauses, params_of_entries, uses}
use Rattle.spec_language.specs.Grammar.{binary, TermFits, t_literal, t_variable, t_apply2, SheetFits, encode_expr, encode_handlers, encode_behaviours, encode_events, encode}
use Rattle.spec_language.specs.Fits.{Nested, n_con, n_name, n_app2}
use Rattle.spec_language.specs.Reading.{entry, signal, sheet}
use Rattle.spec_language.specs.Dependence.{handled, mentions, events, depends_on, Reach, one, more, NoCycle}
use Rattle.spec_language.specs.Order.{met, find, order, up_to, met_at_once, phase_one}
use Rattle.spec_language.specs.Code.{size_of, instructions, all_instructions}
use Rattle.spec_language.specs.Accepted.{Known, SheetAccepted}
use Rattle.spec_language.specs.Valid.{Valid}
use Rattle.spec_semantics.specs.Meaning.{value, in_turn, first_phase, starts, fresh}
use Rattle.spec_semantics.specs.Event.{later_phase, event, play}
use Rattle.spec_semantics.specs.Rounds.{ByRules, Holds, S, half_later, both_later, through_passive, taking, rounds}
use Rattle.spec_semantics.proofs.Agreement.{fresh_consistent, fresh_shows, fresh_alone}
use Rattle.spec_semantics.proofs.PlaysLaws.{plays, plays_alone}

S_length : length S ≡ 74
S_length = refl

-- ---- what the evaluator computes is by the rules

by_rules : (p : Program) → Valid p → (es : List ℕ) → All (λ e. e < events p) es → (board : List ℤ) → map signed (play p es (fresh p)) ≡ board → ByRules p es board
by_rules p v es h board q = record {
  before = fresh p;
  after = play p es (fresh p);
  all = (fresh_consistent p v).0;
  fresh = fresh_shows p v;
  fresh_alone = fresh_alone p v;
  played = plays p v es h (fresh p) (fresh_consistent p v).0;
  played_alone = λ other d. plays_alone p v es h (fresh p) other (fresh_consistent p v).0 d;
  shown = q;
}

-- ---- a sheet within the grammar's limits, without parameters, of a valid program that is not overlong is accepted

accepted : (x : Sheet) (p : Program) → ((v : ℕ → ℕ) → p ≡ fill v x) → SheetFits x → uses x ≡ false → Valid p → all_instructions p ≤ 4096 → (v : ℕ → ℕ) (lent : ℕ) → SheetAccepted v lent x
accepted x p f s u k short v lent = record {
  fits = s;
  known = subst Known (f v) k.known;
  given = λ h. absurd (false≢true (sym u ∙ h));
  acyclic = subst NoCycle (f v) k.acyclic;
  short = subst (λ (o : Program). all_instructions o ≤ 4096) (f v) short;
}

-- names and a constant as the sheets have them
t0 : {k : ℕ} → TermFits (suc k) (variable 0)
t0 = t_variable {i = 0} (omega arith)

t1 : {k : ℕ} → TermFits (suc k) (variable 1)
t1 = t_variable {i = 1} (omega arith)

l1 : {k : ℕ} → TermFits (suc k) (literal 1)
l1 = t_literal {w = 1} (omega arith)

plus_fits : {k : ℕ} {a b : Term} → TermFits k a → TermFits k b → TermFits (suc k) (apply2 add_fn a b)
plus_fits = t_apply2 (binary {f = add_fn} (omega arith) (omega arith) (is_two add_fn (omega arith) (omega arith)))

minus_fits : {k : ℕ} {a b : Term} → TermFits k a → TermFits k b → TermFits (suc k) (apply2 subtract_fn a b)
minus_fits = t_apply2 (binary {f = subtract_fn} (omega arith) (omega arith) (is_two subtract_fn (omega arith) (omega arith)))

-- ---- no circle: a height falls along each dependence

module _ (dep : ℕ → ℕ → Bool) (height : ℕ → ℕ) (falls : (i j : ℕ) → dep i j ≡ true → height j < height i) where
  lower : {i j : ℕ} → Reach dep i j → height j < height i
  lower (one d) = falls _ _ d
  lower (more {b = b} {c = c} r d) = omega (arith, lower r, falls b c d)

  uncircled : (i : ℕ) → Reach dep i i → ⊥
  uncircled i r = omega (arith, lower r)

-- one of two names, but not the first: the second
second_of_law : (a b j : ℕ) → (eqb a j || eqb b j) && not (eqb a j) ≡ true → b ≡ j
second_of_law a b j h = split (eqb a j) (λ t. absurd (false≢true (rw t at h))) (λ t. split (eqb b j) (λ u. eqb-true b j u) (λ u. absurd (false≢true (rw (t, u) at h))))

-- a name but another one: itself
other_of : (a b j : ℕ) → eqb b j && not (eqb a j) ≡ true → b ≡ j
other_of a b j h = split (eqb b j) (λ u. eqb-true b j u) (λ u. absurd (false≢true (rw u at h)))

first_of : (b j : ℕ) → eqb b j || false ≡ true → b ≡ j
first_of b j h = split (eqb b j) (λ u. eqb-true b j u) (λ u. absurd (false≢true (rw u at h)))

-- names and a constant as the programs have them
b0 : {k : ℕ} → Nested (suc k) (name 0)
b0 = n_name {i = 0} (omega arith)

b1 : {k : ℕ} → Nested (suc k) (name 1)
b1 = n_name {i = 1} (omega arith)

c1 : {k : ℕ} → Nested (suc k) (con 1)
c1 = n_con {w = 1} (omega arith)

plus_nested : {k : ℕ} {a b : Expr} → Nested k a → Nested k b → Nested (suc k) (app2 add_fn a b)
plus_nested = n_app2 (binary {f = add_fn} (omega arith) (omega arith) (is_two add_fn (omega arith) (omega arith)))

difference : {k : ℕ} {a b : Expr} → Nested k a → Nested k b → Nested (suc k) (app2 subtract_fn a b)
difference = n_app2 (binary {f = subtract_fn} (omega arith) (omega arith) (is_two subtract_fn (omega arith) (omega arith)))

-- behaviour 0, and behaviour 1, above the others
abbrev zero_high : ℕ → ℕ
zero_high zero = 1
zero_high (suc i) = 0

abbrev one_high : ℕ → ℕ
one_high zero = 0
one_high (suc zero) = 1
one_high (suc (suc i)) = 0

-- ---- S

abbrev S_sheet : Sheet
S_sheet =
    sheet (signal 1 none ∷ signal 2 none ∷ [])
    (entry (state 1 (clause 0 immediate (apply2 4 (variable 0) (variable 1)) ∷ [])) none
    ∷ entry (state 1 (clause 0 later (apply2 5 (variable 0) (variable 1)) ∷ clause 1 immediate (literal 1) ∷ [])) none
    ∷ [])

S_encoded : encode S_sheet ≡ S
unfolding encode encode_events encode_behaviours encode_handlers encode_expr
S_encoded = refl

abbrev S_program : Program
S_program = record {
  priorities = 1 ∷ 2 ∷ [];
  senders = 255 ∷ 255 ∷ [];
  behaviours =
      active 1 (handler 0 immediate (app2 4 (name 0) (name 1)) ∷ [])
      ∷ active 1 (handler 0 later (app2 5 (name 0) (name 1)) ∷ handler 1 immediate (con 1) ∷ [])
      ∷ [];
  viewers = 255 ∷ 255 ∷ [];
}

S_falls : (e : ℕ) → e ≤ 2 → (i j : ℕ) → depends_on S_program e i j ≡ true → zero_high j < zero_high i
unfolding handled mentions
S_falls zero b zero j d = subst (λ (k : ℕ). zero_high k < 1) (second_of_law 0 1 j d) (omega arith)
S_falls zero b (suc zero) j d = absurd (false≢true d)
S_falls zero b (suc (suc i)) j d = absurd (false≢true d)
S_falls (suc zero) b zero j d = absurd (false≢true d)
S_falls (suc zero) b (suc zero) j d = absurd (false≢true d)
S_falls (suc zero) b (suc (suc i)) j d = absurd (false≢true d)
S_falls (suc (suc zero)) b zero j d = absurd (false≢true d)
S_falls (suc (suc zero)) b (suc zero) j d = absurd (false≢true d)
S_falls (suc (suc zero)) b (suc (suc i)) j d = absurd (false≢true d)
S_falls (suc (suc (suc e))) b i j d = absurd (omega arith)

S_valid : Valid S_program
S_valid = record {
  each = (
    (omega arith, (omega arith, plus_nested b0 b1, tt, tt)),
    (
      (omega arith, (omega arith, difference b0 b1, (omega arith, tt), (omega arith, c1, tt, tt))),
      tt,
    ),
  );
  known = (((omega arith, omega arith), tt), (((omega arith, omega arith), (tt, tt)), tt));
  acyclic = λ e b. uncircled (depends_on S_program e) zero_high (S_falls e b);
}

S_fits : SheetFits S_sheet
unfolding cell_count encode encode_events encode_behaviours encode_handlers encode_expr
S_fits = record {
  few_events = omega arith;
  few_behaviours = omega arith;
  scale = ((omega arith, tt), ((omega arith, tt), tt));
  each = (
    ((omega arith, (omega arith, plus_fits t0 t1, tt, tt)), tt),
    (
      ((omega arith, (omega arith, minus_fits t0 t1, (omega arith, tt), (omega arith, l1, tt, tt))), tt),
      tt,
    ),
  );
  few_bytes = omega arith;
}

S_count : all_instructions S_program ≡ 25
unfolding all_instructions instructions size_of up_to handled sum
S_count = refl

S_holds : (es : List ℕ) → All (λ e. e < 2) es → (board : List ℤ) → map signed (play S_program es (fresh S_program)) ≡ board → Holds (record { bytes = S; given = es; board = board })
unfolding entries_out flat_map fill_term fill_clauses fill_entries params_of params_of_clauses params_of_entries
S_holds es h board q =
    (S_sheet, S_encoded, λ v lent. (accepted S_sheet S_program (λ v. refl) S_fits refl S_valid (omega (arith, S_count)) v lent, by_rules S_program S_valid es h board q))

-- ---- one event

abbrev one_event : List Behaviour → Program
one_event bs = record { priorities = 1 ∷ []; senders = 255 ∷ []; behaviours = bs; viewers = map (λ b. 255) bs }

-- "init 1 {0 ⇒ b1}, init 2 {0 ⇒ b0 later}"
abbrev half : Program
half = one_event (active 1 (handler 0 immediate (name 1) ∷ []) ∷ active 2 (handler 0 later (name 0) ∷ []) ∷ [])

half_falls : (e : ℕ) → e ≤ 1 → (i j : ℕ) → depends_on half e i j ≡ true → zero_high j < zero_high i
unfolding handled mentions
half_falls zero b zero j d = subst (λ (k : ℕ). zero_high k < 1) (other_of 0 1 j d) (omega arith)
half_falls zero b (suc zero) j d = absurd (false≢true d)
half_falls zero b (suc (suc i)) j d = absurd (false≢true d)
half_falls (suc zero) b zero j d = absurd (false≢true d)
half_falls (suc zero) b (suc zero) j d = absurd (false≢true d)
half_falls (suc zero) b (suc (suc i)) j d = absurd (false≢true d)
half_falls (suc (suc e)) b i j d = absurd (omega arith)

half_valid : Valid half
half_valid = record {
  each = ((omega arith, (omega arith, b1, tt, tt)), ((omega arith, (omega arith, b0, tt, tt)), tt));
  known = ((omega arith, tt), ((omega arith, tt), tt));
  acyclic = λ e b. uncircled (depends_on half e) zero_high (half_falls e b);
}

half_fits : SheetFits half_later
unfolding cell_count encode encode_events encode_behaviours encode_handlers encode_expr
half_fits = record {
  few_events = omega arith;
  few_behaviours = omega arith;
  scale = ((omega arith, tt), tt);
  each = (((omega arith, (omega arith, t1, tt, tt)), tt), (((omega arith, (omega arith, t0, tt, tt)), tt), tt));
  few_bytes = omega arith;
}

-- "both later"
abbrev both_late : Program
both_late = one_event (active 1 (handler 0 later (name 1) ∷ []) ∷ active 2 (handler 0 later (name 0) ∷ []) ∷ [])

both_falls : (e : ℕ) → e ≤ 1 → (i j : ℕ) → depends_on both_late e i j ≡ true → zero_high j < zero_high i
unfolding handled mentions
both_falls zero b zero j d = absurd (false≢true d)
both_falls zero b (suc zero) j d = absurd (false≢true d)
both_falls zero b (suc (suc i)) j d = absurd (false≢true d)
both_falls (suc zero) b zero j d = absurd (false≢true d)
both_falls (suc zero) b (suc zero) j d = absurd (false≢true d)
both_falls (suc zero) b (suc (suc i)) j d = absurd (false≢true d)
both_falls (suc (suc e)) b i j d = absurd (omega arith)

both_valid : Valid both_late
both_valid = record {
  each = ((omega arith, (omega arith, b1, tt, tt)), ((omega arith, (omega arith, b0, tt, tt)), tt));
  known = ((omega arith, tt), ((omega arith, tt), tt));
  acyclic = λ e b. uncircled (depends_on both_late e) zero_high (both_falls e b);
}

both_fits : SheetFits both_later
unfolding cell_count encode encode_events encode_behaviours encode_handlers encode_expr
both_fits = record {
  few_events = omega arith;
  few_behaviours = omega arith;
  scale = ((omega arith, tt), tt);
  each = (((omega arith, (omega arith, t1, tt, tt)), tt), (((omega arith, (omega arith, t0, tt, tt)), tt), tt));
  few_bytes = omega arith;
}

-- "init 0 {0 ⇒ b1 later}, b1 passive b0 + 1"
abbrev passed : Program
passed = one_event (active 0 (handler 0 later (name 1) ∷ []) ∷ passive (app2 4 (name 0) (con 1)) ∷ [])

passed_falls : (e : ℕ) → e ≤ 1 → (i j : ℕ) → depends_on passed e i j ≡ true → one_high j < one_high i
unfolding handled mentions
passed_falls zero b zero j d = absurd (false≢true d)
passed_falls zero b (suc zero) j d = subst (λ (k : ℕ). one_high k < 1) (first_of 0 j d) (omega arith)
passed_falls zero b (suc (suc i)) j d = absurd (false≢true d)
passed_falls (suc zero) b zero j d = absurd (false≢true d)
passed_falls (suc zero) b (suc zero) j d = subst (λ (k : ℕ). one_high k < 1) (first_of 0 j d) (omega arith)
passed_falls (suc zero) b (suc (suc i)) j d = absurd (false≢true d)
passed_falls (suc (suc e)) b i j d = absurd (omega arith)

passed_valid : Valid passed
passed_valid = record {
  each = ((omega arith, (omega arith, b1, tt, tt)), (plus_nested b0 c1, tt));
  known = ((omega arith, tt), ((omega arith, tt), tt));
  acyclic = λ e b. uncircled (depends_on passed e) one_high (passed_falls e b);
}

passed_fits : SheetFits through_passive
unfolding cell_count encode encode_events encode_behaviours encode_handlers encode_expr
passed_fits = record {
  few_events = omega arith;
  few_behaviours = omega arith;
  scale = ((omega arith, tt), tt);
  each = (((omega arith, (omega arith, t1, tt, tt)), tt), ((plus_fits t0 l1, tt), tt));
  few_bytes = omega arith;
}

-- one behaviour that takes f of two constants
abbrev takes_app : ℕ → ℕ → ℕ → Program
takes_app f a c = one_event (active 1 (handler 0 immediate (app2 f (con a) (con c)) ∷ []) ∷ [])

module _ (f a c : ℕ) where
  app_falls : (e : ℕ) → e ≤ 1 → (i j : ℕ) → depends_on (takes_app f a c) e i j ≡ true → zero_high j < zero_high i
  unfolding handled mentions
  app_falls zero b zero j d = absurd (false≢true d)
  app_falls zero b (suc i) j d = absurd (false≢true d)
  app_falls (suc zero) b zero j d = absurd (false≢true d)
  app_falls (suc zero) b (suc i) j d = absurd (false≢true d)
  app_falls (suc (suc e)) b i j d = absurd (omega arith)

  app_valid : 0 < f → f ≤ last → arity f ≡ 2 → a < 2 ^ 32 → c < 2 ^ 32 → Valid (takes_app f a c)
  app_valid g h k l m = record {
    each = ((omega arith, (omega arith, n_app2 (binary g h k) (n_con l) (n_con m), tt, tt)), tt);
    known = (((tt, tt), tt), tt);
    acyclic = λ e b. uncircled (depends_on (takes_app f a c) e) zero_high (app_falls e b);
  }

  app_fits : 0 < f → f ≤ last → arity f ≡ 2 → a < 2 ^ 32 → c < 2 ^ 32 → SheetFits (taking (apply2 f (literal a) (literal c)))
  unfolding cell_count encode encode_events encode_behaviours encode_handlers encode_expr
  app_fits g h k l m = record {
    few_events = omega arith;
    few_behaviours = omega arith;
    scale = ((omega arith, tt), tt);
    each = (((omega arith, (omega arith, t_apply2 (binary g h k) (t_literal l) (t_literal m), tt, tt)), tt), tt);
    few_bytes = omega arith;
  }

-- 01's counts
half_count : all_instructions half ≡ 13
unfolding all_instructions instructions size_of up_to handled sum
half_count = refl

both_count : all_instructions both_late ≡ 14
unfolding all_instructions instructions size_of up_to handled sum
both_count = refl

passed_count : all_instructions passed ≡ 19
unfolding all_instructions instructions size_of up_to handled sum
passed_count = refl

app_count : (f a c : ℕ) → all_instructions (takes_app f a c) ≡ 10
unfolding all_instructions instructions size_of up_to handled sum
app_count f a c = refl

-- a sheet without rows and parameters, and its program
one_holds : (x : Sheet) (p : Program) → ((v : ℕ → ℕ) → p ≡ fill v x) → SheetFits x → uses x ≡ false → Valid p → all_instructions p ≤ 4096 → 0 < events p
    → (board : List ℤ) → map signed (play p (0 ∷ []) (fresh p)) ≡ board → Holds (record { bytes = encode x; given = 0 ∷ []; board = board })
one_holds x p f s u k short d board q =
    (x, refl, λ v lent. (accepted x p f s u k short v lent, subst (λ (o : Program). ByRules o (0 ∷ []) board) (f v) (by_rules p k (0 ∷ []) (d, tt) board q)))

app_holds : (f a c : ℕ) → 0 < f → f ≤ last → arity f ≡ 2 → a < 2 ^ 32 → c < 2 ^ 32 → (board : List ℤ)
    → map signed (play (takes_app f a c) (0 ∷ []) (fresh (takes_app f a c))) ≡ board
    → Holds (record { bytes = encode (taking (apply2 f (literal a) (literal c))); given = 0 ∷ []; board = board })
unfolding entries_out flat_map fill_term fill_clauses fill_entries params_of params_of_clauses params_of_entries
app_holds f a c g h k l m board q =
    one_holds (taking (apply2 f (literal a) (literal c))) (takes_app f a c) (λ v. refl) (app_fits f a c g h k l m) refl (app_valid f a c g h k l m) (omega (arith, app_count f a c)) (omega arith) board q

-- ---- the table

pub rounds_hold : All Holds rounds
unfolding exact result_of handled mentions met find order up_to met_at_once phase_one value in_turn first_phase later_phase event starts fresh play entries_out flat_map fill_term fill_clauses fill_entries params_of params_of_clauses params_of_entries
rounds_hold = (
  S_holds (0 ∷ []) (omega arith, tt) _ refl,
  (
    S_holds (0 ∷ 0 ∷ []) (omega arith, (omega arith, tt)) _ refl,
    (
      S_holds (0 ∷ 0 ∷ 0 ∷ []) (omega arith, (omega arith, (omega arith, tt))) _ refl,
      (
        S_holds (0 ∷ 0 ∷ 0 ∷ 1 ∷ 0 ∷ []) (omega arith, (omega arith, (omega arith, (omega arith, (omega arith, tt))))) _ refl,
        (
          S_holds (0 ∷ 0 ∷ 0 ∷ 0 ∷ 1 ∷ []) (omega arith, (omega arith, (omega arith, (omega arith, (omega arith, tt))))) _ refl,
          (
            one_holds half_later half (λ v. refl) half_fits refl half_valid (omega (arith, half_count)) (omega arith) _ refl,
            (
              one_holds both_later both_late (λ v. refl) both_fits refl both_valid (omega (arith, both_count)) (omega arith) _ refl,
              (
                one_holds through_passive passed (λ v. refl) passed_fits refl passed_valid (omega (arith, passed_count)) (omega arith) _ refl,
                (
                  app_holds 4 2147483647 1 (omega arith) (omega arith) (is_two 4 (omega arith) (omega arith)) (omega arith) (omega arith) _ refl,
                  (
                    app_holds 7 4294967289 2 (omega arith) (omega arith) (is_two 7 (omega arith) (omega arith)) (omega arith) (omega arith) _ refl,
                    (
                      app_holds 7 5 0 (omega arith) (omega arith) (is_two 7 (omega arith) (omega arith)) (omega arith) (omega arith) _ refl,
                      tt,
                    ),
                  ),
                ),
              ),
            ),
          ),
        ),
      ),
    ),
  ),
)
