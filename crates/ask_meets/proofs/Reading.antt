-- What an event reads in 01's word, an active named in its handlers directly or through passives, is what it reads in
-- the handler of some behaviour: by the chain of passives, walked from either end.
use Rattle.lib_base.proofs.Prelude.{ℕ, ◌≡◌, refl, ◌∙◌, sym, ap, true, true≢false}
use Rattle.spec_language.specs.Syntax.{Expr, passive, Program}
use Rattle.spec_language.specs.Dependence.{Response, follows, takes, defers, keeps, behaviour_at, response, mentions, written, Named, in_immediate, in_later, through}
use Rattle.check_reads.specs.InResponse.{in_response}
use Rattle.ask_commute.specs.Meets.{Via, itself, passing, ReadsAt}

-- ---- from a handler

handler_named : (p : Program) (e i k : ℕ) (r : Response) → response p e i ≡ r → written r ≡ true → in_response k r ≡ true → Named p e k
handler_named p e i k (follows x) q w m = absurd (true≢false (sym w))
handler_named p e i k (takes x) q w m = in_immediate i q m
handler_named p e i k (defers x) q w m = in_later i q m
handler_named p e i k keeps q w m = absurd (true≢false (sym w))

via_named : (p : Program) (e : ℕ) {k j : ℕ} → Named p e k → Via p k j → Named p e j
via_named p e n itself = n
via_named p e n (passing q m u) = via_named p e (through n q m) u

pub reads_named : (p : Program) (e i j : ℕ) → ReadsAt p e i j → Named p e j
reads_named p e i j r = via_named p e (handler_named p e i r.1.0 (response p e i) refl r.0 r.1.1) r.1.2

-- ---- to a handler

via_then : (p : Program) {k i j : ℕ} {x : Expr} → Via p k i → behaviour_at p i ≡ passive x → mentions j x ≡ true → Via p k j
via_then p itself q h = passing q h itself
via_then p (passing a b u) q h = passing a b (via_then p u q h)

pub named-reads : (p : Program) (e : ℕ) {j : ℕ} → Named p e j → (i : ℕ) × ReadsAt p e i j
named-reads p e {j} (in_immediate i q m) = (i, (ap written q, (j, ap (in_response j) q ∙ m, itself)))
named-reads p e {j} (in_later i q m) = (i, (ap written q, (j, ap (in_response j) q ∙ m, itself)))
named-reads p e {j} (through n q m) =
    let r = named-reads p e n in
    (r.0, (r.1.0, (r.1.1.0, r.1.1.1, via_then p r.1.1.2 q m)))
