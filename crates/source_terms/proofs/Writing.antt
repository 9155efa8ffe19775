-- Tokens written one after the other: nothing, one token where the text is not yet over its length, parts in a row, and
-- what is left to write in a loop.
use Rattle.lib_base.proofs.Prelude.{ℕ, ◌≤◌, ◌+◌, ◌≡◌, refl, ◌∙◌, sym, ap, List, [], ◌++◌, append_assoc, append-nil}
use Rattle.lib_base.proofs.Prelude.{length, length-append, arith}
use Rattle.source_language.specs.Tokens.{SheetToken}
use Rattle.source_pen.specs.declared.Pen.{Pen}
use Rattle.source_pen.specs.Written.{last_after, written_after}
use Rattle.source_pen.proofs.Pens.{written_joins, tokens_none, tokens_on}
use Rattle.source_terms.specs.Put.{TokensPut}

pub wrote_none : (pen : Pen) → pen.at ≤ 65548 → TokensPut pen pen []
wrote_none pen h = record { same = refl; as_long = refl; stops = h; tokens = λ _. tokens_none pen }

pub wrote_on : {a b c : Pen} {ts us : List SheetToken} → TokensPut a b ts → TokensPut b c us → TokensPut a c (ts ++ us)
wrote_on {a} {b} {c} {ts} {us} d e = record {
  same = e.same ∙ d.same;
  as_long = e.as_long ∙ d.as_long;
  stops = e.stops;
  tokens = λ g.
      let one : List ℕ = written_after a.last ts in
      let two : List ℕ = written_after (last_after a.last one) us in
      let all : length (written_after a.last (ts ++ us)) ≡ length one + length two = rw (written_joins a.last ts us) (length-append one two) in
      let first = d.tokens (omega arith) in
      let same : length (written_after b.last us) ≡ length two = ap (λ (l : ℕ). length (written_after l us)) first.penned.ended in
      tokens_on first (e.tokens (omega (arith, first.penned.counted)));
}

-- the same tokens, said otherwise
pub wrote_as : {a b : Pen} {ts us : List SheetToken} → TokensPut a b ts → ts ≡ us → TokensPut a b us
wrote_as {a} {b} {ts} {us} d e = rw (sym e) d

-- ---- in a loop: what is written, and what is left, are all

pub record Underway (a b : Pen) (left all : List SheetToken) : Type 0 where
  pub done : List SheetToken
  pub so_far : TokensPut a b done
  pub whole : done ++ left ≡ all

pub under_start : (pen : Pen) (all : List SheetToken) → pen.at ≤ 65548 → Underway pen pen all all
under_start pen all h = record { done = []; so_far = wrote_none pen h; whole = refl }

pub under_turn : {a b c : Pen} {left ts rest all : List SheetToken} → Underway a b left all → TokensPut b c ts → left ≡ ts ++ rest → Underway a c rest all
under_turn {a} {b} {c} {left} {ts} {rest} {all} u w e = record {
  done = u.done ++ ts;
  so_far = wrote_on u.so_far w;
  whole = append_assoc u.done ts rest ∙ (ap (λ (l : List SheetToken). u.done ++ l) (sym e) ∙ u.whole);
}

pub under_end : {a b : Pen} {left all : List SheetToken} → Underway a b left all → left ≡ [] → TokensPut a b all
under_end {a} {b} {left} {all} u e =
    wrote_as u.so_far (sym (append-nil u.done) ∙ (ap (λ (l : List SheetToken). u.done ++ l) (sym e) ∙ u.whole))
