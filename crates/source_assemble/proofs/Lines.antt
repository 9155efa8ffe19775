-- Line and column of a place by a loop over the bytes before it: those of the whole are those of what is left, from the
-- line and column reached.
use Rattle.lib_base.proofs.Prelude.{ℕ, ◌≤◌, ◌<◌, ◌+◌, ◌-◌, suc, ◌*◌, ◌≡◌, ◌∙◌, List, length, get_or, drop, drop-cons}
use Rattle.lib_base.proofs.Prelude.{add-one, arith}
use Rattle.source_language.specs.Answer.{line_from, column_from}
use Rattle.source_assemble.specs.Assemble.{line_after, column_after, place_told}

pub record Walked (bytes : List ℕ) (place line column i : ℕ) : Type 0 where
  pub within : i ≤ place
  pub few_lines : line ≤ i + 1
  pub few_columns : column ≤ i + 1
  pub line_left : line_from 1 place bytes ≡ line_from line (place - i) (drop i bytes)
  pub column_left : column_from 1 place bytes ≡ column_from column (place - i) (drop i bytes)

pub walk_on : (bytes : List ℕ) (place line column i l c : ℕ) → Walked bytes place line column i → i < place → place ≤ length bytes
    → l ≡ line_after line (get_or bytes i 0) → l ≤ line + 1 → c ≡ column_after column (get_or bytes i 0) → c ≤ column + 1 → Walked bytes place l c (i + 1)
unfolding line_from column_from
walk_on bytes place line column i l c w h g p few q low =
    let s : place - i ≡ suc (place - (i + 1)) = omega arith in
    let d = drop-cons bytes i 0 (omega arith) in
    record {
      within = omega arith;
      few_lines = omega (arith, w.few_lines);
      few_columns = omega (arith, w.few_columns);
      line_left = w.line_left ∙ rw (s, d, p, add-one i, add-one line);
      column_left = w.column_left ∙ rw (s, d, q, add-one i, add-one column);
    }

pub walk_ends : (bytes : List ℕ) (place line column i : ℕ) → Walked bytes place line column i → place ≤ i → line * 268435456 + column ≡ place_told bytes place
unfolding place_told line_from column_from
walk_ends bytes place line column i w h =
    let z : place - i ≡ 0 = omega arith in
    let a : line_from 1 place bytes ≡ line = w.line_left ∙ rw z in
    let b : column_from 1 place bytes ≡ column = w.column_left ∙ rw z in
    rw (a, b)
