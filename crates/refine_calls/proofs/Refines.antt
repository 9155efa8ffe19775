-- What an accepted program's table says, what a round that is like an engine shows of it, and that start makes a fresh
-- round of such a table.
use Rattle.lib_base.proofs.Prelude.{ℕ, ◌≤◌, ◌≡◌, List, length, le-ltb, arith}
use Rattle.spec_language.specs.Syntax.{Program}
use Rattle.spec_language.specs.Dependence.{size, events}
use Rattle.spec_language.specs.Code.{code, instructions, all_instructions}
use Rattle.spec_language.specs.Valid.{Accepted, Valid}
use Rattle.spec_language.proofs.Laws.{up_to_same}
use Rattle.spec_semantics.proofs.Lengths.{length_fresh}
use Rattle.spec_execution.proofs.Sums.{length_flatten}
use Rattle.spec_execution.proofs.CodeRight.{code_facts}
use Rattle.spec_model.specs.Model.{Running, rest, busy, Engine, engine, state}
use Rattle.format_image.specs.Table.{all_code, table_of}
use Rattle.format_image.proofs.ImageLaws.{Says, table_says}
use Rattle.run_start.specs.Start.{start_on, fresh_bytes}
use Rattle.refine_calls.specs.Refinement.{running_in, ViewIn}
use Rattle.refine_calls.proofs.Relation.{RunIs, Alike}

-- ---- what an accepted program is known to satisfy

pub valid : (p : Program) → Accepted p → Valid p
valid p ok = record { each = ok.fits.each; known = ok.known; acyclic = ok.acyclic }

pub short_code : (p : Program) → Accepted p → length (all_code p) ≤ 4096
unfolding all_code all_instructions
short_code p ok =
    rw (length_flatten (events p) (code p), up_to_same (events p) (λ e. length (code p e)) (instructions p) (code_facts p (valid p ok)).counted) ok.short

-- what its table says
pub accepted_says : (p : Program) → Accepted p → (t₀ : List ℕ) → 34816 ≤ length t₀ → Says p (table_of p t₀)
accepted_says p ok t₀ room = table_says p ok.fits.few_events ok.fits.few_behaviours (length_fresh p) (short_code p ok)
    (omega (arith, ok.fits.all_viewers, ok.fits.few_behaviours)) (omega (arith, ok.fits.all_senders, ok.fits.few_events)) t₀ room

-- ---- what the bytes say

run_is : (l : List ℕ) (r : Running) → RunIs l r → running_in l ≡ r
run_is l rest h = rw h
run_is l (busy a c) h = rw (h.0, h.1, h.2, h.3, h.4)

pub alike_view : (p : Program) (l : List ℕ) (w : Engine) → Alike (size p) l w → ViewIn l (state p w)
alike_view p l (engine k q r d) R = record {
  number = R.number;
  queue = R.queue;
  running = run_is l r R.runs;
  store = R.values.store;
  stack = R.values.stack;
  scratch = R.values.scratch;
  deferred = R.values.deferred;
  mark = R.values.mark;
}

-- p is accepted; t₀ are the bytes lent for the table, l₀ those lent for the round
module _ (p : Program) (ok : Accepted p) (t₀ l₀ : List ℕ) (table_room : 34816 ≤ length t₀) (round_room : 2048 ≤ length l₀) where
  pub says : Says p (table_of p t₀)
  says = accepted_says p ok t₀ table_room

  -- start makes the round fresh
  pub starts : start_on (table_of p t₀) l₀ ≡ (0, fresh_bytes (table_of p t₀) l₀)
  unfolding start_on
  starts = rw (says.fits, le-ltb (length l₀) 2048 round_room)
