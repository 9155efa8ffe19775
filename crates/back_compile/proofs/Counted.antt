-- A sheet that is read has 64 behaviours at most, whatever the bytes: each is counted before it is taken in. By
-- induction on the bound of fields.
use Rattle.lib_base.proofs.Prelude.{ℕ, ◌≤◌, ◌<◌, ◌+◌, suc, zero, ◌||◌, some, List, [], ◌∷◌, ◌++◌, length, get_or, eqb}
use Rattle.lib_base.proofs.Prelude.{ltb, leb, ltb-false, leb-false, arith}
use Rattle.lib_base.proofs.Tools.{by_test}
use Rattle.lib_word.specs.Word.{get_at}
use Rattle.spec_language.specs.Sheet.{Clause, Item, formula, state, row, Entry, Sheet, cells, cell_count}
use Rattle.spec_language.specs.Reading.{Got, bad, got, sized, filling, field_at, read_all, expr_at, handler_in, entry, ending_in, active_as, behaviour_in, due_at, signal_in, read_sheet}
use Rattle.spec_language.proofs.RowLaws.{count_append}
use Rattle.spec_grammar.proofs.Fields.{field_of}
use Rattle.spec_grammar.proofs.Results.{then_of, sized_of, byte_of}
use Rattle.spec_grammar.proofs.Handlers.{stops}
use Rattle.spec_grammar.proofs.Behaviours.{behaviour_tag}
use Rattle.spec_grammar.proofs.Programs.{at_end, no_event}

-- whatever was read before
abbrev Anything : {A : Type 0} → Got A → Type 0
Anything g = Unit {0}

-- a behaviour that is read, i standing before it, is within 64
abbrev Within : ℕ → Got Entry → Type 0
Within i (bad m) = Unit {0}
Within i (got x rest) = i + cells x.item ≤ 64

module _ (i : ℕ) where
  ending_within : (x : Item) → i + cells x ≤ 64 → (v : List ℕ) → Within i (ending_in x v)
  ending_within x h v =
      by_test (Within i) (eqb (get_or v 0 0) 8)
      (λ e. then_of (Within i) Anything (λ m left. got (entry x (some m)) left) (λ m _. tt) (λ m left _. h) (field_at (eqb 8) v (λ t w. sized 1 w (got (get_or w 0 0) []))) tt)
      (λ e. h)

  active_within : (make : ℕ → List Clause → Item) → ((s : ℕ) (hs : List Clause) → i + cells (make s hs) ≤ 64) → (n : ℕ) (v : List ℕ) → Within i (active_as make n v)
  active_within make h n v =
      then_of (Within i) Anything _ (λ m _. tt)
      (λ s left _. then_of (Within i) Anything _ (λ m _. tt) (λ hs over _. ending_within (make s hs) (h s hs) over)
      (read_all stops (handler_in n) (suc (length left)) [] left) tt)
      (field_at (eqb 4) v (λ t w. sized 4 w (got (get_at w 0) []))) tt

  behaviour_within : i < 64 → (n t : ℕ) (v : List ℕ) → Within i (behaviour_in n i t v)
  behaviour_within h n t v =
      by_test (Within i) (eqb t 2)
      (λ e. then_of (Within i) Anything _ (λ m _. tt) (λ x left _. ending_within (formula x) (omega arith) left) (expr_at 16 v) tt)
      (λ e. by_test (Within i) (eqb t 6)
      (λ e. byte_of (Within i) v _ tt
      (λ c w _. by_test (Within i) (ltb c 2 || ltb 16 c) (λ e. tt)
      (λ e. by_test (Within i) (ltb 64 (i + c)) (λ e. tt) (λ e. active_within (row c) (λ s hs. ltb-false 64 (i + c) e) n w))))
      (λ e. active_within state (λ s hs. omega arith) n v))

  filling_within : (g : Got Entry) (rest : List ℕ) → Within i g → Within i (filling g rest)
  filling_within g rest h = then_of (Within i) (Within i) _ (λ m _. tt) (λ x left k. sized_of (Within i) 0 left (got x rest) tt (λ _. k)) g h

due_within : (n : ℕ) (bs : List Entry) (s : List ℕ) → Within (cell_count bs) (due_at n bs s)
due_within n bs s =
    field_of (Within (cell_count bs)) behaviour_tag s _ (λ m a b. tt)
    (λ t v rest due h. by_test (λ (g : Got Entry). Within (cell_count bs) (filling g rest)) (leb 64 (cell_count bs)) (λ e. tt)
    (λ e. filling_within (cell_count bs) (behaviour_in n (cell_count bs) t v) rest (behaviour_within (cell_count bs) (leb-false 64 (cell_count bs) e) n t v)))

-- so are behaviours, and a sheet
abbrev Few : Got (List Entry) → Type 0
Few (bad m) = Unit {0}
Few (got bs rest) = cell_count bs ≤ 64

abbrev pub Counted : Got Sheet → Type 0
Counted (bad m) = Unit {0}
Counted (got x rest) = cell_count x.entries ≤ 64

behaviours_few : (k n : ℕ) (bs : List Entry) (s : List ℕ) → cell_count bs ≤ 64 → Few (read_all at_end (due_at n) k bs s)
unfolding read_all cell_count
behaviours_few zero n bs s h = tt
behaviours_few (suc k) n bs s h =
    by_test Few (at_end s) (λ e. h)
    (λ e. then_of Few (Within (cell_count bs)) _ (λ m _. tt)
    (λ x rest g. behaviours_few k n (bs ++ (x ∷ [])) rest (omega (arith, count_append bs (x ∷ [])))) (due_at n bs s) (due_within n bs s))

pub read_counted : (s : List ℕ) → Counted (read_sheet s)
unfolding read_sheet cell_count
read_counted s =
    then_of Counted Anything _ (λ m _. tt)
    (λ rs v _. then_of Counted Few _ (λ m _. tt) (λ bs left h. h) (read_all at_end (due_at (length rs)) (suc (length v)) [] v)
    (behaviours_few (suc (length v)) (length rs) [] v (omega arith)))
    (read_all no_event signal_in (suc (length s)) [] s) tt
