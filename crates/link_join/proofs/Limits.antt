-- "The result must pass compile's 3, 7 and 13, checked in that order": no other number can be compile's for the sheet
-- pooled from two accepted ones, and each stands exactly for its limit. From what is known of the pooled sheet (crate
-- link_pooled) by compile's branches; with too many behaviours the first fault is the one that passes 64.
use Rattle.lib_base.proofs.Prelude.{ℕ, ◌≤◌, ◌<◌, ◌+◌, suc, zero, ◌^◌, ◌≡◌, refl, ◌∙◌, sym, ap, true, false, Bool, List}
use Rattle.lib_base.proofs.Prelude.{[], ◌∷◌, length, replicate, length-replicate, ltb, leb, le-ltb, lt-ltb, ltb-false}
use Rattle.lib_base.proofs.Prelude.{ltb-true, lt-leb, leb-false, arith}
use Rattle.lib_base.specs.Basics.{All}
use Rattle.lib_base.proofs.Tools.{split}
use Rattle.lib_word.specs.Word.{get}
use Rattle.spec_language.specs.Sheet.{Item, formula, state, row, Signal, Entry, Sheet, cells, cell_count}
use Rattle.spec_language.specs.Grammar.{encode, ItemFits, SignalFits, EntryFits, SheetFits}
use Rattle.spec_language.specs.Accepted.{SheetAccepted}
use Rattle.spec_language.specs.Reading.{Got, bad, got, read_sheet}
use Rattle.spec_language.specs.Code.{all_instructions}
use Rattle.spec_grammar.proofs.Behaviours.{behaviour-reads}
use Rattle.spec_grammar.proofs.Programs.{reads_back}
use Rattle.spec_grammar.proofs.Faults.{result_of, item_fault, entry_result, entries_fault, events_fault, sheet_fault, sheet_result}
use Rattle.link_pooled.specs.Pooled.{count, pooled}
use Rattle.link_pooled.proofs.PooledAccepted.{Nearly, pooled_nearly}
use Rattle.check_faults.specs.Faults.{known, cyclic}
use Rattle.check_faults.proofs.CycleDecides.{known_decides, cyclic_decides}
use Rattle.back_compile.specs.Verdict.{judge, judge_read}
use Rattle.back_compile.specs.Number.{number_on}
use Rattle.back_compile.specs.Compiled.{Compiled, program_of}
use Rattle.back_compile.proofs.JudgeLaws.{judge_long, judge_passes, compile_opens, compile_long}
use Rattle.back_compile.specs.Statements.{FirstUnmet}
use Rattle.back_compile.proofs.AcceptedExactly.{given_is}
use Rattle.back_compile.proofs.Orders.{need_most}
use Rattle.link_pooled.proofs.Filled.{size_fill}
use Rattle.link_join.specs.Statements.{limits}

-- ---- over 64 behaviours

no_fault : {A : Type 0} (k : ℕ) (x : A) (rest : List ℕ) → result_of k x rest ≡ got x rest → k ≡ 0
no_fault zero x rest h = refl
no_fault (suc k) x rest h = let z : ◌≡◌ {A = ℕ} 0 1 = cc in absurd (omega arith)

item_fine : (n m : ℕ) (x : Entry) → EntryFits n x → m + cells x.item ≤ 64 → item_fault n m x.item ≡ 0
item_fine n m x f h = no_fault (item_fault n m x.item) x [] (sym (entry_result n m x) ∙ behaviour-reads n m x h f)

-- an item that passes 64 is a row
item_past : (n m : ℕ) (x : Item) → ItemFits n x → m < 64 → 64 < m + cells x → item_fault n m x ≡ 7
item_past n m (formula x) f h g = absurd (omega arith)
item_past n m (state s cs) f h g = absurd (omega arith)
item_past n m (row c s cs) f h g = rw (le-ltb c 2 f.0, le-ltb 16 c f.1, lt-ltb 64 (m + c) g)

entries_crowded : (n m : ℕ) (xs : List Entry) → All (EntryFits n) xs → m ≤ 64 → 64 < m + cell_count xs → entries_fault n m xs ≡ 7
unfolding entries_fault cell_count
entries_crowded n m [] f h g = absurd (omega arith)
entries_crowded n m (x ∷ xs) f h g =
    split (leb 64 m) (λ e. rw e)
    (λ e. rw e
    (split (ltb 64 (m + cells x.item))
    (λ d. rw (item_past n m x.item f.0.0 (omega (arith, leb-false 64 m e)) (ltb-true 64 (m + cells x.item) d)))
    (λ d. rw (item_fine n m x f.0 (ltb-false 64 (m + cells x.item) d)) (entries_crowded n (m + cells x.item) xs f.1 (ltb-false 64 (m + cells x.item) d) (omega arith)))))

events_pass : (n : ℕ) (qs : List Signal) (xs : List Entry) → All SignalFits qs → n + length qs ≤ 32 → events_fault n qs xs ≡ entries_fault (n + length qs) 0 xs
unfolding events_fault
events_pass n [] xs f h = ap (λ (m : ℕ). entries_fault m 0 xs) (omega arith)
events_pass n (q ∷ qs) xs f h =
    let z : suc n + length qs ≡ n + suc (length qs) = omega arith in
    rw (lt-leb 32 n (omega arith), le-ltb 15 q.priority f.0.0) (events_pass (suc n) qs xs f.1 (omega arith) ∙ ap (λ (m : ℕ). entries_fault m 0 xs) z)

crowded_read : (x : Sheet) → length x.signals ≤ 32 → All SignalFits x.signals → All (EntryFits (length x.signals)) x.entries → 64 < count x → read_sheet (encode x) ≡ bad 7
unfolding sheet_fault
crowded_read x few scale each h =
    let z : 0 + length x.signals ≡ length x.signals = omega arith in
    let e : sheet_fault x ≡ 7 =
    events_pass 0 x.signals x.entries scale (omega arith) ∙ ap (λ (m : ℕ). entries_fault m 0 x.entries) z ∙ entries_crowded (length x.signals) 0 x.entries each (omega arith) (omega arith) in
    sheet_result x ∙ ap (λ (k : ℕ). result_of k x []) e

-- ---- compile's number

module _ (ps : List ℕ) (x : Sheet) (near : Nearly (get ps) (length ps) x) where
  abbrev table : List ℕ
  table = replicate 34816 0

  room : 34816 ≤ length table
  room = omega (arith, length-replicate {A = ℕ} 34816 0)

  fits : length (encode x) ≤ 8192 → count x ≤ 64 → SheetFits x
  fits h k = record { few_events = near.few_events; few_behaviours = k; scale = near.scale; each = near.each; few_bytes = h }

  judged : length (encode x) ≤ 8192 → count x ≤ 64 → number_on (encode x) ps ≡ (judge (program_of ps x) false table).0
  unfolding number_on
  judged h k =
      ap (λ (r : Compiled). r.0) (compile_opens (encode x) ps table room h)
      ∙ ap (λ (g : Got Sheet). (judge_read g ps table).0) (reads_back x (fits h k))
      ∙ ap (λ (l : Bool). (judge (program_of ps x) l table).0) (given_is ps x near.given)

  is_known : known (program_of ps x) ≡ true
  is_known = (known_decides (program_of ps x)).1 near.known

  no_circle : count x ≤ 64 → cyclic (program_of ps x) ≡ false
  no_circle k = (cyclic_decides (program_of ps x) near.known (omega (arith, size_fill (get ps) x))).1 near.acyclic

  number_near : FirstUnmet (limits ps x) (λ r. r ≡ 0) (number_on (encode x) ps)
  unfolding number_on
  number_near =
      need_most (length (encode x)) 8192
      (λ a. ap (λ (r : Compiled). r.0) (compile_long (encode x) ps table room (ltb-true 8192 (length (encode x)) a)))
      (λ a. let h = ltb-false 8192 (length (encode x)) a in
      need_most (count x) 64
      (λ b. ap (λ (r : Compiled). r.0) (compile_opens (encode x) ps table room h)
      ∙ ap (λ (g : Got Sheet). (judge_read g ps table).0) (crowded_read x near.few_events near.scale near.each (ltb-true 64 (count x) b)))
      (λ b. let k = ltb-false 64 (count x) b in
      need_most (all_instructions (program_of ps x)) 4096
      (λ c. judged h k ∙ ap (λ (r : Compiled). r.0) (judge_long (program_of ps x) table is_known (no_circle k) (ltb-true 4096 (all_instructions (program_of ps x)) c)))
      (λ c. judged h k ∙ ap (λ (r : Compiled). r.0) (judge_passes (program_of ps x) table is_known (no_circle k) (ltb-false 4096 (all_instructions (program_of ps x)) c)))))

-- of the sheet pooled from two accepted ones
pub pooled_number : (ps : List ℕ) → ((n : ℕ) → n < 8 → get ps n < 2 ^ 32) → (a b : Sheet) → SheetAccepted (get ps) (length ps) a → SheetAccepted (get ps) (length ps) b
    → FirstUnmet (limits ps (pooled a b)) (λ r. r ≡ 0) (number_on (encode (pooled a b)) ps)
pooled_number ps small a b x y = number_near ps (pooled a b) (pooled_nearly (get ps) small (length ps) a b x y)
