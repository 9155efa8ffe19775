-- The first name of a hidden behaviour on the sets that the code gathers is that of the program: answer by answer.
use Rattle.lib_base.proofs.Prelude.{ℕ, ◌≤◌, ◌<◌, ◌+◌, ◌-◌, ◌%◌, ◌/◌, ◌^◌, ◌≡◌, refl, ◌∙◌, sym, ap, true, false, Bool}
use Rattle.lib_base.proofs.Prelude.{◌||◌, ◌&&◌, not, or-false, ◌≢◌, List, get_or, eqb, ne_eqb, eq-eqb, arith}
use Rattle.lib_base.specs.Basics.{pick}
use Rattle.lib_bits.specs.Bits.{bit, Gathers}
use Rattle.spec_language.specs.Syntax.{Program}
use Rattle.spec_language.specs.Rights.{may}
use Rattle.spec_language.specs.Dependence.{size, events, response}
use Rattle.spec_language.specs.Fits.{Fits}
use Rattle.draft_form.specs.Draft.{entry_of, used_by, DraftOf, Drafted}
use Rattle.draft_form.specs.Entry.{entry_start, entry_count}
use Rattle.check_graph.proofs.Any.{any_same}
use Rattle.check_reads.specs.First.{first_from}
use Rattle.check_reads.specs.Sets.{named_among, names_on}
use Rattle.check_reads.specs.InResponse.{in_response}
use Rattle.check_reads.proofs.FirstLaws.{first_same}
use Rattle.check_reads.proofs.Agrees.{names_are}
use Rattle.back_compile.specs.Number.{number_on}
use Rattle.back_compile.specs.Judged.{Passes}
use Rattle.back_compile.proofs.Judging.{passes_number}
use Rattle.ask_leak.specs.Leaking.{leak_at, leak_from, leak_by, names_any, hidden_on, leaking_on, leak_for}
use Rattle.ask_leak.specs.Answer.{packed_leak}
use Rattle.ask_leak.specs.Leak.{behaviour_names, hidden_in, leak_in, leak_on}

-- ---- who may see

pub host_sees : (set byte player j h : ℕ) → player ≡ 0 → bit set h ≡ bit set h || (not (may byte player) && eqb h j)
host_sees set byte player j h q = rw (eq-eqb player 0 q) (sym (or-false (bit set h)))

pub seen_stays : (set byte player j h : ℕ) → (player ≡ 0 → ⊥) → bit byte player ≡ true → bit set h ≡ bit set h || (not (may byte player) && eqb h j)
unfolding bit
seen_stays set byte player j h n t = rw (ne_eqb player 0 n, t) (sym (or-false (eqb (set / 2 ^ h % 2) 1)))

pub hidden_joins : (set next byte player j h : ℕ) → (player ≡ 0 → ⊥) → bit byte player ≡ false → bit next h ≡ bit set h || eqb h j → bit next h ≡ bit set h || (not (may byte player) && eqb h j)
unfolding bit
hidden_joins set next byte player j h n t e = rw (ne_eqb player 0 n, t) e

-- ---- one behaviour

pub packed_some : (i j : ℕ) → packed_leak i j ≡ 0 → ⊥
unfolding packed_leak
packed_some i j h = omega arith

pub from_hidden : (n : ℕ) (hidden : ℕ → Bool) (names : ℕ → ℕ → Bool) (i : ℕ) → hidden i ≡ true → 0 ≡ leak_from n hidden names i
unfolding leak_from
from_hidden n hidden names i h = rw h

pub from_seen : (n hidden : ℕ) (names : ℕ → ℕ → Bool) (i set shared r : ℕ) → n ≤ 64 → bit hidden i ≡ false → Gathers 64 set (names i)
    → ((j : ℕ) → bit shared j ≡ bit set j && bit hidden j) → r ≡ first_from n 0 (λ j. pick (bit shared j) (packed_leak i j) 0) → r ≡ leak_from n (bit hidden) names i
unfolding leak_from leak_at
from_seen n hidden names i set shared r few h g c q =
    rw h (q ∙ first_same n 0 (λ j. pick (bit shared j) (packed_leak i j) 0) (leak_at n (bit hidden) names i) (λ j a b. rw (c j, g j (omega arith))))

-- behaviour i hidden from the player, put in
pub hidden_put : (d : List ℕ) (player j set next : ℕ) → ((h : ℕ) → bit next h ≡ bit set h || (not (may (get_or d (4256 + j) 0) player) && eqb h j))
    → (h : ℕ) → h < 64 → bit next h ≡ bit set h || (hidden_on d player j && eqb h j)
unfolding hidden_on
hidden_put d player j set next f h b = f h

-- the names in its entry on event e
pub names_joined : (d : List ℕ) (i e set names next : ℕ) {v : ℕ} → v ≡ entry_of d e i → Gathers 64 names (λ j. named_among (used_by d i) j (entry_start v) (entry_count v))
    → ((j : ℕ) → bit next j ≡ bit set j || bit names j) → (j : ℕ) → j < 64 → bit next j ≡ bit set j || names_on d e i j
unfolding names_on
names_joined d i e set names next q g f j b = rw (← q, ← g j b) (f j)

-- ---- the same sets, the same answer

module _ (n : ℕ) (h h' : ℕ → Bool) (m m' : ℕ → ℕ → Bool) (same : (i : ℕ) → i < n → h i ≡ h' i) (also : (i j : ℕ) → i < n → m i j ≡ m' i j) where
  from_same : (i : ℕ) → i < n → leak_from n h m i ≡ leak_from n h' m' i
  unfolding leak_from leak_at
  from_same i a =
      rw (same i a)
      (ap (λ (x : ℕ). pick (h' i) 0 x)
      (first_same n 0 (leak_at n h m i) (leak_at n h' m' i) (λ j b c. rw (also i j a, same j (omega arith)))))

  pub by_same : leak_by n h m ≡ leak_by n h' m'
  unfolding leak_by
  by_same = first_same (n - 0) 0 (leak_from n h m) (leak_from n h' m') (λ i b c. from_same i (omega arith))

pub leaking_on_law : (d : List ℕ) (ev n player hidden : ℕ) → Gathers n hidden (hidden_on d player) → leak_by n (bit hidden) (names_any d ev) ≡ leaking_on d ev n player
leaking_on_law d ev n player hidden g = by_same n (bit hidden) (hidden_on d player) (names_any d ev) (names_any d ev) g (λ i j a. refl)

-- ---- of the draft's program

module _ (p : Program) (d : List ℕ) (n : ℕ) (fits : Fits p) (dr : Drafted p d n) (player : ℕ) where
  hidden_are : (i : ℕ) → i < size p → hidden_on d player i ≡ hidden_in p player i
  unfolding hidden_on
  hidden_are i b = rw (dr.viewers i b)

  pub any_are : (i j : ℕ) → i < size p → names_any d (events p) i j ≡ behaviour_names p i j
  unfolding names_any behaviour_names
  any_are i j b =
      any_same (events p + 1) (λ e. names_on d e i j) (λ e. in_response j (response p e i))
      (λ e h. names_are p d n fits dr e i j (omega (arith, fits.few_events)) b)

  drafted_leak : leaking_on d (events p) (size p) player ≡ leak_in p player
  drafted_leak = by_same (size p) (hidden_on d player) (hidden_in p player) (names_any d (events p)) (behaviour_names p) hidden_are any_are

pub draft_leak : {ev bs n : ℕ} {d : List ℕ} (c : DraftOf ev bs n d) (player : ℕ) → leaking_on d ev bs player ≡ leak_in c.program player
draft_leak {n = n} {d = d} c player = rw (c.events_are, c.size_is) (drafted_leak c.program d n c.fits c.drafted player)

-- ---- the answer

pub leak_passed : (s ps : List ℕ) (ev bs : ℕ) (d : List ℕ) (player : ℕ) → Passes s ps ev bs d → leak_for d ev bs player ≡ leak_on s ps player
unfolding leak_for leak_on
leak_passed s ps ev bs d player f =
    rw (passes_number s ps f, f.drafts.read, draft_leak f.drafts.draft player, f.drafts.own)

pub leak_refused : (s ps : List ℕ) (k player : ℕ) → k ≡ number_on s ps → k ≢ 0 → k ≡ leak_on s ps player
unfolding leak_on
leak_refused s ps k player q h = rw (ne_eqb (number_on s ps) 0 (λ z. h (q ∙ z))) q
