-- What a join's answer says, case by case, and what the joined sheet is: accepted, its board the two boards in a row,
-- its events sent by whom both sheets let. From the definitions' branches, the limits that a pooled sheet can pass
-- (Limits.antt) and what is known of two programs side by side (crate link_pooled).
use Rattle.lib_base.proofs.Prelude.{ℕ, ◌≤◌, ◌<◌, ◌^◌, ◌≡◌, refl, ◌∙◌, sym, subst, true, true≢false, inr, inl, List}
use Rattle.lib_base.proofs.Prelude.{◌++◌, length, drop, eqb, ltb, ltb-false, ltb-true, arith}
use Rattle.lib_base.specs.Basics.{All}
use Rattle.lib_base.proofs.Tools.{by_test, split}
use Rattle.lib_word.specs.Word.{get}
use Rattle.spec_language.specs.Syntax.{Program}
use Rattle.spec_language.specs.Sheet.{Sheet}
use Rattle.spec_language.specs.Grammar.{encode}
use Rattle.spec_language.specs.Dependence.{events}
use Rattle.spec_language.specs.Accepted.{SheetAccepted}
use Rattle.spec_language.specs.Valid.{Valid}
use Rattle.spec_language.specs.Reading.{Got, bad, got, read_sheet}
use Rattle.spec_language.specs.Code.{all_instructions}
use Rattle.spec_grammar.proofs.Programs.{reads_back}
use Rattle.spec_semantics.specs.Meaning.{fresh}
use Rattle.spec_semantics.specs.Event.{play}
use Rattle.spec_semantics.specs.Plays.{Plays}
use Rattle.link_pooled.specs.Pooled.{pooled, same_ranks, count}
use Rattle.link_pooled.specs.Together.{together}
use Rattle.link_pooled.specs.Declared.{declared}
use Rattle.link_pooled.proofs.Halves.{halves, rules_halves}
use Rattle.link_pooled.proofs.Filled.{fill_pooled}
use Rattle.link_pooled.proofs.PooledAccepted.{valid_filling, pooled_valid, pooled_accepted}
use Rattle.draft_params.proofs.Fills.{get_small}
use Rattle.back_compile.specs.Number.{number_on}
use Rattle.back_compile.specs.Compiled.{program_of}
use Rattle.back_compile.specs.Statements.{FirstUnmet}
use Rattle.back_compile.proofs.AcceptedExactly.{accepted_number}
use Rattle.link_join.specs.Join.{delivered_in, result_on, pool_on, pool_read, join_on}
use Rattle.link_join.specs.Joined.{Joined}
use Rattle.link_join.specs.Statements.{limits, JoinOrder}
use Rattle.link_join.proofs.JoinLaws.{AcceptedSheet}
use Rattle.link_join.proofs.Limits.{pooled_number}

-- ---- two accepted sheets

-- what is answered, and what is then left in the buffer
pub record Answered (ps buffer : List ℕ) (x y : Sheet) (o : Joined) : Type 0 where
  pub order : JoinOrder ps buffer x y o.0
  pub written : 2 ^ 32 ≤ o.0 → o.1 ≡ encode (pooled x y) ++ drop (length (encode (pooled x y))) buffer

module _ (ps buffer : List ℕ) (bp : All (λ b. b < 256) ps) (x y : Sheet) (a : SheetAccepted (get ps) (length ps) x) (b : SheetAccepted (get ps) (length ps) y) where
  abbrev z : Sheet
  z = pooled x y

  small : (n : ℕ) → n < 8 → get ps n < 2 ^ 32
  small n h = get_small ps bp n

  module _ (same : same_ranks x.signals y.signals ≡ true) where
    delivered : length (encode z) ≤ 8192 → count z ≤ 64 → all_instructions (program_of ps z) ≤ 4096 → Answered ps buffer x y (delivered_in (encode z) buffer)
    unfolding delivered_in
    delivered f g h =
        let ok = pooled_accepted (get ps) small (length ps) x y a b f g h in
        split (ltb (length buffer) (length (encode z)))
        (λ e.
        let short = ltb-true (length buffer) (length (encode z)) e in
        rw e (record { order = inr (same, inr (f, inr (g, inr (h, (ok, inl (λ l. omega arith, refl)))))); written = λ l. absurd (omega arith) }))
        (λ e. rw e (record { order = inr (same, inr (f, inr (g, inr (h, (ok, inr (ltb-false (length buffer) (length (encode z)) e, refl)))))); written = λ l. refl }))

    judged : FirstUnmet (limits ps z) (λ r. r ≡ 0) (number_on (encode z) ps) → Answered ps buffer x y (result_on (encode z) ps buffer)
    unfolding result_on
    judged (inl (f, n)) = rw n (record { order = inr (same, inl (f, refl)); written = λ l. absurd (omega arith) })
    judged (inr (f, inl (g, n))) = rw n (record { order = inr (same, inr (f, inl (g, refl))); written = λ l. absurd (omega arith) })
    judged (inr (f, inr (g, inl (h, n)))) = rw n (record { order = inr (same, inr (f, inr (g, inl (h, refl)))); written = λ l. absurd (omega arith) })
    judged (inr (f, inr (g, inr (h, n)))) = rw n (delivered f g h)

  pooled_says : Answered ps buffer x y (pool_on x y ps buffer)
  unfolding pool_on
  pooled_says =
      by_test (Answered ps buffer x y) (same_ranks x.signals y.signals) (λ e. judged e (pooled_number ps small x y a b))
      (λ e. record { order = inl (λ a. true≢false (sym a ∙ e), refl); written = λ l. absurd (omega arith) })

  pub join_says : Answered ps buffer x y (join_on (encode x) (encode y) ps buffer)
  unfolding join_on
  join_says =
      rw (accepted_number (encode x) ps x refl a, accepted_number (encode y) ps y refl b, reads_back x a.fits, reads_back y b.fits) pooled_says

-- ---- any bytes

-- an answer below 2 ^ 32 leaves the buffer as it was
abbrev Kept : List ℕ → Joined → Type 0
Kept buffer o = o.0 < 2 ^ 32 → o.1 ≡ buffer

result_kept : (v ps buffer : List ℕ) → Kept buffer (result_on v ps buffer)
unfolding result_on delivered_in
result_kept v ps buffer =
    by_test (Kept buffer) (eqb (number_on v ps) 0)
    (λ e. by_test (Kept buffer) (ltb (length buffer) (length v)) (λ _ h. refl) (λ _ h. absurd (omega arith)))
    (λ e h. refl)

pool_kept : (g h : Got Sheet) (ps buffer : List ℕ) → Kept buffer (pool_read g h ps buffer)
unfolding pool_on
pool_kept (bad k) h ps buffer = λ l. refl
pool_kept (got x rest) (bad k) ps buffer = λ l. refl
pool_kept (got x rest) (got y more) ps buffer =
    by_test (Kept buffer) (same_ranks x.signals y.signals) (λ e. result_kept (encode (pooled x y)) ps buffer) (λ e l. refl)

pub join_kept : (s t ps buffer : List ℕ) → Kept buffer (join_on s t ps buffer)
unfolding join_on
join_kept s t ps buffer =
    by_test (Kept buffer) (eqb (number_on s ps) 0)
    (λ e. by_test (Kept buffer) (eqb (number_on t ps) 0) (λ d. pool_kept (read_sheet s) (read_sheet t) ps buffer) (λ d l. refl))
    (λ e l. refl)

-- "After the same commits, each half of the joined board equals that sheet's own board, events that it doesn't declare
-- being passed over."
module _ {s t ps : List ℕ} (bp : All (λ b. b < 256) ps) (x : AcceptedSheet s ps) (y : AcceptedSheet t ps) where
  means : program_of ps (pooled x.sheet y.sheet) ≡ together (program_of ps x.sheet) (program_of ps y.sheet)
  means = fill_pooled (get ps) x.sheet y.sheet x.accepted.fits x.accepted.known

  low : (n : ℕ) → n < 8 → get ps n < 2 ^ 32
  low n h = get_small ps bp n

  first_valid : Valid (program_of ps x.sheet)
  first_valid = valid_filling (get ps) low (length ps) x.sheet x.accepted

  second_valid : Valid (program_of ps y.sheet)
  second_valid = valid_filling (get ps) low (length ps) y.sheet y.accepted

  both_valid : Valid (together (program_of ps x.sheet) (program_of ps y.sheet))
  both_valid = pooled_valid (get ps) low (length ps) x.sheet y.sheet x.accepted y.accepted

  -- the joined board is the first's board and then the second's
  pub board_halves : (es : List ℕ) → All (λ e. e < events (program_of ps (pooled x.sheet y.sheet))) es
      → play (program_of ps (pooled x.sheet y.sheet)) es (fresh (program_of ps (pooled x.sheet y.sheet)))
      ≡ play (program_of ps x.sheet) (declared (program_of ps x.sheet) es) (fresh (program_of ps x.sheet))
      ++ play (program_of ps y.sheet) (declared (program_of ps y.sheet) es) (fresh (program_of ps y.sheet))
  board_halves es h = rw means (halves (program_of ps x.sheet) (program_of ps y.sheet) first_valid second_valid both_valid es (subst (λ (r : Program). All (λ e. e < events r) es) means h))

  -- by Figure 1's rules
  pub rules_board : (es : List ℕ) → All (λ e. e < events (program_of ps (pooled x.sheet y.sheet))) es
      → (last : List ℕ) → Plays (program_of ps (pooled x.sheet y.sheet)) es (fresh (program_of ps (pooled x.sheet y.sheet))) last
      → (u : List ℕ) × (w : List ℕ) × Plays (program_of ps x.sheet) (declared (program_of ps x.sheet) es) (fresh (program_of ps x.sheet)) u
      × Plays (program_of ps y.sheet) (declared (program_of ps y.sheet) es) (fresh (program_of ps y.sheet)) w × (last ≡ u ++ w)
  rules_board es h last k =
      rules_halves (program_of ps x.sheet) (program_of ps y.sheet) first_valid second_valid both_valid es (subst (λ (r : Program). All (λ e. e < events r) es) means h) last
      (subst (λ (r : Program). Plays r es (fresh r) last) means k)
