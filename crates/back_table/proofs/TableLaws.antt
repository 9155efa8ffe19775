-- The loops that write the table, and its parts one after the other: what is written so far goes on where it ended. A
-- count is small, so that the sum fits.
use Rattle.lib_base.proofs.Prelude.{ℕ, ◌≤◌, ◌<◌, ◌+◌, ◌-◌, suc, zero, ◌*◌, ◌%◌, ◌≡◌, refl, ◌∙◌, ap, ◌≢◌, by_cases, List, [], ◌∷◌}
use Rattle.lib_base.proofs.Prelude.{flat_map, length, get_or, take, replicate, length-append, add-one, dec_lt, ne_eqb}
use Rattle.lib_base.proofs.Prelude.{arith}
use Rattle.format_image.proofs.ImageLaws.{length_padded}
use Rattle.format_image.specs.Table.{padded}
use Rattle.draft_form.specs.Draft.{entry_of}
use Rattle.check_faults.specs.Checks.{Inside, RowsInside}
use Rattle.back_fresh.specs.Evaluate.{fresh_on}
use Rattle.back_counts.specs.Counts.{EntriesInside, total, share_of, count_event, count_members}
use Rattle.back_counts.proofs.CountLaws.{share_small, total_le}
use Rattle.back_schedule.specs.Ordering.{order_under, OrderHolds}
use Rattle.back_emit.specs.Words.{each, turn_words_of_kind}
use Rattle.back_emit.specs.Writing.{Table, Room, Wrote}
use Rattle.back_emit.proofs.WritingLaws.{each_start, each_room, each_turn, wrote_then}
use Rattle.back_event.specs.Handlers.{code_of}
use Rattle.back_parts.specs.RightWords.{right_words}
use Rattle.back_parts.proofs.PartLaws.{wrote_padded}
use Rattle.back_passives.specs.PassiveWords.{draft_passive_words}
use Rattle.back_table.specs.TableWords.{count_before, record_words, fresh_words, alone_words, codes_of, table_words, Planned}

-- ---- what a draft that is written from has

pub planned_inside : {d : List ℕ} {ev bs : ℕ} → Planned d ev bs → (e i : ℕ) → i < bs → e ≤ ev → Inside d e i
planned_inside p e i b h = p.inside e h i b

pub planned_sound : {d : List ℕ} {ev bs : ℕ} → Planned d ev bs → EntriesInside d 0 bs
planned_sound p = record { long = p.long; few = p.few_behaviours; inside = p.inside 0 (omega arith) }

-- ---- counts

total_grows : (f : ℕ → ℕ) (i n : ℕ) → i < n → total i f + f i ≤ total n f
unfolding total
total_grows f i zero h = absurd (omega arith)
total_grows f i (suc n) h =
    by_cases (dec_lt i n) (λ p. omega (arith, total_grows f i n p)) (λ p. let z : i ≡ n = omega arith in rw z (omega arith))

pub count_small : (d : List ℕ) (e n : ℕ) → n ≤ 64 → RowsInside d e n → count_event d e n ≤ 262404
unfolding count_event
count_small d e n h r =
    omega (arith, total_le (λ i. share_of (entry_of d e i)) 4100 n (λ i b. share_small (entry_of d e i) (omega (arith, r i b))))

pub before_next : (d : List ℕ) (bs e : ℕ) → count_before d bs (e + 1) ≡ count_before d bs e + count_event d e bs
unfolding count_before total
before_next d bs e = rw add-one

pub before_within : (d : List ℕ) (bs ev e : ℕ) → e < ev → count_before d bs e + count_event d e bs ≤ count_before d bs ev
unfolding count_before
before_within d bs ev e h = total_grows (λ f. count_event d f bs) e ev h

-- the counts of the first e events are summed up
pub record Counting (d : List ℕ) (bs sum e : ℕ) : Type 0 where
  pub whole : sum ≡ count_before d bs e
  pub small : sum ≤ e * 262404

pub counting_start : (d : List ℕ) (bs : ℕ) → Counting d bs 0 0
unfolding count_before total
counting_start d bs = record { whole = refl; small = omega arith }

pub counting_turn : {d : List ℕ} {bs sum e r : ℕ} → Counting d bs sum e → bs ≤ 64 → RowsInside d e bs → r ≡ count_event d e bs → Counting d bs (sum + r) (e + 1)
counting_turn {d} {bs} {sum} {e} {r} u b a q = record {
  whole = omega (arith, before_next d bs e, u.whole);
  small = omega (arith, count_small d e bs b a, u.small);
}

pub counting_end : {d : List ℕ} {bs ev sum e : ℕ} → Counting d bs sum e → e ≡ ev → sum ≡ count_before d bs ev
counting_end {d} {bs} u h = u.whole ∙ ap (count_before d bs) h

-- ---- records

pub record Recording (d : List ℕ) (bs : ℕ) (t₀ : Table) (k : ℕ) (t : Table) (next begin e : ℕ) : Type 0 where
  pub so_far : Wrote t₀ k (each e (record_words d bs)) t next
  pub begins : begin ≡ count_before d bs e

pub recording_start : (d : List ℕ) (t : Table) (bs k : ℕ) → Recording d bs t k t k 0 0
unfolding count_before total
recording_start d t bs k = record { so_far = each_start (record_words d bs) t k; begins = refl }

pub recording_turn : {d : List ℕ} {t₀ t t' : Table} {bs k next begin e count r : ℕ} → Recording d bs t₀ k t next begin e → count ≡ count_event d e bs
    → Wrote t next ((get_or d (4224 + e) 0 % 4294967296) ∷ begin ∷ count ∷ count_members d e bs ∷ []) t' r → Recording d bs t₀ k t' r (begin + count) (e + 1)
unfolding record_words
recording_turn {d} {bs = bs} {e = e} u q w = record {
  so_far = each_turn (record_words d bs) u.so_far (rw (u.begins, q) at w);
  begins = omega (arith, before_next d bs e, u.begins);
}

pub recording_small : {d : List ℕ} {t₀ t : Table} {ev bs k next begin e r : ℕ} → Recording d bs t₀ k t next begin e → Planned d ev bs → e < ev → r ≡ count_event d e bs
    → begin + r ≤ 4096
recording_small {d} {ev = ev} {bs = bs} {e = e} u p h q = omega (arith, before_within d bs ev e h, u.begins, p.short)

-- a record has four words
pub recording_room : {d : List ℕ} {t₀ t : Table} {ev bs k next begin e : ℕ} → Room t₀ k (each ev (record_words d bs)) → Recording d bs t₀ k t next begin e → e < ev
    → (next ≤ 8700) × (34816 ≤ length t.now)
unfolding record_words
recording_room {d} {bs = bs} room u h = let r = each_room (record_words d bs) room u.so_far h in (omega (arith, r.within), r.long)

pub length_records : (d : List ℕ) (bs n : ℕ) → length (each n (record_words d bs)) ≡ n * 4
unfolding each record_words
length_records d bs zero = refl
length_records d bs (suc n) = rw length-append (omega (arith, length_records d bs n))

pub records_end : (d : List ℕ) (bs ev : ℕ) {t t' : Table} {k r : ℕ} → Wrote t k (each ev (record_words d bs)) t' r → k ≡ 8 → ev ≤ 32 → r ≤ 136
records_end d bs ev w q h = omega (arith, w.next, length_records d bs ev)

-- ---- the values of a fresh round, rights, and passives

pub fresh_wrote : (d : List ℕ) (ev bs : ℕ) {t t₁ t₂ t₃ : Table} {o v : List ℕ} {count n r s : ℕ} → OrderHolds o count bs (order_under d ev bs) → v ≡ fresh_on d bs ev (take count o)
    → Wrote t 136 v t₁ n → length v ≡ 64 → Wrote t₁ 200 (right_words d ev bs) t₂ r → r ≡ 296 → Wrote t₂ 296 (draft_passive_words d ev bs) t₃ s
    → Wrote t 136 (fresh_words d ev bs) t₃ s
unfolding fresh_words
fresh_wrote d ev bs {n = n} {r = r} h q w l z e x =
    let m : n ≡ 200 = omega (arith, w.next) in
    wrote_then (rw (m, q, h.taken) at w) (wrote_then (rw e at z) x)

-- ---- the instructions

pub alone_as : (d : List ℕ) (bs : ℕ) {o : List ℕ} {count : ℕ} → OrderHolds o count bs (order_under d 0 bs) → flat_map (turn_words_of_kind d 0 1 2304) (take count o) ≡ alone_words d bs
unfolding alone_words
alone_as d bs h = rw h.taken

pub codes_alone : (d : List ℕ) (ev bs : ℕ) → ev ≡ 0 → codes_of d ev bs ≡ alone_words d bs
unfolding codes_of
codes_alone d ev bs z = rw z

pub codes_events : (d : List ℕ) (ev bs : ℕ) → ev ≢ 0 → codes_of d ev bs ≡ each ev (code_of d bs)
unfolding codes_of
codes_events d ev bs h = rw (ne_eqb ev 0 h)

-- ---- the parts one after the other

pub head_end : (ev bs : ℕ) {t t' : Table} {r : ℕ} → Wrote t 0 (padded 8 (ev ∷ bs ∷ [])) t' r → r ≡ 8
head_end ev bs w = omega (arith, w.next, length_padded 8 (ev ∷ bs ∷ []) (omega arith))

pub table_wrote : (d : List ℕ) (ev bs : ℕ) {t t₁ t₂ t₃ t₄ t₅ t₆ : Table} {a b c r f g : ℕ} → ev ≤ 32
    → Wrote t 0 (padded 8 (ev ∷ bs ∷ [])) t₁ a → Wrote t₁ a (each ev (record_words d bs)) t₂ b → Wrote t₂ b (replicate (136 - b) 0) t₃ c
    → Wrote t₃ 136 (fresh_words d ev bs) t₄ r → r ≡ 512 → Wrote t₄ r (codes_of d ev bs) t₅ f → Wrote t₅ f (replicate (8704 - f) 0) t₆ g
    → Wrote t 0 (table_words d ev bs) t₆ g
unfolding table_words
table_wrote d ev bs {a = a} {c = c} h x y z u e v w =
    let p = head_end ev bs x in
    let records = wrote_padded 128 (rw p at y) z in
    let q : c ≡ 136 = omega (arith, records.next, length_padded 128 (each ev (record_words d bs)) (omega (arith, length_records d bs ev))) in
    let codes = wrote_padded 8192 (rw e at v) w in
    wrote_then (rw p at x) (wrote_then (rw q at records) (wrote_then (rw e at u) codes))
