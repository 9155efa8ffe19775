-- The bytes worked out from those of two sheets are the pooled sheet's, and their ranks agree where the sheets' do:
-- from the events and the behaviours.
use Rattle.lib_base.proofs.Prelude.{ℕ, ◌≤◌, ◌+◌, ◌≡◌, refl, ◌∙◌, sym, ap, List, [], ◌∷◌, ◌++◌, append_assoc, length}
use Rattle.lib_base.proofs.Prelude.{drop, arith}
use Rattle.lib_base.specs.Basics.{All}
use Rattle.spec_language.specs.Sheet.{Item, formula, state, row, Entry, Sheet, cells, cell_count, fill_entries, fill}
use Rattle.spec_language.specs.Grammar.{encode, encode_events, encode_behaviour, encode_behaviours, ItemFits, EntryFits, SheetFits}
use Rattle.spec_language.specs.Accepted.{BehaviourNamesIn, Known}
use Rattle.link_pooled.specs.Pooled.{pool_signals, move_entries, count, pooled, same_ranks}
use Rattle.link_pooled.proofs.Rows.{known_back}
use Rattle.link_pooled.proofs.Filled.{size_fill}
use Rattle.link_events.specs.Merging.{events_from, end_from, agree_from}
use Rattle.link_bytes.specs.Splice.{count_from, scan, spliced}
use Rattle.link_bytes.proofs.EventsAre.{behaviours_end, events_are, ranks_are, end_is}
use Rattle.link_bytes.proofs.BehavioursAre.{scan_behaviours, entries_still, count_behaviours}

-- at most one entry a behaviour
few_entries : (n : ℕ) (xs : List Entry) → All (EntryFits n) xs → length xs ≤ cell_count xs
unfolding cell_count
few_entries n [] h = omega arith
few_entries n (x ∷ xs) h = omega (arith, some_cells x.item h.0.0, few_entries n xs h.1)
  where
    some_cells : (x : Item) → ItemFits n x → 1 ≤ cells x
    some_cells (formula x) h = omega arith
    some_cells (state s cs) h = omega arith
    some_cells (row c s cs) h = omega (arith, h.0)

behaviours_append : (xs ys : List Entry) → encode_behaviours (xs ++ ys) ≡ encode_behaviours xs ++ encode_behaviours ys
unfolding encode_behaviours
behaviours_append [] ys = refl
behaviours_append (x ∷ xs) ys =
    ap (λ (l : List ℕ). encode_behaviour x ++ l) (behaviours_append xs ys) ∙ sym (append_assoc (encode_behaviour x) (encode_behaviours xs) (encode_behaviours ys))

opened : (a : Sheet) → drop 0 (encode a) ≡ encode_events a.signals ++ encode_behaviours a.entries
unfolding encode
opened a = refl

whole : (a : Sheet) → encode a ≡ encode_events a.signals ++ encode_behaviours a.entries
unfolding encode
whole a = refl

split_up : (s t : List ℕ) → spliced s t ≡ events_from 32 s 0 t 0 ++ (scan 0 0 0 (drop (end_from 32 s 0) s) ++ scan (count_from 64 (drop (end_from 32 s 0) s) 0) 0 0 (drop (end_from 32 t 0) t))
unfolding spliced
split_up s t = refl

module _ (v : ℕ → ℕ) (a b : Sheet) (fa : SheetFits a) (fb : SheetFits b) (ka : Known (fill v a)) (kb : Known (fill v b)) where
  abbrev es : List ℕ
  es = encode_behaviours a.entries

  abbrev fs : List ℕ
  fs = encode_behaviours b.entries

  names_a : All (BehaviourNamesIn (count a)) (fill_entries v a.entries)
  names_a = known_back v (count a) (length a.signals) a.entries a.entries fa.each (rw (size_fill v a) at ka)

  names_b : All (BehaviourNamesIn (count b)) (fill_entries v b.entries)
  names_b = known_back v (count b) (length b.signals) b.entries b.entries fb.each (rw (size_fill v b) at kb)

  -- the parts of each
  rest_a : drop (end_from 32 (encode a) 0) (encode a) ≡ es
  rest_a = end_is es (behaviours_end a.entries) 32 a.signals (encode a) 0 (opened a) fa.few_events

  rest_b : drop (end_from 32 (encode b) 0) (encode b) ≡ fs
  rest_b = end_is fs (behaviours_end b.entries) 32 b.signals (encode b) 0 (opened b) fb.few_events

  counted : count_from 64 es 0 ≡ count a
  counted = count_behaviours 64 a.entries 0 (omega (arith, few_entries (length a.signals) a.entries fa.each, fa.few_behaviours)) ∙ (let z : 0 + count a ≡ count a = omega arith in z)

  first_copied : scan 0 0 0 es ≡ es
  first_copied = scan_behaviours v 0 (count a) (omega (arith, fa.few_behaviours)) a.entries names_a ∙ ap encode_behaviours (entries_still a.entries)

  second_copied : scan (count a) 0 0 fs ≡ encode_behaviours (move_entries (count a) b.entries)
  second_copied = scan_behaviours v (count a) (count b) (omega (arith, fa.few_behaviours, fb.few_behaviours)) b.entries names_b

  joined_events : events_from 32 (encode a) 0 (encode b) 0 ≡ encode_events (pool_signals a.signals b.signals)
  joined_events =
      events_are es fs (behaviours_end a.entries) (behaviours_end b.entries) 32 a.signals b.signals (encode a) (encode b) 0 0 (opened a) (opened b) fa.scale fb.scale
      fa.few_events fb.few_events

  pub spliced_are : spliced (encode a) (encode b) ≡ encode (pooled a b)
  spliced_are =
      split_up (encode a) (encode b)
      ∙ (rw (
        joined_events,
        rest_a,
        rest_b,
        counted,
        first_copied,
        second_copied,
        ← behaviours_append a.entries (move_entries (count a) b.entries),
      ) (sym (whole (pooled a b))))

  pub ranks_agree : agree_from 32 (encode a) 0 (encode b) 0 ≡ same_ranks a.signals b.signals
  ranks_agree =
      ranks_are es fs (behaviours_end a.entries) (behaviours_end b.entries) 32 a.signals b.signals (encode a) (encode b) 0 0 (opened a) (opened b) fa.few_events fb.few_events
