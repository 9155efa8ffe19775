-- Events by the places of their names: an event's number tells its name, so that a mark for each number tells which
-- have handlers.
use Rattle.lib_base.proofs.Prelude.{ℕ, ◌≤◌, ◌<◌, suc, zero, ◌≡◌, refl, ◌∙◌, sym, ap, true, false, false≢true, List, []}
use Rattle.lib_base.proofs.Prelude.{◌∷◌, map, length, get_or, set, replicate, List·getD-eq-default, get_or-set_other}
use Rattle.lib_base.proofs.Prelude.{get_or-set_same, eqb, ltb, eqb-true, le-ltb, lt-ltb, ltb-false, eqb-false, ltb-true}
use Rattle.lib_base.proofs.Prelude.{arith}
use lib.ListN.{get_or-replicate}
use Rattle.lib_base.proofs.Tools.{by_test, split}
use Rattle.source_language.specs.Tokens.{same}
use Rattle.source_language.specs.Text.{TextEvent, event}
use Rattle.source_language.specs.Limits.{among}
use Rattle.source_language.specs.Meaning.{event_named}
use Rattle.source_language.proofs.Scans.{same_is, same_self}
use Rattle.source_coding.specs.Places.{name_at, names_held, index_in}
use Rattle.source_declarations.specs.Declarations.{name_of_event}
use Rattle.source_handlers.specs.Handlers.{EventsMarked}

module _ (text : List ℕ) where
  -- where a name is found, it stands
  pub index_stands : (l : List ℕ) (s : List ℕ) → index_in text l s < length l → name_at text (get_or l (index_in text l s) 0) ≡ s
  unfolding index_in
  index_stands [] s = λ h. absurd (omega arith)
  index_stands (p ∷ ps) s =
      by_test (λ i. i < suc (length ps) → name_at text (get_or (p ∷ ps) i 0) ≡ s) (same s (name_at text p))
      (λ e h. sym (same_is s (name_at text p) e)) (λ e h. index_stands ps s (omega arith))

  -- where it stands, it is found there or before
  index_before : (l : List ℕ) (s : List ℕ) (n : ℕ) → n < length l → same s (name_at text (get_or l n 0)) ≡ true → index_in text l s ≤ n
  unfolding index_in
  index_before [] s n h e = absurd (omega arith)
  index_before (p ∷ ps) s zero h e = rw e (omega arith)
  index_before (p ∷ ps) s (suc n) h e =
      by_test (λ i. i ≤ suc n) (same s (name_at text p)) (λ d. omega arith) (λ d. omega (arith, index_before ps s n (omega arith) e))

  -- among the first n of them is what is found before n
  pub among_held : (l : List ℕ) (s : List ℕ) (n : ℕ) → n ≤ length l → among s (names_held text l n) ≡ ltb (index_in text l s) n
  unfolding names_held among
  among_held l s zero h = sym (le-ltb (index_in text l s) 0 (omega arith))
  among_held l s (suc n) h =
      by_test (λ b. b ≡ ltb (index_in text l s) (suc n)) (same s (name_at text (get_or l n 0)))
      (λ e. sym (lt-ltb (index_in text l s) (suc n) (omega (arith, index_before l s n (omega arith) e))))
      (λ e. among_held l s n (omega arith) ∙ split (ltb (index_in text l s) n)
      (λ d. rw d (sym (lt-ltb (index_in text l s) (suc n) (omega (arith, ltb-true)))))
      (λ d. rw d (sym (le-ltb (index_in text l s) (suc n) (not_there e d)))))
    where
      not_there : same s (name_at text (get_or l n 0)) ≡ false → ltb (index_in text l s) n ≡ false → suc n ≤ index_in text l s
      not_there e d =
          split (eqb (index_in text l s) n)
          (λ g. let q : index_in text l s ≡ n = eqb-true (index_in text l s) n g in
          absurd (false≢true (sym e ∙ (rw (sym (index_stands l s (omega arith)), q) (same_self (name_at text (get_or l n 0)))))))
          (λ g. omega (arith, ltb-false, eqb-false (index_in text l s) n g))

  pub event_number_law : (events : List ℕ) (es : List TextEvent) (s : List ℕ) → map (name_at text) events ≡ map name_of_event es → index_in text events s ≡ event_named es s
  unfolding index_in event_named
  event_number_law [] [] s h = refl
  event_number_law [] (e ∷ es) s h = absurd (let z : ◌≡◌ {A = ℕ} 0 1 = cc in omega arith)
  event_number_law (p ∷ ps) [] s h = absurd (let z : ◌≡◌ {A = ℕ} 0 1 = cc in omega arith)
  event_number_law (p ∷ ps) (event t n m ∷ es) s h =
      let q : name_at text p ≡ t = cc in
      let r : map (name_at text) ps ≡ map name_of_event es = cc in
      rw (q, event_number_law ps es s r)

  -- ---- marks

  pub handled_none : (events : List ℕ) → EventsMarked text events (replicate 33 0) []
  unfolding among
  handled_none events s =
      split (ltb (index_in text events s) 33)
      (λ e. rw (get_or-replicate {A = ℕ} 33 (index_in text events s) 0 0 (ltb-true (index_in text events s) 33 e)))
      (λ e. rw (List·getD-eq-default {A = ℕ} (replicate 33 0) 0 {n = index_in text events s} (ltb-false (index_in text events s) 33 e)))

  pub handled_more : (events marks : List ℕ) (ns : List (List ℕ)) (s : List ℕ) → EventsMarked text events marks ns → index_in text events s < length events
      → length events < length marks → EventsMarked text events (set marks (index_in text events s) 1) (s ∷ ns)
  unfolding among
  handled_more events marks ns s k h g t =
      split (eqb (index_in text events t) (index_in text events s))
      (λ e.
      let q : index_in text events t ≡ index_in text events s = eqb-true (index_in text events t) (index_in text events s) e in
      let r : t ≡ s = sym (index_stands events t (omega arith)) ∙ ap (λ i. name_at text (get_or events i 0)) q ∙ index_stands events s h in
      rw (q, get_or-set_same marks (index_in text events s) 1 0 (omega arith), r, same_self s))
      (λ e.
      rw (get_or-set_other marks (index_in text events s) (index_in text events t) 1 0 (eqb-false (index_in text events t) (index_in text events s) e))
      (by_test (λ b. b ≡ eqb (get_or marks (index_in text events t) 0) 1) (same t s)
      (λ d. absurd (eqb-false (index_in text events t) (index_in text events s) e (ap (index_in text events) (same_is t s d))))
      (λ d. k t)))
