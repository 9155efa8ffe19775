-- What the loops over the names keep; and that names then mean what they do in the order of their declarations: a name
-- that is found is the one there, and each name is found.
use Rattle.lib_base.proofs.Prelude.{ℕ, ◌≤◌, ◌<◌, ◌+◌, ◌-◌, suc, zero, ◌≡◌, refl, ◌∙◌, sym, ap, true, List, [], ◌∷◌}
use Rattle.lib_base.proofs.Prelude.{length, get_or, length-set, set, get_or-set_other, get_or-set_same, take_all, eqb, ltb}
use Rattle.lib_base.proofs.Prelude.{eqb-true, lt-ltb, ltb-false, eqb-false, ltb-true, arith}
use Rattle.lib_base.specs.Basics.{All}
use Rattle.lib_base.proofs.Tools.{split, all_at_or}
use Rattle.source_language.specs.Tokens.{same}
use Rattle.source_language.proofs.Scans.{same_is}
use Rattle.source_coding.specs.Places.{name_at, index_in, meaning_in}
use Rattle.source_names.specs.Search.{found_in}
use Rattle.source_names.specs.Known.{word_only, meaning_by, meaning_number}
use Rattle.source_names.proofs.Found.{name_only, found_met, found_plain, number_means_law}
use Rattle.source_index.specs.Index.{MeaningsPut, AllFound}

-- ---- the loops

pub all_set : (P : ℕ → Type 0) (l : List ℕ) (i v : ℕ) → All P l → P v → All P (set l i v)
all_set P [] i v h k = tt
all_set P (x ∷ l) zero v h k = (k, h.1)
all_set P (x ∷ l) (suc i) v h k = (h.0, all_set P l i v h.1 k)

module _ (text names : List ℕ) (params : ℕ) (firsts places : List ℕ) where
  pub meanings_start : (before : List ℕ) → All (λ m. m < 8320) before → MeaningsPut text names params firsts places 0 before before
  meanings_start before h = record { each = λ i l. absurd (omega arith); low = h; kept = refl }

  pub meanings_turn : {k : ℕ} {before after : List ℕ} → MeaningsPut text names params firsts places k before after → (j r : ℕ) → k < length after
      → j ≡ index_in text names (name_at text (get_or places k 0)) → r ≡ meaning_number params firsts j → r < 8320
      → MeaningsPut text names params firsts places (k + 1) before (set after k r)
  meanings_turn {k} {before} {after} p j r h e d low =
      record {
        each = λ i l.
            split (eqb i k)
            (λ t. let q = eqb-true i k t in rw (q, get_or-set_same after k r 0 h) (d ∙ ap (meaning_number params firsts) e))
            (λ f. let q : i < k = omega (arith, eqb-false i k f) in rw (get_or-set_other after k i r 0 (omega arith)) (p.each i q));
        low = all_set (λ m. m < 8320) after k r p.low low;
        kept = simp length-set p.kept;
      }

  pub meanings_end : {k : ℕ} {before after : List ℕ} → MeaningsPut text names params firsts places k before after → length places ≤ k
      → MeaningsPut text names params firsts places (length places) before after
  meanings_end p h = record { each = λ i l. p.each i (omega arith); low = p.low; kept = p.kept }

module _ (text names places : List ℕ) where
  pub found_end : {k : ℕ} → AllFound text names places k → length names ≤ k → AllFound text names places (length names)
  found_end a h = record { met = λ j l. a.met j (omega arith); named = λ j l. a.named j (omega arith) }

  pub found_start : AllFound text names places 0
  found_start = record { met = λ j l. absurd (omega arith); named = λ j l. absurd (omega arith) }

  pub found_turn : {k : ℕ} → AllFound text names places k → found_in text places (length places) (name_at text (get_or names k 0)) < length places
      → index_in text names (name_at text (get_or places k 0)) < length names → AllFound text names places (k + 1)
  found_turn {k} a m i =
      record {
        met = λ j l. split (eqb j k) (λ t. rw (eqb-true j k t) m) (λ f. a.met j (omega (arith, eqb-false j k f)));
        named = λ j l. split (eqb j k) (λ t. rw (eqb-true j k t) i) (λ f. a.named j (omega (arith, eqb-false j k f)));
      }

-- ---- names mean the same

index_met : (text names s : List ℕ) → index_in text names s < length names → same s (name_at text (get_or names (index_in text names s) 0)) ≡ true
unfolding index_in
index_met text [] s h = absurd (omega arith)
index_met text (p ∷ ps) s h =
    split (same s (name_at text p)) (λ t. rw t t) (λ f. rw f (index_met text ps s (omega (arith, rw f at h))))

module _ (text names : List ℕ) (params : ℕ) (firsts : List ℕ) (few : params ≤ 8) (low : All (λ k. k ≤ 64) firsts) where
  first_low : (i : ℕ) → get_or firsts i 0 ≤ 64
  first_low i = all_at_or (λ k. k ≤ 64) firsts i 0 low (omega arith)

  -- a name that is declared is the one there
  declared_is : (s : List ℕ) → index_in text names s < length names → s ≡ name_at text (get_or names (index_in text names s) 0)
  declared_is s h = same_is s (name_at text (get_or names (index_in text names s) 0)) (index_met text names s h)

  declared_word : (s : List ℕ) → index_in text names s < length names → word_only s ≡ true
  declared_word s h = ap word_only (declared_is s h) ∙ name_only text (get_or names (index_in text names s) 0)

  module _ (places before meanings : List ℕ) (long : length places ≡ length names) (put : MeaningsPut text names params firsts places (length places) before meanings)
      (found : AllFound text names places (length names)) (s : List ℕ) where
    abbrev at_place : ℕ
    at_place = found_in text places (length places) s

    found_is : word_only s ≡ true → at_place < length places → s ≡ name_at text (get_or places at_place 0)
    found_is w h = same_is s (name_at text (get_or places at_place 0)) (found_met text places s w h)

    declared_found : index_in text names s < length names → at_place < length places
    declared_found h =
        let z : at_place ≡ found_in text places (length places) (name_at text (get_or names (index_in text names s) 0)) = ap (found_in text places (length places)) (declared_is s h) in
        omega (arith, z, found.met (index_in text names s) h)

    meant_there : word_only s ≡ true → at_place < length places → get_or meanings at_place 0 ≡ meaning_number params firsts (index_in text names s)
    meant_there w h = put.each at_place h ∙ ap (λ (x : List ℕ). meaning_number params firsts (index_in text names x)) (sym (found_is w h))

    found_declared : word_only s ≡ true → at_place < length places → index_in text names s < length names
    found_declared w h =
        let z : index_in text names s ≡ index_in text names (name_at text (get_or places at_place 0)) = ap (index_in text names) (found_is w h) in
        omega (arith, z, found.named at_place (omega (arith, h, long)))

    pub known_sorted : meaning_by text places (length places) meanings s ≡ meaning_in text names params firsts s
    unfolding meaning_by meaning_in
    known_sorted =
        split (ltb (index_in text names s) (length names))
        (λ t.
        let h = ltb-true (index_in text names s) (length names) t in
        let w = declared_word s h in
        let m = declared_found h in
        rw (w, lt-ltb at_place (length places) m, t, meant_there w m) (number_means_law params firsts (index_in text names s) few (first_low (index_in text names s - params))))
        (λ f.
        split (word_only s)
        (λ w. split (ltb at_place (length places))
        (λ t. absurd (omega (arith, found_declared w (ltb-true at_place (length places) t), ltb-false (index_in text names s) (length names) f)))
        (λ g. rw (w, g, f)))
        (λ g. rw (g, f)))

  -- one after another
  module _ (before meanings : List ℕ) (put : MeaningsPut text names params firsts names (length names) before meanings) (s : List ℕ) where
    plain_found : found_in text names 0 s ≡ index_in text names s
    plain_found =
        let z : length names - 0 ≡ length names = omega arith in
        found_plain text names s ∙ rw (z, take_all (length names) names (omega arith))

    pub known_plain : meaning_by text names 0 meanings s ≡ meaning_in text names params firsts s
    unfolding meaning_by meaning_in
    known_plain =
        split (ltb (index_in text names s) (length names))
        (λ t.
        let h = ltb-true (index_in text names s) (length names) t in
        let v : get_or meanings (index_in text names s) 0 ≡ meaning_number params firsts (index_in text names s) =
        put.each (index_in text names s) h ∙ ap (λ (x : List ℕ). meaning_number params firsts (index_in text names x)) (sym (declared_is s h)) in
        rw (declared_word s h, plain_found, t, v) (number_means_law params firsts (index_in text names s) few (first_low (index_in text names s - params))))
        (λ f. split (word_only s) (λ w. rw (w, plain_found, f)) (λ g. rw (g, f)))
