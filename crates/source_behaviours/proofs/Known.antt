-- What names mean by their places, and by the numbers of first cells, is what the text says that they mean: by
-- induction on the parameters, and on the behaviours behind them.
use Rattle.lib_base.proofs.Prelude.{ℕ, ◌≤◌, ◌+◌, ◌-◌, suc, ◌≡◌, ◌∙◌, true, false, Option, List, [], ◌∷◌, ◌++◌, map}
use Rattle.lib_base.proofs.Prelude.{length, get_or, take, ltb, le-ltb, lt-ltb, arith}
use Rattle.lib_base.specs.Basics.{pick, All}
use Rattle.lib_base.proofs.Tools.{split}
use Rattle.source_language.specs.Tokens.{same}
use Rattle.source_language.specs.Text.{Body, passive, active, row, Parameter, parameter, TextBehaviour, behaviour}
use Rattle.source_language.specs.Limits.{body_cells}
use Rattle.source_language.specs.Meaning.{NameMeaning, nothing, found_as, behaviour_named, meaning_of_name}
use Rattle.source_coding.specs.Places.{name_at, index_in, behaviour_or_row, meaning_at, meaning_in}
use Rattle.source_declarations.specs.Declarations.{name_of_parameter}
use Rattle.source_behaviours.specs.Behaviours.{name_of_behaviour, RowTold, cells_of_all, StartsAre}
use Rattle.source_names.proofs.Laws.{up_one}

found_as_law : (i d : ℕ) (s : List ℕ) (b : Body) (m : Option (List ℕ)) → RowTold (behaviour s b m) → d ≡ body_cells b → behaviour_or_row i d ≡ found_as i b
found_as_law i d s (passive e) m r h = rw (lt-ltb d 2 (omega arith))
found_as_law i d s (active c hs) m r h = rw (lt-ltb d 2 (omega arith))
found_as_law i d s (row n c hs) m r h = rw (le-ltb d 2 (omega arith), h)

no_list : {A : Type 0} {x : A} {xs : List A} → [] ≡ x ∷ xs → ⊥
no_list e = let z : ◌≡◌ {A = ℕ} 0 1 = cc in omega arith

no_list' : {A : Type 0} {x : A} {xs : List A} → x ∷ xs ≡ [] → ⊥
no_list' e = let z : ◌≡◌ {A = ℕ} 0 1 = cc in omega arith

module _ (text : List ℕ) (params : ℕ) (firsts : List ℕ) (s : List ℕ) where
  -- the meaning where the places are those from the j-th on
  abbrev meaning_from : ℕ → List ℕ → NameMeaning
  meaning_from j places = pick (ltb (index_in text places s) (length places)) (meaning_at params firsts (j + index_in text places s)) nothing

  -- the first place has another name
  later_on : (j p : ℕ) (ps : List ℕ) → same s (name_at text p) ≡ false → meaning_from j (p ∷ ps) ≡ meaning_from (suc j) ps
  unfolding index_in
  later_on j p ps e =
      let q : j + suc (index_in text ps s) ≡ suc j + index_in text ps s = omega arith in
      rw (e, up_one (index_in text ps s) (length ps), q)

  first_here : (j p : ℕ) (ps : List ℕ) → same s (name_at text p) ≡ true → meaning_from j (p ∷ ps) ≡ meaning_at params firsts j
  unfolding index_in
  first_here j p ps e =
      let q : j + 0 ≡ j = omega arith in
      rw (e, lt-ltb 0 (suc (length ps)) (omega arith), q)

  behaviours_known : (places : List ℕ) (bs : List TextBehaviour) (j i : ℕ) → map (name_at text) places ≡ map name_of_behaviour bs → params ≤ j
      → ((k : ℕ) → k ≤ length bs → get_or firsts (j - params + k) 0 ≡ i + cells_of_all (take k bs)) → All RowTold bs
      → meaning_from j places ≡ behaviour_named i bs s
  unfolding behaviour_named cells_of_all
  behaviours_known [] [] j i e h f r = rw (le-ltb (index_in text [] s) 0 (omega arith))
  behaviours_known [] (b ∷ bs) j i e h f r = absurd (no_list e)
  behaviours_known (p ∷ ps) [] j i e h f r = absurd (no_list' e)
  behaviours_known (p ∷ ps) (behaviour t b m ∷ bs) j i e h f r =
      let q : name_at text p ≡ t = cc in
      let u : map (name_at text) ps ≡ map name_of_behaviour bs = cc in
      let a : get_or firsts (j - params) 0 ≡ i = (let z : j - params + 0 ≡ j - params = omega arith in let y : i + 0 ≡ i = omega arith in rw (z, y) at (f 0 (omega arith))) in
      let b' : get_or firsts (suc (j - params)) 0 ≡ i + body_cells b =
      (let z : j - params + 1 ≡ suc (j - params) = omega arith in let y : i + (body_cells b + 0) ≡ i + body_cells b = omega arith in rw (z, y) at (f 1 (omega arith))) in
      split (same s t)
      (λ d.
      let w : meaning_at params firsts j ≡ found_as i b =
      rw (le-ltb j params h, a) (found_as_law i (get_or firsts (suc (j - params)) 0 - i) t b m r.0 (omega arith)) in
      rw d (first_here j p ps (rw q d) ∙ w))
      (λ d.
      rw d
      (later_on j p ps (rw q d)
      ∙ behaviours_known ps bs (suc j) (i + body_cells b) u (omega arith)
      (λ k l.
      let z : suc j - params + k ≡ j - params + suc k = omega arith in
      rw z (f (suc k) (omega arith) ∙ omega arith)) r.1))

  parameters_known : (places : List ℕ) (ps : List Parameter) (bs : List TextBehaviour) (j : ℕ) → map (name_at text) places ≡ map name_of_parameter ps ++ map name_of_behaviour bs
      → j + length ps ≡ params → StartsAre firsts bs → All RowTold bs → meaning_from j places ≡ meaning_of_name j ps bs s
  unfolding meaning_of_name
  parameters_known places [] bs j e h f r =
      behaviours_known places bs j 0 e (omega arith)
      (λ k l. let z : j - params + k ≡ k = omega arith in rw z (f k l ∙ omega arith)) r
  parameters_known [] (parameter t d ∷ ps) bs j e h f r = absurd (no_list e)
  parameters_known (p ∷ places) (parameter t d ∷ ps) bs j e h f r =
      let q : name_at text p ≡ t = cc in
      let u : map (name_at text) places ≡ map name_of_parameter ps ++ map name_of_behaviour bs = cc in
      split (same s t)
      (λ g. rw g (first_here j p places (rw q g) ∙ rw (lt-ltb j params (omega arith))))
      (λ g. rw g (later_on j p places (rw q g) ∙ parameters_known places ps bs (suc j) u (omega arith) f r))

-- names mean in the code what they mean in the text
pub names_known_law : (text places : List ℕ) (params : ℕ) (starts : List ℕ) (ps : List Parameter) (bs : List TextBehaviour)
    → map (name_at text) places ≡ map name_of_parameter ps ++ map name_of_behaviour bs → params ≡ length ps → StartsAre starts bs → All RowTold bs
    → (s : List ℕ) → meaning_in text places params starts s ≡ meaning_of_name 0 ps bs s
unfolding meaning_in
names_known_law text places params starts ps bs e h f r s =
    let z : 0 + index_in text places s ≡ index_in text places s = omega arith in
    rw z at (parameters_known text params starts s places ps bs 0 e (omega arith) f r)
