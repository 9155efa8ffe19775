-- A draft filled in and judged is the sheet judged: by the theorem on the filling (crate draft_params), and since the
-- values do not matter where no parameter is used, nor for its names.
use Rattle.lib_base.proofs.Prelude.{ℕ, ◌<◌, ◌≡◌, refl, ◌∙◌, ap, false, Bool, List, [], ◌∷◌, length, ltb}
use Rattle.lib_base.specs.Basics.{All}
use Rattle.lib_base.proofs.Tools.{split}
use Rattle.lib_word.specs.Word.{get}
use Rattle.spec_language.specs.Syntax.{Program}
use Rattle.spec_language.specs.Sheet.{Term, literal, variable, param, apply1, apply2, apply3, Clause, clause, Item, formula, state, row, Entry, Sheet, rows_out}
use Rattle.spec_language.specs.Sheet.{fill_term, fill_clauses, fill_item, fill_entries, fill, uses}
use Rattle.spec_language.proofs.SheetLaws.{length_fill, fill_unused}
use Rattle.check_faults.specs.Faults.{known_in, known_handlers, known_behaviour, known_behaviours, known}
use Rattle.draft_params.specs.Filling.{parameter_value, fill_to, lacks_param}
use Rattle.draft_params.proofs.Fills.{draft_filled, filled_program, draft_lacks}
use Rattle.back_compile.specs.Verdict.{judge, lacks_parameters}
use Rattle.back_compile.specs.Judged.{Judged, SheetJudged}

module _ (v w : ℕ → ℕ) (n : ℕ) where
  term_known : (x : Term) → known_in n (fill_term v x) ≡ known_in n (fill_term w x)
  unfolding fill_term known_in
  term_known (literal z) = refl
  term_known (variable i) = refl
  term_known (param k) = refl
  term_known (apply1 f a) = term_known a
  term_known (apply2 f a b) = rw (term_known a, term_known b)
  term_known (apply3 f a b c) = rw (term_known a, term_known b, term_known c)

  clauses_known : (cs : List Clause) → known_handlers n (fill_clauses v cs) ≡ known_handlers n (fill_clauses w cs)
  unfolding fill_clauses known_handlers
  clauses_known [] = refl
  clauses_known (clause e φ x ∷ cs) = rw (term_known x, clauses_known cs)

  item_known : (b : Item) → known_behaviour n (fill_item v b) ≡ known_behaviour n (fill_item w b)
  item_known (formula x) = term_known x
  item_known (state s cs) = clauses_known cs
  item_known (row c s cs) = clauses_known cs

  entries_known : (bs : List Entry) → known_behaviours n (fill_entries v bs) ≡ known_behaviours n (fill_entries w bs)
  unfolding fill_entries known_behaviours
  entries_known [] = refl
  entries_known (b ∷ bs) = rw (item_known b.item, entries_known bs)

-- the names of a sheet are known whatever its parameters are
known_fill : (v w : ℕ → ℕ) (s : Sheet) → known (fill v s) ≡ known (fill w s)
known_fill v w s =
    let out = (rows_out s).entries in
    rw (length_fill v out, length_fill w out) (entries_known v w (length out) out)

-- the values that the code fills in are those lent, wherever they matter
filled_judged : (s : Sheet) (ps t : List ℕ) → judge (fill (parameter_value ps) s) (lacks_parameters s ps) t ≡ judge (fill (get ps) s) (lacks_parameters s ps) t
unfolding judge parameter_value
filled_judged s ps t =
    split (ltb (length ps) 32)
    (λ c. split (uses s)
    (λ u. rw (c, u, known_fill (parameter_value ps) (get ps) s))
    (λ u. ap (λ (p : Program). judge p (lacks_parameters s ps) t) (fill_unused (parameter_value ps) (get ps) s u)))
    (λ c. ap (λ (v : ℕ → ℕ). judge (fill v s) (lacks_parameters s ps) t) (λ i k. lent c k i))
  where
    lent : ltb (length ps) 32 ≡ false → (k : ℕ) → parameter_value ps k ≡ get ps k
    lent c k = rw c

-- the draft filled in and judged is the sheet judged
pub filled_is : {ev bs n : ℕ} {d : List ℕ} (ps : List ℕ) → All (λ b. b < 256) ps → (l : Bool) (t : List ℕ) (r : ℕ) (t' : List ℕ) → l ≡ lacks_param d n ps
    → Judged ev bs n (fill_to ps d n) l t r t' → SheetJudged ev bs n d ps t r t'
filled_is ps bytes l t r t' e j = record {
  each_sheet = λ o. j.each_program (draft_filled ps bytes o)
      ∙ ap (λ (p : Program). judge p l t) (filled_program ps bytes o)
      ∙ ap (λ (b : Bool). judge (fill (parameter_value ps) o.sheet) b t) (e ∙ draft_lacks o ps)
      ∙ filled_judged o.sheet ps t;
}
