-- What is found on the draft, its parameters filled in, is a shortest circle of the sheet's program: the matrix is its
-- dependence (crate check_faults), and a shortest circle has distinct members. That the draft is the program's is what
-- the judging tells (crate back_compile).
use Rattle.lib_base.proofs.Prelude.{ℕ, ◌≤◌, ◌<◌, ◌≡◌, ◌∙◌, sym, ap, subst, true, Bool, ⊎_elim, List, [], ◌∷◌}
use Rattle.lib_base.proofs.Prelude.{List-as-Nodup, length, arith}
use Rattle.spec_language.specs.Syntax.{Program}
use Rattle.spec_language.specs.Dependence.{size, events, no_event, depends_on}
use Rattle.spec_language.specs.Fits.{Fits}
use Rattle.spec_language.specs.Accepted.{Known}
use Rattle.spec_language.specs.Reading.{got}
use Rattle.spec_language.proofs.Laws.{depends_within}
use Rattle.spec_grammar.proofs.Programs.{reads_back}
use Rattle.draft_form.specs.Draft.{Drafted, DraftOf}
use Rattle.draft_form.proofs.DraftLaws.{draft_events, draft_behaviours}
use Rattle.check_graph.specs.Matrix.{cell, cell_below}
use Rattle.check_graph.proofs.Closure.{below_is}
use Rattle.check_faults.specs.Faults.{known}
use Rattle.check_faults.specs.Checks.{matrix_on, cyclic_on, AllInside}
use Rattle.check_faults.proofs.MatrixAgrees.{matrix_is, length_matrix_of}
use Rattle.check_faults.proofs.CycleDecides.{cell_is, known_decides}
use Rattle.check_faults.proofs.DraftChecks.{draft_inside}
use Rattle.check_distance.specs.Circle.{Chain, Circle}
use Rattle.check_distance.proofs.Shorter.{shorter, distinct_few}
use Rattle.check_distance.proofs.Walks.{circle_same}
use Rattle.check_shortest.specs.Search.{Wide, ShortestFound}
use Rattle.back_compile.specs.Number.{number_on}
use Rattle.back_compile.specs.Compiled.{program_of}
use Rattle.back_compile.specs.Judged.{CircleDraft, Judgement, JudgedAs, answer_of}
use Rattle.back_compile.proofs.Judging.{turns_number, judged_number}
use Rattle.ask_circle.specs.Witness.{list_answer, CircleListed, Witnessed}

-- ---- circles of one dependence and of another

chain_imp : (dep dep' : ℕ → ℕ → Bool) → ((a b : ℕ) → dep a b ≡ true → dep' a b ≡ true) → (a : ℕ) (l : List ℕ) (z : ℕ) → Chain dep a l z → Chain dep' a l z
chain_imp dep dep' h a [] z c = h a z c
chain_imp dep dep' h a (b ∷ l) z c = (h a b c.0, chain_imp dep dep' h b l z c.1)

circle_imp : (dep dep' : ℕ → ℕ → Bool) → ((a b : ℕ) → dep a b ≡ true → dep' a b ≡ true) → (l : List ℕ) → Circle dep l → Circle dep' l
circle_imp dep dep' h [] c = c
circle_imp dep dep' h (a ∷ l) c = chain_imp dep dep' h a l a c

-- ---- from the draft to the program

module _ (p : Program) (d : List ℕ) (n : ℕ) (dr : Drafted p d n) (fits : Fits p) (ks : Known p) where
  cells : (e a b : ℕ) → e ≤ 32 → a < 64 → b < 64 → cell (matrix_on d e (size p)) a b ≡ depends_on p e a b
  cells e a b h i j = ap (λ (m : List ℕ). cell m a b) (matrix_is p d n e fits dr h) ∙ cell_is p e a b i j

  listed_in : {list list' : List ℕ} {r : ℕ} → ShortestFound d (events p) (size p) list r list' → CircleListed p list r list'
  listed_in {list} {list'} {r} f =
      let few : size p ≤ 64 = fits.few_behaviours in
      let small : events p ≤ 32 = fits.few_events in
      let ms = f.members in
      let round : Circle (depends_on p f.event) ms =
      circle_same (size p) (λ a b. cell (matrix_on d f.event (size p)) a b) (depends_on p f.event)
      (λ a b i j. cells f.event a b (omega (arith, f.declared)) (omega arith) (omega arith)) ms f.below_n f.circle in
      let on_draft : (g : ℕ) → g ≤ no_event p → (l : List ℕ) → Circle (depends_on p g) l → Circle (cell_below (size p) (matrix_on d g (size p))) l =
      λ g h l c. circle_imp (depends_on p g) (cell_below (size p) (matrix_on d g (size p)))
      (λ a b t. let v = depends_within p ks g a b t in
      below_is (size p) (matrix_on d g (size p)) a b v.0 v.1 (cells g a b (omega arith) (omega (arith, v.0)) (omega (arith, v.1)) ∙ t)) l c in
      let least : (g : ℕ) → g ≤ no_event p → (l : List ℕ) → Circle (depends_on p g) l → length ms ≤ length l =
      λ g h l c. f.shortest g h l (on_draft g h l c) in
      let apart : List-as-Nodup ms =
      ⊎_elim (λ x. x) (λ x. absurd (omega (arith, x.2, least f.event f.declared x.0 x.1))) (shorter (depends_on p f.event) ms round) in
      record {
        event = f.event;
        declared = f.declared;
        members = ms;
        circle = round;
        shortest = least;
        none_first = λ l c e. f.none_first l (on_draft (no_event p) (omega arith) l c) (omega arith);
        distinct = apart;
        few = omega (arith, distinct_few (size p) ms apart f.below_n);
        answer = f.answer;
        bytes = f.fits;
        short = f.short;
      }

listed_on : {ev bs n : ℕ} {d : List ℕ} (c : DraftOf ev bs n d) → known c.program ≡ true → {list list' : List ℕ} {r : ℕ} → ShortestFound d ev bs list r list' → CircleListed c.program list r list'
listed_on {ev} {bs} {n} {d} c k f = listed_in c.program d n c.drafted c.fits ((known_decides c.program).0 k) (rw (c.size_is, c.events_are) at f)

-- ---- the judging told

-- no circle, by the judgement
pub not_circular : (s ps d list : List ℕ) (a : Judgement) → JudgedAs s ps d a → (answer_of a ≡ 12 → ⊥) → {r : ℕ} → r ≡ answer_of a
    → Witnessed s ps list r list
not_circular s ps d list a h n {r} q =
    let e : r ≡ number_on s ps = judged_number s ps d a h q in
    record {
      other = λ m. ap (λ (x : ℕ). list_answer x list) e;
      circular = λ m. absurd (n (sym q ∙ e ∙ m));
    }

module _ (s ps : List ℕ) {ev bs : ℕ} {d : List ℕ} (w : CircleDraft s ps ev bs d) where
  pub turns_draft : (ev ≤ 32) × (bs ≤ 64) × AllInside d ev bs
  turns_draft = let c = w.drafts.draft in (draft_events c, draft_behaviours c, draft_inside c)

  -- the matrices are whole, and one of them has a circle
  pub turns_wide : Wide d ev bs × (cyclic_on d ev bs ≡ true)
  turns_wide =
      let c = w.drafts.draft in
      (λ e b. rw (c.size_is, matrix_is c.program d w.drafts.nodes e c.fits c.drafted (omega (arith, draft_events c))) (length_matrix_of c.program e), w.cycles)

  -- what is found is the sheet's
  pub found_listed : {list list' : List ℕ} {r : ℕ} → ShortestFound d ev bs list r list' → Witnessed s ps list r list'
  found_listed {list} {list'} {r} f =
      let o = w.drafts in
      record {
        other = λ m. absurd (m (turns_number s ps w));
        circular = λ m. record {
          each_sheet = λ x e fits.
              let read : got x [] ≡ got o.sheet [] = sym (rw e at (reads_back x fits)) ∙ o.read in
              let same : o.sheet ≡ x = cc in
              subst (λ (p : Program). CircleListed p list r list') (o.own ∙ ap (program_of ps) same) (listed_on o.draft o.names f);
        };
      }
