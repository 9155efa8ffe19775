-- Endings: who may see a behaviour is read back from the end of its value, and what is read there is such an ending
-- (02, M-107). By the reader's tests in turn.
use Rattle.lib_base.proofs.Prelude.{ℕ, ◌≤◌, ◌<◌, ◌≡◌, refl, ◌∙◌, sym, ap, true, Option, some, none, List, [], ◌∷◌, ◌++◌}
use Rattle.lib_base.proofs.Prelude.{get_or, eqb, eqb-true, arith}
use Rattle.lib_base.proofs.Tools.{by_test}
use Rattle.spec_language.specs.Sheet.{Item, Entry}
use Rattle.spec_language.specs.Grammar.{field, encode_viewer, ByteFits}
use Rattle.spec_language.specs.Reading.{Got, bad, got, sized, filling, field_at, entry, ending_in}
use Rattle.spec_grammar.proofs.Fields.{Bytes, field-reads, field_of, field_bytes_law}
use Rattle.spec_grammar.proofs.Results.{Says, one_byte, then_of, sized_of, whole_of}
use Rattle.spec_grammar.proofs.Handlers.{stops}

-- ---- reading back

-- handlers stop before it
pub stops_there : (m : Option ℕ) → stops (encode_viewer m) ≡ true
stops_there none = refl
stops_there (some m) = refl

pub ending-reads : (x : Item) (m : Option ℕ) → ending_in x (encode_viewer m) ≡ got (entry x m) []
ending-reads x none = refl
ending-reads x (some m) = rw (field-reads (eqb 8) 8 (m ∷ []) [] (λ t v. sized 1 v (got (get_or v 0 0) [])) refl)

-- ---- what is read

abbrev SaysViewer : List ℕ → Got ℕ → Type 0
SaysViewer = Says (λ m. field 8 (m ∷ [])) (λ m. m < 256)

viewer_says : (s : List ℕ) → SaysViewer s (field_at (eqb 8) s (λ t v. sized 1 v (got (get_or v 0 0) [])))
viewer_says s =
    field_of (SaysViewer s) (eqb 8) s _ (λ m a b. (a, b))
    (λ t v rest due h. sized_of (λ (g : Got ℕ). SaysViewer s (filling g rest)) 1 v _ (omega arith)
    (λ z b.
    let p : s ≡ field 8 v ++ rest = rw (sym (eqb-true 8 t due)) at (h b) in
    let q : s ≡ field 8 (get_or v 0 0 ∷ []) ++ rest = p ∙ ap (λ (u : List ℕ). field 8 u ++ rest) (one_byte v z) in
    (q, (field_bytes_law 8 (get_or v 0 0 ∷ []) rest s b q).0.0)))

pub ending_of : (P : Got Entry → Type 0) (x : Item) (rest : List ℕ) → ((m : ℕ) → 4 ≤ m → m ≤ 10 → P (bad m))
    → (v : List ℕ) → ((m : Option ℕ) → (Bytes v → (v ≡ encode_viewer m) × ByteFits m) → P (got (entry x m) rest)) → P (filling (ending_in x v) rest)
ending_of P x rest faulty v good =
    by_test (λ (g : Got Entry). P (filling g rest)) (eqb (get_or v 0 0) 8)
    (λ d. then_of (λ (g : Got Entry). P (filling g rest)) (SaysViewer v) _ (λ m h. faulty m h.0 h.1)
    (λ m left h. whole_of P left _ (faulty 6 (omega arith) (omega arith))
    (λ y. good (some m) (λ b. let r = h b in (rw y at r.0, r.1))))
    (field_at (eqb 8) v (λ t v. sized 1 v (got (get_or v 0 0) []))) (viewer_says v))
    (λ d. whole_of P v _ (faulty 6 (omega arith) (omega arith)) (λ y. good none (λ b. (y, tt))))
