-- Handlers: a list of handlers within its limits is read back after those already read, up to the end or a tag 08 (02,
-- M-107), and what is read is such a list. The reader's test against the handlers read so far is the grammar's "none
-- has two handlers", seen from the end; both go by induction on the list or the bound.
use Rattle.lib_base.proofs.Prelude.{ℕ, ◌≤◌, ◌<◌, suc, zero, ◌≡◌, refl, ◌∙◌, sym, true, false, Bool, ◌||◌, ◌≢◌, List, []}
use Rattle.lib_base.proofs.Prelude.{◌∷◌, ◌++◌, append-nil, length, get_or, length-append, eqb, ltb, leb, eqb·suc-zero}
use Rattle.lib_base.proofs.Prelude.{ne_eqb, eqb-true, ltb-false, eqb-false, lt-leb, leb-false, arith}
use Rattle.lib_base.specs.Basics.{pick}
use Rattle.lib_base.proofs.Tools.{by_test, neither}
use Rattle.spec_language.specs.Syntax.{Phase, immediate, later}
use Rattle.spec_language.specs.Sheet.{Term, Clause, clause}
use Rattle.spec_language.specs.Grammar.{field, encode_expr, encode_phase, encode_handler, encode_handlers, TermFits, NoClauseFor, ClausesFit}
use Rattle.spec_language.specs.Reading.{Got, bad, got, then, filling, byte_in, read_all, expr_at, handles, phase_of, handler_in}
use Rattle.spec_language.specs.Refusals.{off_scale, doubled}
use Rattle.spec_grammar.proofs.Fields.{Bytes, field-reads, field_of, field_bytes_law}
use Rattle.spec_grammar.proofs.Results.{Says, then_of, whole_of, byte_of, SaysMany, many-reads, many_says}
use Rattle.spec_grammar.proofs.Expressions.{SaysExpr, expr_alone, expr_says}

-- ---- limits, handler by handler from the front and from the end

-- one handler fits after those of hs
abbrev pub HandlerFits : ℕ → List Clause → Clause → Type 0
HandlerFits n hs (clause e φ x) = (e < n) × TermFits 16 x × (handles e hs ≡ false)

none_snoc : (f e : ℕ) (φ : Phase) (x : Term) (hs : List Clause) → NoClauseFor f hs → f ≢ e → NoClauseFor f (hs ++ (clause e φ x ∷ []))
none_snoc f e φ x [] h d = (d, tt)
none_snoc f e φ x (clause g ψ y ∷ hs) h d = (h.0, none_snoc f e φ x hs h.1 d)

fit_snoc : (n e : ℕ) (φ : Phase) (x : Term) (hs : List Clause) → ClausesFit n hs → HandlerFits n hs (clause e φ x) → ClausesFit n (hs ++ (clause e φ x ∷ []))
unfolding handles
fit_snoc n e φ x [] h k = (k.0, k.1, tt, tt)
fit_snoc n e φ x (clause f ψ y ∷ hs) h k =
    let r = neither (eqb e f) (handles e hs) k.2 in
    (h.0, h.1, none_snoc f e φ x hs h.2 (λ q. eqb-false e f r.0 (sym q)), fit_snoc n e φ x hs h.3 (k.0, k.1, r.1))

none_at : (f e : ℕ) (φ : Phase) (x : Term) (hs ks : List Clause) → NoClauseFor f (hs ++ (clause e φ x ∷ ks)) → f ≢ e
none_at f e φ x [] ks h = h.0
none_at f e φ x (clause g ψ y ∷ hs) ks h = none_at f e φ x hs ks h.1

fit_at : (n e : ℕ) (φ : Phase) (x : Term) (hs ks : List Clause) → ClausesFit n (hs ++ (clause e φ x ∷ ks)) → HandlerFits n hs (clause e φ x)
unfolding handles
fit_at n e φ x [] ks h = (h.0, h.1, refl)
fit_at n e φ x (clause f ψ y ∷ hs) ks h =
    let r = fit_at n e φ x hs ks h.3 in
    (r.0, r.1, rw (ne_eqb e f (λ q. none_at f e φ x hs ks h.2 (sym q))) r.2)

-- ---- reading back

handler-reads : (n : ℕ) (hs : List Clause) (h : Clause) (rest : List ℕ) → HandlerFits n hs h → handler_in n hs (encode_handler h ++ rest) ≡ got h rest
handler-reads n hs (clause e immediate x) rest k =
    field-reads (eqb 5) 5 (e ∷ 0 ∷ encode_expr x) rest _ refl ∙ rw (lt-leb n e k.0, k.2, expr_alone k.1)
handler-reads n hs (clause e later x) rest k =
    field-reads (eqb 5) 5 (e ∷ 1 ∷ encode_expr x) rest _ refl ∙ rw (lt-leb n e k.0, k.2, expr_alone k.1)

-- handlers go on until the end, or a tag 08
abbrev pub stops : List ℕ → Bool
stops s = eqb (length s) 0 || eqb (get_or s 0 0) 8

pub handler_goes : (h : Clause) (rest : List ℕ) → stops (encode_handler h ++ rest) ≡ false
handler_goes (clause e φ x) rest = rw (eqb·suc-zero (suc (suc (suc (suc (length (encode_expr x ++ rest)))))))

pub handlers_read : (k n : ℕ) (hs ks : List Clause) (rest : List ℕ) → stops rest ≡ true → length ks < k → ClausesFit n (hs ++ ks)
    → read_all stops (handler_in n) k hs (encode_handlers ks ++ rest) ≡ got (hs ++ ks) rest
unfolding encode_handlers
handlers_read k n = many-reads encode_handler encode_handlers refl (λ x xs. refl) stops (handler_in n) (ClausesFit n) handler_goes each k
  where
    each : (hs : List Clause) (h : Clause) (ks : List Clause) (rest : List ℕ) → ClausesFit n (hs ++ (h ∷ ks)) → handler_in n hs (encode_handler h ++ rest) ≡ got h rest
    each hs (clause e φ x) ks rest f = handler-reads n hs (clause e φ x) rest (fit_at n e φ x hs ks f)

-- as many bytes as handlers at least
pub many_handlers : (hs : List Clause) → length hs ≤ length (encode_handlers hs)
unfolding encode_handlers
many_handlers [] = omega arith
many_handlers (clause e φ x ∷ hs) =
    omega (arith, many_handlers hs, length-append (encode_expr x) (encode_handlers hs))

-- ---- what is read

phase_code : (φ : ℕ) → φ ≤ 1 → encode_phase (phase_of φ) ≡ φ
phase_code zero h = refl
phase_code (suc n) h = omega arith

module _ (n : ℕ) (hs : List Clause) (s : List ℕ) where
  abbrev SaysHandler : Got Clause → Type 0
  SaysHandler = Says encode_handler (HandlerFits n hs) s

  module _ (v rest : List ℕ) (h : Bytes s → s ≡ field 5 v ++ rest) where
    abbrev Filled : Got Clause → Type 0
    Filled g = SaysHandler (filling g rest)

    value_says : Filled (byte_in v (λ e v₁. pick (leb n e) (bad off_scale)
        (byte_in v₁ (λ φ v₂. pick (ltb 1 φ) (bad off_scale)
        (pick (handles e hs) (bad doubled)
        (then (expr_at 16 v₂) (λ x left. got (clause e (phase_of φ) x) left)))))))
    value_says =
        byte_of Filled v _ (omega arith)
        (λ e v₁ y. by_test Filled (leb n e) (λ d. omega arith)
        (λ d. byte_of Filled v₁ _ (omega arith)
        (λ φ v₂ z. by_test Filled (ltb 1 φ) (λ c. omega arith)
        (λ c. by_test Filled (handles e hs) (λ g. omega arith)
        (λ g. then_of Filled (SaysExpr 16 v₂) _ (λ m k. k)
        (λ x left k. whole_of SaysHandler left _ (omega arith)
        (λ u b.
        let q : s ≡ field 5 (e ∷ φ ∷ v₂) ++ rest = rw (y, z) at (h b) in
        let r = k (field_bytes_law 5 (e ∷ φ ∷ v₂) rest s b q).0.1.1 in
        (q ∙ rw (r.0, u, append-nil (encode_expr x), phase_code φ (ltb-false 1 φ c)), (leb-false n e d, r.1, g))))
        (expr_at 16 v₂) (expr_says 16 v₂))))))

  handler_says : SaysHandler (handler_in n hs s)
  handler_says = field_of SaysHandler (eqb 5) s _ (λ m a b. (a, b)) (λ t v rest due h. value_says v rest (λ b. rw (sym (eqb-true 5 t due)) at (h b)))

pub handlers_say : (k n : ℕ) (s : List ℕ) → SaysMany encode_handlers (ClausesFit n) stops [] s (read_all stops (handler_in n) k [] s)
unfolding encode_handlers
handlers_say k n s = many_says encode_handler encode_handlers refl (λ x xs. refl) stops (handler_in n) (ClausesFit n) (HandlerFits n) more (handler_says n) k [] s
  where
    more : (hs : List Clause) (h : Clause) → ClausesFit n hs → HandlerFits n hs h → ClausesFit n (hs ++ (h ∷ []))
    more hs (clause e φ x) f g = fit_snoc n e φ x hs f g
