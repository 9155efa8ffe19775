-- The reader's function for an active or a row is its value, who may see it and its handlers, one after the other; and
-- behind a body there are no more tokens than before it.
use Rattle.lib_base.proofs.Prelude.{ℕ, ◌<◌, suc, zero, ◌≡◌, sym, List, [], ◌∷◌, length, eqb, arith}
use Rattle.lib_base.proofs.Tools.{by_test}
use Rattle.source_language.specs.Tokens.{SheetToken, equals, on_word}
use Rattle.source_language.specs.Text.{TextConstant, Reaction, Body, TextBehaviour, behaviour}
use Rattle.source_language.specs.Limits.{with_reaction}
use Rattle.source_language.specs.Reader.{Phrased, got, then_phrase, sign_at, value_of, formula_of, seen_of, many_of, reaction_of, read_reactions, passive_declared, state_of}
use Rattle.source_declarations.proofs.Many.{Leaves, leaves_then}
use Rattle.source_declarations.proofs.Shorter.{leaves_sign, leaves_value, leaves_seen}
use Rattle.source_handlers.proofs.Phrases.{leaves_formula}
use Rattle.source_handlers.proofs.Steps.{then_sign, leaves_reaction}
use Rattle.source_body.specs.Body.{start_declared}

-- ---- stages

-- handlers, and so the behaviour
abbrev pub with_handlers : List (List ℕ) → List ℕ → (TextConstant → List Reaction → Body) → TextConstant → List SheetToken → Phrased TextBehaviour
with_handlers es s make c vs =
    then_phrase (seen_of vs) (λ m ws. then_phrase (read_reactions es ws) (λ hs xs. got (behaviour s (make c hs) m) xs))

pub state_steps : (es : List (List ℕ)) (s : List ℕ) (make : TextConstant → List Reaction → Body) (ts : List SheetToken)
    → state_of es s make ts ≡ then_phrase (start_declared ts) (with_handlers es s make)
unfolding state_of
state_steps es s make ts = sym (then_sign (with_handlers es s make) equals value_of ts)

-- ---- behind a body there are no more tokens than before it

pub leaves_reactions : (es : List (List ℕ)) (k : ℕ) (ns : List (List ℕ)) (ts : List SheetToken) (b : ℕ) → length ts < b
    → Leaves b (many_of (λ c. eqb c on_word) (reaction_of es) with_reaction k ns ts)
unfolding many_of
leaves_reactions es zero ns ts b h = h
leaves_reactions es (suc k) ns ts b h =
    by_test (Leaves b) (eqb (sign_at ts) on_word)
    (λ e. leaves_then (length ts) b (reaction_of es ns ts) (λ x us. then_phrase (many_of (λ c. eqb c on_word) (reaction_of es) with_reaction k (with_reaction ns x) us) (λ xs vs. got (x ∷ xs) vs))
    (leaves_reaction es ns ts) (λ x us g.
    leaves_then b b (many_of (λ c. eqb c on_word) (reaction_of es) with_reaction k (with_reaction ns x) us) (λ xs vs. got (x ∷ xs) vs)
    (leaves_reactions es k (with_reaction ns x) us b (omega arith)) (λ xs vs i. i)))
    (λ e. h)

pub leaves_state : (es : List (List ℕ)) (s : List ℕ) (make : TextConstant → List Reaction → Body) (ts : List SheetToken) (b : ℕ) → length ts < b → Leaves b (state_of es s make ts)
unfolding state_of
leaves_state es s make ts b h =
    leaves_sign b equals _ ts (λ us g.
    leaves_then (length us) b (value_of us) _ (leaves_value us) (λ c vs i.
    leaves_then (suc (length vs)) b (seen_of vs) _ (leaves_seen vs) (λ m ws j.
    leaves_then b b (read_reactions es ws) _ (leaves_reactions es (length ws) [] ws b (omega arith)) (λ hs xs k. k))))

pub leaves_passive : (s : List ℕ) (ts : List SheetToken) (b : ℕ) → length ts < b → Leaves b (passive_declared s ts)
unfolding passive_declared
leaves_passive s ts b h =
    leaves_sign b equals _ ts (λ us g.
    leaves_then (length us) b (formula_of us) _ (leaves_formula us) (λ e vs i.
    leaves_then (suc (length vs)) b (seen_of vs) _ (leaves_seen vs) (λ m ws j. omega arith)))
