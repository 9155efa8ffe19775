-- A passive, an active and a row from behind their name and count on, stage by stage: the answers of `passive_at`,
-- `state_with`, `state_at` and `kind_at`.
use Rattle.std.specs.Prelude.{Ok, Err}
use Rattle.std.specs.Prelude as Code
use Rattle.source_coding.specs.declared.faults.Fault.{Fault}
use Rattle.source_due.specs.Due.{found}
use Rattle.source_field.specs.Formula.{formula_done}
use Rattle.source_declarations.specs.Players.{given}
use Rattle.source_handlers.specs.Parts.{PartDue, part}
use Rattle.lib_base.proofs.Prelude.{ℕ, ◌≤◌, ◌<◌, ◌+◌, ◌≡◌, refl, List, ◌∷◌, ◌++◌, length, eqb, ne_eqb, eqb-true, []}
use Rattle.lib_base.proofs.Prelude.{eq-eqb, arith}
use Rattle.lib_base.specs.Basics.{pick}
use Rattle.lib_base.proofs.Tools.{split}
use Rattle.spec_language.specs.Sheet.{Clause, Item, formula, state, row}
use Rattle.spec_language.specs.Grammar.{tag_of, encode_expr, encode_item, encode_handlers}
use Rattle.source_language.specs.Tokens.{SheetToken, sign, equals, passive_word}
use Rattle.source_language.specs.Text.{TextConstant, Phrase, Reaction, passive, TextEvent, TextBehaviour, behaviour}
use Rattle.source_language.specs.Faults.{outside, fine, and_then}
use Rattle.source_language.specs.Limits.{after_all, with_event}
use Rattle.source_language.specs.Meaning.{NameMeaning, constant_word, term_of, clauses_of, item_of}
use Rattle.source_language.specs.Reader.{Phrased, got, then_phrase, place_at, sign_at, past_sign, formula_of, seen_of, read_reactions, passive_declared}
use Rattle.source_coding.specs.FaultWords.{fault_of}
use Rattle.source_coding.specs.Places.{tokens_from}
use Rattle.source_coding.specs.Sizes.{phrase_size, reactions_size, body_size}
use Rattle.source_field.specs.Formula.{FormulaRead}
use Rattle.source_declarations.specs.Players.{RightsRead}
use Rattle.sheet_write.specs.Writes.{fitted, as_field, viewer_bytes, start_bytes}
use Rattle.sheet_write.proofs.Laws.{none_fitted}
use Rattle.source_handlers.specs.Parts.{Coding, PartAgrees, PartWithin, DueRead}
use Rattle.source_handlers.specs.Handlers.{handlers_coding, HandlersRead}
use Rattle.source_handlers.proofs.Events.{past_there}
use Rattle.source_handlers.proofs.Stages.{due_fails, due_goes, formula_fails, formula_goes}
use Rattle.source_body.specs.Body.{behaviour_coding, body_tag, body_made, start_declared, StartWordIs, StateRead, PassiveRead, StateDeclared, KindRead, StateWithin}
use Rattle.source_body.proofs.Steps.{with_handlers, state_steps}
use Rattle.source_body.proofs.Stages.{rights_fail, rights_go, list_fails, list_goes}
use Rattle.source_body.proofs.Written.{entry_written}

-- ---- an active or a row

module _ (es : List TextEvent) (find : List ℕ → NameMeaning) (c : ℕ) (v : TextConstant) where
  abbrev made_item : List Clause → Item
  made_item cs = pick (eqb c 0) (state (constant_word v) cs) (row c (constant_word v) cs)

  made_item_law : (hs : List Reaction) → item_of es find (body_made c v hs) ≡ and_then (clauses_of es find c hs) (λ cs. fine (made_item cs))
  made_item_law hs =
      split (eqb c 0)
      (λ e. let q : c ≡ 0 = eqb-true c 0 e in rw q refl)
      (λ e. rw e refl)

  made_size : (start : ℕ) (hs : List Reaction) → body_size (body_made c v hs) ≡ length (start_bytes c start) + reactions_size hs
  made_size start hs = split (eqb c 0) (λ e. rw e refl) (λ e. rw e refl)

  made_tag : (cs : List Clause) → tag_of (made_item cs) ≡ body_tag c
  made_tag cs = split (eqb c 0) (λ e. rw e refl) (λ e. rw e refl)

  made_code : (start : ℕ) → start ≡ constant_word v → (cs : List Clause) → encode_item (made_item cs) ≡ start_bytes c start ++ encode_handlers cs
  made_code start h cs = rw h (split (eqb c 0) (λ e. rw e refl) (λ e. rw e refl))

module _ (text : List ℕ) (find : List ℕ → NameMeaning) (events : List ℕ) (c start bits at n m : ℕ) (o : List ℕ) where
  pub state_fails : (q p : List ℕ) (w : Fault) → HandlersRead text find c events at m (fitted o (n + 3) (start_bytes c start)) q (Err w)
      → StateRead text find events c start bits at n o p (Err w)
  state_fails q p w h es held s v r hv hb =
      list_fails (handlers_coding es find c) (behaviour_coding es find) text m n (fitted o (n + 3) (start_bytes c start)) q o p (λ hs us. got (behaviour s (body_made c v hs) r) us) w
      (read_reactions (after_all with_event [] es) (tokens_from text at)) (h es held)

  pub state_done : (p : List ℕ) (to end stop : ℕ) (w : Code.Option Fault) → HandlersRead text find c events at m (fitted o (n + 3) (start_bytes c start)) p (part to end w)
      → m ≡ n + 3 + length (start_bytes c start) → length p ≡ length o → length o ≤ 8192 → stop ≡ end + length (viewer_bytes bits)
      → StateRead text find events c start bits at n o (as_field (body_tag c) n stop (fitted p end (viewer_bytes bits))) (part to stop w)
  state_done p to end stop w h hm l few hs es held s v r hv hb =
      list_goes (handlers_coding es find c) (behaviour_coding es find) text m n (fitted o (n + 3) (start_bytes c start)) p o
      (as_field (body_tag c) n stop (fitted p end (viewer_bytes bits))) (λ hs us. got (behaviour s (body_made c v hs) r) us) to end w (part to stop w)
      (read_reactions (after_all with_event [] es) (tokens_from text at)) (h es held) (λ rs us g.
      entry_written encode_handlers (made_item es find c v) (body_tag c) (start_bytes c start) (made_tag es find c v) (made_code es find c v start hv) es find text s (body_made c v rs) r
      (clauses_of es find c rs) (reactions_size rs) n m to end stop w bits o p us (made_item_law es find c v rs) (made_size es find c v start rs) hb hm g.size g.names g.onward
      g.bytes l few hs)

module _ (text : List ℕ) (find : List ℕ → NameMeaning) (events : List ℕ) (c at n : ℕ) (o : List ℕ) where
  pub start_refused : (p : List ℕ) (w : Fault) → DueRead StartWordIs text (Err w) (start_declared (tokens_from text at)) → StateDeclared text find events c at n o p (Err w)
  start_refused p w h es held s =
      rw (state_steps (after_all with_event [] es) s (body_made c) (tokens_from text at))
      (due_fails (behaviour_coding es find) text n o p (with_handlers (after_all with_event [] es) s (body_made c)) StartWordIs w (start_declared (tokens_from text at)) h)

  module _ (i start next : ℕ) (started : DueRead StartWordIs text (found i start next) (start_declared (tokens_from text at))) where
    pub seen_refused : (p : List ℕ) (w : Fault) → RightsRead text (Err w) (seen_of (tokens_from text next)) → StateDeclared text find events c at n o p (Err w)
    seen_refused p w h es held s =
        rw (state_steps (after_all with_event [] es) s (body_made c) (tokens_from text at))
        (due_goes (behaviour_coding es find) text n o p (with_handlers (after_all with_event [] es) s (body_made c)) StartWordIs i start next (Err w) (start_declared (tokens_from text at)) started (λ v z.
        rights_fail (behaviour_coding es find) text n o p _ w (seen_of (tokens_from text next)) h))

    pub state_read : (p : List ℕ) (to bits : ℕ) (r : PartDue) → RightsRead text (given to bits) (seen_of (tokens_from text next)) → StateRead text find events c start bits to n o p r
        → StateDeclared text find events c at n o p r
    state_read p to bits r h g es held s =
        rw (state_steps (after_all with_event [] es) s (body_made c) (tokens_from text at))
        (due_goes (behaviour_coding es find) text n o p (with_handlers (after_all with_event [] es) s (body_made c)) StartWordIs i start next r (start_declared (tokens_from text at)) started (λ v z.
        rights_go (behaviour_coding es find) text n o p _ to bits r (seen_of (tokens_from text next)) h (λ m y. g es held s v m z y)))

-- ---- a passive

part_unsigned : {A B : Type 0} (k : Coding A B) (text : List ℕ) (n : ℕ) (o p : List ℕ) (c : ℕ) (f : List SheetToken → Phrased A) (w : Fault) (ts : List SheetToken)
    → (sign_at ts ≡ c → ⊥) → w ≡ fault_of outside (place_at ts) → PartAgrees k text n o p (Err w) (past_sign c f ts)
unfolding past_sign
part_unsigned k text n o p c f w ts h e = rw (ne_eqb (sign_at ts) c h) e

-- who may see it, and so the passive
abbrev seen_passive : List ℕ → Phrase → List SheetToken → Phrased TextBehaviour
seen_passive s e vs = then_phrase (seen_of vs) (λ m ws. got (behaviour s (passive e) m) ws)

module _ (text : List ℕ) (find : List ℕ → NameMeaning) (at n : ℕ) (o : List ℕ) where
  pub passive_unsigned : (p : List ℕ) (w : Fault) → (sign_at (tokens_from text at) ≡ equals → ⊥) × (w ≡ fault_of outside (place_at (tokens_from text at)))
      → PassiveRead text find at n o p (Err w)
  unfolding passive_declared
  passive_unsigned p w h es s = part_unsigned (behaviour_coding es find) text n o p equals _ w (tokens_from text at) h.0 h.1

  module _ (q next : ℕ) (here : tokens_from text at ≡ sign q equals ∷ tokens_from text next) where
    passive_steps : (s : List ℕ) → passive_declared s (tokens_from text at) ≡ then_phrase (formula_of (tokens_from text next)) (seen_passive s)
    unfolding passive_declared
    passive_steps s = past_there equals q (λ us. then_phrase (formula_of us) (seen_passive s)) (tokens_from text at) (tokens_from text next) here

    pub passive_formula : (r t p : List ℕ) (m : ℕ) (w : Fault) → FormulaRead text find 0 m r t (Err w) (formula_of (tokens_from text next)) → PassiveRead text find at n o p (Err w)
    passive_formula r t p m w h es s =
        rw (passive_steps s) (formula_fails (behaviour_coding es find) text find 0 n m o p r t (seen_passive s) w (formula_of (tokens_from text next)) h)

    module _ (to depth end : ℕ) (w : Code.Option Fault) (t : List ℕ) (read : FormulaRead text find 0 (n + 3) o t (formula_done to depth end w) (formula_of (tokens_from text next))) where
      pub passive_unseen : (p : List ℕ) (u : Fault) → RightsRead text (Err u) (seen_of (tokens_from text to)) → PassiveRead text find at n o p (Err u)
      passive_unseen p u h es s =
          rw (passive_steps s)
          (formula_goes (behaviour_coding es find) text find 0 n (n + 3) o p o t (seen_passive s) to depth end w (Err u) (formula_of (tokens_from text next)) read (λ e us g.
          rw g.onward (rights_fail (behaviour_coding es find) text n o p (λ m ws. got (behaviour s (passive e) m) ws) u (seen_of (tokens_from text to)) h)))

      pub passive_done : (after bits stop : ℕ) → RightsRead text (given after bits) (seen_of (tokens_from text to)) → length t ≡ length o → length o ≤ 8192
          → stop ≡ end + length (viewer_bytes bits) → PassiveRead text find at n o (as_field 2 n stop (fitted t end (viewer_bytes bits))) (part after stop w)
      passive_done after bits stop h l few hs es s =
          rw (passive_steps s)
          (formula_goes (behaviour_coding es find) text find 0 n (n + 3) o (as_field 2 n stop (fitted t end (viewer_bytes bits))) o t (seen_passive s) to depth end w (part after stop w)
          (formula_of (tokens_from text next)) read (λ e us g.
          rw g.onward
          (rights_go (behaviour_coding es find) text n o (as_field 2 n stop (fitted t end (viewer_bytes bits))) (λ m ws. got (behaviour s (passive e) m) ws) after bits (part after stop w)
          (seen_of (tokens_from text to)) h (λ m y.
          entry_written encode_expr formula 2 [] (λ x. refl) (λ x. refl) es find text s (passive e) m (term_of find 0 e) (phrase_size e) n (n + 3) after end stop w bits o t
          (tokens_from text after) refl (omega arith) y (omega arith) g.size g.names refl (rw (none_fitted o (n + 3)) g.bytes) l few hs))))

-- ---- by the first word

module _ (text : List ℕ) (find : List ℕ → NameMeaning) (events : List ℕ) (c k at n : ℕ) (o p : List ℕ) (r : PartDue) where
  pub kind_passive : c ≡ passive_word → PassiveRead text find at n o p r → KindRead text find events c k at n o p r
  kind_passive e h es held s = rw (eq-eqb c passive_word e) (h es s)

  pub kind_state : (c ≡ passive_word → ⊥) → StateDeclared text find events k at n o p r → KindRead text find events c k at n o p r
  kind_state e h es held s = rw (ne_eqb c passive_word e) (h es held s)

-- the text before the handlers gives enough bytes
pub state_within : (long at next to n : ℕ) (r : PartDue) → at < next → next ≤ to → StateWithin long to n r → PartWithin long at n r
state_within long at next to n (Ok y) h g s = (omega arith, s.1, s.2, omega arith)
state_within long at next to n (Err w) h g s = tt
