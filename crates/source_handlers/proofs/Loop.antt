-- The loop over a behaviour's handlers: what it keeps (`Turn`), at the start, over a turn, and at its ends.
use Rattle.std.specs.Prelude.{Option, Err, None}
use Rattle.std.specs.Option.{option_or}
use Rattle.source_coding.specs.declared.faults.Fault.{Fault}
use Rattle.source_due.specs.Due.{Due, found}
use Rattle.source_handlers.specs.Parts.{part}
use Rattle.lib_base.proofs.Prelude.{ℕ, ◌≤◌, ◌<◌, ◌+◌, ◌*◌, ◌≡◌, refl, ◌∙◌, ap, true, Bool, List, ◌∷◌, ◌++◌, map, []}
use Rattle.lib_base.proofs.Prelude.{length, length-set, set, replicate, take-length, eqb, ne_eqb, arith}
use Rattle.lib_base.proofs.Tools.{by_test}
use Rattle.spec_language.specs.Syntax.{Phase, immediate, later}
use Rattle.source_language.specs.Tokens.{SheetToken, sign, colon, later_word, on_word}
use Rattle.source_language.specs.Text.{Phrase, Reaction, on, TextEvent}
use Rattle.source_language.specs.Faults.{Kind}
use Rattle.source_language.specs.Limits.{after_all, with_event, with_reaction}
use Rattle.source_language.specs.Meaning.{NameMeaning}
use Rattle.source_language.specs.Reader.{Phrased, bad, got, then_phrase, sign_at, tokens_after, past_sign, formula_of, body_declared, reaction_of, read_reactions}
use Rattle.source_coding.specs.FaultWords.{fault_of}
use Rattle.source_coding.specs.Places.{tokens_from, name_at, names_held, index_in}
use Rattle.source_declarations.specs.Declarations.{name_of_event}
use Rattle.source_declarations.proofs.Held.{events_held}
use Rattle.source_handlers.specs.Parts.{PartAgrees, DueRead}
use Rattle.source_handlers.specs.Handlers.{handler_coding, handlers_coding, handler_event, reaction_body, EventsMarked, EventNumbered, HandledEventRead, HandlerRead, HandlersRead}
use Rattle.source_handlers.proofs.Steps.{reaction_steps, leaves_reaction}
use Rattle.source_handlers.proofs.Names.{event_number_law, handled_none, handled_more}
use Rattle.source_handlers.proofs.Gather.{after_more, Gathered, gather_start, gather_turn, gather_over, gather_fault}
use Rattle.source_handlers.proofs.Written.{handlers_grow}

-- ---- a handler is for the event that it names

abbrev NamedSo : List ℕ → Phrased Reaction → Type 0
NamedSo s (bad k p) = Unit {0}
NamedSo s (got (on t φ e) us) = t ≡ s

formula_named : (s : List ℕ) (φ : Phase) (x : Phrased Phrase) → NamedSo s (then_phrase x (λ e us. got (on s φ e) us))
formula_named s φ (bad k p) = tt
formula_named s φ (got e us) = refl

declared_named : (s : List ℕ) (φ : Phase) (ts : List SheetToken) → NamedSo s (body_declared s φ ts)
unfolding past_sign
declared_named s φ ts = by_test (NamedSo s) (eqb (sign_at ts) colon) (λ e. formula_named s φ (formula_of (tokens_after ts))) (λ e. tt)

body_named : (s : List ℕ) (ts : List SheetToken) → NamedSo s (reaction_body s ts)
body_named s ts = by_test (NamedSo s) (eqb (sign_at ts) later_word) (λ e. declared_named s later (tokens_after ts)) (λ e. declared_named s immediate ts)

abbrev is_on : ℕ → Bool
is_on c = eqb c on_word

module _ (text : List ℕ) (find : List ℕ → NameMeaning) (c : ℕ) (events : List ℕ) (at n : ℕ) (o : List ℕ) where
  -- these handlers are read up to place f, of events whose names stand at `events`
  pub record SoFar (es : List TextEvent) (marks out : List ℕ) (f end : ℕ) (w : Option Fault) : Type 0 where
    pub done : List Reaction
    pub gathered : Gathered (handler_coding es find c) (handlers_coding es find c) (handlers_grow es find c) text n o is_on (reaction_of (after_all with_event [] es)) with_reaction [] at
        refl (leaves_reaction (after_all with_event [] es)) done out f end w
    pub marked : EventsMarked text events marks (after_all with_reaction [] done)

  pub record Turn (marks out : List ℕ) (f end : ℕ) (w : Option Fault) : Type 0 where
    pub so_far : (es : List TextEvent) → map (name_at text) events ≡ map name_of_event es → SoFar es marks out f end w
    pub kept : length out ≡ length o
    pub marks_all : length marks ≡ 33
    pub from : at ≤ f
    pub inside : f ≤ length text
    pub rising : n ≤ end
    pub bounded : end + at * 16 ≤ n + f * 16

  pub turn_start : at ≤ length text → Turn (replicate 33 0) o at n None
  unfolding after_all
  turn_start h =
      record {
        so_far = λ es k.
            record {
              done = [];
              gathered = gather_start (handler_coding es find c) (handlers_coding es find c) (handlers_grow es find c) text n o is_on (reaction_of (after_all with_event [] es)) with_reaction [] at
                  refl (leaves_reaction (after_all with_event [] es));
              marked = handled_none text events;
            };
        kept = refl;
        marks_all = refl;
        from = omega arith;
        inside = h;
        rising = omega arith;
        bounded = omega arith;
      }

  module _ (es : List TextEvent) (held : map (name_at text) events ≡ map name_of_event es) (marks out : List ℕ) (f end : ℕ) (w : Option Fault) (s : SoFar es marks out f end w) where
    abbrev evs : List (List ℕ)
    evs = after_all with_event [] es

    abbrev ns : List (List ℕ)
    ns = after_all with_reaction [] s.done

    all_held : names_held text events (length events) ≡ evs
    all_held = events_held text events (length events) es (omega arith) (rw (take-length events) held)

    over_so_far : (sign_at (tokens_from text f) ≡ on_word → ⊥) → PartAgrees (handlers_coding es find c) text n o out (part f end w) (read_reactions evs (tokens_from text at))
    over_so_far h =
        gather_over (handler_coding es find c) (handlers_coding es find c) (handlers_grow es find c) text n o is_on (reaction_of evs) with_reaction [] at refl (leaves_reaction evs) s.gathered
        (ne_eqb (sign_at (tokens_from text f)) on_word h)

    module _ (p next : ℕ) (here : tokens_from text f ≡ sign p on_word ∷ tokens_from text next) where
      starts : is_on (sign_at (tokens_from text f)) ≡ true
      starts = rw here

      steps : reaction_of evs ns (tokens_from text f) ≡ then_phrase (handler_event evs ns (tokens_from text next)) reaction_body
      steps = reaction_steps evs ns (tokens_from text f) ∙ rw here

      failed : (q : List ℕ) (k : Kind) (i : ℕ) → then_phrase (handler_event evs ns (tokens_from text next)) reaction_body ≡ bad k i
          → PartAgrees (handlers_coding es find c) text n o q (Err (fault_of k i)) (read_reactions evs (tokens_from text at))
      failed q k i e =
          gather_fault (handler_coding es find c) (handlers_coding es find c) (handlers_grow es find c) text n o is_on (reaction_of evs) with_reaction [] at refl (leaves_reaction evs) q s.gathered
          starts (steps ∙ e)

      event_failed : (q : List ℕ) (v : Fault) (x : Phrased (List ℕ)) → handler_event evs ns (tokens_from text next) ≡ x → DueRead (EventNumbered text events) text (Err v) x
          → PartAgrees (handlers_coding es find c) text n o q (Err v) (read_reactions evs (tokens_from text at))
      event_failed q v (bad k i) e d = rw d (failed q k i (ap (λ x. then_phrase x reaction_body) e))
      event_failed q v (got t us) e d = absurd d

      body_failed : (r q : List ℕ) (t : List ℕ) (v : Fault) (after : ℕ) (y : Phrased Reaction) → handler_event evs ns (tokens_from text next) ≡ got t (tokens_from text after)
          → reaction_body t (tokens_from text after) ≡ y → PartAgrees (handler_coding es find c) text end out r (Err v) y
          → PartAgrees (handlers_coding es find c) text n o q (Err v) (read_reactions evs (tokens_from text at))
      body_failed r q t v after (bad k i) e g d = rw d (failed q k i (ap (λ x. then_phrase x reaction_body) e ∙ g))
      body_failed r q t v after (got x us) e g d = absurd d

      event_then_failed : (r q : List ℕ) (i e after : ℕ) (v : Fault) (x : Phrased (List ℕ)) → handler_event evs ns (tokens_from text next) ≡ x
          → DueRead (EventNumbered text events) text (found i e after) x → HandlerRead text find c e after end out r (Err v)
          → PartAgrees (handlers_coding es find c) text n o q (Err v) (read_reactions evs (tokens_from text at))
      event_then_failed r q i e after v (bad k j) g d h = absurd d
      event_then_failed r q i e after v (got t us) g d h =
          body_failed r q t v after (reaction_body t (tokens_from text after)) (g ∙ ap (got t) d.0) refl (h es t (d.1 ∙ event_number_law text events es t held))

      body_done : (q : List ℕ) (t : List ℕ) (after to stop : ℕ) (v : Option Fault) (y : Phrased Reaction) → handler_event evs ns (tokens_from text next) ≡ got t (tokens_from text after)
          → reaction_body t (tokens_from text after) ≡ y → NamedSo t y → PartAgrees (handler_coding es find c) text end out q (part to stop v) y → index_in text events t < length events
          → length events < length marks → end ≤ stop → length out ≡ length o → SoFar es (set marks (index_in text events t) 1) q to stop (option_or w v)
      body_done q t after to stop v (bad k i) e g m d b a h l = absurd d
      body_done q t after to stop v (got (on u φ x) us) e g m d b a h l =
          record {
            done = s.done ++ (on u φ x ∷ []);
            gathered = gather_turn (handler_coding es find c) (handlers_coding es find c) (handlers_grow es find c) text n o is_on (reaction_of evs) with_reaction [] at refl (leaves_reaction evs)
                s.gathered starts (steps ∙ ap (λ z. then_phrase z reaction_body) e ∙ g) d h l;
            marked = rw (after_more with_reaction [] s.done (on u φ x), m) (handled_more text events marks ns t s.marked b a);
          }

      event_then_done : (q : List ℕ) (i e after to stop : ℕ) (v : Option Fault) (x : Phrased (List ℕ)) → handler_event evs ns (tokens_from text next) ≡ x
          → DueRead (EventNumbered text events) text (found i e after) x → HandlerRead text find c e after end out q (part to stop v) → e < length events
          → length events < length marks → end ≤ stop → length out ≡ length o → SoFar es (set marks e 1) q to stop (option_or w v)
      event_then_done q i e after to stop v (bad k j) g d h b a m l = absurd d
      event_then_done q i e after to stop v (got t us) g d h b a m l =
          rw d.1
          (body_done q t after to stop v (reaction_body t (tokens_from text after)) (g ∙ ap (got t) d.0) refl (body_named t (tokens_from text after))
          (h es t (d.1 ∙ event_number_law text events es t held)) (omega (arith, d.1)) a m l)

  module _ {marks out : List ℕ} {f end : ℕ} {w : Option Fault} (t : Turn marks out f end w) where
    pub turn_over : (sign_at (tokens_from text f) ≡ on_word → ⊥) → HandlersRead text find c events at n o out (part f end w)
    turn_over h es held = over_so_far es held marks out f end w (t.so_far es held) h

    module _ (p next : ℕ) (here : tokens_from text f ≡ sign p on_word ∷ tokens_from text next) where
      due_held : (es : List TextEvent) (held : map (name_at text) events ≡ map name_of_event es) (r : Due) → HandledEventRead text events marks next r
          → DueRead (EventNumbered text events) text r (handler_event (after_all with_event [] es) (after_all with_reaction [] (t.so_far es held).done) (tokens_from text next))
      due_held es held r d =
          rw (all_held es held marks out f end w (t.so_far es held)) at (d (after_all with_reaction [] (t.so_far es held).done) (t.so_far es held).marked)

      pub turn_event_fault : (q : List ℕ) (v : Fault) → HandledEventRead text events marks next (Err v) → HandlersRead text find c events at n o q (Err v)
      turn_event_fault q v d es held = event_failed es held marks out f end w (t.so_far es held) p next here q v _ refl (due_held es held (Err v) d)

      pub turn_body_fault : (r q : List ℕ) (i e after : ℕ) (v : Fault) → HandledEventRead text events marks next (found i e after) → HandlerRead text find c e after end out r (Err v)
          → HandlersRead text find c events at n o q (Err v)
      turn_body_fault r q i e after v d h es held =
          event_then_failed es held marks out f end w (t.so_far es held) p next here r q i e after v _ refl (due_held es held (found i e after) d) h

      pub turn_on : (q : List ℕ) (i e after to stop : ℕ) (v : Option Fault) → HandledEventRead text events marks next (found i e after) → HandlerRead text find c e after end out q (part to stop v)
          → e < length events → length events ≤ 32 → f ≤ to → to ≤ length text → end ≤ stop → stop + f * 16 ≤ end + to * 16 → length q ≡ length out
          → Turn (set marks e 1) q to stop (option_or w v)
      turn_on q i e after to stop v d h b few forth within more bound l =
          record {
            so_far = λ es held.
                event_then_done es held marks out f end w (t.so_far es held) p next here q i e after to stop v _ refl (due_held es held (found i e after) d) h b (omega (arith, t.marks_all)) more t.kept;
            kept = l ∙ t.kept;
            marks_all = length-set marks e 1 ∙ t.marks_all;
            from = omega (arith, t.from);
            inside = within;
            rising = omega (arith, t.rising);
            bounded = omega (arith, t.bounded);
          }
