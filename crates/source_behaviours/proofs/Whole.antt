-- A whole text, stage by stage: parameters, events, behaviours, and its end: the answers of `read_at`.
use Rattle.std.specs.Prelude.{Option, None, Some, Err}
use Rattle.source_coding.specs.declared.faults.Fault.{Fault}
use Rattle.lib_base.proofs.Prelude.{ℕ, ◌≤◌, ◌+◌, ◌≡◌, refl, ◌∙◌, ap, List, ◌∷◌, ◌++◌, map, length, take, []}
use Rattle.lib_base.proofs.Prelude.{length-take-le, eqb, arith}
use Rattle.lib_base.specs.Basics.{All}
use Rattle.lib_base.proofs.Tools.{split}
use Rattle.spec_language.specs.Grammar.{encode, encode_behaviours}
use Rattle.source_language.specs.Tokens.{SheetToken, end_sign}
use Rattle.source_language.specs.Text.{Parameter, TextEvent, TextBehaviour, Text, text}
use Rattle.source_language.specs.Faults.{OrFault, fault, fine}
use Rattle.source_language.specs.Limits.{after_all, with_parameter, with_event}
use Rattle.source_language.specs.Meaning.{NameMeaning}
use Rattle.source_language.specs.Reader.{Phrased, bad, got, then_phrase, sign_in, ending, text_ends, declarations_of, read_text}
use Rattle.source_coding.specs.FaultWords.{fault_in}
use Rattle.source_coding.specs.Places.{tokens_from, names_held}
use Rattle.source_coding.specs.Sizes.{behaviours_size}
use Rattle.source_declarations.specs.Declarations.{declared, parameters_declared, events_declared, ParametersHeld, EventsHeld, ParametersRead, EventsRead}
use Rattle.source_declarations.proofs.Held.{parameters_held}
use Rattle.source_behaviours.specs.Behaviours.{all_behaved, name_of_behaviour, BehavioursWritten, BehavioursAgree, behaviours_declared, BehavioursRead, EndFault}
use Rattle.source_behaviours.specs.Whole.{ReadingDue, read_so, TextWritten, TextRead}
use Rattle.source_behaviours.proofs.Known.{names_known_law}

-- ---- what is read from the beginning on

abbrev with_behaviours : List Parameter → List TextEvent → List SheetToken → Phrased Text
with_behaviours ps es vs = then_phrase (behaviours_declared (after_all with_event [] es) (after_all with_parameter [] ps) vs) (λ bs ws. got (text ps es bs) ws)

abbrev with_events : List Parameter → List SheetToken → Phrased Text
with_events ps us = then_phrase (events_declared us) (with_behaviours ps)

text_steps : (bytes : List ℕ) → read_text bytes ≡ ending (then_phrase (parameters_declared (tokens_from bytes 0)) with_events)
unfolding read_text declarations_of tokens_from
text_steps bytes = refl

-- ---- how many there are

pub parameters_few : (bytes old : List ℕ) (a count end : ℕ) (x : Phrased (List Parameter)) → ParametersRead bytes old (declared a count end) x → count ≤ 8
parameters_few bytes old a count end (bad k i) e = absurd e
parameters_few bytes old a count end (got ps us) e = e.few

-- ---- the end

module _ (bytes : List ℕ) (find : List ℕ → NameMeaning) (o p names starts : List ℕ) where
  abbrev Says : ReadingDue → OrFault Text → Type 0
  Says = TextRead bytes find o p names starts

  parameters_refused : (old : List ℕ) (w : Fault) (x : Phrased (List Parameter)) (h : List Parameter → List SheetToken → Phrased Text) → ParametersRead bytes old (Err w) x
      → Says (Err w) (ending (then_phrase x h))
  parameters_refused old w (bad k i) h e = e
  parameters_refused old w (got ps us) h e = absurd e

  parameters_onward : (old : List ℕ) (a count end : ℕ) (r : ReadingDue) (x : Phrased (List Parameter)) (h : List Parameter → List SheetToken → Phrased Text)
      → ParametersRead bytes old (declared a count end) x
      → ((ps : List Parameter) → ParametersHeld bytes old a count end ps (tokens_from bytes a) → Says r (ending (h ps (tokens_from bytes a)))) → Says r (ending (then_phrase x h))
  parameters_onward old a count end r (bad k i) h e g = absurd e
  parameters_onward old a count end r (got ps us) h e g = rw e.onward (g ps (rw e.onward at e))

  events_refused : (held : List ℕ) (n : ℕ) (q s : List ℕ) (w : Fault) (x : Phrased (List TextEvent)) (h : List TextEvent → List SheetToken → Phrased Text) → EventsRead bytes held n q s (Err w) x
      → Says (Err w) (ending (then_phrase x h))
  events_refused held n q s w (bad k i) h e = e
  events_refused held n q s w (got es us) h e = absurd e

  events_onward : (held : List ℕ) (n : ℕ) (q s : List ℕ) (a count end : ℕ) (r : ReadingDue) (x : Phrased (List TextEvent)) (h : List TextEvent → List SheetToken → Phrased Text)
      → EventsRead bytes held n q s (declared a count end) x
      → ((es : List TextEvent) → EventsHeld bytes held n q s a count end es (tokens_from bytes a) → Says r (ending (h es (tokens_from bytes a)))) → Says r (ending (then_phrase x h))
  events_onward held n q s a count end r (bad k i) h e g = absurd e
  events_onward held n q s a count end r (got es us) h e g = rw e.onward (g es (rw e.onward at e))

  behaviours_refused : (es : List TextEvent) (n : ℕ) (q s old : List ℕ) (params : ℕ) (t u : List ℕ) (w : Fault) (x : Phrased (List TextBehaviour)) (h : List TextBehaviour → List SheetToken → Phrased Text)
      → BehavioursAgree es find bytes n q s old params t u (Err w) x → Says (Err w) (ending (then_phrase x h))
  behaviours_refused es n q s old params t u w (bad k i) h e = e
  behaviours_refused es n q s old params t u w (got bs us) h e = absurd e

  behaviours_onward : (es : List TextEvent) (n : ℕ) (q s old : List ℕ) (params : ℕ) (t u : List ℕ) (to count end : ℕ) (w : Option Fault) (r : ReadingDue) (x : Phrased (List TextBehaviour))
      (h : List TextBehaviour → List SheetToken → Phrased Text) → BehavioursAgree es find bytes n q s old params t u (all_behaved to count end w) x
      → ((bs : List TextBehaviour) → BehavioursWritten es find bytes n q s old params t u to count end w bs (tokens_from bytes to) → Says r (ending (h bs (tokens_from bytes to))))
      → Says r (ending (then_phrase x h))
  behaviours_onward es n q s old params t u to count end w r (bad k i) h e g = absurd e
  behaviours_onward es n q s old params t u to count end w r (got bs us) h e g = rw e.part.onward (g bs (rw e.part.onward at e))

  -- the text does not end where it should
  end_refused : (w : Fault) (y : OrFault Text) → Some w ≡ fault_in y → Says (Err w) y
  end_refused w (fault k i) e = cc
  end_refused w (fine x) e = let z : ◌≡◌ {A = ℕ} 0 1 = cc in absurd (omega arith)

  -- it ends
  end_passed : (x : Text) (ts : List SheetToken) (r : ReadingDue) → None ≡ fault_in (text_ends x ts) → Says r (fine x) → Says r (text_ends x ts)
  end_passed x [] r e g = let z : ◌≡◌ {A = ℕ} 0 1 = cc in absurd (omega arith)
  end_passed x (t ∷ []) r e g = ends x t r e g
    where
      ends : (x : Text) (t : SheetToken) (r : ReadingDue) → None ≡ fault_in (text_ends x (t ∷ [])) → Says r (fine x) → Says r (text_ends x (t ∷ []))
      ends x t r e g = split (eqb (sign_in t) end_sign) (λ d. rw d g) (λ d. let y = rw d at e in let z : ◌≡◌ {A = ℕ} 0 1 = cc in absurd (omega arith))
  end_passed x (t ∷ u ∷ ts) r e g = let z : ◌≡◌ {A = ℕ} 0 1 = cc in absurd (omega arith)

  module _ (mid : List ℕ) (a taken m : ℕ) (first : ParametersRead bytes mid (declared a taken m) (parameters_declared (tokens_from bytes 0))) where
    pub events_fail : (held q s : List ℕ) (w : Fault) → EventsRead bytes held 0 q s (Err w) (events_declared (tokens_from bytes a)) → Says (Err w) (read_text bytes)
    events_fail held q s w h =
        rw (text_steps bytes)
        (parameters_onward mid a taken m (Err w) (parameters_declared (tokens_from bytes 0)) with_events first (λ ps g.
        events_refused held 0 q s w (events_declared (tokens_from bytes a)) (with_behaviours ps) h))

    module _ (held s : List ℕ) (b count n : ℕ) (second : EventsRead bytes held 0 o s (declared b count n) (events_declared (tokens_from bytes a))) (long : taken ≤ length mid) where
      third_stage : (r : ReadingDue)
          → ((ps : List Parameter) (es : List TextEvent) → ParametersHeld bytes mid a taken m ps (tokens_from bytes a) → EventsHeld bytes held 0 o s b count n es (tokens_from bytes b)
          → Says r (ending (then_phrase (behaviours_declared (after_all with_event [] es) (names_held bytes mid taken) (tokens_from bytes b)) (λ bs ws. got (text ps es bs) ws))))
          → Says r (read_text bytes)
      third_stage r f =
          rw (text_steps bytes)
          (parameters_onward mid a taken m r (parameters_declared (tokens_from bytes 0)) with_events first (λ ps g.
          events_onward held 0 o s b count n r (events_declared (tokens_from bytes a)) (with_behaviours ps) second (λ es h.
          rw (parameters_held bytes mid taken ps long g.named) at (f ps es g h))))

      pub behaviours_fail : (t u : List ℕ) (w : Fault) → BehavioursRead bytes find (take count held) b n s p mid taken t u (Err w) → Says (Err w) (read_text bytes)
      behaviours_fail t u w h =
          third_stage (Err w) (λ ps es g i.
          behaviours_refused es n s p mid taken t u w (behaviours_declared (after_all with_event [] es) (names_held bytes mid taken) (tokens_from bytes b)) (λ bs ws. got (text ps es bs) ws) (h es i.named))

      module _ (f total end : ℕ) (w : Option Fault) (third : BehavioursRead bytes find (take count held) b n s p mid taken names starts (all_behaved f total end w)) where
        pub end_fails : (v : Fault) → EndFault bytes f (Some v) → Says (Err v) (read_text bytes)
        end_fails v e =
            third_stage (Err v) (λ ps es g i.
            behaviours_onward es n s p mid taken names starts f total end w (Err v) (behaviours_declared (after_all with_event [] es) (names_held bytes mid taken) (tokens_from bytes b))
            (λ bs ws. got (text ps es bs) ws) (third es i.named) (λ bs j. end_refused v (text_ends (text ps es bs) (tokens_from bytes f)) (e (text ps es bs))))

        written_whole : (ps : List Parameter) (es : List TextEvent) (bs : List TextBehaviour) → ParametersHeld bytes mid a taken m ps (tokens_from bytes a)
            → EventsHeld bytes held 0 o s b count n es (tokens_from bytes b) → BehavioursWritten es find bytes n s p mid taken names starts f total end w bs (tokens_from bytes f)
            → length s ≡ length o → length names ≡ 72 → length starts ≡ 65 → All (λ k. k ≤ 64) starts → taken ≤ total → total ≤ taken + 64
            → TextWritten bytes find o p names starts end taken total w ps es bs
        unfolding encode
        written_whole ps es bs g i j l ln ls low more few =
            record {
              size = omega (arith, i.size, j.part.size);
              fault = j.part.names;
              written = λ xs e room.
                  let d : end ≡ n + behaviours_size bs = j.part.size in
                  j.part.bytes xs e (omega arith) ∙ ap (λ x. x ++ encode_behaviours xs) (i.written (omega arith));
              counted = omega (arith, g.few);
              usable = record {
                few_parameters = g.few;
                few_names = rw (length-take-le total names (omega (arith, g.few))) few;
                all_firsts = ls;
                low = low;
              };
              known = names_known_law bytes (take total names) taken starts ps bs (j.named ∙ ap (λ x. x ++ map name_of_behaviour bs) g.named) g.counted j.started j.told;
            }

        pub text_read : EndFault bytes f None → length s ≡ length o → length names ≡ 72 → length starts ≡ 65 → All (λ k. k ≤ 64) starts → taken ≤ total → total ≤ taken + 64
            → Says (read_so end taken total w) (read_text bytes)
        text_read e l ln ls low more few =
            third_stage (read_so end taken total w) (λ ps es g i.
            behaviours_onward es n s p mid taken names starts f total end w (read_so end taken total w) (behaviours_declared (after_all with_event [] es) (names_held bytes mid taken) (tokens_from bytes b))
            (λ bs ws. got (text ps es bs) ws) (third es i.named) (λ bs j.
            end_passed (text ps es bs) (tokens_from bytes f) (read_so end taken total w) (e (text ps es bs)) (written_whole ps es bs g i j l ln ls low more few)))

  pub parameters_fail : (old : List ℕ) (w : Fault) → ParametersRead bytes old (Err w) (parameters_declared (tokens_from bytes 0)) → Says (Err w) (read_text bytes)
  parameters_fail old w h = rw (text_steps bytes) (parameters_refused old w (parameters_declared (tokens_from bytes 0)) with_events h)
