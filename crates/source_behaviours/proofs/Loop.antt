-- The loop over behaviours: what it keeps (`Turn`), at the start, over a turn, and at its ends.
use Rattle.std.specs.Prelude.{Option, None, Err}
use Rattle.source_coding.specs.declared.faults.Fault.{Fault}
use Rattle.lib_base.proofs.Prelude.{ℕ, ◌≤◌, ◌<◌, ◌+◌, ◌-◌, suc, zero, ◌*◌, ◌≡◌, refl, ◌∙◌, sym, ap, true, false, List, []}
use Rattle.lib_base.proofs.Prelude.{◌∷◌, ◌++◌, map, append_assoc, append-nil, map-append, length, take, length-set}
use Rattle.lib_base.proofs.Prelude.{set, length-append, get_or-set_other, get_or-set_same, take_all}
use Rattle.lib_base.proofs.Prelude.{take-append-le, eqb, eqb-true, eqb-false, arith}
use Rattle.lib_base.specs.Basics.{All}
use Rattle.lib_base.proofs.Tools.{split, all_join}
use Rattle.source_language.specs.Tokens.{sign}
use Rattle.source_language.specs.Text.{TextEvent, TextBehaviour, behaviour}
use Rattle.source_language.specs.Faults.{Kind}
use Rattle.source_language.specs.Limits.{after_all, with_event, taken, with_behaviour}
use Rattle.source_language.specs.Meaning.{NameMeaning}
use Rattle.source_language.specs.Reader.{Phrased, bad, got, sign_at, behaviour_declared, behaviour_begins}
use Rattle.std.specs.Option.{option_or}
use Rattle.source_coding.specs.Places.{tokens_from, name_at, names_held}
use Rattle.source_declarations.specs.Declarations.{name_of_event}
use Rattle.source_declarations.proofs.Many.{many_faults, many_over}
use Rattle.source_declarations.proofs.Held.{held_more, named_more}
use Rattle.source_handlers.proofs.Gather.{after_more, Gathered, gather_start, gather_turn}
use Rattle.source_body.specs.Body.{behaviour_coding}
use Rattle.source_behaviours.specs.Behaviours.{behaved, all_behaved, behaviours_coding, name_of_behaviour, cells_of_behaviour, RowTold, cells_of_all, BehaviourAgrees, BehaviourRead, StartsAre, BehavioursAgree, behaviours_declared, BehavioursRead}
use Rattle.source_behaviours.proofs.Steps.{leaves_behaviour}
use Rattle.source_behaviours.proofs.Grow.{behaviours_grow}

pub quiet : behaviour_begins 0 ≡ false
unfolding behaviour_begins
quiet = refl

pub all_set : (P : ℕ → Type 0) (l : List ℕ) (i v : ℕ) → All P l → P v → All P (set l i v)
all_set P [] i v a h = tt
all_set P (x ∷ l) zero v a h = (h, a.1)
all_set P (x ∷ l) (suc i) v a h = (a.0, all_set P l i v a.1 h)

with_behaviour_law : (ns : List (List ℕ)) (i : ℕ) (x : TextBehaviour) → with_behaviour (taken ns i) x ≡ taken (name_of_behaviour x ∷ ns) (i + cells_of_behaviour x)
with_behaviour_law ns i (behaviour s b m) = refl

cells_more : (bs : List TextBehaviour) (x : TextBehaviour) → cells_of_all (bs ++ (x ∷ [])) ≡ cells_of_all bs + cells_of_behaviour x
unfolding cells_of_all
cells_more [] x = omega arith
cells_more (b ∷ bs) x = omega (arith, cells_more bs x)

starts_none : (starts : List ℕ) → 0 < length starts → StartsAre (set starts 0 0) []
unfolding cells_of_all
starts_none starts h zero g = get_or-set_same starts 0 0 0 h
starts_none starts h (suc k) g = absurd (omega arith)

starts_more : (starts : List ℕ) (bs : List TextBehaviour) (x : TextBehaviour) (j i : ℕ) → StartsAre starts bs → j ≡ length bs + 1 → j < length starts
    → i ≡ cells_of_all bs + cells_of_behaviour x → StartsAre (set starts j i) (bs ++ (x ∷ []))
starts_more starts bs x j i s h l e k g =
    let len : length (bs ++ (x ∷ [])) ≡ length bs + 1 = length-append bs (x ∷ []) in
    split (eqb k j)
    (λ d.
    let q : k ≡ j = eqb-true k j d in
    rw (q, get_or-set_same starts j i 0 l)
    (e ∙ sym (cells_more bs x) ∙ ap cells_of_all (sym (take_all j (bs ++ (x ∷ [])) (omega arith)))))
    (λ d.
    let q : k ≡ j → ⊥ = eqb-false k j d in
    let m : k ≤ length bs = omega arith in
    rw (get_or-set_other starts j k i 0 q, take-append-le k bs (x ∷ []) m) (s k m))

module _ (text : List ℕ) (find : List ℕ → NameMeaning) (events : List ℕ) (at n : ℕ) (o old : List ℕ) (first : ℕ) where
  pub record SoFar (es : List TextEvent) (names starts out : List ℕ) (f count i end : ℕ) (w : Option Fault) : Type 0 where
    pub done : List TextBehaviour
    pub gathered : Gathered (behaviour_coding es find) (behaviours_coding es find) (behaviours_grow es find) text n o behaviour_begins (behaviour_declared (after_all with_event [] es))
        with_behaviour (taken (names_held text old first) 0) at quiet (leaves_behaviour (after_all with_event [] es)) done out f end w
    pub taken_so : after_all with_behaviour (taken (names_held text old first) 0) done ≡ taken (names_held text names count) i
    pub named : map (name_at text) (take count names) ≡ map (name_at text) (take first old) ++ map name_of_behaviour done
    pub counted : count ≡ first + length done
    pub summed : i ≡ cells_of_all done
    pub started : StartsAre starts done
    pub told : All RowTold done

  pub record Turn (names starts out : List ℕ) (f count i end : ℕ) (w : Option Fault) : Type 0 where
    pub so_far : (es : List TextEvent) → map (name_at text) events ≡ map name_of_event es → SoFar es names starts out f count i end w
    pub kept : length out ≡ length o
    pub names_all : length names ≡ 72
    pub starts_all : length starts ≡ 65
    pub low : All (λ k. k ≤ 64) starts
    pub few_first : first ≤ 8
    pub some : first ≤ count
    pub few : count ≤ first + i
    pub room : i ≤ 64
    pub from : at ≤ f
    pub inside : f ≤ length text
    pub rising : n ≤ end
    pub bounded : end + at * 16 ≤ n + f * 16

  pub turn_start : (starts : List ℕ) → at ≤ length text → length old ≡ 72 → first ≤ 8 → length starts ≡ 65 → All (λ k. k ≤ 64) starts → Turn old (set starts 0 0) o at first 0 n None
  unfolding after_all cells_of_all
  turn_start starts h l b s a =
      record {
        so_far = λ es k.
            record {
              done = [];
              gathered = gather_start (behaviour_coding es find) (behaviours_coding es find) (behaviours_grow es find) text n o behaviour_begins (behaviour_declared (after_all with_event [] es))
                  with_behaviour (taken (names_held text old first) 0) at quiet (leaves_behaviour (after_all with_event [] es));
              taken_so = refl;
              named = sym (append-nil (map (name_at text) (take first old)));
              counted = omega arith;
              summed = refl;
              started = starts_none starts (omega arith);
              told = tt;
            };
        kept = refl;
        names_all = l;
        starts_all = length-set starts 0 0 ∙ s;
        low = all_set (λ k. k ≤ 64) starts 0 0 a (omega arith);
        few_first = b;
        some = omega arith;
        few = omega arith;
        room = omega arith;
        from = omega arith;
        inside = h;
        rising = omega arith;
        bounded = omega arith;
      }

  module _ (es : List TextEvent) (names starts out : List ℕ) (f count i end : ℕ) (w : Option Fault) (s : SoFar es names starts out f count i end w) where
    abbrev evs : List (List ℕ)
    evs = after_all with_event [] es

    over_read : (x : Phrased (List TextBehaviour)) → x ≡ got s.done (tokens_from text f) → BehavioursAgree es find text n o out old first names starts (all_behaved f count end w) x
    over_read x e = rw e (record { part = s.gathered.written; named = s.named; started = s.started; told = s.told })

    module _ (q c next : ℕ) (here : tokens_from text f ≡ sign q c ∷ tokens_from text next) (begins : behaviour_begins c ≡ true) where
      starts_here : behaviour_begins (sign_at (tokens_from text f)) ≡ true
      starts_here = rw here begins

      reader_here : behaviour_declared evs (after_all with_behaviour (taken (names_held text old first) 0) s.done) (tokens_from text f)
          ≡ behaviour_declared evs (taken (names_held text names count) i) (sign q c ∷ tokens_from text next)
      reader_here = rw (s.taken_so, here)

      one_refused : (r t u : List ℕ) (v : Fault) (y : Phrased TextBehaviour) → behaviour_declared evs (taken (names_held text names count) i) (sign q c ∷ tokens_from text next) ≡ y
          → BehaviourAgrees es find text end out r (Err v) y
          → BehavioursAgree es find text n o r old first t u (Err v) (behaviours_declared evs (names_held text old first) (tokens_from text at))
      one_refused r t u v (bad k j) e h =
          let z : behaviours_declared evs (names_held text old first) (tokens_from text at) ≡ bad k j = refused_whole k j (reader_here ∙ e) in
          rw (z, h) refl
        where
          refused_whole : (k : Kind) (j : ℕ) → behaviour_declared evs (after_all with_behaviour (taken (names_held text old first) 0) s.done) (tokens_from text f) ≡ bad k j
              → behaviours_declared evs (names_held text old first) (tokens_from text at) ≡ bad k j
          refused_whole k j e = s.gathered.whole ∙ many_faults behaviour_begins (behaviour_declared evs) with_behaviour quiet (leaves_behaviour evs) s.done
              (after_all with_behaviour (taken (names_held text old first) 0) s.done) (tokens_from text f) k j starts_here e
      one_refused r t u v (got x us) e h = absurd h

      one_done : (r : List ℕ) (p cells to stop : ℕ) (v : Option Fault) (y : Phrased TextBehaviour) → behaviour_declared evs (taken (names_held text names count) i) (sign q c ∷ tokens_from text next) ≡ y
          → BehaviourAgrees es find text end out r (behaved p cells to stop v) y → end ≤ stop → length out ≡ length o → count < length names → count + 1 - first < length starts → first ≤ count
          → SoFar es (set names count p) (set starts (count + 1 - first) (i + cells)) r to (count + 1) (i + cells) stop (option_or w v)
      one_done r p cells to stop v (bad k j) e h a l m b g = absurd h
      one_done r p cells to stop v (got x us) e h a l m b g =
          record {
            done = s.done ++ (x ∷ []);
            gathered = gather_turn (behaviour_coding es find) (behaviours_coding es find) (behaviours_grow es find) text n o behaviour_begins (behaviour_declared evs)
                with_behaviour (taken (names_held text old first) 0) at quiet (leaves_behaviour evs) s.gathered starts_here (reader_here ∙ e) h.part a l;
            taken_so = after_more with_behaviour (taken (names_held text old first) 0) s.done x
                ∙ rw s.taken_so (with_behaviour_law (names_held text names count) i x ∙ rw (h.named, h.celled, held_more text names count p m));
            named = named_more text names count p m
                ∙ rw (s.named, map-append name_of_behaviour s.done (x ∷ []), h.named) (append_assoc (map (name_at text) (take first old)) (map name_of_behaviour s.done) (name_at text p ∷ []));
            counted = omega (arith, s.counted, length-append s.done (x ∷ []));
            summed = omega (arith, s.summed, cells_more s.done x, h.celled);
            started = starts_more starts s.done x (count + 1 - first) (i + cells) s.started (omega (arith, s.counted)) b (omega (arith, s.summed, h.celled));
            told = all_join RowTold s.done (x ∷ []) s.told (h.told, tt);
          }

  module _ {names starts out : List ℕ} {f count i end : ℕ} {w : Option Fault} (t : Turn names starts out f count i end w) where
    pub turn_over : behaviour_begins (sign_at (tokens_from text f)) ≡ false → BehavioursRead text find events at n o out old first names starts (all_behaved f count end w)
    turn_over h es held =
        let s = t.so_far es held in
        over_read es names starts out f count i end w s (behaviours_declared (after_all with_event [] es) (names_held text old first) (tokens_from text at))
        (s.gathered.whole ∙ many_over behaviour_begins (behaviour_declared (after_all with_event [] es)) with_behaviour quiet (leaves_behaviour (after_all with_event [] es)) s.done
        (length (tokens_from text f)) (after_all with_behaviour (taken (names_held text old first) 0) s.done) (tokens_from text f) h)

    module _ (q c next : ℕ) (here : tokens_from text f ≡ sign q c ∷ tokens_from text next) (begins : behaviour_begins c ≡ true) where
      pub turn_fault : (r a b : List ℕ) (v : Fault) (given : List ℕ) → given ≡ events → BehaviourRead text find given names count i q c next end out r (Err v) → BehavioursRead text find events at n o r old first a b (Err v)
      turn_fault r a b v given same h es held =
          one_refused es names starts out f count i end w (t.so_far es held) q c next here begins r a b v _ refl (h es (ap (map (name_at text)) same ∙ held))

      pub turn_on : (r : List ℕ) (p cells to stop : ℕ) (v : Option Fault) (given : List ℕ) → given ≡ events → BehaviourRead text find given names count i q c next end out r (behaved p cells to stop v) → end ≤ stop
          → f ≤ to → to ≤ length text → stop + f * 16 ≤ end + to * 16 → 0 < cells → i + cells ≤ 64 → length r ≡ length out
          → Turn (set names count p) (set starts (count + 1 - first) (i + cells)) r to (count + 1) (i + cells) stop (option_or w v)
      turn_on r p cells to stop v given same h a b d e g k l =
          record {
            so_far = λ es held.
                one_done es names starts out f count i end w (t.so_far es held) q c next here begins r p cells to stop v _ refl (h es (ap (map (name_at text)) same ∙ held)) a t.kept
                (omega (arith, t.names_all, t.few, t.few_first, t.room)) (omega (arith, t.starts_all, t.few, t.room)) t.some;
            kept = l ∙ t.kept;
            names_all = length-set names count p ∙ t.names_all;
            starts_all = length-set starts (count + 1 - first) (i + cells) ∙ t.starts_all;
            low = all_set (λ k. k ≤ 64) starts (count + 1 - first) (i + cells) t.low k;
            few_first = t.few_first;
            some = omega (arith, t.some);
            few = omega (arith, t.few);
            room = k;
            from = omega (arith, t.from);
            inside = d;
            rising = omega (arith, t.rising);
            bounded = omega (arith, t.bounded);
          }
