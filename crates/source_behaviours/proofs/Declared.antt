-- A behaviour from behind its first word on, stage by stage: the answers of `behaviour_at`, and what is known of the
-- behaviour beside its bytes.
use Rattle.std.specs.Prelude.{Err}
use Rattle.std.specs.Prelude as Code
use Rattle.source_coding.specs.declared.faults.Fault.{Fault}
use Rattle.source_coding.specs.FaultWords.{fault_of}
use Rattle.source_language.specs.Faults.{too_many_fault}
use Rattle.source_due.specs.Due.{found}
use Rattle.lib_base.proofs.Prelude.{ℕ, ◌≤◌, ◌<◌, ◌+◌, ◌≡◌, refl, ◌∙◌, sym, ◌||◌, Option, List, ◌∷◌, eqb, ltb, []}
use Rattle.lib_base.proofs.Prelude.{eqb-true, ltb-false, eqb-false, lt-leb, le-leb, arith}
use Rattle.lib_base.proofs.Tools.{by_test, split, none_of}
use Rattle.source_language.specs.Tokens.{SheetToken, number, name, sign, equals, bracket, unbracket, passive_word, row_word}
use Rattle.source_language.specs.Text.{TextConstant, Reaction, TextEvent, TextBehaviour, behaviour}
use Rattle.source_language.specs.Limits.{largest, after_all, with_event, taken}
use Rattle.source_language.specs.Meaning.{NameMeaning}
use Rattle.source_language.specs.Reader.{Phrased, bad, got, then_phrase, sign_at, tokens_after, past_sign, value_of, formula_of, seen_of, read_reactions, passive_declared, state_of, kind_declared, behaviour_declared}
use Rattle.source_coding.specs.Places.{tokens_from, name_at, names_held}
use Rattle.source_handlers.specs.Parts.{part, PartAgrees, DueRead}
use Rattle.source_body.specs.Body.{behaviour_coding, body_made, kind_read, KindRead}
use Rattle.source_behaviours.specs.Behaviours.{BehaviourDue, behaved, new_name, closed_cells, counted_cells, cells_said, numbers_taken, name_of_behaviour, cells_of_behaviour, RowTold, NamedAt, CountIs, BehaviourAgrees, BehaviourRead}
use Rattle.source_behaviours.proofs.Steps.{kind_steps, name_steps}

-- ---- what its count tells

pub record CellsTold (c k : ℕ) : Type 0 where
  pub of_passive : c ≡ passive_word → k ≡ 0
  pub not_one : k ≡ 1 → ⊥

abbrev CellsSo : ℕ → Phrased ℕ → Type 0
CellsSo c (bad j p) = Unit {0}
CellsSo c (got k us) = CellsTold c k

closed_so : (c n : ℕ) (ts : List SheetToken) → c ≡ row_word → 2 ≤ n → CellsSo c (closed_cells n ts)
unfolding past_sign
closed_so c n ts e h =
    by_test (CellsSo c) (eqb (sign_at ts) unbracket) (λ d. record { of_passive = λ z. absurd (omega arith); not_one = λ z. omega arith }) (λ d. tt)

counted_so : (i c : ℕ) (ts : List SheetToken) → c ≡ row_word → CellsSo c (counted_cells i ts)
counted_so i c [] e = tt
counted_so i c (number p n ∷ us) e =
    by_test (CellsSo c) (ltb largest n) (λ d. tt) (λ d.
    by_test (CellsSo c) (ltb n 2 || ltb 16 n) (λ b. tt) (λ b.
    by_test (CellsSo c) (ltb 64 (i + n)) (λ a. tt) (λ a. closed_so c n us e (ltb-false n 2 (none_of (ltb n 2) (ltb 16 n) b).0))))
counted_so i c (name p s ∷ us) e = tt
counted_so i c (sign p d ∷ us) e = tt

cells_so : (i c : ℕ) (ts : List SheetToken) → CellsSo c (cells_said i c ts)
unfolding past_sign
cells_so i c ts =
    by_test (CellsSo c) (eqb c row_word)
    (λ e. by_test (CellsSo c) (eqb (sign_at ts) bracket) (λ d. counted_so i c (tokens_after ts) (eqb-true c row_word e)) (λ d. tt))
    (λ e. record { of_passive = λ z. refl; not_one = λ z. omega arith })

-- ---- what is told of a behaviour of this name and count

abbrev ToldSo : List ℕ → ℕ → Phrased TextBehaviour → Type 0
ToldSo s k (bad j p) = Unit {0}
ToldSo s k (got x us) = (name_of_behaviour x ≡ s) × (cells_of_behaviour x ≡ numbers_taken k) × RowTold x

told_then : {A : Type 0} (s : List ℕ) (k : ℕ) (x : Phrased A) (h : A → List SheetToken → Phrased TextBehaviour) → ((a : A) (us : List SheetToken) → ToldSo s k (h a us))
    → ToldSo s k (then_phrase x h)
told_then s k (bad j p) h g = tt
told_then s k (got a us) h g = g a us

made_told : (s : List ℕ) (k : ℕ) (v : TextConstant) (hs : List Reaction) (m : Option (List ℕ)) (us : List SheetToken) → (k ≡ 1 → ⊥) → ToldSo s k (got (behaviour s (body_made k v hs) m) us)
made_told s k v hs m us h =
    split (eqb k 0) (λ e. rw e (refl, refl, tt)) (λ e. rw e (refl, refl, omega (arith, eqb-false k 0 e)))

kind_told : (es : List (List ℕ)) (s : List ℕ) (c k : ℕ) (ts : List SheetToken) → CellsTold c k → ToldSo s k (kind_read es s c k ts)
unfolding passive_declared state_of past_sign
kind_told es s c k ts t =
    by_test (ToldSo s k) (eqb c passive_word)
    (λ e. by_test (ToldSo s k) (eqb (sign_at ts) equals)
    (λ d. told_then s k (formula_of (tokens_after ts)) _ (λ x us. told_then s k (seen_of us) _ (λ m vs. rw (t.of_passive (eqb-true c passive_word e)) (refl, refl, tt))))
    (λ d. tt))
    (λ e. by_test (ToldSo s k) (eqb (sign_at ts) equals)
    (λ d. told_then s k (value_of (tokens_after ts)) _ (λ v us. told_then s k (seen_of us) _ (λ m vs. told_then s k (read_reactions es vs) _ (λ hs ws. made_told s k v hs m ws t.not_one))))
    (λ d. tt))

-- ---- stages

module _ (es : List TextEvent) (find : List ℕ → NameMeaning) (text : List ℕ) (n : ℕ) (o p : List ℕ) where
  due_refused : {A : Type 0} (Q : ℕ → ℕ → A → Type 0) (w : Fault) (x : Phrased A) (h : A → List SheetToken → Phrased TextBehaviour) → DueRead Q text (Err w) x
      → BehaviourAgrees es find text n o p (Err w) (then_phrase x h)
  due_refused Q w (bad j i) h e = e
  due_refused Q w (got a us) h e = absurd e

  due_onward : {A : Type 0} (Q : ℕ → ℕ → A → Type 0) (i v next : ℕ) (r : BehaviourDue) (x : Phrased A) (h : A → List SheetToken → Phrased TextBehaviour) → DueRead Q text (found i v next) x
      → ((a : A) → Q i v a → BehaviourAgrees es find text n o p r (h a (tokens_from text next))) → BehaviourAgrees es find text n o p r (then_phrase x h)
  due_onward Q i v next r (bad j l) h e g = absurd e
  due_onward Q i v next r (got a us) h e g = rw e.0 (g a e.1)

  -- with what the count tells
  cells_onward_so : (c i v next : ℕ) (r : BehaviourDue) (x : Phrased ℕ) (h : ℕ → List SheetToken → Phrased TextBehaviour) → CellsSo c x → DueRead CountIs text (found i v next) x
      → (CellsTold c v → BehaviourAgrees es find text n o p r (h v (tokens_from text next))) → BehaviourAgrees es find text n o p r (then_phrase x h)
  cells_onward_so c i v next r (bad j l) h s e g = absurd e
  cells_onward_so c i v next r (got k us) h s e g = rw (e.0, sym e.1) (g (rw (sym e.1) at s))

  part_refused : (w : Fault) (x : Phrased TextBehaviour) → PartAgrees (behaviour_coding es find) text n o p (Err w) x → BehaviourAgrees es find text n o p (Err w) x
  part_refused w (bad j i) e = e
  part_refused w (got y us) e = absurd e

  part_done : (s : List ℕ) (q k to end : ℕ) (w : Code.Option Fault) (x : Phrased TextBehaviour) → s ≡ name_at text q → PartAgrees (behaviour_coding es find) text n o p (part to end w) x → ToldSo s k x
      → BehaviourAgrees es find text n o p (behaved q (numbers_taken k) to end w) x
  part_done s q k to end w (bad j i) z e t = absurd e
  part_done s q k to end w (got y us) z e t = record { part = e; named = t.0 ∙ z; celled = t.1; told = t.2 }

module _ (text : List ℕ) (find : List ℕ → NameMeaning) (events names : List ℕ) (count i q c at n : ℕ) (o p : List ℕ) where
  abbrev ns : List (List ℕ)
  ns = names_held text names count

  pub behaviour_over : (w : Fault) → 64 ≤ i → w ≡ fault_of too_many_fault q → BehaviourRead text find events names count i q c at n o p (Err w)
  unfolding behaviour_declared
  behaviour_over w h e es held = rw (le-leb 64 i h) e

  module _ (room : i < 64) where
    steps : (es : List TextEvent) → behaviour_declared (after_all with_event [] es) (taken ns i) (sign q c ∷ tokens_from text at)
        ≡ then_phrase (new_name ns (tokens_from text at)) (λ s us. kind_declared (after_all with_event [] es) i c s us)
    steps es = name_steps (after_all with_event [] es) ns i q c (tokens_from text at) (lt-leb 64 i room)

    pub behaviour_unnamed : (w : Fault) → DueRead (NamedAt text) text (Err w) (new_name ns (tokens_from text at)) → BehaviourRead text find events names count i q c at n o p (Err w)
    behaviour_unnamed w d es held = rw (steps es) (due_refused es find text n o p (NamedAt text) w (new_name ns (tokens_from text at)) (λ s us. kind_declared (after_all with_event [] es) i c s us) d)

    module _ (j v next : ℕ) (named : DueRead (NamedAt text) text (found j v next) (new_name ns (tokens_from text at))) where
      pub behaviour_uncounted : (w : Fault) → DueRead CountIs text (Err w) (cells_said i c (tokens_from text next)) → BehaviourRead text find events names count i q c at n o p (Err w)
      behaviour_uncounted w d es held =
          rw (steps es)
          (due_onward es find text n o p (NamedAt text) j v next (Err w) (new_name ns (tokens_from text at)) (λ s us. kind_declared (after_all with_event [] es) i c s us) named (λ s z.
          rw (kind_steps (after_all with_event [] es) i s c (tokens_from text next))
          (due_refused es find text n o p CountIs w (cells_said i c (tokens_from text next)) (kind_read (after_all with_event [] es) s c) d)))

      module _ (l k after : ℕ) (counted : DueRead CountIs text (found l k after) (cells_said i c (tokens_from text next))) where
        through : (es : List TextEvent) (r : BehaviourDue)
            → ((s : List ℕ) → s ≡ name_at text j → CellsTold c k → BehaviourAgrees es find text n o p r (kind_read (after_all with_event [] es) s c k (tokens_from text after)))
            → BehaviourAgrees es find text n o p r (behaviour_declared (after_all with_event [] es) (taken ns i) (sign q c ∷ tokens_from text at))
        through es r g =
            rw (steps es)
            (due_onward es find text n o p (NamedAt text) j v next r (new_name ns (tokens_from text at)) (λ s us. kind_declared (after_all with_event [] es) i c s us) named (λ s z.
            rw (kind_steps (after_all with_event [] es) i s c (tokens_from text next))
            (cells_onward_so es find text n o p c l k after r (cells_said i c (tokens_from text next)) (kind_read (after_all with_event [] es) s c) (cells_so i c (tokens_from text next)) counted (λ t. g s z t))))

        pub behaviour_refused : (w : Fault) → KindRead text find events c k after n o p (Err w) → BehaviourRead text find events names count i q c at n o p (Err w)
        behaviour_refused w h es held =
            through es (Err w) (λ s z t. part_refused es find text n o p w (kind_read (after_all with_event [] es) s c k (tokens_from text after)) (h es held s))

        pub behaviour_done : (to end : ℕ) (w : Code.Option Fault) → KindRead text find events c k after n o p (part to end w)
            → BehaviourRead text find events names count i q c at n o p (behaved j (numbers_taken k) to end w)
        behaviour_done to end w h es held =
            through es (behaved j (numbers_taken k) to end w) (λ s z t.
            part_done es find text n o p s j k to end w (kind_read (after_all with_event [] es) s c k (tokens_from text after)) z (h es held s)
            (kind_told (after_all with_event [] es) s c k (tokens_from text after) t))

pub numbers_within : (i k : ℕ) → i < 64 → i + k ≤ 64 → (0 < numbers_taken k) × (i + numbers_taken k ≤ 64)
numbers_within i k h g = split (eqb k 0) (λ e. rw e (omega arith)) (λ e. rw e (omega (arith, eqb-false k 0 e)))
