-- The arguments of an `if`: each goes on where the last one ended (`GoneOn`), and three of them with `)` are what
-- `read_choice` reads.
use Rattle.std.specs.Prelude.{Ok, Err, None}
use Rattle.source_coding.specs.declared.faults.Fault.{Fault}
use Rattle.source_field.specs.declared.Formula.{Formula}
use Rattle.lib_base.proofs.Prelude.{ℕ, ◌≤◌, ◌<◌, ◌+◌, ◌-◌, suc, ◌*◌, ◌≡◌, refl, ◌∙◌, ap, List, length, eqb, arith}
use Rattle.lib_base.proofs.Tools.{by_two}
use Rattle.lib_signature.specs.Numbers.{if_fn}
use Rattle.text_formula.specs.Nesting.{deeper}
use Rattle.source_language.specs.Tokens.{SheetToken, opening, comma, closing}
use Rattle.source_language.specs.Text.{Phrase, choice}
use Rattle.source_language.specs.Meaning.{NameMeaning}
use Rattle.source_language.specs.Reader.{Phrased, bad, got, then_phrase, sign_at, past_sign, read_choice, phrase_within}
use Rattle.std.specs.Option.{option_or}
use Rattle.source_coding.specs.Places.{tokens_from}
use Rattle.source_due.specs.Due.{Due, found, SignTold, DueWithin}
use Rattle.source_due.proofs.Passes.{sign_passes, sign_fails}
use Rattle.source_field.specs.Formula.{Read, formula_done, FormulaWritten, FormulaRead, FormulaWithin, FewerLeft, PartRead}
use Rattle.source_field.specs.Fields.{under_by, applied_by, headed_in, Headable}
use Rattle.source_field.proofs.Parts.{choice_written}
use Rattle.source_onward.specs.Onward.{ReadInside, ClosedBehind, EndedRead}
use Rattle.source_formula.specs.Arguments.{ArgumentRoom, ArgumentRead, NoArgument, ArgumentAfter}

-- ---- an argument

module _ (text : List ℕ) (find : List ℕ → NameMeaning) (c sign room : ℕ) (o : List ℕ) where
  module _ (f : Formula) (r : Read) (is : r ≡ Ok f) (d : Due) (due : SignTold text f.next sign d) where
    pub argument_missing : (v : Fault) → d ≡ Err v → ArgumentAfter text find c sign room o o r (Err v)
    argument_missing v e =
        let h = rw e at due in
        let z = sign_fails text f.next sign (phrase_within (room - 1) 6) v h in
        record { told = rw is record { part = Err v; is = refl; reads = record { reads = rw z h.1; within = tt; fewer = tt; kept = refl } } }

    module _ (p v next : ℕ) (is₂ : d ≡ found p v next) (b : DueWithin (length text) f.next d) where
      argument_behind : (f.next < next) × (next ≤ length text)
      argument_behind = let h = rw is₂ at b in omega arith

      within_at : (q : Read) → FormulaWithin (length text) (room - 1) next f.end q → FormulaWithin (length text) (room - 1) f.next f.end q
      within_at (Err x) h = tt
      within_at (Ok x) h = let z = argument_behind in omega arith

      fewer_at : (q : Read) → FewerLeft text next q → FewerLeft text f.next q
      fewer_at (Err x) h = tt
      fewer_at (Ok x) h =
          let z : length (tokens_from text f.next) ≡ suc (length (tokens_from text next)) = ap length (rw is₂ at due) in
          omega arith

      pub argument_read : (o₂ : List ℕ) (q q₂ : Read) → PartRead text find c (room - 1) next f.end o o₂ q (phrase_within (room - 1) 6 (tokens_from text next)) → q₂ ≡ under_by f.depth f.stray q
          → ArgumentAfter text find c sign room o o₂ r q₂
      argument_read o₂ q q₂ x e =
          let z = sign_passes text f.next sign (phrase_within (room - 1) 6) p v next (rw is₂ at due) in
          record {
            told = rw is record {
              part = q;
              is = e;
              reads = record { reads = rw z x.reads; within = within_at q x.within; fewer = fewer_at q x.fewer; kept = x.kept };
            };
          }

-- ---- where arguments go on

abbrev pub GoneCases : List ℕ → ℕ → ℕ → ℕ → Read → Type 0
GoneCases text room at n (Err w) = Unit {0}
GoneCases text room at n (Ok f) =
    (at ≤ f.next) × (f.next ≤ length text) × (f.depth ≤ room) × (n ≤ f.end) × (f.end + at * 16 ≤ n + f.next * 16) × (length (tokens_from text f.next) ≤ length (tokens_from text at))

pub record GoneOn (text : List ℕ) (room at n : ℕ) (r : Read) : Type 0 where
  pub told : GoneCases text room at n r

pub gone_start : (text : List ℕ) (room at n : ℕ) → at ≤ length text → GoneOn text room at n (formula_done at 0 n None)
gone_start text room at n h = record { told = omega arith }

module _ (text : List ℕ) (find : List ℕ → NameMeaning) (c sign room at n : ℕ) (o p : List ℕ) where
  on_by : (f : Formula) (x : Read) → GoneCases text (room - 1) at n (Ok f) → FormulaWithin (length text) (room - 1) f.next f.end x → FewerLeft text f.next x
      → GoneCases text (room - 1) at n (under_by f.depth f.stray x)
  on_by f (Err v) h b l = tt
  on_by f (Ok g) h b l = omega arith

  pub gone_further : (r q : Read) → ArgumentAfter text find c sign room o p r q → GoneOn text (room - 1) at n r → GoneOn text (room - 1) at n q
  gone_further (Err w) q a h = record { told = rw a.told.is tt }
  gone_further (Ok f) q a h =
      record { told = rw a.told.is (on_by f a.told.part h.told a.told.reads.within a.told.reads.fewer) }

module _ (text : List ℕ) (find : List ℕ → NameMeaning) (c sign room : ℕ) (o p : List ℕ) where
  pub kept_after : (r q : Read) → ArgumentAfter text find c sign room o p r q → length p ≡ length o
  kept_after (Err w) q a = a.told.kept
  kept_after (Ok f) q a = a.told.reads.kept

module _ (text : List ℕ) (room at n : ℕ) where
  pub gone_room : (r : Read) → GoneOn text room at n r → n ≤ at * 16 → ArgumentRoom (length text) r
  gone_room (Err w) h g = tt
  gone_room (Ok f) h g = let z = h.told in omega arith

  pub gone_inside : (r : Read) → GoneOn text room at n r → ReadInside (length text) r
  gone_inside (Err w) h = tt
  gone_inside (Ok f) h = h.told.1

  pub ended_headable : (r q : Read) → GoneOn text room at n r → EndedRead text r q → n ≤ at * 16 → room ≤ 16 → length text ≤ 65536 → Headable n 0 q
  ended_headable (Err w) q h e g k l = rw e tt
  ended_headable (Ok f) (Err v) h e g k l = tt
  ended_headable (Ok f) (Ok y) h e g k l = let z = h.told in omega (arith, e.1, e.2)

-- ---- three arguments and `)`

past_then : (s : ℕ) (all : List SheetToken → Phrased Phrase) (f : Phrase → List SheetToken → Phrased Phrase) (ts : List SheetToken)
    → past_sign s (λ us. then_phrase (all us) f) ts ≡ then_phrase (past_sign s all ts) f
unfolding past_sign
past_then s all f ts = by_two (λ (x y : Phrased Phrase). x ≡ then_phrase y f) (eqb (sign_at ts) s) (λ e. refl) (λ e. refl)

choice_as : (all : List SheetToken → Phrased Phrase) (ts : List SheetToken)
    → read_choice all ts
    ≡ then_phrase (past_sign opening all ts) (λ a vs. then_phrase (past_sign comma all vs) (λ b xs. then_phrase (past_sign comma all xs) (λ d zs. past_sign closing (λ end. got (choice a b d) end) zs)))
unfolding read_choice
choice_as all ts = past_then opening all _ ts ∙ simp (past_then comma all)

module _ (text : List ℕ) (find : List ℕ → NameMeaning) (c room n : ℕ) (o p₁ p₂ p₃ : List ℕ) (rc re : Read) (E : EndedRead text rc re) where
  stopped : (v : Fault) → rc ≡ Err v → applied_by 0 None re ≡ Err v
  stopped v e = let z : re ≡ Err v = rw e at E in rw z

  module _ (a b : Phrase) (f₁ f₂ : Formula) (us vs : List SheetToken) (l₁ : length p₁ ≡ length o) (l₂ : length p₂ ≡ length p₁) (l₃ : length p₃ ≡ length p₂)
      (A : FormulaWritten text find c n o p₁ f₁.next f₁.depth f₁.end f₁.stray a us) (B : FormulaWritten text find c f₁.end p₁ p₂ f₂.next f₂.depth f₂.end f₂.stray b vs) where
    fourth : (d : Phrase) (f₃ : Formula) (ws : List SheetToken) → FormulaWritten text find c f₂.end p₂ p₃ f₃.next f₃.depth f₃.end f₃.stray d ws → (q : Read)
        → ClosedBehind text (record { next = f₃.next; depth = deeper (deeper (deeper 0 f₁.depth) f₂.depth) f₃.depth; end = f₃.end; stray = option_or (option_or (option_or None f₁.stray) f₂.stray) f₃.stray }) q
        → FormulaRead text find c n o (headed_in if_fn n q p₃) (applied_by 0 None q) (past_sign closing (λ end. got (choice a b d) end) (tokens_from text f₃.next))
    fourth d f₃ ws D (Err v) h = let f = h (choice a b d) in rw f.turned f.told
    fourth d f₃ ws D (Ok f) h =
        rw (h.0 (choice a b d), h.1, h.2, h.3) (choice_written l₁ l₂ l₃ A B D refl)

    third : (x : Read) (g : Phrased Phrase) → FormulaRead text find c f₂.end p₂ p₃ x g → rc ≡ under_by (deeper (deeper 0 f₁.depth) f₂.depth) (option_or (option_or None f₁.stray) f₂.stray) x
        → FormulaRead text find c n o (headed_in if_fn n re p₃) (applied_by 0 None re) (then_phrase g (λ d zs. past_sign closing (λ end. got (choice a b d) end) zs))
    third (Err v) (bad k z) h e = rw (stopped v e) h
    third (Err v) (got d zs) h e = absurd h
    third (Ok f₃) (bad k z) h e = absurd h
    third (Ok f₃) (got d zs) h e = rw h.onward (fourth d f₃ zs h re (rw e at E))

  module _ (rb : Read) (C : ArgumentAfter text find c comma room p₂ p₃ rb rc) where
    second : (a : Phrase) (f₁ : Formula) (us : List SheetToken) → length p₁ ≡ length o → length p₂ ≡ length p₁ → FormulaWritten text find c n o p₁ f₁.next f₁.depth f₁.end f₁.stray a us → (x : Read) (g : Phrased Phrase)
        → FormulaRead text find c f₁.end p₁ p₂ x g → rb ≡ under_by (deeper 0 f₁.depth) (option_or None f₁.stray) x
        → FormulaRead text find c n o (headed_in if_fn n re p₃) (applied_by 0 None re)
        (then_phrase g (λ b xs. then_phrase (past_sign comma (phrase_within (room - 1) 6) xs) (λ d zs. past_sign closing (λ end. got (choice a b d) end) zs)))
    second a f₁ us l₁ l₂ A (Err v) (bad k z) h e = let y : NoArgument p₂ p₃ v rc = rw e at C.told in rw (stopped v y.is) h
    second a f₁ us l₁ l₂ A (Err v) (got b xs) h e = absurd h
    second a f₁ us l₁ l₂ A (Ok f₂) (bad k z) h e = absurd h
    second a f₁ us l₁ l₂ A (Ok f₂) (got b xs) h e =
        let y : ArgumentRead text find c comma room p₂ p₃ (record { next = f₂.next; depth = deeper (deeper 0 f₁.depth) f₂.depth; end = f₂.end; stray = option_or (option_or None f₁.stray) f₂.stray }) rc = rw e at C.told in
        rw h.onward
        (third a b f₁ f₂ us xs l₁ l₂ y.reads.kept A h y.part (past_sign comma (phrase_within (room - 1) 6) (tokens_from text f₂.next)) y.reads.reads y.is)

    module _ (ra : Read) (B : ArgumentAfter text find c comma room p₁ p₂ ra rb) where
      first : (x : Read) (g : Phrased Phrase) → length p₁ ≡ length o → FormulaRead text find c n o p₁ x g → ra ≡ under_by 0 None x
          → FormulaRead text find c n o (headed_in if_fn n re p₃) (applied_by 0 None re)
          (then_phrase g (λ a vs. then_phrase (past_sign comma (phrase_within (room - 1) 6) vs) (λ b xs. then_phrase (past_sign comma (phrase_within (room - 1) 6) xs) (λ d zs. past_sign closing (λ end. got (choice a b d) end) zs))))
      first (Err v) (bad k z) l h e =
          let y : NoArgument p₁ p₂ v rb = rw e at B.told in
          let x : NoArgument p₂ p₃ v rc = rw y.is at C.told in
          rw (stopped v x.is) h
      first (Err v) (got a vs) l h e = absurd h
      first (Ok f₁) (bad k z) l h e = absurd h
      first (Ok f₁) (got a vs) l h e =
          let y : ArgumentRead text find c comma room p₁ p₂ (record { next = f₁.next; depth = deeper 0 f₁.depth; end = f₁.end; stray = option_or None f₁.stray }) rb = rw e at B.told in
          rw h.onward
          (second a f₁ vs l y.reads.kept h y.part (past_sign comma (phrase_within (room - 1) 6) (tokens_from text f₁.next)) y.reads.reads y.is)

      pub choice_read : (at : ℕ) (q : Read) (p₄ : List ℕ) → ArgumentAfter text find c opening room o p₁ (formula_done at 0 n None) ra → GoneOn text (room - 1) at n rc → 1 < room
          → q ≡ applied_by 0 None re → p₄ ≡ headed_in if_fn n re p₃ → length p₄ ≡ length p₃ → PartRead text find c room at n o p₄ q (read_choice (phrase_within (room - 1) 6) (tokens_from text at))
      choice_read at q p₄ A G h e d k =
          record {
            reads = rw (choice_as (phrase_within (room - 1) 6) (tokens_from text at), e, d)
                (first A.told.part (past_sign opening (phrase_within (room - 1) 6) (tokens_from text at)) A.told.reads.kept A.told.reads.reads A.told.is);
            within = rw e (within_if rc re G E);
            fewer = rw e (fewer_if rc re G E);
            kept = k ∙ kept_after text find c comma room p₂ p₃ rb rc C ∙ kept_after text find c comma room p₁ p₂ ra rb B ∙ A.told.reads.kept;
          }
        where
          within_if : (x y : Read) → GoneOn text (room - 1) at n x → EndedRead text x y → FormulaWithin (length text) room at n (applied_by 0 None y)
          within_if (Err w) y g f = rw f tt
          within_if (Ok x) (Err v) g f = tt
          within_if (Ok x) (Ok y) g f = let z = g.told in omega (arith, f.1, f.2, f.4)

          fewer_if : (x y : Read) → GoneOn text (room - 1) at n x → EndedRead text x y → FewerLeft text at (applied_by 0 None y)
          fewer_if (Err w) y g f = rw f tt
          fewer_if (Ok x) (Err v) g f = tt
          fewer_if (Ok x) (Ok y) g f = let z = f.4 in let h = g.told in omega arith
