-- The words that the compiler writes on passives are the image's: by what each entry of the draft holds. Their
-- instructions fit: the draft has room for 2,048 nodes.
use Rattle.lib_base.proofs.Prelude.{ℕ, ◌≤◌, ◌<◌, ◌+◌, suc, zero, ◌≡◌, refl, ◌∙◌, sym, ap, List, [], ◌∷◌, ◌++◌, sum}
use Rattle.lib_base.proofs.Prelude.{length, get_or, length-append, eqb, arith}
use Rattle.lib_base.specs.Basics.{pick}
use Rattle.lib_base.proofs.Tools.{by_two}
use Rattle.spec_language.specs.Syntax.{Handler, Behaviour, passive, active, Program}
use Rattle.spec_language.specs.Dependence.{Response, follows, takes, defers, keeps, handled, respond, size, events, response, behaviour_at}
use Rattle.spec_language.specs.Order.{up_to}
use Rattle.spec_language.specs.Fits.{Fits}
use Rattle.spec_language.specs.Accepted.{Known}
use Rattle.spec_language.specs.Valid.{Valid}
use Rattle.spec_language.specs.Code.{restore, in_c, again_code, size_of, second_part, restore_part, code, members}
use Rattle.spec_language.proofs.Laws.{up_to_same}
use Rattle.spec_semantics.proofs.Handlers.{Says, handled_says}
use Rattle.spec_execution.proofs.Lengths.{length_postfix, late_again, length_C, length_turns, length_counted}
use Rattle.format_image.specs.Table as image
use Rattle.format_image.specs.Table.{code_words, passives_code, before_passives, passives_at, passive_words}
use Rattle.draft_form.specs.Draft.{entry_of, used_by, passive_nodes, Drafted}
use Rattle.draft_form.specs.Entry.{entry_kind}
use Rattle.draft_form.proofs.DraftLaws.{Entry, entry_of_law}
use Rattle.back_counts.specs.Counts.{count_event, count_members}
use Rattle.back_counts.proofs.CountIs.{total_sum, count_is, members_is}
use Rattle.back_schedule.proofs.OrderingIs.{order_is}
use Rattle.back_emit.specs.Words.{each}
use Rattle.back_phases.proofs.PhasesAre.{again_are}
use Rattle.back_passives.specs.PassiveWords.{kind_word, again_share, count_again, again_start, stretch_words, draft_passive_words}
use Rattle.back_table.specs.TableWords.{alone_words}

-- ---- one word each

none : (g : ℕ → ℕ) → [] ≡ up_to 0 g
unfolding up_to
none g = refl

last : (n : ℕ) (g : ℕ → ℕ) → up_to n g ++ (g n ∷ []) ≡ up_to (suc n) g
unfolding up_to
last zero g = refl
last (suc n) g = rw (last n (λ i. g (suc i)))

each_one : (n : ℕ) (f : ℕ → List ℕ) (g : ℕ → ℕ) → ((i : ℕ) → i < n → f i ≡ g i ∷ []) → each n f ≡ up_to n g
unfolding each
each_one zero f g h = none g
each_one (suc n) f g h = rw (each_one n f g (λ i b. h i (omega arith)), h n (omega arith)) (last n g)

-- ---- what an entry says

-- how many instructions the second time over a behaviour has
abbrev again_size : Response → ℕ
again_size (follows x) = size_of x + 1
again_size (takes x) = 0
again_size (defers x) = 0
again_size keeps = 0

again_share_law : (d : List ℕ) (v : ℕ) (r : Response) → Entry d v r → again_share v ≡ again_size r
unfolding again_share
again_share_law d v (follows x) h = rw (h.kind_is, h.count_is)
again_share_law d v (takes x) h = rw h.kind_is
again_share_law d v (defers x) h = rw h.kind_is
again_share_law d v keeps h = rw h

active_kind_law : (d : List ℕ) (v e : ℕ) (hs : List Handler) (r : Response) → Says e hs r → Entry d v r → ◌≡◌ {A = ℕ} (pick (eqb (entry_kind v) 1) 1 0) 0
active_kind_law d v e hs (follows x) s h = absurd s
active_kind_law d v e hs (takes x) s h = rw h.kind_is
active_kind_law d v e hs (defers x) s h = rw h.kind_is
active_kind_law d v e hs keeps s h = rw h

kind_is : (d : List ℕ) (v : ℕ) (b : Behaviour) → Entry d v (respond 0 b) → ◌≡◌ {A = ℕ} (pick (eqb (entry_kind v) 1) 1 0) (image.kind_number b)
kind_is d v (passive x) h = rw h.kind_is
kind_is d v (active c hs) h = active_kind_law d v 0 hs (handled 0 hs) (handled_says 0 hs) h

-- ---- how many instructions there are at most

active_size : (e : ℕ) (hs : List Handler) (r : Response) → Says e hs r → again_size r ≡ 0
active_size e hs (follows x) s = absurd s
active_size e hs (takes x) s = refl
active_size e hs (defers x) s = refl
active_size e hs keeps s = refl

sizes_small : (bs : List Behaviour) → sum ◌+◌ 0 (up_to (length bs) (λ i. again_size (respond 0 (get_or bs i (active 0 []))))) ≤ passive_nodes bs + length bs
unfolding sum up_to passive_nodes
sizes_small [] = omega arith
sizes_small (passive x ∷ bs) = omega (arith, sizes_small bs)
sizes_small (active c hs ∷ bs) = omega (arith, active_size 0 hs (handled 0 hs) (handled_says 0 hs), sizes_small bs)

module _ (p : Program) (d : List ℕ) (n : ℕ) (dr : Drafted p d n) (fits : Fits p) (known : Known p) (valid : Valid p)
    (few : passive_nodes p.behaviours ≤ 2048) where
  share_again : (i : ℕ) (r : Response) → length (again_code (in_c p 0) i r) ≡ again_size r
  share_again i (follows x) = simp length-append (omega (arith, length_postfix (in_c p 0) x))
  share_again i (takes x) = refl
  share_again i (defers x) = refl
  share_again i keeps = refl

  length_again : length (passives_code p) ≡ sum ◌+◌ 0 (up_to (size p) (λ i. again_size (response p 0 i)))
  unfolding passives_code
  length_again =
      length_turns p 0 valid (omega arith) (again_code (in_c p 0)) (late_again (in_c p 0))
      ∙ ap (sum ◌+◌ 0) (up_to_same (size p) _ _ (λ i _. share_again i (response p 0 i)))

  pub short_passives : length (passives_code p) ≤ 2112
  short_passives = omega (arith, length_again, sizes_small p.behaviours, few, fits.few_behaviours)

  -- ---- the words

  again_counts : count_again d (size p) ≡ length (passives_code p)
  unfolding count_again
  again_counts =
      total_sum (size p) (λ i. again_share (entry_of d 0 i)) (λ i. again_size (response p 0 i))
      (λ i h. again_share_law (used_by d i) (entry_of d 0 i) (response p 0 i) (entry_of_law p d n dr 0 i (omega arith) h))
      ∙ sym length_again

  length_restore : length (restore_part p 0) ≡ members p 0 + 2
  unfolding restore_part
  length_restore = simp length-append (omega (arith, length_C p 0 restore))

  length_parts : length (code p 0) ≡ length (before_passives p) + (length (passives_code p) + length (restore_part p 0))
  unfolding code second_part before_passives passives_code
  length_parts = simp length-append (omega arith)

  start_is : again_start (events p) (count_event d 0 (size p)) (count_members d 0 (size p)) (count_again d (size p)) ≡ passives_at p
  unfolding again_start passives_at
  start_is =
      let all : count_event d 0 (size p) ≡ length (code p 0) = count_is p d n dr 0 (omega arith) ∙ sym (length_counted p 0 valid (omega arith)) in
      by_two (λ (x y : ℕ). x ≡ y) (eqb (events p) 0) (λ _. refl)
      (λ _. omega (arith, all, length_parts, length_restore, members_is p d n dr 0 (omega arith), again_counts))

  kinds_are : each (size p) (kind_word d) ≡ image.kind_words p
  unfolding kind_word image.kind_words
  kinds_are =
      each_one (size p) (kind_word d) (λ i. image.kind_number (behaviour_at p i))
      (λ i h. ap (λ (x : ℕ). x ∷ []) (kind_is (used_by d i) (entry_of d 0 i) (behaviour_at p i) (entry_of_law p d n dr 0 i (omega arith) h)))

  pub passive_words_are : draft_passive_words d (events p) (size p) ≡ passive_words p
  unfolding draft_passive_words stretch_words passive_words
  passive_words_are = rw (kinds_are, start_is, again_counts)

  pub alone_are : alone_words d (size p) ≡ code_words (passives_code p)
  unfolding alone_words passives_code
  alone_are = rw (order_is p d n dr fits 0 (omega arith)) (again_are p d n dr fits known 0 (omega arith))
