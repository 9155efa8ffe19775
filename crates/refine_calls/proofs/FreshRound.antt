-- The bytes that start leaves stand for the model's initial engine: words cleared, the head 0, the store the table's
-- values of a fresh round. By induction on how many words are written.
use Rattle.lib_base.proofs.Prelude.{ℕ, ◌≤◌, ◌<◌, ◌+◌, suc, zero, ◌≡◌, refl, ◌∙◌, sym, true, by_cases, none, List, []}
use Rattle.lib_base.proofs.Prelude.{List·Permᴰ·nil, length, get_or, length-set, replicate, length-replicate}
use Rattle.lib_base.proofs.Prelude.{get_or-set_other, get_or-set_same, ext_get_or, ℕ_discrete, leb-true, arith}
use Rattle.lib_word.specs.Word.{get, put, words, pile}
use Rattle.lib_word.proofs.Laws.{long, long_put, get_same, get_other, words_get}
use Rattle.spec_language.specs.Syntax.{Program}
use Rattle.spec_language.specs.Dependence.{size}
use Rattle.spec_semantics.specs.Meaning.{fresh, at}
use Rattle.spec_execution.specs.Execution.{emptied}
use Rattle.spec_model.specs.Model.{rest}
use Rattle.format_image.proofs.ImageLaws.{Says}
use Rattle.run_start.specs.Start.{cleared, stored, image, values_in, fresh_bytes}
use Rattle.refine_calls.specs.Refinement.{slots, Kept}
use Rattle.refine_calls.proofs.Slots.{kept_all, kept_put}
use Rattle.refine_calls.proofs.Values.{found_none}
use Rattle.refine_calls.proofs.Relation.{Rel, words_length}

cleared_long : (l : List ℕ) (n : ℕ) → long (cleared l n) ≡ long l
unfolding cleared
cleared_long l zero = refl
cleared_long l (suc n) = long_put (cleared l n) n 0 ∙ cleared_long l n

cleared_kept : (l : List ℕ) (n : ℕ) → n ≤ 512 → Kept l (cleared l n)
unfolding cleared
cleared_kept l zero h = kept_all l
cleared_kept l (suc n) h = kept_put (cleared l n) n 0 (omega arith) (cleared_kept l n (omega arith))

cleared_get : (l : List ℕ) (n j : ℕ) → long l ≡ true → n ≤ 512 → j < n → get (cleared l n) j ≡ 0
unfolding cleared long
cleared_get l zero j g h b = absurd (omega arith)
cleared_get l (suc n) j g h b =
    let y : long (cleared l n) ≡ true = cleared_long l n ∙ g in
    by_cases (ℕ_discrete j n)
    (λ e. rw e (get_same (cleared l n) n 0 (omega (arith, leb-true))))
    (λ e. get_other (cleared l n) n 0 j e ∙ cleared_get l n j g (omega arith) (omega arith))

stored_long : (ws l : List ℕ) (n : ℕ) → long (stored ws l n) ≡ long l
unfolding stored
stored_long ws l zero = refl
stored_long ws l (suc n) = long_put (stored ws l n) (136 + n) (get_or ws n 0) ∙ stored_long ws l n

stored_kept : {l : List ℕ} (ws m : List ℕ) (n : ℕ) → n ≤ 64 → Kept l m → Kept l (stored ws m n)
unfolding stored
stored_kept ws m zero h k = k
stored_kept ws m (suc n) h k = kept_put (stored ws m n) (136 + n) (get_or ws n 0) (omega arith) (stored_kept ws m n (omega arith) k)

-- outside the store, and in it
stored_other : (ws l : List ℕ) (n j : ℕ) → j < 136 → get (stored ws l n) j ≡ get l j
unfolding stored
stored_other ws l zero j h = refl
stored_other ws l (suc n) j h = get_other (stored ws l n) (136 + n) (get_or ws n 0) j (omega arith) ∙ stored_other ws l n j h

stored_get : (ws l : List ℕ) (n i : ℕ) → long l ≡ true → n ≤ 64 → i < n → get (stored ws l n) (136 + i) ≡ get_or ws i 0
unfolding stored long
stored_get ws l zero i g h b = absurd (omega arith)
stored_get ws l (suc n) i g h b =
    let y : long (stored ws l n) ≡ true = stored_long ws l n ∙ g in
    by_cases (ℕ_discrete i n)
    (λ e. rw e (get_same (stored ws l n) (136 + n) (get_or ws n 0) (omega (arith, leb-true))))
    (λ e. get_other (stored ws l n) (136 + n) (get_or ws n 0) (136 + i) (omega arith) ∙ stored_get ws l n i g (omega arith) (omega arith))

-- the values read from the table
values_length : (t a : List ℕ) (n : ℕ) → length (values_in t a n) ≡ length a
unfolding values_in
values_length t a zero = refl
values_length t a (suc n) = length-set (values_in t a n) n (get t (136 + n)) ∙ values_length t a n

values_get : (t a : List ℕ) (n i : ℕ) → n ≤ length a → i < n → get_or (values_in t a n) i 0 ≡ get t (136 + i)
unfolding values_in
values_get t a zero i h b = absurd (omega arith)
values_get t a (suc n) i h b =
    let v = values_in t a n in
    by_cases (ℕ_discrete i n)
    (λ e. rw e (get_or-set_same v n (get t (136 + n)) 0 (omega (arith, values_length t a n))))
    (λ e. get_or-set_other v n i (get t (136 + n)) 0 e ∙ values_get t a n i (omega arith) (omega arith))

zero_put : (l : List ℕ) (k j : ℕ) → long l ≡ true → k < 512 → get l j ≡ 0 → get (put l k 0) j ≡ 0
unfolding long
zero_put l k j g b h = by_cases (ℕ_discrete j k) (λ e. rw e (get_same l k 0 (omega (arith, leb-true)))) (λ e. get_other l k 0 j e ∙ h)

module _ (t l : List ℕ) (g : long l ≡ true) where
  abbrev headed : List ℕ
  headed = put (put (put (cleared l 512) 0 0) 1 0) 2 0

  headed_long : long headed ≡ true
  headed_long = simp long_put (cleared_long l 512 ∙ g)

  headed_get : (j : ℕ) → j < 512 → get headed j ≡ 0
  headed_get j b =
      zero_put _ 2 j (simp long_put (cleared_long l 512 ∙ g)) (omega arith)
      (zero_put _ 1 j (simp long_put (cleared_long l 512 ∙ g)) (omega arith)
      (zero_put (cleared l 512) 0 j (cleared_long l 512 ∙ g) (omega arith) (cleared_get l 512 j g (omega arith) b)))

  pub fresh_kept : Kept l (fresh_bytes t l)
  unfolding fresh_bytes image
  fresh_kept =
      stored_kept _ _ 64 (omega arith)
      (kept_put _ 2 0 (omega arith) (kept_put _ 1 0 (omega arith) (kept_put _ 0 0 (omega arith) (cleared_kept l 512 (omega arith)))))

  pub fresh_long : long (fresh_bytes t l) ≡ true
  unfolding fresh_bytes image
  fresh_long = stored_long _ _ 64 ∙ headed_long

  fresh_head : (j : ℕ) → j < 136 → get (fresh_bytes t l) j ≡ 0
  unfolding fresh_bytes image
  fresh_head j b = stored_other _ _ 64 j b ∙ headed_get j (omega arith)

  fresh_value : (i : ℕ) → i < 64 → get (fresh_bytes t l) (136 + i) ≡ get t (136 + i)
  unfolding fresh_bytes image
  fresh_value i b = stored_get _ _ 64 i headed_long (omega arith) b ∙ values_get t (replicate 64 0) 64 i (omega arith) b

module _ (p : Program) (t : List ℕ) (table : Says p t) (whole : length (fresh p) ≡ size p) (l : List ℕ) (g : long l ≡ true) where
  fresh_store : words (fresh_bytes t l) 136 (size p) ≡ fresh p
  fresh_store =
      ext_get_or 0 (words (fresh_bytes t l) 136 (size p)) (fresh p) (words_length (fresh_bytes t l) 136 (size p) ∙ sym whole)
      (λ i b.
      let c : i < size p = rw (words_length (fresh_bytes t l) 136 (size p)) at b in
      words_get (fresh_bytes t l) 136 (size p) i c ∙ fresh_value t l g i (omega (arith, table.few_behaviours)) ∙ table.values i c)

  pub fresh_rel : Rel (size p) (fresh_bytes t l) 0 [] rest (emptied (fresh p))
  unfolding emptied slots pile
  fresh_rel =
      let head = fresh_head t l g in
      record {
        whole = fresh_long t l g;
        few = rw (head 1 (omega arith)) (omega arith);
        number = head 0 (omega arith);
        queue = rw (head 1 (omega arith)) List·Permᴰ·nil;
        runs = head 2 (omega arith);
        values = record {
          store = fresh_store;
          stack = rw (head 6 (omega arith));
          shallow = rw (head 6 (omega arith)) (omega arith);
          scratched = length-replicate (length (fresh p)) none ∙ whole;
          placed = length-replicate (length (fresh p)) none ∙ whole;
          scratch = found_none (fresh_bytes t l) 200 (length (fresh p));
          deferred = found_none (fresh_bytes t l) 264 (length (fresh p));
          mark = rw (head 7 (omega arith));
        };
      }
