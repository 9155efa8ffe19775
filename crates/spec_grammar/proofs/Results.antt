-- What a result of a reader says of the bytes, and that the reader's connectives (`then`, `sized`, `byte_in`,
-- `read_all`) carry it. By clauses on the result: a fault has a number from 4 to 10, and what is got is an encoding
-- within its limits.
use Rattle.lib_base.proofs.Prelude.{ℕ, ◌≤◌, ◌<◌, ◌+◌, suc, zero, ◌*◌, ◌%◌, ◌/◌, ◌^◌, ◌≡◌, refl, ◌∙◌, sym, ap, true}
use Rattle.lib_base.proofs.Prelude.{false, Bool, List, [], ◌∷◌, ◌++◌, append_assoc, append-nil, length, get_or, eqb}
use Rattle.lib_base.proofs.Prelude.{eqb-true, arith}
use Rattle.lib_base.proofs.Tools.{by_test, all_split}
use Rattle.lib_word.specs.Word.{get_at}
use Rattle.spec_language.specs.Refusals.{wrong_length}
use Rattle.spec_language.specs.Grammar.{word}
use Rattle.spec_language.specs.Reading.{Got, bad, got, then, sized, byte_in, read_all}
use Rattle.spec_grammar.proofs.Fields.{Bytes}

-- a fault's number is one of those for reading; what is read from bytes is its encoding, and the rest
abbrev pub Says : {A : Type 0} → (A → List ℕ) → (A → Type 0) → List ℕ → Got A → Type 0
Says enc Fit s (bad n) = (4 ≤ n) × (n ≤ 10)
Says enc Fit s (got x rest) = Bytes s → (s ≡ enc x ++ rest) × Fit x

-- ---- values of a fixed length

pub none_left : (v : List ℕ) → length v ≡ 0 → v ≡ []
none_left [] e = refl
none_left (x ∷ v) e = absurd (omega arith)

pub one_byte : (v : List ℕ) → length v ≡ 1 → v ≡ get_or v 0 0 ∷ []
one_byte [] e = absurd (omega arith)
one_byte (x ∷ []) e = refl
one_byte (x ∷ (y ∷ v)) e = absurd (omega arith)

-- four bytes are the word that they make
pub word_bytes : (v : List ℕ) → length v ≡ 4 → Bytes v → (v ≡ word (get_at v 0)) × (get_at v 0 < 2 ^ 32)
unfolding get_at
word_bytes [] e b = absurd (omega arith)
word_bytes (x ∷ []) e b = absurd (omega arith)
word_bytes (x ∷ (y ∷ [])) e b = absurd (omega arith)
word_bytes (x ∷ (y ∷ (z ∷ []))) e b = absurd (omega arith)
word_bytes (x ∷ (y ∷ (z ∷ (w ∷ [])))) e b =
    let p : (((x * 256 + y) * 256 + z) * 256 + w) / 16777216 ≡ x = omega arith in
    let q : (((x * 256 + y) * 256 + z) * 256 + w) / 65536 % 256 ≡ y = omega arith in
    let r : (((x * 256 + y) * 256 + z) * 256 + w) / 256 % 256 ≡ z = omega arith in
    let t : (((x * 256 + y) * 256 + z) * 256 + w) % 256 ≡ w = omega arith in
    (rw (p, q, r, t), omega arith)
word_bytes (x ∷ (y ∷ (z ∷ (w ∷ (u ∷ v))))) e b = absurd (omega arith)

-- and a word is read back
pub word_back : (w : ℕ) → get_at (word w) 0 ≡ w
unfolding get_at
word_back w = omega arith

-- ---- the connectives

module _ {A : Type 0} (P : Got A → Type 0) where
  pub then_of : {B : Type 0} (Q : Got B → Type 0) (f : B → List ℕ → Got A) → ((n : ℕ) → Q (bad n) → P (bad n))
      → ((x : B) (rest : List ℕ) → Q (got x rest) → P (f x rest)) → (g : Got B) → Q g → P (then g f)
  then_of Q f a b (bad n) h = a n h
  then_of Q f a b (got x rest) h = b x rest h

  pub sized_of : (n : ℕ) (v : List ℕ) (x : Got A) → P (bad wrong_length) → (length v ≡ n → P x) → P (sized n v x)
  sized_of n v x a b = by_test P (eqb (length v) n) (λ e. b (eqb-true (length v) n e)) (λ e. a)

  pub whole_of : (v : List ℕ) (x : Got A) → P (bad wrong_length) → (v ≡ [] → P x) → P (sized 0 v x)
  whole_of v x a b = sized_of 0 v x a (λ e. b (none_left v e))

  pub byte_of : (v : List ℕ) (f : ℕ → List ℕ → Got A) → P (bad wrong_length) → ((b : ℕ) (w : List ℕ) → v ≡ b ∷ w → P (f b w)) → P (byte_in v f)
  byte_of [] f a b = a
  byte_of (x ∷ v) f a b = b x v refl

-- ---- one after another

-- those got are those of xs and then those of s, up to the bytes that are left, where they end
abbrev pub SaysMany : {A : Type 0} → (List A → List ℕ) → (List A → Type 0) → (List ℕ → Bool) → List A → List ℕ → Got (List A) → Type 0
SaysMany encs Fits ended xs s (bad m) = (4 ≤ m) × (m ≤ 10)
SaysMany encs Fits ended xs s (got ys rest) = Bytes s → Fits xs → (encs xs ++ s ≡ encs ys ++ rest) × Fits ys × (ended rest ≡ true)

module _ {A : Type 0} (enc : A → List ℕ) (encs : List A → List ℕ) (nil : encs [] ≡ []) (cons : (x : A) (xs : List A) → encs (x ∷ xs) ≡ enc x ++ encs xs)
    (ended : List ℕ → Bool) (one : List A → List ℕ → Got A) where
  -- they are read back if each of them is, after those before it
  pub many-reads : (Fits : List A → Type 0) → ((x : A) (rest : List ℕ) → ended (enc x ++ rest) ≡ false)
      → ((xs : List A) (y : A) (ys : List A) (rest : List ℕ) → Fits (xs ++ (y ∷ ys)) → one xs (enc y ++ rest) ≡ got y rest)
      → (k : ℕ) (xs ys : List A) (rest : List ℕ) → ended rest ≡ true → length ys < k → Fits (xs ++ ys) → read_all ended one k xs (encs ys ++ rest) ≡ got (xs ++ ys) rest
  unfolding read_all
  many-reads Fits on each zero xs ys rest z b h = absurd (omega arith)
  many-reads Fits on each (suc k) xs [] rest z b h = rw (nil, z, append-nil xs)
  many-reads Fits on each (suc k) xs (y ∷ ys) rest z b h =
      rw (cons y ys, append_assoc (enc y) (encs ys) rest, on y (encs ys ++ rest), each xs y ys (encs ys ++ rest) h)
      (many-reads Fits on each k (xs ++ (y ∷ [])) ys rest z (omega arith) (rw (append_assoc xs (y ∷ []) ys) h) ∙ ap (λ (l : List A). got l rest) (append_assoc xs (y ∷ []) ys))

  encs_snoc : (xs : List A) (x : A) → encs (xs ++ (x ∷ [])) ≡ encs xs ++ enc x
  encs_snoc [] x = cons x [] ∙ rw nil (append-nil (enc x))
  encs_snoc (y ∷ ys) x =
      cons y (ys ++ (x ∷ [])) ∙ ap (λ (u : List ℕ). enc y ++ u) (encs_snoc ys x) ∙ sym (append_assoc (enc y) (encs ys) (enc x)) ∙ ap (λ (u : List ℕ). u ++ enc x) (sym (cons y ys))

  -- what is got are such, if what `one` gets is, after those before it
  module _ (Fits : List A → Type 0) (Next : List A → A → Type 0) (more : (xs : List A) (x : A) → Fits xs → Next xs x → Fits (xs ++ (x ∷ [])))
      (each : (xs : List A) (s : List ℕ) → Says enc (Next xs) s (one xs s)) where
    after : (xs : List A) (s : List ℕ) (x : A) (rest : List ℕ) → Says enc (Next xs) s (got x rest)
        → (r : Got (List A)) → SaysMany encs Fits ended (xs ++ (x ∷ [])) rest r → SaysMany encs Fits ended xs s r
    after xs s x rest g (bad m) h = h
    after xs s x rest g (got ys left) h = λ b f.
        let r = g b in
        let q = h (all_split (λ b. b < 256) (enc x) rest (rw r.0 at b)).1 (more xs x f r.1) in (
          ap (λ (u : List ℕ). encs xs ++ u) r.0 ∙ sym (append_assoc (encs xs) (enc x) rest) ∙ ap (λ (u : List ℕ). u ++ rest) (sym (encs_snoc xs x)) ∙ q.0,
          q.1,
          q.2,
        )

    pub many_says : (k : ℕ) (xs : List A) (s : List ℕ) → SaysMany encs Fits ended xs s (read_all ended one k xs s)
    unfolding read_all
    many_says zero xs s = omega arith
    many_says (suc k) xs s =
        by_test (SaysMany encs Fits ended xs s) (ended s) (λ e b f. (refl, f, e))
        (λ e. then_of (SaysMany encs Fits ended xs s) (Says enc (Next xs) s) _ (λ m h. h)
        (λ x rest g. after xs s x rest g (read_all ended one k (xs ++ (x ∷ [])) rest) (many_says k (xs ++ (x ∷ [])) rest))
        (one xs s) (each xs s))
