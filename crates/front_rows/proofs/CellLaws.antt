-- What copying a cell leaves: the cell's words are those of the first, all others as they were. By the laws of one
-- store after another.
use Rattle.lib_base.proofs.Prelude.{ℕ, ◌≤◌, ◌<◌, ◌+◌, suc, zero, ◌*◌, ◌≡◌, refl, ◌∙◌, sym, ◌≢◌, by_cases, List, length, get_or}
use Rattle.lib_base.proofs.Prelude.{take, drop, length-drop, get_or-drop, length-set, get_or-set_other, get_or-set_same, take-set-le, ℕ_discrete, arith}
use Rattle.std.proofs.Math.Seq.{paste, paste-zero, paste-suc}
use Rattle.draft_form.specs.Draft.{draft_length}
use Rattle.front_rows.specs.Cells.{entries_copied, start_copied, viewer_copied, cell_copied}

-- ---- entries

pub length_entries : (d : List ℕ) (i k n : ℕ) → length (entries_copied d i k n) ≡ length d
unfolding entries_copied
length_entries d i k zero = refl
length_entries d i k (suc n) = length-set (entries_copied d i k n) (2048 + k * 32 + n) _ ∙ length_entries d i k n

entries_take : (d : List ℕ) (i k n m : ℕ) → m ≤ 2048 → take m (entries_copied d i k n) ≡ take m d
unfolding entries_copied
entries_take d i k zero m h = refl
entries_take d i k (suc n) m h = take-set-le m (entries_copied d i k n) (2048 + k * 32 + n) _ (omega arith) ∙ entries_take d i k n m h

-- a word that is none of them
entries_other : (d : List ℕ) (i k n j : ℕ) → ((e : ℕ) → e < n → j ≢ 2048 + k * 32 + e) → get_or (entries_copied d i k n) j 0 ≡ get_or d j 0
unfolding entries_copied
entries_other d i k zero j h = refl
entries_other d i k (suc n) j h =
    get_or-set_other (entries_copied d i k n) (2048 + k * 32 + n) j _ 0 (h n (omega arith)) ∙ entries_other d i k n j (λ e b. h e (omega arith))

-- so they are a copy at once
pub entries_pasted : (d : List ℕ) (i k n : ℕ) → length d ≡ draft_length → i < 64 → k < 64 → n ≤ 32
    → paste d (2048 + k * 32) (drop (2048 + i * 32) d) n ≡ entries_copied d i k n
unfolding entries_copied
entries_pasted d i k zero l a b h = sym (paste-zero d (2048 + k * 32) (drop (2048 + i * 32) d))
entries_pasted d i k (suc n) l a b h =
    let s : List ℕ = drop (2048 + i * 32) d in
    let q : get_or (entries_copied d i k n) (2048 + i * 32 + n) 0 ≡ get_or s n 0 =
    entries_other d i k n (2048 + i * 32 + n) (λ e g. omega arith) ∙ sym (get_or-drop (2048 + i * 32) d n 0) in
    rw (q, ← entries_pasted d i k n l a b (omega arith))
    (sym (paste-suc d (2048 + k * 32) s n 0 (omega arith) (rw (length-drop (2048 + i * 32) d) (omega arith))))

entries_same : (d : List ℕ) (i k n e : ℕ) → length d ≡ draft_length → i < 64 → k < 64 → i ≢ k → n ≤ 32 → e < n
    → get_or (entries_copied d i k n) (2048 + k * 32 + e) 0 ≡ get_or d (2048 + i * 32 + e) 0
unfolding entries_copied
entries_same d i k zero e l a b c m h = absurd (omega arith)
entries_same d i k (suc n) e l a b c m h =
    by_cases (ℕ_discrete e n)
    (λ q. rw q
    (get_or-set_same (entries_copied d i k n) (2048 + k * 32 + n) _ 0 (omega (arith, length_entries d i k n))
    ∙ entries_other d i k n (2048 + i * 32 + n) (λ f g. omega arith)))
    (λ q. get_or-set_other (entries_copied d i k n) (2048 + k * 32 + n) (2048 + k * 32 + e) _ 0 (omega arith) ∙ entries_same d i k n e l a b c (omega arith) (omega arith))

-- ---- a cell

module _ (d : List ℕ) (i k place : ℕ) (long : length d ≡ draft_length) (a : i < 64) (b : k < 64) (c : i ≢ k) where
  abbrev d₁ : List ℕ
  d₁ = entries_copied d i k 32

  abbrev d₂ : List ℕ
  d₂ = start_copied d₁ i k

  abbrev d₃ : List ℕ
  d₃ = viewer_copied d₂ i k

  long₁ : length d₁ ≡ draft_length
  long₁ = length_entries d i k 32 ∙ long

  long₂ : length d₂ ≡ draft_length
  unfolding start_copied
  long₂ = length-set d₁ (4160 + k) _ ∙ long₁

  long₃ : length d₃ ≡ draft_length
  unfolding viewer_copied
  long₃ = length-set d₂ (4256 + k) _ ∙ long₂

  pub cell_long : length (cell_copied d i k place) ≡ draft_length
  unfolding cell_copied
  cell_long = length-set d₃ (4352 + k) place ∙ long₃

  -- up to the first store of each word
  other₂ : (j : ℕ) → j ≢ 4160 + k → get_or d₂ j 0 ≡ get_or d₁ j 0
  unfolding start_copied
  other₂ j h = get_or-set_other d₁ (4160 + k) j _ 0 h

  other₃ : (j : ℕ) → j ≢ 4256 + k → get_or d₃ j 0 ≡ get_or d₂ j 0
  unfolding viewer_copied
  other₃ j h = get_or-set_other d₂ (4256 + k) j _ 0 h

  other₄ : (j : ℕ) → j ≢ 4352 + k → get_or (cell_copied d i k place) j 0 ≡ get_or d₃ j 0
  unfolding cell_copied
  other₄ j h = get_or-set_other d₃ (4352 + k) j place 0 h

  pub cell_take : (m : ℕ) → m ≤ 2048 → take m (cell_copied d i k place) ≡ take m d
  unfolding cell_copied viewer_copied start_copied
  cell_take m h =
      take-set-le m d₃ (4352 + k) place (omega arith) ∙ take-set-le m d₂ (4256 + k) _ (omega arith) ∙ take-set-le m d₁ (4160 + k) _ (omega arith)
      ∙ entries_take d i k 32 m h

  -- a word that is none of the cell's
  pub cell_other : (j : ℕ) → ((e : ℕ) → e < 32 → j ≢ 2048 + k * 32 + e) → j ≢ 4160 + k → j ≢ 4256 + k → j ≢ 4352 + k → get_or (cell_copied d i k place) j 0 ≡ get_or d j 0
  cell_other j p q r s = other₄ j s ∙ other₃ j r ∙ other₂ j q ∙ entries_other d i k 32 j p

  pub cell_entry : (e : ℕ) → e < 32 → get_or (cell_copied d i k place) (2048 + k * 32 + e) 0 ≡ get_or d (2048 + i * 32 + e) 0
  cell_entry e h =
      other₄ (2048 + k * 32 + e) (omega arith) ∙ other₃ (2048 + k * 32 + e) (omega arith) ∙ other₂ (2048 + k * 32 + e) (omega arith)
      ∙ entries_same d i k 32 e long a b c (omega arith) h

  pub cell_start : get_or (cell_copied d i k place) (4160 + k) 0 ≡ get_or d (4160 + i) 0
  unfolding start_copied
  cell_start =
      other₄ (4160 + k) (omega arith) ∙ other₃ (4160 + k) (omega arith) ∙ get_or-set_same d₁ (4160 + k) _ 0 (omega (arith, long₁))
      ∙ entries_other d i k 32 (4160 + i) (λ e h. omega arith)

  pub cell_viewer : get_or (cell_copied d i k place) (4256 + k) 0 ≡ get_or d (4256 + i) 0
  unfolding viewer_copied
  cell_viewer =
      other₄ (4256 + k) (omega arith) ∙ get_or-set_same d₂ (4256 + k) _ 0 (omega (arith, long₂)) ∙ other₂ (4256 + i) (omega arith)
      ∙ entries_other d i k 32 (4256 + i) (λ e h. omega arith)

  pub cell_place : get_or (cell_copied d i k place) (4352 + k) 0 ≡ place
  unfolding cell_copied
  cell_place = get_or-set_same d₃ (4352 + k) place 0 (omega (arith, long₃))
