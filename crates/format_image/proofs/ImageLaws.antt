-- What the table of a program says, word by word: each part of the image is found at its place, and the bytes beyond
-- are as they were. By induction over the parts, each of a fixed length.
use Rattle.lib_base.proofs.Prelude.{ℕ, ◌≤◌, ◌<◌, ◌+◌, ◌-◌, suc, zero, ◌*◌, ◌≡◌, refl, ◌∙◌, sym, ap, true, ◌≢◌, List, []}
use Rattle.lib_base.proofs.Prelude.{◌∷◌, ◌++◌, append_assoc, sum, flatten, length, get_or, take, replicate, length-append}
use Rattle.lib_base.proofs.Prelude.{length-replicate, List·getD-append, get_or-set_other, take_all, get_or-append-add, eqb}
use Rattle.lib_base.proofs.Prelude.{ne_eqb, eqb-true, lt-ltb, eqb-false, arith}
use Rattle.lib_base.proofs.Tools.{by_test, split}
use Rattle.lib_word.specs.Word.{get, put}
use Rattle.lib_word.proofs.Laws.{length_put, get_same, get_other}
use Rattle.spec_language.specs.Syntax.{Program}
use Rattle.spec_language.specs.Dependence.{size, events, behaviour_at}
use Rattle.spec_language.specs.Order.{up_to}
use Rattle.spec_language.specs.Code.{Instr, off, second_part, restore_part, code, members}
use Rattle.spec_language.proofs.Laws.{length_up_to, get_d_up_to}
use Rattle.spec_semantics.specs.Meaning.{at, fresh}
use Rattle.format_layout.specs.Layout.{event_word}
use Rattle.format_layout.specs.Foreign.{table_fits}
use Rattle.format_layout.proofs.BoundsLaws.{fit_table}
use Rattle.format_image.specs.Image.{operation, constant, code_start}
use Rattle.format_image.specs.Table.{code_words, all_code, event_record, padded, kind_number, passives_code, before_passives, table_code, passives_at, kind_words, passive_words, board_words, image_words, put_words, table_of}
use Rattle.format_image.proofs.PutWords.{length_put_words}

-- ---- lists

get_d_zeros : (ws : List ℕ) (m k : ℕ) → get_or (ws ++ replicate m 0) k 0 ≡ get_or ws k 0
get_d_zeros [] zero k = refl
get_d_zeros [] (suc m) zero = refl
get_d_zeros [] (suc m) (suc k) = get_d_zeros [] m k
get_d_zeros (w ∷ ws) m zero = refl
get_d_zeros (w ∷ ws) m (suc k) = get_d_zeros ws m k

pub length_padded : (n : ℕ) (ws : List ℕ) → length ws ≤ n → length (padded n ws) ≡ n
unfolding padded
length_padded n ws h = rw (length-append ws (replicate (n - length ws) 0), length-replicate {A = ℕ} (n - length ws) 0) (omega arith)

get_d_padded : (n : ℕ) (ws : List ℕ) (k : ℕ) → get_or (padded n ws) k 0 ≡ get_or ws k 0
unfolding padded
get_d_padded n ws k = get_d_zeros ws (n - length ws) k

-- a part of length n is passed over
get_d_past : (xs ys : List ℕ) (n k : ℕ) → length xs ≡ n → get_or (xs ++ ys) (n + k) 0 ≡ get_or ys k 0
get_d_past xs ys n k h = rw (sym h) (get_or-append-add xs ys k 0)

length_take_most : {A : Type 0} (n : ℕ) (l : List A) → length (take n l) ≤ n
length_take_most zero l = omega arith
length_take_most (suc n) [] = omega arith
length_take_most (suc n) (x ∷ l) = omega (arith, length_take_most n l)

-- ---- parts of equal length

length_even : (m n : ℕ) (f : ℕ → List ℕ) → ((i : ℕ) → length (f i) ≡ m) → length (flatten (up_to n f)) ≡ n * m
unfolding flatten up_to
length_even m zero f h = omega arith
length_even m (suc n) f h =
    rw (length-append (f 0) (flatten (up_to n (λ i. f (suc i)))), h 0, length_even m n (λ i. f (suc i)) (λ i. h (suc i))) (omega arith)

get_d_even : (m n : ℕ) (f : ℕ → List ℕ) (e k : ℕ) → ((i : ℕ) → length (f i) ≡ m) → e < n → k < m
    → get_or (flatten (up_to n f)) (e * m + k) 0 ≡ get_or (f e) k 0
unfolding flatten up_to
get_d_even m zero f e k h b c = absurd (omega arith)
get_d_even m (suc n) f zero k h b c =
    let z : 0 * m + k ≡ k = omega arith in
    let l : k < length (f 0) = omega (arith, h 0) in
    rw z (List·getD-append (f 0) (flatten (up_to n (λ i. f (suc i)))) 0 k l)
get_d_even m (suc n) f (suc e) k h b c =
    let z : suc e * m + k ≡ m + (e * m + k) = omega arith in
    rw z (get_d_past (f 0) (flatten (up_to n (λ i. f (suc i)))) m (e * m + k) (h 0) ∙ get_d_even m n (λ i. f (suc i)) e k (λ i. h (suc i)) (omega arith) c)

-- ---- parts of any length: part e begins at the sum of those before it

module _ {A : Type 0} (d : A) where
  get_d_part : (n : ℕ) (f : ℕ → List A) (e c : ℕ) → e < n → c < length (f e)
      → get_or (flatten (up_to n f)) (sum ◌+◌ 0 (up_to e (λ i. length (f i))) + c) d ≡ get_or (f e) c d
  unfolding flatten up_to sum
  get_d_part zero f e c b h = absurd (omega arith)
  get_d_part (suc n) f zero c b h = let z : 0 + c ≡ c = omega arith in rw z (List·getD-append (f 0) (flatten (up_to n (λ i. f (suc i)))) d c h)
  get_d_part (suc n) f (suc e) c b h =
      let g : ℕ → List A = λ i. f (suc i) in
      let z : length (f 0) + sum ◌+◌ 0 (up_to e (λ i. length (g i))) + c ≡ length (f 0) + (sum ◌+◌ 0 (up_to e (λ i. length (g i))) + c) = omega arith in
      rw z (get_or-append-add (f 0) (flatten (up_to n g)) (sum ◌+◌ 0 (up_to e (λ i. length (g i))) + c) d ∙ get_d_part n g e c (omega arith) h)

  part_within : (n : ℕ) (f : ℕ → List A) (e : ℕ) → e < n → sum ◌+◌ 0 (up_to e (λ i. length (f i))) + length (f e) ≤ length (flatten (up_to n f))
  unfolding flatten up_to sum
  part_within zero f e b = absurd (omega arith)
  part_within (suc n) f zero b = rw (length-append (f 0) (flatten (up_to n (λ i. f (suc i))))) (omega arith)
  part_within (suc n) f (suc e) b =
      let ih = part_within n (λ i. f (suc i)) e (omega arith) in
      rw (length-append (f 0) (flatten (up_to n (λ i. f (suc i))))) (omega arith)

-- ---- code

pub length_code_words : (is : List Instr) → length (code_words is) ≡ 2 * length is
unfolding code_words
length_code_words [] = refl
length_code_words (i ∷ is) = omega (arith, length_code_words is)

get_d_operation : (is : List Instr) (c : ℕ) → c < length is → get_or (code_words is) (c * 2) 0 ≡ operation (get_or is c off)
unfolding code_words
get_d_operation [] c h = absurd (omega arith)
get_d_operation (i ∷ is) zero h = refl
get_d_operation (i ∷ is) (suc c) h = let z : suc c * 2 ≡ suc (suc (c * 2)) = omega arith in rw z (get_d_operation is c (omega arith))

get_d_constant : (is : List Instr) (c : ℕ) → c < length is → get_or (code_words is) (c * 2 + 1) 0 ≡ constant (get_or is c off)
unfolding code_words
get_d_constant [] c h = absurd (omega arith)
get_d_constant (i ∷ is) zero h = refl
get_d_constant (i ∷ is) (suc c) h = let z : suc c * 2 + 1 ≡ suc (suc (c * 2 + 1)) = omega arith in rw z (get_d_constant is c (omega arith))

-- ---- words put one after the other

-- a byte outside word k
byte_other : (l : List ℕ) (k w i : ℕ) → k * 4 + 4 ≤ i → get_or (put l k w) i 0 ≡ get_or l i 0
unfolding put
byte_other l k w i h =
    let a : i ≢ k * 4 = omega arith in
    let b : i ≢ k * 4 + 1 = omega arith in
    let c : i ≢ k * 4 + 2 = omega arith in
    let d : i ≢ k * 4 + 3 = omega arith in
    simp get_or-set_other

pub get_put_words_before : (l : List ℕ) (k : ℕ) (ws : List ℕ) (j : ℕ) → j < k → get (put_words l k ws) j ≡ get l j
unfolding put_words
get_put_words_before l k [] j h = refl
get_put_words_before l k (w ∷ ws) j h = get_put_words_before (put l k w) (k + 1) ws j (omega arith) ∙ get_other l k w j (omega arith)

pub get_put_words : (l : List ℕ) (k : ℕ) (ws : List ℕ) (j : ℕ) → (k + length ws) * 4 ≤ length l → j < length ws
    → get (put_words l k ws) (k + j) ≡ get_or ws j 0
unfolding put_words
get_put_words l k [] j b h = absurd (omega arith)
get_put_words l k (w ∷ ws) zero b h =
    let z : k + 0 ≡ k = omega arith in
    rw z (get_put_words_before (put l k w) (k + 1) ws k (omega arith) ∙ get_same l k w (omega arith))
get_put_words l k (w ∷ ws) (suc j) b h =
    let z : k + suc j ≡ k + 1 + j = omega arith in
    let g : (k + 1 + length ws) * 4 ≤ length (put l k w) = rw (length_put l k w) (omega arith) in
    rw z (get_put_words (put l k w) (k + 1) ws j g (omega arith))

pub byte_put_words : (l : List ℕ) (k : ℕ) (ws : List ℕ) (i : ℕ) → (k + length ws) * 4 ≤ i → get_or (put_words l k ws) i 0 ≡ get_or l i 0
unfolding put_words
byte_put_words l k [] i h = refl
byte_put_words l k (w ∷ ws) i h = byte_put_words (put l k w) (k + 1) ws i (omega arith) ∙ byte_other l k w i (omega arith)

-- ---- the image of a program

-- what a table says of a program
pub record Says (p : Program) (t : List ℕ) : Type 0 where
  pub long : 34816 ≤ length t
  pub event_count_law : get t 0 ≡ events p
  pub behaviour_count_law : get t 1 ≡ size p
  pub few_events : events p ≤ 32
  pub few_behaviours : size p ≤ 64
  pub priorities : (e : ℕ) → e < events p → event_word t e 0 ≡ get_or p.priorities e 0
  pub starts : (e : ℕ) → e < events p → event_word t e 1 ≡ code_start p e
  pub lengths : (e : ℕ) → e < events p → event_word t e 2 ≡ length (code p e)
  pub in_C : (e : ℕ) → e < events p → event_word t e 3 ≡ members p e
  pub values : (i : ℕ) → i < size p → get t (136 + i) ≡ at (fresh p) i
  pub viewers : (i : ℕ) → i < size p → get t (200 + i) ≡ get_or p.viewers i 0
  pub senders : (e : ℕ) → e < events p → get t (264 + e) ≡ get_or p.senders e 0
  pub within : (e : ℕ) → e < events p → code_start p e + length (code p e) ≤ 4096
  pub operations : (e c : ℕ) → e < events p → c < length (code p e) → get t (512 + (code_start p e + c) * 2) ≡ operation (get_or (code p e) c off)
  pub constants : (e c : ℕ) → e < events p → c < length (code p e) → get t (513 + (code_start p e + c) * 2) ≡ constant (get_or (code p e) c off)
  pub fits : table_fits t ≡ true
  pub kinds : (i : ℕ) → i < size p → get t (296 + i) ≡ kind_number (behaviour_at p i)
  pub passives_start_law : get t 360 ≡ passives_at p
  pub passives_length_law : get t 361 ≡ length (passives_code p)
  pub passives_within : length (passives_code p) ≤ 4096 → passives_at p + length (passives_code p) ≤ 4096
  pub passives_operations : length (passives_code p) ≤ 4096 → (c : ℕ) → c < length (passives_code p)
      → get t (512 + (passives_at p + c) * 2) ≡ operation (get_or (passives_code p) c off)
  pub passives_constants : length (passives_code p) ≤ 4096 → (c : ℕ) → c < length (passives_code p)
      → get t (513 + (passives_at p + c) * 2) ≡ constant (get_or (passives_code p) c off)

module _ (p : Program) (few : events p ≤ 32) (small : size p ≤ 64) (whole : length (fresh p) ≡ size p)
    (short : length (all_code p) ≤ 4096) (seen : length p.viewers ≤ 64) (sent : length p.senders ≤ 32) where
  abbrev heads : List ℕ
  heads = padded 8 (events p ∷ size p ∷ [])

  abbrev records : List ℕ
  records = padded 128 (flatten (up_to (events p) (event_record p)))

  abbrev values : List ℕ
  values = board_words p

  abbrev codes : List ℕ
  codes = padded 8192 (code_words (table_code p))

  length_heads : length heads ≡ 8
  length_heads = length_padded 8 (events p ∷ size p ∷ []) (omega arith)

  length_records : length records ≡ 128
  length_records =
      length_padded 128 (flatten (up_to (events p) (event_record p))) (rw (length_even 4 (events p) (event_record p) (λ i. refl)) (omega arith))

  abbrev from_viewers : List ℕ
  from_viewers = padded 64 p.viewers ++ (padded 32 p.senders ++ passive_words p)

  abbrev from_senders : List ℕ
  from_senders = padded 32 p.senders ++ passive_words p

  abbrev stretch : List ℕ
  stretch = passives_at p ∷ length (passives_code p) ∷ []

  length_kinds : length (kind_words p) ≤ 64
  unfolding kind_words
  length_kinds = rw (length_up_to (size p) (λ i. kind_number (behaviour_at p i))) small

  length_passives : length (passive_words p) ≡ 216
  unfolding passive_words
  length_passives =
      rw (
        length-append (padded 64 (kind_words p)) (padded 152 stretch),
        length_padded 64 (kind_words p) length_kinds,
        length_padded 152 stretch (omega arith),
      )

  length_values : length values ≡ 376
  unfolding board_words
  length_values =
      rw (
        length-append (padded 64 (fresh p)) from_viewers,
        length-append (padded 64 p.viewers) from_senders,
        length-append (padded 32 p.senders) (passive_words p),
        length_padded 64 (fresh p) (omega arith),
        length_padded 64 p.viewers seen,
        length_padded 32 p.senders sent,
        length_passives,
      )

  length_table_code : length (table_code p) ≤ 4096
  unfolding table_code
  length_table_code = by_test (λ (x : List Instr). length x ≤ 4096) (eqb (events p) 0) (λ _. length_take_most 4096 (passives_code p)) (λ _. short)

  length_codes : length codes ≡ 8192
  length_codes = length_padded 8192 (code_words (table_code p)) (rw (length_code_words (table_code p)) (omega (arith, length_table_code)))

  pub length_image : length (image_words p) ≡ 8704
  unfolding image_words
  length_image =
      rw (
        length-append heads (records ++ (values ++ codes)),
        length-append records (values ++ codes),
        length-append values codes,
        length_heads,
        length_records,
        length_values,
        length_codes,
      )

  -- a word of each part
  in_heads : (k : ℕ) → k < 8 → get_or (image_words p) k 0 ≡ get_or (events p ∷ size p ∷ []) k 0
  unfolding image_words
  in_heads k h =
      let b : k < length heads = omega (arith, length_heads) in
      List·getD-append heads (records ++ (values ++ codes)) 0 k b ∙ get_d_padded 8 (events p ∷ size p ∷ []) k

  in_records : (k : ℕ) → k < 128 → get_or (image_words p) (8 + k) 0 ≡ get_or (flatten (up_to (events p) (event_record p))) k 0
  unfolding image_words
  in_records k h =
      let b : k < length records = omega (arith, length_records) in
      get_d_past heads (records ++ (values ++ codes)) 8 k length_heads
      ∙ List·getD-append records (values ++ codes) 0 k b ∙ get_d_padded 128 (flatten (up_to (events p) (event_record p))) k

  in_board : (k : ℕ) → k < 376 → get_or (image_words p) (136 + k) 0 ≡ get_or (board_words p) k 0
  unfolding image_words
  in_board k h =
      let b : k < length values = omega (arith, length_values) in
      let z : 136 + k ≡ 8 + (128 + k) = omega arith in
      rw z
      (get_d_past heads (records ++ (values ++ codes)) 8 (128 + k) length_heads ∙ get_d_past records (values ++ codes) 128 k length_records
      ∙ List·getD-append values codes 0 k b)

  in_values : (k : ℕ) → k < 64 → get_or (board_words p) k 0 ≡ get_or (fresh p) k 0
  unfolding board_words
  in_values k h =
      let b : k < length (padded 64 (fresh p)) = rw (length_padded 64 (fresh p) (omega arith)) h in
      List·getD-append (padded 64 (fresh p)) from_viewers 0 k b ∙ get_d_padded 64 (fresh p) k

  past_values : (k : ℕ) → get_or (board_words p) (64 + k) 0 ≡ get_or from_viewers k 0
  unfolding board_words
  past_values k = get_d_past (padded 64 (fresh p)) from_viewers 64 k (length_padded 64 (fresh p) (omega arith))

  in_viewers : (k : ℕ) → k < 64 → get_or (board_words p) (64 + k) 0 ≡ get_or p.viewers k 0
  in_viewers k h =
      let b : k < length (padded 64 p.viewers) = rw (length_padded 64 p.viewers seen) h in
      past_values k ∙ List·getD-append (padded 64 p.viewers) from_senders 0 k b ∙ get_d_padded 64 p.viewers k

  past_viewers : (k : ℕ) → get_or (board_words p) (128 + k) 0 ≡ get_or from_senders k 0
  past_viewers k =
      let z : 128 + k ≡ 64 + (64 + k) = omega arith in
      rw z (past_values (64 + k) ∙ get_d_past (padded 64 p.viewers) from_senders 64 k (length_padded 64 p.viewers seen))

  in_senders : (k : ℕ) → k < 32 → get_or (board_words p) (128 + k) 0 ≡ get_or p.senders k 0
  in_senders k h =
      let b : k < length (padded 32 p.senders) = rw (length_padded 32 p.senders sent) h in
      past_viewers k ∙ List·getD-append (padded 32 p.senders) (passive_words p) 0 k b ∙ get_d_padded 32 p.senders k

  past_senders : (k : ℕ) → get_or (board_words p) (160 + k) 0 ≡ get_or (passive_words p) k 0
  past_senders k =
      let z : 160 + k ≡ 128 + (32 + k) = omega arith in
      rw z (past_viewers (32 + k) ∙ get_d_past (padded 32 p.senders) (passive_words p) 32 k (length_padded 32 p.senders sent))

  in_kinds : (i : ℕ) → i < size p → get_or (board_words p) (160 + i) 0 ≡ kind_number (behaviour_at p i)
  unfolding passive_words kind_words
  in_kinds i h =
      let b : i < length (padded 64 (kind_words p)) = rw (length_padded 64 (kind_words p) length_kinds) (omega arith) in
      past_senders i ∙ List·getD-append (padded 64 (kind_words p)) (padded 152 stretch) 0 i b ∙ get_d_padded 64 (kind_words p) i
      ∙ get_d_up_to (size p) (λ j. kind_number (behaviour_at p j)) i 0 h

  in_stretch : (k : ℕ) → get_or (board_words p) (224 + k) 0 ≡ get_or stretch k 0
  unfolding passive_words
  in_stretch k =
      let z : 224 + k ≡ 160 + (64 + k) = omega arith in
      rw z
      (past_senders (64 + k) ∙ get_d_past (padded 64 (kind_words p)) (padded 152 stretch) 64 k (length_padded 64 (kind_words p) length_kinds)
      ∙ get_d_padded 152 stretch k)

  in_codes : (k : ℕ) → get_or (image_words p) (512 + k) 0 ≡ get_or (code_words (table_code p)) k 0
  unfolding image_words
  in_codes k =
      let z : 512 + k ≡ 8 + (128 + (376 + k)) = omega arith in
      rw z
      (get_d_past heads (records ++ (values ++ codes)) 8 (128 + (376 + k)) length_heads ∙ get_d_past records (values ++ codes) 128 (376 + k) length_records
      ∙ get_d_past values codes 376 k length_values ∙ get_d_padded 8192 (code_words (table_code p)) k)

  pub code_within : (e : ℕ) → e < events p → code_start p e + length (code p e) ≤ 4096
  unfolding code_start all_code
  code_within e h = omega (arith, part_within off (events p) (code p) e h, short)

  -- where an event is declared, the instructions are those of all events
  declared_code : (e : ℕ) → e < events p → table_code p ≡ all_code p
  unfolding table_code
  declared_code e h = rw (ne_eqb (events p) 0 (omega arith))

  at_code : (e c : ℕ) → e < events p → c < length (code p e) → get_or (table_code p) (code_start p e + c) off ≡ get_or (code p e) c off
  unfolding code_start all_code
  at_code e c h b = rw (declared_code e h) (get_d_part off (events p) (code p) e c h b)

  at_code_within : (e c : ℕ) → e < events p → c < length (code p e) → code_start p e + c < length (table_code p)
  unfolding code_start all_code
  at_code_within e c h b = rw (declared_code e h) (omega (arith, part_within off (events p) (code p) e h))

  -- event 0's code is what comes before the passives, these, and the copy-back
  code_parts : code p 0 ≡ before_passives p ++ (passives_code p ++ restore_part p 0)
  unfolding code second_part before_passives passives_code
  code_parts = simp append_assoc

  passives_in_code : length (before_passives p) + length (passives_code p) ≤ length (code p 0)
  passives_in_code =
      rw (code_parts, length-append (before_passives p) (passives_code p ++ restore_part p 0), length-append (passives_code p) (restore_part p 0)) (omega arith)

  passives_code_law : (c : ℕ) → c < length (passives_code p) → get_or (code p 0) (length (before_passives p) + c) off ≡ get_or (passives_code p) c off
  passives_code_law c h =
      rw code_parts
      (get_or-append-add (before_passives p) (passives_code p ++ restore_part p 0) c off ∙ List·getD-append (passives_code p) (restore_part p 0) off c h)

  start_zero : code_start p 0 ≡ 0
  unfolding code_start up_to sum
  start_zero = refl

  module _ (alone : length (passives_code p) ≤ 4096) where
    passives_fit : passives_at p + length (passives_code p) ≤ 4096
    unfolding passives_at
    passives_fit =
        by_test (λ (k : ℕ). k + length (passives_code p) ≤ 4096) (eqb (events p) 0) (λ _. omega arith) (λ e.
        omega (arith, passives_in_code, start_zero, code_within 0 (omega (arith, eqb-false (events p) 0 e))))

    none : (c : ℕ) → c < length (passives_code p) → events p ≡ 0 → (0 + c < length (table_code p)) × (get_or (table_code p) (0 + c) off ≡ get_or (passives_code p) c off)
    unfolding table_code
    none c h e = let z : 0 + c ≡ c = omega arith in rw (e, take_all 4096 (passives_code p) alone, z) (h, refl)

    some : (c : ℕ) → c < length (passives_code p) → 0 < events p
        → (length (before_passives p) + c < length (table_code p)) × (get_or (table_code p) (length (before_passives p) + c) off ≡ get_or (passives_code p) c off)
    some c h e =
        let k = length (before_passives p) + c in
        let b : k < length (code p 0) = omega (arith, passives_in_code) in
        let z : code_start p 0 + k ≡ k = omega (arith, start_zero) in
        (rw z at (at_code_within 0 k e b), (rw z at (at_code 0 k e b)) ∙ passives_code_law c h)

    at_passives : (c : ℕ) → c < length (passives_code p)
        → (passives_at p + c < length (table_code p)) × (get_or (table_code p) (passives_at p + c) off ≡ get_or (passives_code p) c off)
    unfolding passives_at
    at_passives c h =
        split (eqb (events p) 0)
        (λ e. rw e (none c h (eqb-true (events p) 0 e)))
        (λ e. rw e (some c h (omega (arith, eqb-false (events p) 0 e))))

  module _ (t₀ : List ℕ) (room : 34816 ≤ length t₀) where
    pub length_table : length (table_of p t₀) ≡ length t₀
    unfolding table_of
    length_table = length_put_words t₀ 0 (image_words p)

    pub get_table : (k : ℕ) → k < 8704 → get (table_of p t₀) k ≡ get_or (image_words p) k 0
    unfolding table_of
    get_table k h =
        let z : 0 + k ≡ k = omega arith in
        rw z at (get_put_words t₀ 0 (image_words p) k (rw length_image (omega arith)) (rw length_image h))

    -- bytes beyond the table's are as they were
    pub beyond_table : (j : ℕ) → 34816 ≤ j → get_or (table_of p t₀) j 0 ≡ get_or t₀ j 0
    unfolding table_of
    beyond_table j h = byte_put_words t₀ 0 (image_words p) j (rw length_image (omega arith))

    pub event_word_law : (e k : ℕ) → e < events p → k < 4 → event_word (table_of p t₀) e k ≡ get_or (event_record p e) k 0
    unfolding event_word
    event_word_law e k h b =
        let z : 8 + e * 4 + k ≡ 8 + (e * 4 + k) = omega arith in
        rw (lt-ltb e 32 (omega arith), z)
        (get_table (8 + (e * 4 + k)) (omega arith) ∙ in_records (e * 4 + k) (omega arith) ∙ get_d_even 4 (events p) (event_record p) e k (λ i. refl) h b)

    count_events : get (table_of p t₀) 0 ≡ events p
    count_events = get_table 0 (omega arith) ∙ in_heads 0 (omega arith)

    count_behaviours : get (table_of p t₀) 1 ≡ size p
    count_behaviours = get_table 1 (omega arith) ∙ in_heads 1 (omega arith)

    table_fits_law : table_fits (table_of p t₀) ≡ true
    table_fits_law = fit_table (table_of p t₀) (record {
      long = rw length_table room;
      few_events = rw count_events few;
      few_behaviours = rw count_behaviours small;
      codes = λ e h.
          let g : e < events p = rw count_events at h in
          rw (event_word_law e 1 g (omega arith), event_word_law e 2 g (omega arith)) (code_within e g);
    })

    operation_at_law : (k : ℕ) → k < length (table_code p) → get (table_of p t₀) (512 + k * 2) ≡ operation (get_or (table_code p) k off)
    operation_at_law k g = get_table (512 + k * 2) (omega (arith, length_table_code)) ∙ in_codes (k * 2) ∙ get_d_operation (table_code p) k g

    constant_at_law : (k : ℕ) → k < length (table_code p) → get (table_of p t₀) (513 + k * 2) ≡ constant (get_or (table_code p) k off)
    constant_at_law k g =
        let z : 513 + k * 2 ≡ 512 + (k * 2 + 1) = omega arith in
        rw z (get_table (512 + (k * 2 + 1)) (omega (arith, length_table_code)) ∙ in_codes (k * 2 + 1) ∙ get_d_constant (table_code p) k g)

    pub table_says : Says p (table_of p t₀)
    table_says = record {
      long = rw length_table room;
      event_count_law = count_events;
      behaviour_count_law = count_behaviours;
      few_events = few;
      few_behaviours = small;
      priorities = λ e h. event_word_law e 0 h (omega arith);
      starts = λ e h. event_word_law e 1 h (omega arith);
      lengths = λ e h. event_word_law e 2 h (omega arith);
      in_C = λ e h. event_word_law e 3 h (omega arith);
      values = λ i h. get_table (136 + i) (omega arith) ∙ in_board i (omega arith) ∙ in_values i (omega arith);
      viewers = λ i h.
          let z : 200 + i ≡ 136 + (64 + i) = omega arith in
          rw z (get_table (136 + (64 + i)) (omega arith) ∙ in_board (64 + i) (omega arith) ∙ in_viewers i (omega arith));
      senders = λ e h.
          let z : 264 + e ≡ 136 + (128 + e) = omega arith in
          rw z (get_table (136 + (128 + e)) (omega arith) ∙ in_board (128 + e) (omega arith) ∙ in_senders e (omega arith));
      within = code_within;
      operations = λ e c h b.
          let k = code_start p e + c in
          operation_at_law k (at_code_within e c h b) ∙ ap operation (at_code e c h b);
      constants = λ e c h b.
          let k = code_start p e + c in
          constant_at_law k (at_code_within e c h b) ∙ ap constant (at_code e c h b);
      fits = table_fits_law;
      kinds = λ i h.
          let z : 296 + i ≡ 136 + (160 + i) = omega arith in
          rw z (get_table (136 + (160 + i)) (omega arith) ∙ in_board (160 + i) (omega arith) ∙ in_kinds i h);
      passives_start_law = get_table 360 (omega arith) ∙ in_board 224 (omega arith) ∙ in_stretch 0;
      passives_length_law = get_table 361 (omega arith) ∙ in_board 225 (omega arith) ∙ in_stretch 1;
      passives_within = passives_fit;
      passives_operations = λ alone c h.
          let q = at_passives alone c h in
          operation_at_law (passives_at p + c) q.0 ∙ ap operation q.1;
      passives_constants = λ alone c h.
          let q = at_passives alone c h in
          constant_at_law (passives_at p + c) q.0 ∙ ap constant q.1;
    }
