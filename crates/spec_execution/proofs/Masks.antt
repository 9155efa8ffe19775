-- Where an event's code masks interrupts and where its copy-back is: by counting offs and ons in its first c
-- instructions, in each of the four stretches that c can lie in.
use Rattle.lib_base.proofs.Prelude.{ℕ, ◌≤◌, ◌<◌, ◌+◌, ◌-◌, suc, ◌*◌, ◌≡◌, refl, ◌∙◌, sym, subst, true, false, by_cases}
use Rattle.lib_base.proofs.Prelude.{List, [], ◌∷◌, ◌++◌, append_assoc, length, take, take-append-le, eqb, leb, dec_lt}
use Rattle.lib_base.proofs.Prelude.{ne_eqb, lt-leb, le-leb, arith}
use lib.Seq.{take-append-add}
use Rattle.lib_base.specs.Basics.{All}
use Rattle.lib_base.proofs.Tools.{all_imp}
use Rattle.spec_language.specs.Syntax.{Program}
use Rattle.spec_language.specs.Code.{Instr, off, on, copy, restore, of_c, by_number, copy_part, restore_part, code, members}
use Rattle.spec_execution.specs.Execution.{times, masked_after, copying_back_after}
use Rattle.spec_execution.specs.CodeFacts.{copying_back_at, masked_at}
use Rattle.spec_execution.proofs.Lengths.{mid, length_C, length_code}
use Rattle.spec_execution.proofs.Calm.{Plain, Calm, all_take, calm_copies, calm_mid, plain_restores}

abbrev Counts : List Instr → ℕ → ℕ → Type 0
Counts is a b = (times off is ≡ a) × (times on is ≡ b)

counts_none : (is : List Instr) → All Plain is → Counts is 0 0
unfolding times
counts_none [] h = (refl, refl)
counts_none (i ∷ is) h = let t = counts_none is h.1 in let k = h.0 is in (k.0 ∙ t.0, k.1 ∙ t.1)

counts_join : (xs ys : List Instr) (a b : ℕ) → All Plain xs → Counts ys a b → Counts (xs ++ ys) a b
unfolding times
counts_join [] ys a b h k = k
counts_join (x ∷ xs) ys a b h k = let t = counts_join xs ys a b h.1 k in let u = h.0 (xs ++ ys) in (u.0 ∙ t.0, u.1 ∙ t.1)

-- the first c of a list that begins with plain ones: within those, and past them
within : (c : ℕ) (xs ys : List Instr) → All Plain xs → c ≤ length xs → Counts (take c (xs ++ ys)) 0 0
within c xs ys h l = rw (take-append-le c xs ys l) (counts_none (take c xs) (all_take Plain c xs h))

past : (c : ℕ) (xs ys : List Instr) (a b : ℕ) → All Plain xs → Counts (take c ys) a b → Counts (take (length xs + c) (xs ++ ys)) a b
past c xs ys a b h k = rw (take-append-add xs ys c) (counts_join xs (take c ys) a b h k)

counts_off : (is : List Instr) (a b : ℕ) → Counts is a b → Counts (off ∷ is) (1 + a) b
unfolding times
counts_off is a b h = (omega arith, omega arith)

counts_on : (is : List Instr) (a b : ℕ) → Counts is a b → Counts (on ∷ is) a (1 + b)
unfolding times
counts_on is a b h = (omega arith, omega arith)

module _ (cs ms rs : List Instr) (hc : All Plain cs) (hm : All Plain ms) (hr : All Plain rs) where
  abbrev back : List Instr
  back = off ∷ (rs ++ (on ∷ []))

  abbrev whole : List Instr
  whole = off ∷ (cs ++ (on ∷ (ms ++ back)))

  in_copies : (c k : ℕ) → c ≡ suc k → k ≤ length cs → Counts (take c whole) 1 0
  in_copies c k e l = rw e (counts_off _ 0 0 (within k cs (on ∷ (ms ++ back)) hc l))

  in_middle : (c k : ℕ) → c ≡ suc (length cs + suc k) → k ≤ length ms → Counts (take c whole) 1 1
  in_middle c k e l = rw e (counts_off _ 0 1 (past (suc k) cs (on ∷ (ms ++ back)) 0 1 hc (counts_on _ 0 0 (within k ms back hm l))))

  in_back : (c k : ℕ) → c ≡ suc (length cs + suc (length ms + suc k)) → k ≤ length rs → Counts (take c whole) 2 1
  in_back c k e l =
      rw e (counts_off _ 1 1 (past (suc (length ms + suc k)) cs (on ∷ (ms ++ back)) 1 1 hc
      (counts_on _ 1 0 (past (suc k) ms back 1 0 hm (counts_off _ 0 0 (within k rs (on ∷ []) hr l))))))

-- what the counts say
abbrev Marks : List Instr → ℕ → ℕ → ℕ → Type 0
Marks is len m c = (masked_after is ≡ masked_at len m c) × (copying_back_after is ≡ copying_back_at len m c)

module _ (is : List Instr) (len m c : ℕ) where
  marks_start : times off is ≡ 0 → times on is ≡ 0 → c ≡ 0 → m + 1 < len → Marks is len m c
  marks_start a b e l = let t : leb (len - (m + 1)) c ≡ false = lt-leb (len - (m + 1)) c (omega arith) in rw (a, b, t, e) (refl, refl)

  marks_copies : Counts is 1 0 → 0 < c → c ≤ m + 1 → m + 1 + (m + 1) < len → Marks is len m c
  marks_copies k z h l =
      let t : leb (len - (m + 1)) c ≡ false = lt-leb (len - (m + 1)) c (omega arith) in
      let u : eqb c 0 ≡ false = ne_eqb c 0 (omega arith) in
      let w : leb c (m + 1) ≡ true = le-leb _ _ h in
      rw (k.0, k.1, t, u, w) (refl, refl)

  marks_middle : Counts is 1 1 → m + 1 < c → c < len - (m + 1) → Marks is len m c
  marks_middle k z h =
      let t : leb (len - (m + 1)) c ≡ false = lt-leb (len - (m + 1)) c (omega arith) in
      let u : eqb c 0 ≡ false = ne_eqb c 0 (omega arith) in
      let w : leb c (m + 1) ≡ false = lt-leb c (m + 1) (omega arith) in
      rw (k.0, k.1, t, u, w) (refl, refl)

  marks_back : Counts is 2 1 → len - (m + 1) ≤ c → Marks is len m c
  marks_back k h = let t : leb (len - (m + 1)) c ≡ true = le-leb _ _ h in rw (k.0, k.1, t) (refl, refl)

module _ (cs ms rs : List Instr) (hc : All Plain cs) (hm : All Plain ms) (hr : All Plain rs) where
  marks_of_law : (len m c : ℕ) → length cs ≡ m → length rs ≡ m → len ≡ 4 + 2 * m + length ms → c < len → Marks (take c (whole cs ms rs hc hm hr)) len m c
  marks_of_law len m c lc lr ll b =
      let is = take c (whole cs ms rs hc hm hr) in
      by_cases (dec_lt 0 c)
      (λ z. by_cases (dec_lt (m + 1) c)
      (λ y. by_cases (dec_lt c (len - (m + 1)))
      (λ x. marks_middle is len m c (in_middle cs ms rs hc hm hr c (c - (m + 2)) (omega arith) (omega arith)) y x)
      (λ x. marks_back is len m c (in_back cs ms rs hc hm hr c (c - (m + length ms + 3)) (omega arith) (omega arith)) (omega arith)))
      (λ y. marks_copies is len m c (in_copies cs ms rs hc hm hr c (c - 1) (omega arith) (omega arith)) z (omega arith) (omega arith)))
      (λ z. let e : c ≡ 0 = omega arith in let k : Counts is 0 0 = rw e (counts_none [] tt) in marks_start is len m c k.0 k.1 e (omega arith))

module _ (p : Program) (e : ℕ) where
  abbrev pub copies : List Instr
  copies = by_number p e (of_c copy)

  abbrev pub restores : List Instr
  restores = by_number p e (of_c restore)

  pub code_shape : code p e ≡ off ∷ (copies ++ (on ∷ (mid p e ++ (off ∷ (restores ++ (on ∷ []))))))
  unfolding code copy_part restore_part
  code_shape = simp append_assoc

  plain_copies : All Plain copies
  plain_copies = all_imp Calm Plain (λ i h. h.0) copies (calm_copies p e)

  plain_mid : All Plain (mid p e)
  plain_mid = all_imp Calm Plain (λ i h. h.0) (mid p e) (calm_mid p e)

  pub marks : (c : ℕ) → c < length (code p e) → Marks (take c (code p e)) (length (code p e)) (members p e) c
  marks c b =
      subst (λ is. Marks (take c is) (length (code p e)) (members p e) c) (sym code_shape)
      (marks_of_law copies (mid p e) restores plain_copies plain_mid (plain_restores p e) (length (code p e)) (members p e) c (length_C p e copy) (length_C p e restore)
      (length_code p e) b)
