-- The library's digits of a number are the number in decimal, by induction on how many it has at the most; and a
-- word that is cast to a signed number is written as its sign and its digits.
use Rattle.lib_base.proofs.Prelude.{ℕ, ◌≤◌, ◌<◌, ◌+◌, ◌-◌, suc, zero, ◌*◌, ◌%◌, ◌/◌, ◌^◌, ◌≡◌, refl, ◌∙◌, sym, ap, List}
use Rattle.lib_base.proofs.Prelude.{[], ◌∷◌, ◌++◌, append_assoc, append-nil, length, get_or, take, pow-suc, add-one, take_all, arith}
use Rattle.std.specs.Fmt.{decimal, signed_decimal}
use Rattle.std.specs.Int.{cast_signed}
use lib.IntN.{ℤ, negsuc}
use Rattle.std.proofs.Common.{inl, inr, w32}
use Rattle.std.proofs.lemmas.Bool.{cases_lt}
use Rattle.std.proofs.lemmas.Int.{to_z_pos}
use Rattle.std.proofs.Math.Facts.{to_z-neg}
use Rattle.std.proofs.lemmas.Fmt.{decimal_digit, decimal_step}
use Rattle.lib_base.proofs.Pick.{if_lt, if_not_lt}
use Rattle.desk_format.specs.Script.{decimal_in, decimal_text, signed_text, values_text, board_line}

spelled : (places n : ℕ) → n < 10 ^ suc places → n < 2 ^ 64 → decimal n ≡ decimal_in (suc places) n
unfolding decimal_in
spelled zero n h b = if_lt _ _ n 10 (omega arith) (decimal_digit n (omega arith))
spelled (suc places) n h b =
    elim (cases_lt n 10) [
      | inl short ↦ if_lt _ _ n 10 short (decimal_digit n short)
      | inr long ↦
          let p : n < 10 ^ suc places * 10 = rw (← pow-suc 10 (suc places)) h in
          if_not_lt _ _ n 10 long
          (decimal_step n long b ∙ ap (λ (l : List ℕ). l ++ ((48 + n % 10) ∷ [])) (spelled places (n / 10) (omega arith) (omega arith)))
    ]

pub decimal_is : (n : ℕ) → n < 2 ^ 64 → decimal n ≡ decimal_text n
decimal_is n b = spelled 19 n (omega arith) b

signed_is : (w : ℕ) → w < 2 ^ 32 → signed_decimal (cast_signed w32 w) ≡ signed_text w
unfolding signed_text
signed_is w b =
    elim (cases_lt w 2147483648) [
      | inl low ↦ rw (to_z_pos w32 w (omega arith)) (if_lt _ _ w 2147483648 low (decimal_is w (omega arith)))
      | inr high ↦
          let e : 4294967296 - suc (4294967295 - w) ≡ w = omega arith in
          let f : cast_signed w32 w ≡ negsuc (4294967295 - w) = rw e at (to_z-neg w32 (4294967295 - w) (omega arith)) in
          let s : suc (4294967295 - w) ≡ 4294967296 - w = omega arith in
          rw f (if_not_lt _ _ w 2147483648 high (ap (λ (l : List ℕ). 45 ∷ l) (rw s (decimal_is (4294967296 - w) (omega arith)))))
    ]

-- one value more
values_more : (ws : List ℕ) (n : ℕ) → n < length ws → values_text (take (suc n) ws) ≡ values_text (take n ws) ++ (32 ∷ signed_text (get_or ws n 0))
unfolding values_text
values_more [] n h = absurd (omega arith)
values_more (w ∷ ws) zero h = ap (λ (l : List ℕ). 32 ∷ l) (append-nil (signed_text w))
values_more (w ∷ ws) (suc n) h =
    ap (λ (l : List ℕ). 32 ∷ (signed_text w ++ l)) (values_more ws n (omega arith))
    ∙ ap (λ (l : List ℕ). 32 ∷ l) (sym (append_assoc (signed_text w) (values_text (take n ws)) (32 ∷ signed_text (get_or ws n 0))))

-- the same, as it is written
pub value_more : (ws : List ℕ) (n : ℕ) → n < length ws → (z : ℤ) → z ≡ cast_signed w32 (get_or ws n 0) → get_or ws n 0 < 2 ^ 32
    → values_text (take n ws) ++ (32 ∷ signed_decimal z) ≡ values_text (take (n + 1) ws)
value_more ws n h z e b = rw (add-one n, values_more ws n h, e, signed_is (get_or ws n 0) b) refl

-- all values
pub all_values : (ws : List ℕ) (n : ℕ) → length ws ≤ n → ((66 ∷ []) ++ values_text (take n ws)) ++ (10 ∷ []) ≡ board_line ws
unfolding board_line
all_values ws n h = rw (take_all n ws h) refl
