-- What a pen writes in a row: nothing, one byte, and one thing after the other. By the laws of `take` and `drop`.
use Rattle.lib_base.proofs.Prelude.{ℕ, ◌≤◌, ◌<◌, ◌+◌, ◌-◌, ◌≡◌, refl, ◌∙◌, sym, ap, List, [], ◌∷◌, ◌++◌, append_assoc}
use Rattle.lib_base.proofs.Prelude.{append-nil, length, get_or, take, drop, length-set, set, length-append}
use Rattle.lib_base.proofs.Prelude.{take-suc, drop-drop, take-suc-set, add-one, arith}
use lib.Seq.{drop-set-lt}
use Rattle.std.specs.Borrow.{MutBor}
use Rattle.source_language.specs.Tokens.{SheetToken}
use Rattle.source_pen.specs.declared.Pen.{Pen}
use Rattle.source_pen.specs.Written.{token_after, last_after, written_after, Penned, TokensPenned}

-- the last byte of two texts in a row
pub last_joins : (a : ℕ) (bs cs : List ℕ) → last_after a (bs ++ cs) ≡ last_after (last_after a bs) cs
unfolding last_after
last_joins a [] cs = refl
last_joins a (b ∷ bs) cs = last_joins b bs cs

-- tokens in a row are the first ones, and the others after their last byte
pub written_joins : (a : ℕ) (ts us : List SheetToken) → written_after a (ts ++ us) ≡ written_after a ts ++ written_after (last_after a (written_after a ts)) us
unfolding written_after last_after
written_joins a [] us = refl
written_joins a (t ∷ ts) us =
    let b : ℕ = last_after a (token_after a t) in
    rw (written_joins b ts us, last_joins a (token_after a t) (written_after b ts))
    (sym (append_assoc (token_after a t) (written_after b ts) (written_after (last_after b (written_after b ts)) us)))

pub written_one : (a : ℕ) (t : SheetToken) → written_after a (t ∷ []) ≡ token_after a t
unfolding written_after
written_one a t = append-nil (token_after a t)

-- ---- pens

pub penned_none : (pen : Pen) → Penned pen pen []
unfolding last_after
penned_none pen =
    record { counted = omega arith; ended = refl; same = refl; long = refl; bytes = λ h. sym (append-nil (take pen.at pen.out.now)); rest = λ h. refl }

rest_on : (m n : ℕ) (o p : List ℕ) → m ≤ n → drop m p ≡ drop m o → drop n p ≡ drop n o
rest_on m n o p h e =
    let q : n ≡ m + (n - m) = omega arith in
    rw q (sym (drop-drop (n - m) m p) ∙ (ap (drop (n - m)) e ∙ drop-drop (n - m) m o))

-- one after the other
pub penned_on : {a b c : Pen} {bs cs : List ℕ} → Penned a b bs → Penned b c cs → Penned a c (bs ++ cs)
penned_on {a} {b} {c} {bs} {cs} d e =
    let first : c.at ≤ length a.out.now → b.at ≤ length a.out.now = λ h. omega (arith, e.counted) in
    let within : c.at ≤ length a.out.now → c.at ≤ length b.out.now = λ h. omega (arith, d.long) in
    record {
      counted = omega (arith, d.counted, e.counted, length-append bs cs);
      ended = e.ended ∙ (ap (λ (l : ℕ). last_after l cs) d.ended ∙ sym (last_joins a.last bs cs));
      same = e.same ∙ d.same;
      long = e.long ∙ d.long;
      bytes = λ h. e.bytes (within h) ∙ (ap (λ (l : List ℕ). l ++ cs) (d.bytes (first h)) ∙ append_assoc (take a.at a.out.now) bs cs);
      rest = λ h. e.rest (within h) ∙ rest_on b.at c.at a.out.now b.out.now (omega (arith, e.counted)) (d.rest (first h));
    }

-- the same bytes, otherwise written down
pub penned_as : {a b : Pen} {bs cs : List ℕ} → Penned a b bs → bs ≡ cs → Penned a b cs
penned_as {a} {b} {bs} {cs} d e = rw (sym e) d

-- the same of tokens
pub tokens_on : {a b c : Pen} {ts us : List SheetToken} → TokensPenned a b ts → TokensPenned b c us → TokensPenned a c (ts ++ us)
tokens_on {a} {b} {c} {ts} {us} d e =
    let g : Penned b c (written_after (last_after a.last (written_after a.last ts)) us) =
    penned_as e.penned (ap (λ (l : ℕ). written_after l us) d.penned.ended) in
    record { penned = rw (written_joins a.last ts us) (penned_on d.penned g) }

pub tokens_none : (pen : Pen) → TokensPenned pen pen []
unfolding written_after
tokens_none pen = record { penned = penned_none pen }

pub one_token : {a b : Pen} (t : SheetToken) → Penned a b (token_after a.last t) → TokensPenned a b (t ∷ [])
one_token {a} {b} t d = record { penned = rw (written_one a.last t) d }

-- ---- one byte

pub byte_past : (pen next : Pen) (b : ℕ) → length pen.out.now ≤ pen.at → next.out ≡ pen.out → next.at ≡ pen.at + 1 → next.last ≡ b
    → Penned pen next (b ∷ [])
unfolding last_after
byte_past pen next b h o a l =
    record {
      counted = a;
      ended = l;
      same = ap (λ (m : MutBor (List ℕ)). m.ghost_name) o;
      long = ap (λ (m : MutBor (List ℕ)). length m.now) o;
      bytes = λ g. absurd (omega arith);
      rest = λ g. ap (λ (m : MutBor (List ℕ)). drop next.at m.now) o;
    }

pub byte_put : (pen next : Pen) (b : ℕ) → pen.at < length pen.out.now → next.out.ghost_name ≡ pen.out.ghost_name
    → next.out.now ≡ set pen.out.now pen.at b → next.at ≡ pen.at + 1 → next.last ≡ b → Penned pen next (b ∷ [])
unfolding last_after
byte_put pen next b h s o a l =
    record {
      counted = a;
      ended = l;
      same = s;
      long = rw o (length-set pen.out.now pen.at b);
      bytes = λ g. rw (a, o, add-one) (take-suc-set pen.out.now pen.at b h);
      rest = λ g. rw (a, o) (drop-set-lt (pen.at + 1) pen.out.now pen.at b (omega arith));
    }

-- ---- bytes in a row

pub run_turn : {a b c : Pen} (text : List ℕ) (i : ℕ) → Penned a b (take i text) → i < length text → Penned b c (get_or text i 0 ∷ [])
    → Penned a c (take (i + 1) text)
run_turn {a} {b} {c} text i d h e = rw (add-one, take-suc text i 0 h) (penned_on d e)
