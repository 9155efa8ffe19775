-- Players read one after the other: those so far come before those that are left, and their bits are in the word
-- (`PlayersTurn`). What each return of the readers of players comes to.
use Rattle.std.specs.Prelude.{Err}
use Rattle.source_coding.specs.declared.faults.Fault.{Fault}
use Rattle.source_coding.specs.FaultWords.{fault_of}
use Rattle.source_language.specs.Faults.{off_scale, too_large}
use Rattle.lib_base.proofs.Prelude.{ℕ, ◌≤◌, ◌<◌, ◌≡◌, refl, ◌∙◌, sym, ap, ◌||◌, List, ◌∷◌, ◌++◌, []}
use Rattle.lib_base.proofs.Prelude.{append-nil, length, eqb, ltb, ne_eqb, le-ltb, lt-ltb, ltb-false, arith}
use Rattle.lib_base.specs.Basics.{All}
use Rattle.lib_base.proofs.Tools.{split, all_join}
use Rattle.lib_bits.specs.Bits.{bit}
use Rattle.lib_bits.proofs.BitLaws.{bit_none}
use Rattle.source_language.specs.Tokens.{from_word, by_word, nobody_word, seen_word}
use Rattle.source_language.specs.Limits.{largest}
use Rattle.source_language.specs.Meaning.{among_players, bits_below}
use Rattle.source_language.specs.Reader.{got, sign_at, past_sign, more_players, players_of, from_of, seen_of}
use Rattle.source_coding.specs.Places.{tokens_from}
use Rattle.source_tokens.specs.Token.{capped_at, TokenAt}
use Rattle.source_tokens.specs.declared.Token.{Token}
use Rattle.source_tokens.specs.declared.Token.TheVariants.{Number, Name, Sign}
use Rattle.source_due.specs.Due.{Due, found, SignTold}
use Rattle.source_declarations.specs.Players.{players_said, Rights, given, RightsRead}
use Rattle.source_declarations.proofs.Many.{prepended, prepended_none, prepended_cons}
use Rattle.source_declarations.proofs.Bits.{players_more, players_are}
use Rattle.source_language.proofs.Fits.{bits_small}

-- ---- numbers in a row

pub record PlayersTurn (text : List ℕ) (at here bits : ℕ) : Type 0 where
  pub found : List ℕ
  pub whole : more_players (tokens_from text at) ≡ prepended found (more_players (tokens_from text here))
  pub gathered : (i : ℕ) → bit bits i ≡ among_players i found
  pub low : All (λ n. n ≤ 7) found
  pub onward : at ≤ here
  pub within : here ≤ length text

pub players_start : (text : List ℕ) (at : ℕ) → at ≤ length text → PlayersTurn text at at 0
unfolding among_players
players_start text at h = record {
  found = [];
  whole = prepended_none (more_players (tokens_from text at));
  gathered = bit_none;
  low = tt;
  onward = omega arith;
  within = h;
}

pub players_low : {text : List ℕ} {at here bits : ℕ} → PlayersTurn text at here bits → bits ≤ 256
players_low {text} {at} {here} {bits} t = omega (arith, players_are bits t.found t.low t.gathered, bits_small 8 t.found)

-- a token that is no number ends them
players_over : (text : List ℕ) (at here bits : ℕ) → PlayersTurn text at here bits → more_players (tokens_from text here) ≡ got [] (tokens_from text here)
    → RightsRead text (given here bits) (players_said (more_players (tokens_from text at)))
players_over text at here bits t e =
    let g : more_players (tokens_from text at) ≡ got t.found (tokens_from text here) = t.whole ∙ rw e (ap (λ ns. got ns (tokens_from text here)) (append-nil t.found)) in
    rw g (refl, players_are bits t.found t.low t.gathered)

pub players_end : {text : List ℕ} {at here bits : ℕ} (r : Token) → PlayersTurn text at here bits → TokenAt text here r → ((p v next : ℕ) → r ≡ Number p v next → ⊥)
    → RightsRead text (given here bits) (players_said (more_players (tokens_from text at)))
unfolding more_players
players_end (Number p v next) t h k = absurd (k p v next refl)
players_end {text} {at} {here} {bits} (Name p next) t h k = players_over text at here bits t (rw h)
players_end {text} {at} {here} {bits} (Sign p c next) t h k = players_over text at here bits t (rw h)

-- a number of the text is as large as the one that stands for it, as far as that counts
capped_large : (n : ℕ) → largest < capped_at n → largest < n
capped_large n = split (ltb n 2147483649) (λ e. rw e (λ h. h)) (λ e. rw e (λ h. omega (arith, ltb-false n 2147483649 e)))

capped_small : (n : ℕ) → capped_at n ≤ largest → n ≡ capped_at n
capped_small n = split (ltb n 2147483649) (λ e. rw e (λ h. refl)) (λ e. rw e (λ h. absurd (omega arith)))

pub players_large : {text : List ℕ} {at here bits : ℕ} (r : Token) (p v next : ℕ) (w : Fault) → PlayersTurn text at here bits → TokenAt text here r → r ≡ Number p v next → largest < v
    → w ≡ fault_of too_large p → RightsRead text (Err w) (players_said (more_players (tokens_from text at)))
unfolding more_players
players_large {text} {at} {here} {bits} r p v next w t h e l f =
    let g = rw e at h in
    let b : largest < capped_at g.0 = rw (← g.2) l in
    rw (t.whole, g.1, lt-ltb largest g.0 (capped_large g.0 b)) f

pub players_off : {text : List ℕ} {at here bits : ℕ} (r : Token) (p v next : ℕ) (w : Fault) → PlayersTurn text at here bits → TokenAt text here r → r ≡ Number p v next → v ≤ largest → 7 < v
    → w ≡ fault_of off_scale p → RightsRead text (Err w) (players_said (more_players (tokens_from text at)))
unfolding more_players
players_off {text} {at} {here} {bits} r p v next w t h e l o f =
    let g = rw e at h in
    let n : g.0 ≡ v = capped_small g.0 (rw (← g.2) l) ∙ sym g.2 in
    rw (t.whole, g.1, n, le-ltb largest v l, lt-ltb 7 v o) f

pub players_turn : {text : List ℕ} {at here bits : ℕ} (r : Token) (p v next more : ℕ) → PlayersTurn text at here bits → TokenAt text here r → r ≡ Number p v next → v ≤ largest → v ≤ 7
    → here ≤ next → next ≤ length text → ((i : ℕ) → bit more i ≡ bit bits i || eqb i v) → PlayersTurn text at next more
unfolding more_players
players_turn {text} {at} {here} {bits} r p v next more t h e l o u q m =
    let g = rw e at h in
    let n : g.0 ≡ v = capped_small g.0 (rw (← g.2) l) ∙ sym g.2 in
    record {
      found = t.found ++ (v ∷ []);
      whole = t.whole ∙ rw (g.1, n, le-ltb largest v l, le-ltb 7 v o) (prepended_cons t.found v (more_players (tokens_from text next)));
      gathered = λ i. m i ∙ rw (t.gathered i) (sym (players_more t.found v i));
      low = all_join (λ k. k ≤ 7) t.found (v ∷ []) t.low (o, tt);
      onward = omega (arith, t.onward);
      within = q;
    }

-- ---- players

pub players_nobody : (text : List ℕ) (at : ℕ) (t : Token) (p c next : ℕ) → TokenAt text at t → t ≡ Sign p c next → c ≡ nobody_word
    → RightsRead text (given next 0) (players_said (players_of (tokens_from text at)))
unfolding bits_below among_players
players_nobody text at t p c next h e d = let k = rw (e, d) at h in rw k (refl, refl)

-- ---- who may send

pub from_unsaid : (text : List ℕ) (at : ℕ) (d : Due) (w : Fault) → SignTold text at from_word d → d ≡ Err w → RightsRead text (given at 256) (from_of (tokens_from text at))
unfolding from_of
from_unsaid text at d w h e = let g = rw e at h in rw (ne_eqb (sign_at (tokens_from text at)) from_word g.0) (refl, refl)

pub from_said : (text : List ℕ) (at : ℕ) (d : Due) (p v next : ℕ) (r : Rights) → SignTold text at from_word d → d ≡ found p v next
    → RightsRead text r (players_said (players_of (tokens_from text next))) → RightsRead text r (from_of (tokens_from text at))
unfolding from_of
from_said text at d p v next r h e g = let k = rw e at h in rw k g

-- ---- who may see

pub seen_unsaid : (text : List ℕ) (at : ℕ) (d : Due) (w : Fault) → SignTold text at seen_word d → d ≡ Err w → RightsRead text (given at 256) (seen_of (tokens_from text at))
unfolding seen_of
seen_unsaid text at d w h e = let g = rw e at h in rw (ne_eqb (sign_at (tokens_from text at)) seen_word g.0) (refl, refl)

pub seen_broken : (text : List ℕ) (at : ℕ) (d b : Due) (p v after : ℕ) (w : Fault) → SignTold text at seen_word d → d ≡ found p v after → SignTold text after by_word b → b ≡ Err w
    → RightsRead text (Err w) (seen_of (tokens_from text at))
unfolding seen_of past_sign
seen_broken text at d b p v after w h e g f =
    let x = rw e at h in
    let y = rw f at g in
    rw (x, ne_eqb (sign_at (tokens_from text after)) by_word y.0) y.1

pub seen_said : (text : List ℕ) (at : ℕ) (d b : Due) (p v after q u next : ℕ) (r : Rights) → SignTold text at seen_word d → d ≡ found p v after → SignTold text after by_word b
    → b ≡ found q u next → RightsRead text r (players_said (players_of (tokens_from text next))) → RightsRead text r (seen_of (tokens_from text at))
unfolding seen_of past_sign
seen_said text at d b p v after q u next r h e g f k =
    let x = rw e at h in
    let y = rw f at g in
    rw (x, y) k
