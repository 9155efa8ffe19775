-- Lists of players, `from` and `seen by`: read exactly as the grammar has them, by induction on the tokens.
use Rattle.lib_base.proofs.Prelude.{ℕ, ◌≤◌, ◌<◌, ◌≡◌, refl, ◌∙◌, sym, subst, Option, some, List, [], ◌∷◌, length, eqb}
use Rattle.lib_base.proofs.Prelude.{ltb, ne_eqb, eqb-true, le-ltb, ltb-false, arith}
use Rattle.lib_base.proofs.Tools.{by_test}
use Rattle.source_language.specs.Tokens.{SheetToken, number, name, sign, from_word, by_word, nobody_word, seen_word}
use Rattle.source_language.specs.Grammar.{IsPlayers, nobody, last_player, and_player, IsFrom, from_unsaid, from_said, IsSeen, seen_unsaid, seen_said}
use Rattle.source_language.specs.Limits.{largest, PlayersFit}
use Rattle.source_language.specs.Reader.{got, then_phrase, place_at, sign_at, tokens_after, past_sign, more_players, players_of, from_of, seen_of}
use Rattle.source_language.proofs.Parses.{Of, then_of, signed_is, past_of}

-- ---- what is read is there

Played : List SheetToken → List ℕ → List SheetToken → Type 0
Played ts ns us = IsPlayers ts ns us × PlayersFit (some ns)

-- a number within its bounds, and whatever is read after it
player_sound : (P : List ℕ → List SheetToken → Type 0) (p n : ℕ) (ts : List SheetToken) → (n ≤ 7 → Of P (then_phrase (more_players ts) (λ ns us. got (n ∷ ns) us)))
    → Of P (more_players (number p n ∷ ts))
unfolding more_players
player_sound P p n ts h =
    by_test (Of P) (ltb largest n) (λ e. tt) (λ e. by_test (Of P) (ltb 7 n) (λ d. tt) (λ d. h (ltb-false 7 n d)))

more_sound : (p n : ℕ) (ts : List SheetToken) → Of (Played (number p n ∷ ts)) (more_players (number p n ∷ ts))
unfolding more_players Played
more_sound p n [] = player_sound (Played (number p n ∷ [])) p n [] (λ h. (last_player, (h, tt)))
more_sound p n (number q m ∷ ts) =
    player_sound F p n (number q m ∷ ts) (λ h.
    then_of F (Played (number q m ∷ ts)) (λ ns us. got (n ∷ ns) us) (λ ns us r. (and_player r.0, (h, r.1))) (more_players (number q m ∷ ts)) (more_sound q m ts))
  where
    F : List ℕ → List SheetToken → Type 0
    F = Played (number p n ∷ number q m ∷ ts)
more_sound p n (name q s ∷ ts) = player_sound (Played (number p n ∷ name q s ∷ ts)) p n (name q s ∷ ts) (λ h. (last_player, (h, tt)))
more_sound p n (sign q c ∷ ts) = player_sound (Played (number p n ∷ sign q c ∷ ts)) p n (sign q c ∷ ts) (λ h. (last_player, (h, tt)))

players_sound : (ts : List SheetToken) → Of (Played ts) (players_of ts)
unfolding Played
players_sound [] = tt
players_sound (number p n ∷ ts) = more_sound p n ts
players_sound (name p s ∷ ts) = tt
players_sound (sign p c ∷ ts) =
    by_test (Of (Played (sign p c ∷ ts))) (eqb c nobody_word) (λ e. let q : c ≡ nobody_word = eqb-true c nobody_word e in (rw q nobody, tt)) (λ e. tt)

unfoldable pub From : List SheetToken → Option (List ℕ) → List SheetToken → Type 0
From ts m us = IsFrom ts m us × PlayersFit m

pub from_sound : (ts : List SheetToken) → Of (From ts) (from_of ts)
unfolding from_of From Played
from_sound ts =
    by_test (Of (From ts)) (eqb (sign_at ts) from_word)
    (λ e. then_of (From ts) (Played (tokens_after ts)) _
    (λ ns us h. (subst (λ (l : List SheetToken). IsFrom l (some ns) us) (sym (signed_is from_word (omega arith) ts e)) (from_said h.0), h.1))
    (players_of (tokens_after ts)) (players_sound (tokens_after ts)))
    (λ e. (from_unsaid, tt))

unfoldable pub Seen : List SheetToken → Option (List ℕ) → List SheetToken → Type 0
Seen ts m us = IsSeen ts m us × PlayersFit m

pub seen_sound : (ts : List SheetToken) → Of (Seen ts) (seen_of ts)
unfolding seen_of Seen Played
seen_sound ts =
    by_test (Of (Seen ts)) (eqb (sign_at ts) seen_word)
    (λ e. past_of (Seen ts) by_word (omega arith) _ (tokens_after ts) (λ p us q.
    then_of (Seen ts) (Played us) _
    (λ ns vs h.
    let r : ts ≡ sign (place_at ts) seen_word ∷ sign p by_word ∷ us = signed_is seen_word (omega arith) ts e ∙ rw q in
    (subst (λ (l : List SheetToken). IsSeen l (some ns) vs) (sym r) (seen_said h.0), h.1))
    (players_of us) (players_sound us)))
    (λ e. (seen_unsaid, tt))

-- ---- what is there is read, before a sign

none_more : (us : List SheetToken) → 0 < sign_at us → more_players us ≡ got [] us
unfolding more_players
none_more [] h = refl
none_more (number p n ∷ us) h = absurd (omega arith)
none_more (name p s ∷ us) h = refl
none_more (sign p c ∷ us) h = refl

players-reads : {ts us : List SheetToken} {ns : List ℕ} → IsPlayers ts ns us → PlayersFit (some ns) → 0 < sign_at us → players_of ts ≡ got ns us
unfolding more_players
players-reads nobody f h = refl
players-reads (last_player {p} {n} {us}) f h = rw (le-ltb largest n (omega (arith, f.0)), le-ltb 7 n f.0, none_more us h)
players-reads (and_player {p} {q} {m} {n} d) f h =
    rw (le-ltb largest m (omega (arith, f.0)), le-ltb 7 m f.0) (rw (players-reads d f.1 h))

pub from-reads : {ts us : List SheetToken} {m : Option (List ℕ)} → IsFrom ts m us → PlayersFit m → from_word < sign_at us → from_of ts ≡ got m us
unfolding from_of
from-reads (from_unsaid {us}) f h = rw (ne_eqb (sign_at us) from_word (omega arith))
from-reads (from_said d) f h = rw (players-reads d f (omega arith))

pub seen-reads : {ts us : List SheetToken} {m : Option (List ℕ)} → IsSeen ts m us → PlayersFit m → seen_word < sign_at us → seen_of ts ≡ got m us
unfolding seen_of past_sign
seen-reads (seen_unsaid {us}) f h = rw (ne_eqb (sign_at us) seen_word (omega arith))
seen-reads (seen_said d) f h = rw (players-reads d f (omega arith))

-- how many tokens are left, and which sign comes first
players_less : {ts us : List SheetToken} {ns : List ℕ} → IsPlayers ts ns us → length us < length ts
players_less nobody = omega arith
players_less last_player = omega arith
players_less (and_player d) = omega (arith, players_less d)

pub from_less : {ts us : List SheetToken} {m : Option (List ℕ)} → IsFrom ts m us → length us ≤ length ts
from_less from_unsaid = omega arith
from_less (from_said d) = omega (arith, players_less d)

pub seen_less : {ts us : List SheetToken} {m : Option (List ℕ)} → IsSeen ts m us → length us ≤ length ts
seen_less seen_unsaid = omega arith
seen_less (seen_said d) = omega (arith, players_less d)

pub seen_first : {ts us : List SheetToken} {m : Option (List ℕ)} → IsSeen ts m us → seen_word < sign_at us → seen_word ≤ sign_at ts
seen_first seen_unsaid h = omega arith
seen_first (seen_said d) h = omega arith
