-- Every reader of a declaration or of a part of one leaves fewer tokens than it was given, or no more where it may read
-- none: by following its definition.
use Rattle.lib_base.proofs.Prelude.{ℕ, ◌≤◌, ◌<◌, suc, some, List, [], ◌∷◌, length, eqb, ltb, leb, arith}
use Rattle.lib_base.specs.Basics.{pick}
use Rattle.lib_base.proofs.Tools.{by_test}
use Rattle.source_language.specs.Tokens.{SheetToken, number, name, sign, equals, rank_word, from_word, by_word, nobody_word, seen_word}
use Rattle.source_language.specs.Text.{plus, minus, parameter, event}
use Rattle.source_language.specs.Faults.{off_scale, declared_twice_fault}
use Rattle.source_language.specs.Limits.{among, largest}
use Rattle.source_language.specs.Reader.{Phrased, bad, got, then_phrase, sign_at, tokens_after, past_sign, name_due, number_due, value_of, more_players, players_of, from_of, seen_of, default_of, parameter_of, event_declared}
use Rattle.source_declarations.proofs.Many.{Leaves, leaves_then}
use Rattle.source_language.proofs.Parses.{after_shorter}

-- ---- what is due

pub leaves_sign : {A : Type 0} (m c : ℕ) (f : List SheetToken → Phrased A) (ts : List SheetToken) → ((us : List SheetToken) → length us ≤ length ts → Leaves m (f us))
    → Leaves m (past_sign c f ts)
unfolding past_sign
leaves_sign m c f ts h = by_test (Leaves m) (eqb (sign_at ts) c) (λ e. h (tokens_after ts) (after_shorter ts)) (λ e. tt)

pub leaves_name : {A : Type 0} (m : ℕ) (f : ℕ → List ℕ → List SheetToken → Phrased A) (ts : List SheetToken)
    → ((p : ℕ) (s : List ℕ) (us : List SheetToken) → length us < length ts → Leaves m (f p s us)) → Leaves m (name_due f ts)
leaves_name m f [] h = tt
leaves_name m f (number p n ∷ ts) h = tt
leaves_name m f (name p s ∷ ts) h = h p s ts (omega arith)
leaves_name m f (sign p c ∷ ts) h = tt

pub leaves_number : {A : Type 0} (m top : ℕ) (f : ℕ → ℕ → List SheetToken → Phrased A) (ts : List SheetToken)
    → ((p n : ℕ) (us : List SheetToken) → length us < length ts → Leaves m (f p n us)) → Leaves m (number_due top f ts)
leaves_number m top f [] h = tt
leaves_number m top f (number p n ∷ ts) h = by_test (Leaves m) (ltb top n) (λ e. tt) (λ e. h p n ts (omega arith))
leaves_number m top f (name p s ∷ ts) h = tt
leaves_number m top f (sign p c ∷ ts) h = tt

pub leaves_value : (ts : List SheetToken) → Leaves (length ts) (value_of ts)
unfolding value_of
leaves_value ts =
    by_test (Leaves (length ts)) (eqb (sign_at ts) 5)
    (λ e. leaves_number (length ts) (suc largest) (λ p n us. got (minus n) us) (tokens_after ts) (λ p n us h. omega (arith, after_shorter ts)))
    (λ e. leaves_number (length ts) largest (λ p n us. got (plus n) us) ts (λ p n us h. h))

-- ---- players

leaves_more : (ts : List SheetToken) → Leaves (suc (length ts)) (more_players ts)
unfolding more_players
leaves_more [] = omega arith
leaves_more (number p n ∷ ts) =
    by_test (Leaves (suc (length (number p n ∷ ts)))) (ltb largest n) (λ e. tt) (λ e.
    by_test (Leaves (suc (length (number p n ∷ ts)))) (ltb 7 n) (λ d. tt) (λ d.
    leaves_then (suc (length ts)) (suc (length (number p n ∷ ts))) (more_players ts) (λ ns us. got (n ∷ ns) us) (leaves_more ts) (λ ns us h. omega arith)))
leaves_more (name p s ∷ ts) = omega arith
leaves_more (sign p c ∷ ts) = omega arith

pub leaves_players : (ts : List SheetToken) → Leaves (suc (length ts)) (players_of ts)
leaves_players [] = tt
leaves_players (number p n ∷ ts) = leaves_more (number p n ∷ ts)
leaves_players (name p s ∷ ts) = tt
leaves_players (sign p c ∷ ts) = by_test (Leaves (suc (length (sign p c ∷ ts)))) (eqb c nobody_word) (λ e. omega arith) (λ e. tt)

said_fewer : (m : ℕ) (ts : List SheetToken) → suc (length ts) ≤ m → Leaves m (then_phrase (players_of ts) (λ ns us. got (some ns) us))
said_fewer m ts h = leaves_then (suc (length ts)) m (players_of ts) (λ ns us. got (some ns) us) (leaves_players ts) (λ ns us g. omega arith)

pub leaves_from : (ts : List SheetToken) → Leaves (suc (length ts)) (from_of ts)
unfolding from_of
leaves_from ts =
    by_test (Leaves (suc (length ts))) (eqb (sign_at ts) from_word) (λ e. said_fewer (suc (length ts)) (tokens_after ts) (omega (arith, after_shorter ts))) (λ e. omega arith)

pub leaves_seen : (ts : List SheetToken) → Leaves (suc (length ts)) (seen_of ts)
unfolding seen_of
leaves_seen ts =
    by_test (Leaves (suc (length ts))) (eqb (sign_at ts) seen_word)
    (λ e. leaves_sign (suc (length ts)) by_word (λ us. then_phrase (players_of us) (λ ns vs. got (some ns) vs)) (tokens_after ts)
    (λ us h. said_fewer (suc (length ts)) us (omega (arith, after_shorter ts))))
    (λ e. omega arith)

-- ---- declarations

leaves_default : (s : List ℕ) (ts : List SheetToken) → Leaves (suc (length ts)) (default_of s ts)
unfolding default_of
leaves_default s ts =
    by_test (Leaves (suc (length ts))) (eqb (sign_at ts) equals)
    (λ e. leaves_then (length (tokens_after ts)) (suc (length ts)) (value_of (tokens_after ts)) (λ c us. got (parameter s (some c)) us) (leaves_value (tokens_after ts))
    (λ c us h. omega (arith, after_shorter ts)))
    (λ e. omega arith)

-- fewer tokens are left than any number that is larger
leaves_more_room : {A : Type 0} (n m : ℕ) (x : Phrased A) → n ≤ m → Leaves n x → Leaves m x
leaves_more_room n m (bad k p) h g = tt
leaves_more_room n m (got x us) h g = omega arith

pub leaves_parameter : (ns : List (List ℕ)) (ts : List SheetToken) → Leaves (length ts) (parameter_of ns ts)
unfolding parameter_of
leaves_parameter ns ts =
    by_test (Leaves (length ts)) (leb 8 (length ns)) (λ e. tt) (λ e.
    leaves_name (length ts) (λ p s us. pick (among s ns) (bad declared_twice_fault p) (default_of s us)) (tokens_after ts) (λ p s us h.
    by_test (Leaves (length ts)) (among s ns) (λ d. tt)
    (λ d. leaves_more_room (suc (length us)) (length ts) (default_of s us) (omega (arith, after_shorter ts)) (leaves_default s us))))

ranked_fewer : (m : ℕ) (s : List ℕ) (ts : List SheetToken) → length ts < m
    → Leaves m (past_sign rank_word (number_due largest (λ q n vs. pick (ltb 15 n) (bad off_scale q) (then_phrase (from_of vs) (λ r ws. got (event s n r) ws)))) ts)
ranked_fewer m s ts h =
    leaves_sign m rank_word (number_due largest (λ q n vs. pick (ltb 15 n) (bad off_scale q) (then_phrase (from_of vs) (λ r ws. got (event s n r) ws)))) ts (λ us g.
    leaves_number m largest (λ q n vs. pick (ltb 15 n) (bad off_scale q) (then_phrase (from_of vs) (λ r ws. got (event s n r) ws))) us (λ q n vs k.
    by_test (Leaves m) (ltb 15 n) (λ e. tt)
    (λ e. leaves_then (suc (length vs)) m (from_of vs) (λ r ws. got (event s n r) ws) (leaves_from vs) (λ r ws l. omega arith))))

pub leaves_event : (ns : List (List ℕ)) (ts : List SheetToken) → Leaves (length ts) (event_declared ns ts)
unfolding event_declared
leaves_event ns ts =
    by_test (Leaves (length ts)) (leb 32 (length ns)) (λ e. tt) (λ e.
    leaves_name (length ts) _ (tokens_after ts) (λ p s us h.
    by_test (Leaves (length ts)) (among s ns) (λ d. tt) (λ d. ranked_fewer (length ts) s us (omega (arith, after_shorter ts)))))
