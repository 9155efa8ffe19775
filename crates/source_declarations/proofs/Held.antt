-- Names held by their places: a place that is written behind them changes none, and those of a list of declarations are
-- the names taken after it.
use Rattle.lib_base.proofs.Prelude.{ℕ, ◌≤◌, ◌<◌, ◌+◌, suc, zero, ◌≡◌, refl, ◌∙◌, sym, ap, List, [], ◌∷◌, ◌++◌, map}
use Rattle.lib_base.proofs.Prelude.{map-append, length, get_or, take, set, get_or-set_other, get_or-set_same, take-suc}
use Rattle.lib_base.proofs.Prelude.{take-suc-set, add-one, arith}
use mathlib.Core.List.{reverse_aux, reverse_aux-append}
use Rattle.source_language.specs.Text.{Parameter, parameter, TextEvent, event}
use Rattle.source_language.specs.Limits.{after_all, with_parameter, with_event}
use Rattle.source_coding.specs.Places.{name_at, names_held}
use Rattle.source_declarations.specs.Declarations.{name_of_parameter, name_of_event}

pub held_count : (text places : List ℕ) (n : ℕ) → length (names_held text places n) ≡ n
unfolding names_held
held_count text places zero = refl
held_count text places (suc n) = ap suc (held_count text places n)

-- a write at place i leaves the names before it
pub held_before : (text places : List ℕ) (i p n : ℕ) → n ≤ i → names_held text (set places i p) n ≡ names_held text places n
unfolding names_held
held_before text places i p zero h = refl
held_before text places i p (suc n) h = rw (get_or-set_other places i n p 0 (omega arith), held_before text places i p n (omega arith))

-- a write behind them adds a name
pub held_more : (text places : List ℕ) (n p : ℕ) → n < length places → names_held text (set places n p) (n + 1) ≡ name_at text p ∷ names_held text places n
unfolding names_held
held_more text places n p h = rw (add-one, get_or-set_same places n p 0 h, held_before text places n p n (omega arith))

pub named_more : (text places : List ℕ) (n p : ℕ) → n < length places → map (name_at text) (take (n + 1) (set places n p)) ≡ map (name_at text) (take n places) ++ (name_at text p ∷ [])
named_more text places n p h = rw (add-one, take-suc-set places n p h) (map-append (name_at text) (take n places) (p ∷ []))

-- the names at the first n places, the last one first
pub held_reversed : (text places : List ℕ) (n : ℕ) → n ≤ length places → names_held text places n ≡ reverse_aux (map (name_at text) (take n places)) []
unfolding names_held
held_reversed text places zero h = refl
held_reversed text places (suc n) h =
    ap (λ ns. name_at text (get_or places n 0) ∷ ns) (held_reversed text places n (omega arith))
    ∙ sym
    (ap (λ ps. reverse_aux (map (name_at text) ps) []) (take-suc places n 0 (omega arith))
    ∙ ap (λ ns. reverse_aux ns []) (map-append (name_at text) (take n places) (get_or places n 0 ∷ []))
    ∙ reverse_aux-append (map (name_at text) (take n places)) (name_at text (get_or places n 0) ∷ []) [])

parameters_taken : (ns : List (List ℕ)) (ps : List Parameter) → after_all with_parameter ns ps ≡ reverse_aux (map name_of_parameter ps) ns
unfolding after_all
parameters_taken ns [] = refl
parameters_taken ns (parameter s d ∷ ps) = parameters_taken (s ∷ ns) ps

events_taken : (ns : List (List ℕ)) (es : List TextEvent) → after_all with_event ns es ≡ reverse_aux (map name_of_event es) ns
unfolding after_all
events_taken ns [] = refl
events_taken ns (event s n m ∷ es) = events_taken (s ∷ ns) es

-- the state after all parameters, and after all events
pub parameters_held : (text places : List ℕ) (n : ℕ) (ps : List Parameter) → n ≤ length places → map (name_at text) (take n places) ≡ map name_of_parameter ps
    → names_held text places n ≡ after_all with_parameter [] ps
parameters_held text places n ps h e = held_reversed text places n h ∙ ap (λ ns. reverse_aux ns []) e ∙ sym (parameters_taken [] ps)

pub events_held : (text places : List ℕ) (n : ℕ) (es : List TextEvent) → n ≤ length places → map (name_at text) (take n places) ≡ map name_of_event es
    → names_held text places n ≡ after_all with_event [] es
events_held text places n es h e = held_reversed text places n h ∙ ap (λ ns. reverse_aux ns []) e ∙ sym (events_taken [] es)
