-- The bytes of events are those of the sheet's signals.
use Rattle.lib_base.proofs.Prelude.{ℕ, ◌+◌, ◌%◌, ◌≡◌, refl, ◌∙◌, sym, ap, Option, some, none, List, [], ◌∷◌, ◌++◌, map}
use Rattle.lib_base.proofs.Prelude.{append_assoc, append-nil, map-append, length, ne_eqb, arith}
use Rattle.spec_language.specs.Sheet.{Signal}
use Rattle.spec_language.specs.Grammar.{encode_event, encode_events}
use Rattle.source_language.specs.Text.{TextEvent, event}
use Rattle.source_language.specs.Meaning.{bits_below, signal_of}
use Rattle.source_coding.specs.Sizes.{sender_size, events_size}
use Rattle.source_declarations.specs.Players.{rights_number}
use Rattle.sheet_write.specs.Writes.{event_bytes}
use Rattle.source_language.proofs.Fits.{bits_small}

events_join : (xs ys : List Signal) → encode_events (xs ++ ys) ≡ encode_events xs ++ encode_events ys
unfolding encode_events
events_join [] ys = refl
events_join (x ∷ xs) ys = ap (λ bs. encode_event x ++ bs) (events_join xs ys) ∙ sym (append_assoc (encode_event x) (encode_events xs) (encode_events ys))

pub events_more : (es : List TextEvent) (e : TextEvent) → encode_events (map signal_of (es ++ (e ∷ []))) ≡ encode_events (map signal_of es) ++ encode_event (signal_of e)
unfolding encode_events
events_more es e =
    ap encode_events (map-append signal_of es (e ∷ []))
    ∙ events_join (map signal_of es) (signal_of e ∷ [])
    ∙ ap (λ bs. encode_events (map signal_of es) ++ bs) (append-nil (encode_event (signal_of e)))

pub sizes_more : (es : List TextEvent) (s : List ℕ) (n : ℕ) (m : Option (List ℕ)) → events_size (es ++ (event s n m ∷ [])) ≡ events_size es + (4 + sender_size m)
unfolding events_size
sizes_more [] s n m = omega arith
sizes_more (event t k l ∷ es) s n m = omega (arith, sizes_more es s n m)

pub event_bytes_law : (s : List ℕ) (n : ℕ) (m : Option (List ℕ)) → event_bytes n (rights_number m) ≡ encode_event (signal_of (event s n m))
unfolding event_bytes
event_bytes_law s n none = refl
event_bytes_law s n (some ns) =
    let low : bits_below 8 ns % 256 ≡ bits_below 8 ns = omega (arith, bits_small 8 ns) in
    rw (ne_eqb (bits_below 8 ns) 256 (omega (arith, bits_small 8 ns)), low)

pub event_size : (s : List ℕ) (n : ℕ) (m : Option (List ℕ)) → length (encode_event (signal_of (event s n m))) ≡ 4 + sender_size m
event_size s n none = refl
event_size s n (some ns) = refl
