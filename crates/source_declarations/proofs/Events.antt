-- Events read one after the other: those so far come before those that are left, their names stand at the first places,
-- and their fields are written (`EventTurn`). What each return of the readers of events comes to.
use Rattle.std.specs.Prelude.{Err}
use Rattle.source_coding.specs.declared.faults.Fault.{Fault}
use Rattle.source_coding.specs.FaultWords.{fault_of}
use Rattle.source_language.specs.Faults.{off_scale, too_many_fault, declared_twice_fault}
use Rattle.lib_base.proofs.Prelude.{ℕ, ◌≤◌, ◌<◌, ◌+◌, ◌*◌, ◌≡◌, refl, ◌∙◌, sym, ap, true, false, Bool, Option, some, []}
use Rattle.lib_base.proofs.Prelude.{none, List, ◌∷◌, ◌++◌, map, append_assoc, append-nil, map-append, length, take}
use Rattle.lib_base.proofs.Prelude.{length-set, set, length-append, eqb, leb, ne_eqb, le-ltb, lt-ltb, leb-false, arith}
use Rattle.lib_base.proofs.Tools.{split}
use Rattle.spec_language.specs.Grammar.{encode_event, encode_events}
use Rattle.source_language.specs.Tokens.{SheetToken, sign, rank_word, event_keyword}
use Rattle.source_language.specs.Text.{TextEvent, event}
use Rattle.source_language.specs.Limits.{among, largest, with_event}
use Rattle.source_language.specs.Meaning.{signal_of}
use Rattle.source_language.specs.Reader.{Phrased, bad, got, sign_at, past_sign, from_of, event_declared, many_of}
use Rattle.source_coding.specs.Places.{tokens_from, name_at, names_held}
use Rattle.source_coding.specs.Sizes.{sender_size, events_size}
use Rattle.source_due.specs.Due.{Due, found, FaultTold, SignTold, NameTold, NumberTold, DueWithin}
use Rattle.source_due.proofs.Passes.{number_fails}
use Rattle.source_declarations.specs.Players.{Rights, given, rights_number, RightsRead}
use Rattle.source_declarations.specs.Declarations.{TextEventDue, named, declared, TextEventRead, EventWithin, sent_of, ranked_of, events_declared, name_of_event, EventsRead}
use Rattle.source_declarations.proofs.Many.{prepended, prepended_none, many_turn, many_faults, many_over}
use Rattle.source_declarations.proofs.Shorter.{leaves_event}
use Rattle.source_declarations.proofs.Held.{held_count, held_more, named_more}
use Rattle.source_declarations.proofs.Named.{new_crowded, new_unnamed, new_twice, new_named_law}
use Rattle.sheet_write.specs.Writes.{fitted, event_bytes}
use Rattle.sheet_write.proofs.Laws.{fitted_taken, fitted_long}
use Rattle.source_declarations.proofs.Writes.{events_more, sizes_more, event_bytes_law, event_size}

-- ---- rank and players

-- what was read of who may send
rights_fault : (text : List ℕ) (w : Fault) (x : Phrased (Option (List ℕ))) → RightsRead text (Err w) x → FaultTold x w
rights_fault text w (bad k p) h = record { kind = k; place = p; turned = refl; told = h }
rights_fault text w (got m us) h = absurd h

pub record RightsGot (text : List ℕ) (to bits : ℕ) (x : Phrased (Option (List ℕ))) : Type 0 where
  pub players : Option (List ℕ)
  pub read : x ≡ got players (tokens_from text to)
  pub number : bits ≡ rights_number players

pub rights_got : (text : List ℕ) (to bits : ℕ) (x : Phrased (Option (List ℕ))) → RightsRead text (given to bits) x → RightsGot text to bits x
rights_got text to bits (bad k p) h = absurd h
rights_got text to bits (got m us) h = record { players = m; read = rw h.0; number = h.1 }

module _ (text : List ℕ) (q at : ℕ) (d : Due) where
  abbrev ranked : Phrased TextEvent
  ranked = ranked_of (name_at text q) (tokens_from text at)

  pub ranked_unsaid : (w : Fault) → SignTold text at rank_word d → d ≡ Err w → TextEventRead text (Err w) ranked
  unfolding past_sign
  ranked_unsaid w h e =
      let g = rw e at h in
      rw (ne_eqb (sign_at (tokens_from text at)) rank_word g.0) g.1

  pub ranked_unnumbered : (r : Due) (p v after : ℕ) (w : Fault) → SignTold text at rank_word d → d ≡ found p v after → NumberTold text after largest r → r ≡ Err w
      → TextEventRead text (Err w) ranked
  unfolding past_sign
  ranked_unnumbered r p v after w h e g f =
      let x = rw e at h in
      let y = number_fails text after largest (sent_of (name_at text q)) w (rw f at g) in
      rw (x, y.turned) y.told

  pub ranked_off : (r : Due) (p v after i n next : ℕ) (w : Fault) → SignTold text at rank_word d → d ≡ found p v after → NumberTold text after largest r → r ≡ found i n next → 15 < n
      → w ≡ fault_of off_scale i → TextEventRead text (Err w) ranked
  unfolding past_sign
  ranked_off r p v after i n next w h e g f o k =
      let x = rw e at h in
      let y = rw f at g in
      rw (x, y.0, le-ltb largest n y.1, lt-ltb 15 n o) k

  pub ranked_broken : (r : Due) (s : Rights) (p v after i n next : ℕ) (w : Fault) → SignTold text at rank_word d → d ≡ found p v after → NumberTold text after largest r → r ≡ found i n next → n ≤ 15
      → RightsRead text s (from_of (tokens_from text next)) → s ≡ Err w → TextEventRead text (Err w) ranked
  unfolding past_sign
  ranked_broken r s p v after i n next w h e g f o k l =
      let x = rw e at h in
      let y = rw f at g in
      let z = rights_fault text w (from_of (tokens_from text next)) (rw l at k) in
      rw (x, y.0, le-ltb largest n y.1, le-ltb 15 n o, z.turned) z.told

  pub ranked_sent : (r : Due) (s : Rights) (p v after i n next to bits : ℕ) → SignTold text at rank_word d → d ≡ found p v after → NumberTold text after largest r → r ≡ found i n next → n ≤ 15
      → RightsRead text s (from_of (tokens_from text next)) → s ≡ given to bits → TextEventRead text (named q n bits to) ranked
  unfolding past_sign
  ranked_sent r s p v after i n next to bits h e g f o k l =
      let x = rw e at h in
      let y = rw f at g in
      let z = rights_got text to bits (from_of (tokens_from text next)) (rw l at k) in
      rw (x, y.0, le-ltb largest n y.1, le-ltb 15 n o, z.read) (record { onward = refl; named = refl; ranked = refl; sent = z.number })

-- ---- one event

module _ (text names : List ℕ) (p at count : ℕ) where
  abbrev one_event : Phrased TextEvent
  one_event = event_declared (names_held text names count) (sign p event_keyword ∷ tokens_from text at)

  pub event_crowded : (w : Fault) → 32 ≤ count → w ≡ fault_of too_many_fault p → TextEventRead text (Err w) one_event
  unfolding event_declared
  event_crowded w h e = rw (held_count text names count, new_crowded 32 count (names_held text names count) ranked_of p text at h) e

  pub event_unnamed : (d : Due) (w : Fault) → count < 32 → NameTold text at d → d ≡ Err w → TextEventRead text (Err w) one_event
  unfolding event_declared
  event_unnamed d w h g e =
      let x = rw e at g in
      rw (held_count text names count, new_unnamed 32 count (names_held text names count) ranked_of p text at w h x) x.1

  pub event_twice : (d : Due) (q v next : ℕ) (w : Fault) (b : Bool) → count < 32 → NameTold text at d → d ≡ found q v next → b ≡ among (name_at text q) (names_held text names count) → b ≡ true
      → w ≡ fault_of declared_twice_fault q → TextEventRead text (Err w) one_event
  unfolding event_declared
  event_twice d q v next w b h g e i j f =
      let x = rw e at g in
      rw (held_count text names count, new_twice 32 count (names_held text names count) ranked_of p text at q v next h x (sym i ∙ j)) f

  pub event_new : (d : Due) (q v next : ℕ) (b : Bool) (r : TextEventDue) → count < 32 → NameTold text at d → d ≡ found q v next → b ≡ among (name_at text q) (names_held text names count) → b ≡ false
      → TextEventRead text r (ranked_of (name_at text q) (tokens_from text next)) → TextEventRead text r one_event
  unfolding event_declared
  event_new d q v next b r h g e i j f =
      let x = rw e at g in
      rw (held_count text names count, new_named_law 32 count (names_held text names count) ranked_of p text at q v next h x (sym i ∙ j)) f

-- ---- all of them

pub record EventTurn (text : List ℕ) (at n : ℕ) (o names out : List ℕ) (here count end : ℕ) : Type 0 where
  pub found : List TextEvent
  pub whole : events_declared (tokens_from text at)
      ≡ prepended found (many_of (λ c. eqb c event_keyword) event_declared with_event (length (tokens_from text here)) (names_held text names count) (tokens_from text here))
  pub counted : count ≡ length found
  pub few : count ≤ 32
  pub named : map (name_at text) (take count names) ≡ map name_of_event found
  pub onward : at ≤ here
  pub within : here ≤ length text
  pub kept : length names ≡ 32
  pub size : end ≡ n + events_size found
  pub written : end ≤ length o → take end out ≡ take n o ++ encode_events (map signal_of found)
  pub same : length out ≡ length o
  pub low : end ≤ here * 16

pub events_start : (text : List ℕ) (at n : ℕ) (o names : List ℕ) → at ≤ length text → length names ≡ 32 → n ≤ at * 16 → EventTurn text at n o names o at 0 n
unfolding names_held events_size encode_events
events_start text at n o names h k l = record {
  found = [];
  whole = prepended_none (events_declared (tokens_from text at));
  counted = refl;
  few = omega arith;
  named = refl;
  onward = omega arith;
  within = h;
  kept = k;
  size = omega arith;
  written = λ g. sym (append-nil (take n o));
  same = refl;
  low = l;
}

pub events_stop : {text : List ℕ} {at n : ℕ} {o names out : List ℕ} {here count end : ℕ} (d : Due) (w : Fault) → EventTurn text at n o names out here count end → SignTold text here event_keyword d
    → d ≡ Err w → EventsRead text names n o out (declared here count end) (events_declared (tokens_from text at))
events_stop {text} {at} {n} {o} {names} {out} {here} {count} {end} d w t h e =
    let g = rw e at h in
    let z : events_declared (tokens_from text at) ≡ got t.found (tokens_from text here) =
    t.whole ∙ many_over (λ c. eqb c event_keyword) event_declared with_event refl leaves_event t.found (length (tokens_from text here)) (names_held text names count) (tokens_from text here)
    (ne_eqb (sign_at (tokens_from text here)) event_keyword g.0) in
    rw z (record { onward = refl; counted = t.counted; few = t.few; named = t.named; size = t.size; written = t.written })

-- what was read of one
fault_in_law : (text : List ℕ) (w : Fault) (x : Phrased TextEvent) → TextEventRead text (Err w) x → FaultTold x w
fault_in_law text w (bad k p) h = record { kind = k; place = p; turned = refl; told = h }
fault_in_law text w (got x us) h = absurd h

record EventGot (text : List ℕ) (q rank bits to : ℕ) (x : Phrased TextEvent) : Type 0 where
  pub players : Option (List ℕ)
  pub read : x ≡ got (event (name_at text q) rank players) (tokens_from text to)
  pub sent : bits ≡ rights_number players

got_in : (text : List ℕ) (q rank bits to : ℕ) (x : Phrased TextEvent) → TextEventRead text (named q rank bits to) x → EventGot text q rank bits to x
got_in text q rank bits to (bad k p) h = absurd h
got_in text q rank bits to (got (event s n m) us) h = record { players = m; read = rw (h.onward, h.named, ← h.ranked); sent = h.sent }

-- one that is read had room
room_left : (ns : List (List ℕ)) (ts us : List SheetToken) (x : TextEvent) → event_declared ns ts ≡ got x us → length ns < 32
unfolding event_declared
room_left ns ts us x e =
    split (leb 32 (length ns))
    (λ b. let f = rw b at e in let z : ◌≡◌ {A = ℕ} 0 1 = cc in absurd (omega arith))
    (λ b. omega (arith, leb-false 32 (length ns) b))

pub events_fault_law : {text : List ℕ} {at n : ℕ} {o names out : List ℕ} {here count end : ℕ} (d : Due) (r : TextEventDue) (p v after : ℕ) (w : Fault) → EventTurn text at n o names out here count end
    → SignTold text here event_keyword d → d ≡ found p v after → TextEventRead text r (event_declared (names_held text names count) (sign p event_keyword ∷ tokens_from text after)) → r ≡ Err w
    → EventsRead text names n o out (Err w) (events_declared (tokens_from text at))
events_fault_law {text} {at} {n} {o} {names} {out} {here} {count} {end} d r p v after w t h e g f =
    let x = rw e at h in
    let y = fault_in_law text w (event_declared (names_held text names count) (sign p event_keyword ∷ tokens_from text after)) (rw f at g) in
    let z : events_declared (tokens_from text at) ≡ bad y.kind y.place =
    t.whole ∙ many_faults (λ c. eqb c event_keyword) event_declared with_event refl leaves_event t.found (names_held text names count) (tokens_from text here) y.kind y.place
    (rw x) (rw x y.turned) in
    rw z y.told

pub events_room_law : {text : List ℕ} {at n : ℕ} {o names out : List ℕ} {here count end : ℕ} (d : Due) (r : TextEventDue) (p v after q rank bits to : ℕ)
    → EventTurn text at n o names out here count end → d ≡ found p v after
    → TextEventRead text r (event_declared (names_held text names count) (sign p event_keyword ∷ tokens_from text after)) → r ≡ named q rank bits to → count < 32
events_room_law {text} {at} {n} {o} {names} {out} {here} {count} {end} d r p v after q rank bits to t e g f =
    let y = got_in text q rank bits to (event_declared (names_held text names count) (sign p event_keyword ∷ tokens_from text after)) (rw f at g) in
    omega (
      arith,
      held_count text names count,
      room_left (names_held text names count) (sign p event_keyword ∷ tokens_from text after) (tokens_from text to) (event (name_at text q) rank y.players) y.read,
    )

-- the bytes of one more event
one_more : (n : ℕ) (o out out' : List ℕ) (end end' : ℕ) (es : List TextEvent) (s : List ℕ) (rank bits : ℕ) (m : Option (List ℕ)) → bits ≡ rights_number m → length out ≡ length o
    → (end ≤ length o → take end out ≡ take n o ++ encode_events (map signal_of es)) → out' ≡ fitted out end (event_bytes rank bits) → end' ≡ end + length (event_bytes rank bits)
    → end' ≤ length o → take end' out' ≡ take n o ++ encode_events (map signal_of (es ++ (event s rank m ∷ [])))
one_more n o out out' end end' es s rank bits m b k w f g l =
    let c : event_bytes rank bits ≡ encode_event (signal_of (event s rank m)) = rw b (event_bytes_law s rank m) in
    let h : end + length (event_bytes rank bits) ≤ length out = omega arith in
    let j : end ≤ length o = omega arith in
    let first : take end' out' ≡ take end out ++ event_bytes rank bits = rw (f, g) (fitted_taken out end (event_bytes rank bits) h) in
    let then : take end out ++ event_bytes rank bits ≡ take n o ++ encode_events (map signal_of es) ++ encode_event (signal_of (event s rank m)) = rw (w j, c) in
    first
    ∙ then
    ∙ append_assoc (take n o) (encode_events (map signal_of es)) (encode_event (signal_of (event s rank m)))
    ∙ ap (λ bs. take n o ++ bs) (sym (events_more es (event s rank m)))

-- one takes bytes of the text
pub events_onward : {text : List ℕ} {at n : ℕ} {o names out : List ℕ} {here count end : ℕ} (d : Due) (r : TextEventDue) (p v after q rank bits to : ℕ) → EventTurn text at n o names out here count end
    → DueWithin (length text) here d → d ≡ found p v after → EventWithin (length text) after r → r ≡ named q rank bits to
    → (here < to) × (to ≤ length text) × (rank ≤ 15) × (bits ≤ 256)
events_onward d r p v after q rank bits to t h e g f =
    let x = rw e at h in
    let y = rw f at g in
    (omega arith, omega arith, omega arith, omega arith)

sender_small : (m : Option (List ℕ)) → sender_size m ≤ 1
sender_small none = omega arith
sender_small (some ns) = omega arith

pub events_turn : {text : List ℕ} {at n : ℕ} {o names out : List ℕ} {here count end : ℕ} (d : Due) (r : TextEventDue) (p v after q rank bits to : ℕ) (out' : List ℕ) (end' : ℕ)
    → EventTurn text at n o names out here count end → SignTold text here event_keyword d → d ≡ found p v after
    → TextEventRead text r (event_declared (names_held text names count) (sign p event_keyword ∷ tokens_from text after)) → r ≡ named q rank bits to → (here < to) × (to ≤ length text) × (rank ≤ 15) × (bits ≤ 256)
    → out' ≡ fitted out end (event_bytes rank bits) → end' ≡ end + length (event_bytes rank bits)
    → EventTurn text at n o (set names count q) out' to (count + 1) end'
events_turn {text} {at} {n} {o} {names} {out} {here} {count} {end} d r p v after q rank bits to out' end' t h e g f b j k =
    let x = rw e at h in
    let y = got_in text q rank bits to (event_declared (names_held text names count) (sign p event_keyword ∷ tokens_from text after)) (rw f at g) in
    let l : count < 32 = events_room_law d r p v after q rank bits to t e g f in
    let c : count < length names = omega (arith, t.kept) in
    let m : length (event_bytes rank bits) ≡ 4 + sender_size y.players =
    ap (λ z. length (event_bytes rank z)) y.sent ∙ ap length (event_bytes_law (name_at text q) rank y.players) ∙ event_size (name_at text q) rank y.players in
    record {
      found = t.found ++ (event (name_at text q) rank y.players ∷ []);
      whole =
          t.whole
          ∙ many_turn (λ c. eqb c event_keyword) event_declared with_event refl leaves_event t.found (names_held text names count) (tokens_from text here)
          (event (name_at text q) rank y.players) (tokens_from text to) (rw x) (rw x y.read)
          ∙ rw (held_more text names count q c);
      counted = rw length-append (omega (arith, t.counted));
      few = omega arith;
      named = named_more text names count q c ∙ rw t.named (sym (map-append name_of_event t.found (event (name_at text q) rank y.players ∷ [])));
      onward = omega (arith, t.onward);
      within = b.1;
      kept = rw length-set t.kept;
      size = rw (sizes_more t.found (name_at text q) rank y.players) (omega (arith, t.size));
      written = one_more n o out out' end end' t.found (name_at text q) rank bits y.players y.sent t.same t.written j k;
      same = rw j (fitted_long out end (event_bytes rank bits) ∙ t.same);
      low = omega (arith, t.low, sender_small y.players);
    }
