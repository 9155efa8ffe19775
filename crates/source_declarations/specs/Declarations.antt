-- What the readers of parameters and of events promise: that they read what the reader's functions read, where the
-- names stand that are declared, and the events' fields.
use Rattle.std.specs.Prelude.{Result, Ok, Err, ℕ, ◌+◌, ◌*◌, ◌≤◌, ◌≡◌, List, ◌++◌, map, length, take, ltb, eqb, []}
use Rattle.std.proofs.Math.Option.{Option}
use Rattle.lib_base.specs.Basics.{pick}
use Rattle.spec_language.specs.Limits.{event_limit}
use Rattle.spec_language.specs.Grammar.{encode_events}
use Rattle.source_language.specs.Tokens.{SheetToken, rank_word, param_word, event_keyword}
use Rattle.source_language.specs.Text.{Parameter, parameter, TextEvent, event}
use Rattle.source_language.specs.Faults.{off_scale}
use Rattle.source_language.specs.Limits.{largest, with_parameter, with_event}
use Rattle.source_language.specs.Meaning.{signal_of}
use Rattle.source_language.specs.Reader.{Phrased, bad, got, then_phrase, past_sign, number_due, from_of, parameter_of, event_declared, many_of}
use Rattle.source_coding.specs.Bounds.{text_bytes, growth}
use Rattle.source_coding.specs.declared.faults.Fault.{Fault}
use Rattle.source_coding.specs.FaultWords.{fault_of}
use Rattle.source_coding.specs.Places.{tokens_from, name_at}
use Rattle.source_coding.specs.Sizes.{events_size}
use Rattle.source_due.specs.Due.{Due}
use Rattle.source_declarations.specs.Players.{rights_number}
use Rattle.source_declarations.specs.declared.Event.{Event}
use Rattle.source_declarations.specs.declared.Declared.{Declared}

-- an event, and declarations of a kind, or a fault
abbrev pub TextEventDue : Type 0
TextEventDue = Result Event Fault

abbrev pub named : ℕ → ℕ → ℕ → ℕ → TextEventDue
named q rank bits to = Ok (record { place = q; rank = rank; bits = bits; next = to })

abbrev pub AllDeclared : Type 0
AllDeclared = Result Declared Fault

abbrev pub declared : ℕ → ℕ → ℕ → AllDeclared
declared to count end = Ok (record { next = to; count = count; end = end })

-- ---- one declaration

-- the parameter's name stands at q, and it is read up to place `to`
abbrev pub ParameterRead : List ℕ → Due → Phrased Parameter → Type 0
ParameterRead text (Err w) (bad k p) = w ≡ fault_of k p
ParameterRead text (Err w) (got x us) = ⊥
ParameterRead text (Ok f) (bad k p) = ⊥
ParameterRead text (Ok f) (got (parameter s d) us) = (us ≡ tokens_from text f.next) × (s ≡ name_at text f.place)

-- what follows an event's rank n, which stands at q, and what follows its name
abbrev pub sent_of : List ℕ → ℕ → ℕ → List SheetToken → Phrased TextEvent
sent_of s q n ts = pick (ltb 15 n) (bad off_scale q) (then_phrase (from_of ts) (λ m us. got (event s n m) us))

abbrev pub ranked_of : List ℕ → List SheetToken → Phrased TextEvent
ranked_of s ts = past_sign rank_word (number_due largest (sent_of s)) ts

-- the event's name stands at q, its rank and its players' bits are these, and it is read up to place `to`
pub record EventFound (text : List ℕ) (q rank bits to : ℕ) (s : List ℕ) (n : ℕ) (m : Option (List ℕ)) (us : List SheetToken) : Type 0 where
  pub onward : us ≡ tokens_from text to
  pub named : s ≡ name_at text q
  pub ranked : rank ≡ n
  pub sent : bits ≡ rights_number m

abbrev pub TextEventRead : List ℕ → TextEventDue → Phrased TextEvent → Type 0
TextEventRead text (Err w) (bad k p) = w ≡ fault_of k p
TextEventRead text (Err w) (got x us) = ⊥
TextEventRead text (Ok e) (bad k p) = ⊥
TextEventRead text (Ok e) (got (event s n m) us) = EventFound text e.place e.rank e.bits e.next s n m us

-- what is read from place `at` on stays within a text of so many bytes
abbrev pub ParameterWithin : ℕ → ℕ → Due → Type 0
ParameterWithin long at (Err w) = Unit {0}
ParameterWithin long at (Ok f) = (at ≤ f.next) × (f.next ≤ long)

abbrev pub EventWithin : ℕ → ℕ → TextEventDue → Type 0
EventWithin long at (Err w) = Unit {0}
EventWithin long at (Ok e) = (at ≤ e.next) × (e.next ≤ long) × (e.rank ≤ 15) × (e.bits ≤ 256)

-- ---- all of a kind

-- the parameters, and the events, that begin these tokens: the parts of `declarations_of`
abbrev pub parameters_declared : List SheetToken → Phrased (List Parameter)
parameters_declared ts = many_of (λ c. eqb c param_word) parameter_of with_parameter (length ts) [] ts

abbrev pub events_declared : List SheetToken → Phrased (List TextEvent)
events_declared ts = many_of (λ c. eqb c event_keyword) event_declared with_event (length ts) [] ts

abbrev pub name_of_parameter : Parameter → List ℕ
name_of_parameter (parameter s d) = s

abbrev pub name_of_event : TextEvent → List ℕ
name_of_event (event s n m) = s

-- a place of a text, places for the events' names, and a place of the buffer for what follows
abbrev pub EventsReadable : List ℕ → ℕ → List ℕ → ℕ → Type 0
EventsReadable text at events n = (length text ≤ text_bytes) × ((at ≤ length text) × ((length events ≡ event_limit) × (n ≤ at * growth)))

-- parameters are read up to place `to`, where us are left: the first places of `names` have theirs
pub record ParametersHeld (text names : List ℕ) (to count end : ℕ) (ps : List Parameter) (us : List SheetToken) : Type 0 where
  pub onward : us ≡ tokens_from text to
  pub counted : count ≡ length ps
  pub few : count ≤ 8
  pub named : map (name_at text) (take count names) ≡ map name_of_parameter ps
  pub nothing_written : end ≡ 0

-- events are read likewise, and their fields written from place n on, where there is room for all of them: o becomes p
pub record EventsHeld (text names : List ℕ) (n : ℕ) (o p : List ℕ) (to count end : ℕ) (es : List TextEvent) (us : List SheetToken) : Type 0 where
  pub onward : us ≡ tokens_from text to
  pub counted : count ≡ length es
  pub few : count ≤ 32
  pub named : map (name_at text) (take count names) ≡ map name_of_event es
  pub size : end ≡ n + events_size es
  pub written : end ≤ length o → take end p ≡ take n o ++ encode_events (map signal_of es)

-- the answer r is what the reader finds in the text
abbrev pub ParametersRead : List ℕ → List ℕ → AllDeclared → Phrased (List Parameter) → Type 0
ParametersRead text names (Err w) (bad k p) = w ≡ fault_of k p
ParametersRead text names (Err w) (got ps us) = ⊥
ParametersRead text names (Ok d) (bad k p) = ⊥
ParametersRead text names (Ok d) (got ps us) = ParametersHeld text names d.next d.count d.end ps us

abbrev pub EventsRead : List ℕ → List ℕ → ℕ → List ℕ → List ℕ → AllDeclared → Phrased (List TextEvent) → Type 0
EventsRead text names n o p (Err w) (bad k q) = w ≡ fault_of k q
EventsRead text names n o p (Err w) (got es us) = ⊥
EventsRead text names n o p (Ok d) (bad k q) = ⊥
EventsRead text names n o p (Ok d) (got es us) = EventsHeld text names n o p d.next d.count d.end es us

-- a reading from place `at` on stays within a text of so many bytes, and a byte of text gives at most sixteen
abbrev pub DeclaredWithin : ℕ → ℕ → AllDeclared → Type 0
DeclaredWithin long at (Err w) = Unit {0}
DeclaredWithin long at (Ok d) = (at ≤ d.next) × (d.next ≤ long) × (d.end ≤ d.next * 16)
