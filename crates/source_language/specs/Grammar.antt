-- The grammar of a sheet's text, a constructor for each production of docs/SHEETS.md "Grammar", apart from any reader.
-- `X ts x us` says: the tokens ts begin with an X, which is x, and us are left.
use Rattle.std.specs.Prelude.{ℕ, suc, List, [], ◌∷◌, length}
use Rattle.std.proofs.Math.Option.{Option, none, some}
use Rattle.spec_language.specs.Syntax.{immediate, later}
use Rattle.text_formula.specs.Grammar.{Operator}
use Rattle.source_language.specs.Tokens.{SheetToken, number, name, sign, opening, closing, comma, colon, equals}
use Rattle.source_language.specs.Tokens.{bracket, unbracket, rank_word, from_word, by_word, nobody_word}
use Rattle.source_language.specs.Tokens.{later_word, seen_word, on_word, param_word, event_keyword, passive_word}
use Rattle.source_language.specs.Tokens.{active_word, row_word, end_sign, TokensOfText}
use Rattle.source_language.specs.Text.{TextConstant, plus, minus, Phrase, constant, named, cell, negation}
use Rattle.source_language.specs.Text.{operation, choice, Reaction, on, passive, active, row, Parameter}
use Rattle.source_language.specs.Text.{parameter, TextEvent, event, TextBehaviour, behaviour, Text, text}

-- value = NUMBER | "-" NUMBER
pub data IsValue : List SheetToken → TextConstant → List SheetToken → Type 0 where
  v_plus : {p n : ℕ} {us : List SheetToken} → IsValue (number p n ∷ us) (plus n) us
  v_minus : {p q n : ℕ} {us : List SheetToken} → IsValue (sign p 5 ∷ number q n ∷ us) (minus n) us

-- "A formula is 02's" (M-105: levels 0 to 6, two-sided operators grouping to the left), "with these primaries in place
-- of numbers and b0 to b63: NUMBER; "-" NUMBER, a negative constant, where an operand is due; NAME ..; NAME "[" NUMBER
-- "]" ..; brackets; if(a,b,c)"
pub data PhraseDerives : ℕ → List SheetToken → Phrase → List SheetToken → Type 0 where
  tighter : {l : ℕ} {ts us : List SheetToken} {e : Phrase} → PhraseDerives l ts e us → PhraseDerives (suc l) ts e us
  two_sided : {l p f : ℕ} {ts us vs : List SheetToken} {a b : Phrase} → Operator (suc l) f → PhraseDerives (suc l) ts a (sign p f ∷ us)
      → PhraseDerives l us b vs → PhraseDerives (suc l) ts (operation f a b) vs
  negated : {p : ℕ} {ts us : List SheetToken} {a : Phrase} → PhraseDerives 0 ts a us → PhraseDerives 0 (sign p 3 ∷ ts) (negation a) us
  a_value : {ts us : List SheetToken} {c : TextConstant} → IsValue ts c us → PhraseDerives 0 ts (constant c) us
  a_name : {p : ℕ} {s : List ℕ} {us : List SheetToken} → PhraseDerives 0 (name p s ∷ us) (named p s) us
  a_cell : {p q r t n : ℕ} {s : List ℕ} {us : List SheetToken}
      → PhraseDerives 0 (name p s ∷ sign q bracket ∷ number r n ∷ sign t unbracket ∷ us) (cell p s q n) us
  bracketed : {p q : ℕ} {ts us : List SheetToken} {e : Phrase} → PhraseDerives 6 ts e (sign q closing ∷ us) → PhraseDerives 0 (sign p opening ∷ ts) e us
  chosen : {p q r s t : ℕ} {ts us vs ws : List SheetToken} {a b c : Phrase}
      → PhraseDerives 6 ts a (sign r comma ∷ us) → PhraseDerives 6 us b (sign s comma ∷ vs) → PhraseDerives 6 vs c (sign t closing ∷ ws)
      → PhraseDerives 0 (sign p 14 ∷ sign q opening ∷ ts) (choice a b c) ws

-- players = "nobody" | NUMBER { NUMBER }
pub data IsPlayers : List SheetToken → List ℕ → List SheetToken → Type 0 where
  nobody : {p : ℕ} {us : List SheetToken} → IsPlayers (sign p nobody_word ∷ us) [] us
  last_player : {p n : ℕ} {us : List SheetToken} → IsPlayers (number p n ∷ us) (n ∷ []) us
  and_player : {p q m n : ℕ} {ts us : List SheetToken} {ns : List ℕ} → IsPlayers (number q n ∷ ts) ns us → IsPlayers (number p m ∷ number q n ∷ ts) (m ∷ ns) us

-- [ "from" players ], [ "seen" "by" players ]
pub data IsFrom : List SheetToken → Option (List ℕ) → List SheetToken → Type 0 where
  from_unsaid : {us : List SheetToken} → IsFrom us none us
  from_said : {p : ℕ} {ts us : List SheetToken} {ns : List ℕ} → IsPlayers ts ns us → IsFrom (sign p from_word ∷ ts) (some ns) us

pub data IsSeen : List SheetToken → Option (List ℕ) → List SheetToken → Type 0 where
  seen_unsaid : {us : List SheetToken} → IsSeen us none us
  seen_said : {p q : ℕ} {ts us : List SheetToken} {ns : List ℕ} → IsPlayers ts ns us → IsSeen (sign p seen_word ∷ sign q by_word ∷ ts) (some ns) us

-- { X }
pub data Many {A : Type 0} (X : List SheetToken → A → List SheetToken → Type 0) : List SheetToken → List A → List SheetToken → Type 0 where
  no_more : {us : List SheetToken} → Many X us [] us
  one_more : {ts us vs : List SheetToken} {x : A} {xs : List A} → X ts x us → Many X us xs vs → Many X ts (x ∷ xs) vs

-- param = "param" NAME [ "=" value ]
pub data IsParameter : List SheetToken → Parameter → List SheetToken → Type 0 where
  p_bare : {p q : ℕ} {s : List ℕ} {us : List SheetToken} → IsParameter (sign p param_word ∷ name q s ∷ us) (parameter s none) us
  p_given : {p q r : ℕ} {s : List ℕ} {ts us : List SheetToken} {c : TextConstant} → IsValue ts c us
      → IsParameter (sign p param_word ∷ name q s ∷ sign r equals ∷ ts) (parameter s (some c)) us

-- event = "event" NAME "rank" NUMBER [ "from" players ]
pub data IsEvent : List SheetToken → TextEvent → List SheetToken → Type 0 where
  e_event : {p q r t n : ℕ} {s : List ℕ} {ts us : List SheetToken} {m : Option (List ℕ)} → IsFrom ts m us
      → IsEvent (sign p event_keyword ∷ name q s ∷ sign r rank_word ∷ number t n ∷ ts) (event s n m) us

-- handler = "on" NAME [ "later" ] ":" formula
pub data IsReaction : List SheetToken → Reaction → List SheetToken → Type 0 where
  r_now : {p q r : ℕ} {s : List ℕ} {ts us : List SheetToken} {e : Phrase} → PhraseDerives 6 ts e us
      → IsReaction (sign p on_word ∷ name q s ∷ sign r colon ∷ ts) (on s immediate e) us
  r_later : {p q r t : ℕ} {s : List ℕ} {ts us : List SheetToken} {e : Phrase} → PhraseDerives 6 ts e us
      → IsReaction (sign p on_word ∷ name q s ∷ sign r later_word ∷ sign t colon ∷ ts) (on s later e) us

-- behaviour = "passive" NAME "=" formula [ "seen" "by" players ]
--           | "active" NAME "=" value [ "seen" "by" players ] { handler }
--           | "row" NAME "[" NUMBER "]" "=" value [ "seen" "by" players ] { handler }
pub data IsBehaviour : List SheetToken → TextBehaviour → List SheetToken → Type 0 where
  b_passive : {p q r : ℕ} {s : List ℕ} {ts us vs : List SheetToken} {e : Phrase} {m : Option (List ℕ)} → PhraseDerives 6 ts e us → IsSeen us m vs
      → IsBehaviour (sign p passive_word ∷ name q s ∷ sign r equals ∷ ts) (behaviour s (passive e) m) vs
  b_active : {p q r : ℕ} {s : List ℕ} {ts us vs ws : List SheetToken} {c : TextConstant} {m : Option (List ℕ)} {hs : List Reaction}
      → IsValue ts c us → IsSeen us m vs → Many IsReaction vs hs ws
      → IsBehaviour (sign p active_word ∷ name q s ∷ sign r equals ∷ ts) (behaviour s (active c hs) m) ws
  b_row : {p q r t x y n : ℕ} {s : List ℕ} {ts us vs ws : List SheetToken} {c : TextConstant} {m : Option (List ℕ)} {hs : List Reaction}
      → IsValue ts c us → IsSeen us m vs → Many IsReaction vs hs ws
      → IsBehaviour (sign p row_word ∷ name q s ∷ sign r bracket ∷ number t n ∷ sign x unbracket ∷ sign y equals ∷ ts) (behaviour s (row n c hs) m) ws

-- sheet = { param } { event } { behaviour }, and the text ends
pub data IsText : List SheetToken → Text → Type 0 where
  a_text : {p : ℕ} {ts us vs : List SheetToken} {ps : List Parameter} {es : List TextEvent} {bs : List TextBehaviour}
      → Many IsParameter ts ps us → Many IsEvent us es vs → Many IsBehaviour vs bs (sign p end_sign ∷ []) → IsText ts (text ps es bs)

-- a text within the grammar, and what it says; numbers are exact here, however large
pub data TextSays : List ℕ → Text → Type 0 where
  says : {bytes : List ℕ} {ts : List SheetToken} {x : Text} → TokensOfText (length bytes) bytes ts → IsText ts x → TextSays bytes x
