-- What the scanner's answers say of the text, in terms of the formula reader's own functions.
use Rattle.std.specs.Prelude.{ℕ, ◌+◌, ◌≤◌, ◌≡◌, Option, Some, None, List, map, length, take, drop}
use Rattle.std.proofs.Math.Option as math
use Rattle.spec_language.specs.Refusals.{no_formula}
use Rattle.text_formula.specs.Tokens.{Token}
use Rattle.text_formula.specs.Reader.{FirstToken, no_token, begins, tokens_of}
use Rattle.text_formula.specs.declared.tokens.Token as code
use Rattle.text_lexer.specs.Codes.{token_code}
use Rattle.text_lexer.specs.declared.Found.{Found}

-- ---- what stands at a place: 02's number, 0 where it is a token; the token, and how many bytes it takes

abbrev pub token_refusal : Option Found → ℕ
token_refusal None = no_formula
token_refusal (Some f) = 0

abbrev pub token_found : Option Found → Option code.Token
token_found None = None
token_found (Some f) = Some f.token

abbrev pub token_bytes : Option Found → ℕ
token_bytes None = 0
token_bytes (Some f) = f.bytes

-- at this place stands that token, and the rest is behind its bytes
abbrev pub Scanned : List ℕ → ℕ → Option Found → FirstToken → Type 0
Scanned text at r no_token = token_refusal r ≡ no_formula
Scanned text at r (begins t rest) = (token_refusal r ≡ 0) × (token_found r ≡ Some (token_code t)) × (rest ≡ drop (at + token_bytes r) text)

abbrev pub Narrow : Option Found → Type 0
Narrow r = token_bytes r ≤ 1024

-- ---- all tokens of a text: 02's number, 0 where it is made of tokens, and how many they are

abbrev pub text_refusal : Option ℕ → ℕ
text_refusal (Some n) = 0
text_refusal None = no_formula

abbrev pub token_count : Option ℕ → ℕ
token_count (Some n) = n
token_count None = 0

-- the array holds the text's tokens, as the definition finds them
abbrev pub ScansAs : List ℕ → List code.Token → Option ℕ → math.Option (List Token) → Type 0
ScansAs text tokens r math.none = text_refusal r ≡ no_formula
ScansAs text tokens r (math.some list) = (text_refusal r ≡ 0) × (take (token_count r) tokens ≡ map token_code list) × (token_count r ≤ 1024)

abbrev pub Scans : List ℕ → List code.Token → Option ℕ → Type 0
Scans text tokens r = ScansAs text tokens r (tokens_of (length text) text)
