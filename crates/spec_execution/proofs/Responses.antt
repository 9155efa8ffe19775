-- What a valid program's responses hold: expressions nested at most 16 deep, each function with its arguments, whose
-- names are behaviours. By the language's laws of responses.
use Prim.Native.Nat.{ℕ}
use Rattle.spec_language.specs.Syntax.{Expr, Program}
use Rattle.spec_language.specs.Dependence.{Response, follows, takes, defers, keeps, size, response}
use Rattle.spec_language.specs.Fits.{Nested}
use Rattle.spec_language.specs.Accepted.{NamesIn}
use Rattle.spec_language.specs.Valid.{Valid}
use Rattle.spec_language.proofs.Laws.{ResponseNamesIn, response_names, ResponseNested, response_nested}

-- the expression of a response
abbrev pub Sound : ℕ → Expr → Type 0
Sound n x = Nested 16 x × NamesIn n x

abbrev pub ResponseFits : ℕ → Response → Type 0
ResponseFits n (follows x) = Sound n x
ResponseFits n (takes x) = Sound n x
ResponseFits n (defers x) = Sound n x
ResponseFits n keeps = Unit {0}

both : (n : ℕ) (r : Response) → ResponseNested r → ResponseNamesIn n r → ResponseFits n r
both n (follows x) h k = (h, k)
both n (takes x) h k = (h, k)
both n (defers x) h k = (h, k)
both n keeps h k = tt

pub response_fits : (p : Program) → Valid p → (e i : ℕ) → ResponseFits (size p) (response p e i)
response_fits p v e i = both (size p) (response p e i) (response_nested p v.each e i) (response_names p v.known e i)
