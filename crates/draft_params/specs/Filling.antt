-- The parameters of a draft filled in, in the code's tests and order. 02, M-103: "Compile is lent eight signed 32-bit
-- values, 32 bytes."
use Rattle.std.specs.Prelude.{ℕ, zero, suc, ◌+◌, ◌%◌, Bool, true, false, List, length, get_or, set, eqb, ltb}
use Rattle.lib_base.specs.Basics.{pick}
use Rattle.lib_word.specs.Word.{get}
use Rattle.draft_form.specs.Entry.{node_tag}

-- the value of parameter k: a word of the bytes lent, 0 where fewer than 32 are
unfoldable pub parameter_value : List ℕ → ℕ → ℕ
parameter_value ps k = pick (ltb (length ps) 32) 0 (get ps k)

-- a node where the parameters are known: a parameter's becomes its constant's
unfoldable pub filled_node : List ℕ → ℕ → ℕ
filled_node ps x = pick (eqb (node_tag x) 19) (68719476736 + parameter_value ps (x % 8)) x

-- the draft d with its first k nodes filled in
unfoldable pub fill_to : List ℕ → List ℕ → ℕ → List ℕ
fill_to ps d zero = d
fill_to ps d (suc k) = set (fill_to ps d k) k (filled_node ps (get_or (fill_to ps d k) k 0))

-- a node of a parameter
abbrev pub is_param : ℕ → Bool
is_param x = eqb (node_tag x) 19

-- a parameter is among the first n nodes
unfoldable pub any_param : List ℕ → ℕ → Bool
any_param d zero = false
any_param d (suc n) = elim (eqb (node_tag (get_or d n 0)) 19) [ true ↦ true | false ↦ any_param d n ]

-- and fewer than 32 bytes are lent
unfoldable pub lacks_param : List ℕ → ℕ → List ℕ → Bool
lacks_param d n ps = pick (ltb (length ps) 32) (any_param d n) false
