-- How compile evaluates a draft: the nodes of an expression on a stack of 64 words, and from that the values of a fresh
-- round. A node changes the stack and its depth. A push on a full stack, an application without its arguments and a
-- name past 63 do no harm.
use Rattle.std.specs.Prelude.{ℕ, zero, suc, ◌+◌, ◌-◌, ◌%◌, List, [], ◌∷◌, get_or, set, take, drop, replicate, eqb, ltb}
use Rattle.lib_base.specs.Basics.{pick}
use Rattle.lib_signature.specs.Signature.{arity}
use Rattle.lib_arith.specs.Functions.{result_of}
use Rattle.draft_form.specs.Draft.{entry_of, used_by}
use Rattle.draft_form.specs.Entry.{entry_start, entry_count, node_tag, node_word}

-- ---- one node, on the stack s of depth k; v has the values of names

-- a word is put on the stack
abbrev pub push_depth : ℕ → ℕ
push_depth k = pick (ltb k 64) (k + 1) k

abbrev pub push_stack : List ℕ → ℕ → ℕ → List ℕ
push_stack s k w = pick (ltb k 64) (set s k w) s

-- the value of name j
abbrev pub look : List ℕ → ℕ → ℕ
look v j = pick (ltb j 64) (get_or v j 0) 0

-- argument j of n, the first at place i; 0 where there is none
abbrev pub argument : List ℕ → ℕ → ℕ → ℕ → ℕ
argument s i n j = pick (ltb j n) (get_or s (i + j) 0) 0

-- function f on its n arguments from place i on
abbrev pub applied_at : ℕ → ℕ → List ℕ → ℕ → ℕ
applied_at f n s i = result_of f (argument s i n 0) (argument s i n 1) (argument s i n 2)

-- a function takes its arguments and puts its result
abbrev pub apply_depth : ℕ → ℕ → ℕ
apply_depth n k = pick (ltb k n) k (k - n + 1)

abbrev pub apply_stack : ℕ → ℕ → List ℕ → ℕ → List ℕ
apply_stack f n s k = pick (ltb k n) s (set s (k - n) (applied_at f n s (k - n)))

-- the function of an application
abbrev pub function_of : ℕ → ℕ
function_of x = node_word x % 256

unfoldable pub node_depth : ℕ → ℕ → ℕ
node_depth x k = pick (eqb (node_tag x) 16) (push_depth k) (pick (eqb (node_tag x) 17) (push_depth k) (apply_depth (arity (function_of x)) k))

unfoldable pub node_stack : List ℕ → ℕ → List ℕ → ℕ → List ℕ
node_stack v x s k =
    pick (eqb (node_tag x) 16) (push_stack s k (node_word x))
    (pick (eqb (node_tag x) 17) (push_stack s k (look v (node_word x)))
    (apply_stack (function_of x) (arity (function_of x)) s k))

-- ---- nodes, one after the other: what is then lowest on the stack

unfoldable pub nodes_on : List ℕ → List ℕ → List ℕ → ℕ → ℕ
nodes_on v [] s k = get_or s 0 0
nodes_on v (x ∷ xs) s k = nodes_on v xs (node_stack v x s k) (node_depth x k)

-- from an empty stack
unfoldable pub evaluated : List ℕ → List ℕ → ℕ
evaluated v xs = nodes_on v xs (replicate 64 0) 0

-- the expression of entry w; 0 where an entry reaches past the nodes
unfoldable pub entry_value : List ℕ → List ℕ → ℕ → ℕ
entry_value d v w = pick (ltb 2048 (entry_start w + entry_count w)) 0 (evaluated v (take (entry_count w) (drop (entry_start w) d)))

-- ---- the values of a fresh round

-- the start values of n behaviours, 0 after them
unfoldable pub starts_on : List ℕ → ℕ → List ℕ
starts_on d zero = replicate 64 0
starts_on d (suc n) = set (starts_on d n) n (get_or d (4160 + n) 0 % 4294967296)

-- behaviour i takes the value of its expression on event e, its nodes as it uses them
unfoldable pub turn_on : List ℕ → ℕ → ℕ → List ℕ → List ℕ
turn_on d e i v = pick (ltb i 64) (set v i (entry_value (used_by d i) v (entry_of d e i))) v

unfoldable pub turns_on : List ℕ → ℕ → List ℕ → List ℕ → List ℕ
turns_on d e [] v = v
turns_on d e (i ∷ is) v = turns_on d e is (turn_on d e i v)

-- n behaviours start, and those of the order take their turns
unfoldable pub fresh_on : List ℕ → ℕ → ℕ → List ℕ → List ℕ
fresh_on d n e o = turns_on d e o (starts_on d n)
