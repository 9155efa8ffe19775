-- Expressions: 10 constant (4 bytes), 11 name (1 byte), 12 application (a function byte, then its arguments), 13
-- parameter (1 byte, 0 to 7), hexadecimal. Reading one appends its nodes, in postfix order, to the draft: kind * 2^32 +
-- word.
use Rattle.std.specs.Prelude.{Result, Ok, Err, ℕ, zero, suc, ◌+◌, ◌*◌, ◌-◌, ◌≤◌, ◌<◌, ◌≡◌, List, length, get_or, take, drop, set, ltb, eqb}
use Rattle.lib_base.specs.Basics.{pick}
use Rattle.lib_word.specs.Word.{get_at}
use Rattle.lib_signature.specs.Signature.{arity, last}
use Rattle.spec_language.specs.Numbers.{refusal_number}
use Rattle.spec_language.specs.declared.refusals.Refusal.{Refusal}
use Rattle.spec_language.specs.declared.refusals.Refusal.TheVariants.{WrongLength, OffScale, TooDeep}
use Rattle.sheet_field.specs.Field.{Field, field_of, part_of}
use Rattle.front_field.specs.declared.Head.{Head}
use Rattle.front_field.specs.declared.Head.TheVariants.{Leaf, Apply}
use Rattle.front_field.specs.declared.Done.{Done}

-- what an expression field begins with, and what a reading of a part gives, or the refusal
abbrev pub HeadRead : Type 0
HeadRead = Result Head Refusal

abbrev pub DoneRead : Type 0
DoneRead = Result Done Refusal

abbrev pub done : ℕ → ℕ → DoneRead
done size next = Ok (record { size = size; next = next })

-- what a field with tag t and value v begins, with `left` levels of nesting left: a leaf's node and size, an
-- application's function, or a refusal
unfoldable pub head_at : ℕ → ℕ → List ℕ → HeadRead
head_at left t v =
    pick (eqb left 0) (Err TooDeep)
    (pick (eqb t 16)
    (pick (eqb (length v) 4) (Ok (Leaf (68719476736 + get_at v 0) 7)) (Err WrongLength))
    (pick (eqb t 17)
    (pick (eqb (length v) 1) (Ok (Leaf (73014444032 + get_or v 0 0) 4)) (Err WrongLength))
    (pick (eqb t 19)
    (pick (eqb (length v) 1) (pick (ltb 7 (get_or v 0 0)) (Err OffScale) (Ok (Leaf (81604378624 + get_or v 0 0) 4))) (Err WrongLength))
    (pick (eqb (length v) 0) (Err WrongLength)
    (pick (eqb (get_or v 0 0) 0) (Err OffScale)
    (pick (ltb last (get_or v 0 0)) (Err OffScale)
    (Ok (Apply (get_or v 0 0)))))))))

abbrev pub head_from : ℕ → Field → List ℕ → HeadRead
head_from left (Err r) v = Err r
head_from left (Ok h) v = head_at left h.tag v

-- the value of the expression field at the front of s, and what the field begins
abbrev pub expression_value : List ℕ → List ℕ
expression_value s = part_of s (field_of s 16 19)

unfoldable pub head_of : ℕ → List ℕ → HeadRead
head_of left s = head_from left (field_of s 16 19) (expression_value s)

-- that a head lies within a value of m bytes, and that a refusal has a number: what the reading of a head promises
-- beside the equation
abbrev pub HeadIn : ℕ → ℕ → HeadRead → Type 0
HeadIn left m (Ok (Leaf node size)) = (size ≡ m + 3) × (0 < m)
HeadIn left m (Ok (Apply f)) = (0 < left) × (0 < m)
HeadIn left m (Err r) = 0 < refusal_number r

-- what a reading gives: the answer, and the draft
abbrev pub Out : Type 0
Out = DoneRead × List ℕ

abbrev pub out : DoneRead → List ℕ → Out
out r p = (r, p)

-- the rest of v from `at` on
abbrev pub rest_from : ℕ → List ℕ → List ℕ
rest_from at v = take (length v - at) (drop at v)

-- go on after a reading that is done; a fault is passed on
abbrev pub go_on_after : DoneRead → List ℕ → (ℕ → ℕ → Out) → Out
go_on_after (Ok d) p f = f d.size d.next
go_on_after (Err r) p f = (Err r, p)

-- k arguments in v from `at` on, each read by rd; the answer has the place after them
unfoldable pub read_arguments : (List ℕ → List ℕ → ℕ → Out) → ℕ → List ℕ → ℕ → List ℕ → ℕ → Out
read_arguments rd zero v at draft n = (done at n, draft)
read_arguments rd (suc k) v at draft n =
    let o : Out = rd (rest_from at v) draft n in
    go_on_after o.0 o.1 (λ size m. read_arguments rd k v (at + size) o.1 m)

-- an application whose arguments end at `at` is closed by its own node, where nothing is left over
unfoldable pub close_at : ℕ → ℕ → ℕ → List ℕ → ℕ → Out
close_at f size at draft m = pick (eqb at size) (done (at + 3) (m + 1), set draft m (77309411328 + f)) (Err WrongLength, draft)

abbrev pub read_body : (List ℕ → List ℕ → ℕ → Out) → HeadRead → List ℕ → List ℕ → ℕ → Out
read_body rd (Err r) v draft n = (Err r, draft)
read_body rd (Ok (Leaf node size)) v draft n = (done size (n + 1), set draft n node)
read_body rd (Ok (Apply f)) v draft n =
    let o : Out = read_arguments rd (arity f) v 1 draft n in
    go_on_after o.0 o.1 (λ at m. close_at f (length v) at o.1 m)

-- one expression at the front of s, with `left` levels of nesting left, its nodes put into the draft from place n on
unfoldable pub expr_of : ℕ → List ℕ → List ℕ → ℕ → Out
expr_of zero s draft n = read_body (λ s' p m. (Err TooDeep, p)) (head_of zero s) (expression_value s) draft n
expr_of (suc left) s draft n = read_body (expr_of left) (head_of (suc left) s) (expression_value s) draft n

-- that an answer is within s, and that a node takes four bytes at least: what `read_expr` promises beside the equation
abbrev pub ReadIn : ℕ → ℕ → DoneRead → Type 0
ReadIn m n (Ok d) = (0 < d.size) × (d.size ≤ m) × (d.next * 4 ≤ n * 4 + d.size) × (n ≤ d.next)
ReadIn m n (Err r) = Unit {0}

abbrev pub CloseIn : ℕ → ℕ → ℕ → DoneRead → Type 0
CloseIn size at m (Ok d) = (d.size ≡ size + 3) × (d.size ≡ at + 3) × (d.next ≡ m + 1)
CloseIn size at m (Err r) = Unit {0}
