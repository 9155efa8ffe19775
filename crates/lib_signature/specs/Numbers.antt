-- The functions' numbers by names, for contracts and proofs, and the arity that stands in a row.
use Rattle.std.specs.Prelude.{ℕ}
use Rattle.lib_signature.specs.Signature.{Function, function}

abbrev pub or_fn : ℕ
or_fn = 1

abbrev pub and_fn : ℕ
and_fn = 2

abbrev pub not_fn : ℕ
not_fn = 3

abbrev pub add_fn : ℕ
add_fn = 4

abbrev pub subtract_fn : ℕ
subtract_fn = 5

abbrev pub multiply_fn : ℕ
multiply_fn = 6

abbrev pub divide_fn : ℕ
divide_fn = 7

abbrev pub above_fn : ℕ
above_fn = 8

abbrev pub at_least_fn : ℕ
at_least_fn = 9

abbrev pub below_fn : ℕ
below_fn = 10

abbrev pub at_most_fn : ℕ
at_most_fn = 11

abbrev pub equal_fn : ℕ
equal_fn = 12

abbrev pub unequal_fn : ℕ
unequal_fn = 13

abbrev pub if_fn : ℕ
if_fn = 14

abbrev pub its_arity : Function → ℕ
its_arity (function s n l) = n
