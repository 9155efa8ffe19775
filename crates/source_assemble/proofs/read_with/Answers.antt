-- Names in order where each is found in it, else as they are declared: both mean what these say.
use Rattle.lib_base.proofs.Prelude.{arith}
use Rattle.source_assemble.proofs.Answers.{zeros_mean, part_few, few_names, known_in_order, known_as_declared}
use Rattle.source_assemble.proofs.read_with.Goals as goal

pub put_meanings-requires : goal.put_meanings-requires
put_meanings-requires c =
    let a = c.args in
    let usable = c.requires.names_usable in
    let few = few_names a.text.now a.names.now a.params a.firsts.now usable in
    record { names_len_bound = few; all = usable.low; places_in_bounds = part_few _ _ few c.put_in_order.ensures; all_2 = zeros_mean 72 }

pub read_at-requires-clause-lookup_usable : goal.read_at-requires-clause-lookup_usable
read_at-requires-clause-lookup_usable c =
    let a = c.args in
    (known_in_order a.text.now a.names.now a.params a.firsts.now c.requires.names_usable _ _ _ c.put_in_order.ensures c.put_meanings.ensures
    (c.all_found.ensures c.if-all_found.true)).0

pub returns-then-all_found-clause-text_read : goal.returns-then-all_found-clause-text_read
returns-then-all_found-clause-text_read c =
    let a = c.args in
    let known = known_in_order a.text.now a.names.now a.params a.firsts.now c.requires.names_usable _ _ _ c.put_in_order.ensures c.put_meanings.ensures
    (c.all_found.ensures c.if-all_found.true) in
    rw (← known.1) c.read_at.ensures.text_read

pub put_meanings-requires-2 : goal.put_meanings-requires-2
put_meanings-requires-2 c =
    let a = c.args in
    let usable = c.requires.names_usable in
    let few = few_names a.text.now a.names.now a.params a.firsts.now usable in
    let put = c.put_meanings.ensures in
    record { names_len_bound = few; all = usable.low; places_in_bounds = omega (arith, few, put.kept); all_2 = put.low }

pub read_at-requires-2-clause-lookup_usable : goal.read_at-requires-2-clause-lookup_usable
read_at-requires-2-clause-lookup_usable c =
    let a = c.args in
    (known_as_declared a.text.now a.names.now a.params a.firsts.now c.requires.names_usable _ _ c.put_meanings-2.ensures).0

pub returns-clause-text_read : goal.returns-clause-text_read
returns-clause-text_read c =
    let a = c.args in
    let known = known_as_declared a.text.now a.names.now a.params a.firsts.now c.requires.names_usable _ _ c.put_meanings-2.ensures in
    rw (← known.1) c.read_at-2.ensures.text_read
