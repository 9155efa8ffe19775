-- An arrival that is taken in leaves a sound round, which the reads and the steps to idle ask for.
use Rattle.lib_base.proofs.Prelude.{refl, arith}
use Rattle.format_layout.proofs.BoundsLaws.{table_bounds}
use Rattle.run_preview.proofs.Arrived.{arrive_sound}
use Rattle.run_preview.proofs.preview_copy.Goals as goal

pub get_word-requires : goal.get_word-requires
get_word-requires c =
    let s = arrive_sound _ _ _ _ c.in_ok-take_in.ensures.round_after refl in
    omega (arith, s.whole)

pub may_see-requires : goal.may_see-requires
may_see-requires c =
    let s = arrive_sound _ _ _ _ c.in_ok-take_in.ensures.round_after refl in
    let n = (table_bounds _ s.table).few_behaviours in
    (s.whole, omega (arith, n, c.get_word.ensures, c.if-get_word-behaviour.false), c.in_ok-take_in.ensures.player_lt_player_limit)

pub shown_in-requires : goal.shown_in-requires
shown_in-requires c =
    let s = arrive_sound _ _ _ _ c.in_ok-take_in.ensures.round_after refl in
    let b = table_bounds _ s.table in
    (b, s, omega (arith, b.few_behaviours, c.get_word.ensures, c.if-get_word-behaviour.false))
