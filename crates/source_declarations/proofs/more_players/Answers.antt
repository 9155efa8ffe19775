-- What each return comes to, and that a turn keeps what the loop keeps.
use Rattle.lib_base.proofs.Prelude.{refl, arith}
use Rattle.source_declarations.proofs.Players.{players_start, players_low, players_end, players_large, players_off, players_turn}
use Rattle.source_declarations.proofs.more_players.Goals as goal

pub loop-place-init : goal.loop-place-init
loop-place-init c = players_start _ _ c.requires.at_in_bounds

pub token_at-requires-clause-at_in_bounds : goal.token_at-requires-clause-at_in_bounds
token_at-requires-clause-at_in_bounds c = c.loop-place.invariant.within

pub returns : goal.returns
returns c =
    let turn = c.loop-place.invariant in
    record {
      rights_read = players_end _ turn c.token_at.ensures.token_at c.in_default.not-Number;
      rights_within = (turn.onward, turn.within, players_low turn);
    }

pub returns-then-player-gt-LARGEST-clause-rights_read : goal.returns-then-player-gt-LARGEST-clause-rights_read
returns-then-player-gt-LARGEST-clause-rights_read c =
    players_large _ _ _ _ _ c.loop-place.invariant c.token_at.ensures.token_at c.in-Number.is c.if-player-gt-LARGEST.true refl

pub returns-then-player-gt-HIGHEST_PLAYER-clause-rights_read : goal.returns-then-player-gt-HIGHEST_PLAYER-clause-rights_read
returns-then-player-gt-HIGHEST_PLAYER-clause-rights_read c =
    players_off _ _ _ _ _ c.loop-place.invariant c.token_at.ensures.token_at c.in-Number.is c.if-player-gt-LARGEST.false
    c.if-player-gt-HIGHEST_PLAYER.true refl

pub loop-place-smaller : goal.loop-place-smaller
loop-place-smaller c =
    let inside = rw c.in-Number.is at c.token_at.ensures.token_within in
    omega arith

pub loop-place-preserved : goal.loop-place-preserved
loop-place-preserved c =
    let inside = rw c.in-Number.is at c.token_at.ensures.token_within in
    players_turn _ _ _ _ _ c.loop-place.invariant c.token_at.ensures.token_at c.in-Number.is c.if-player-gt-LARGEST.false
    c.if-player-gt-HIGHEST_PLAYER.false (omega arith) (omega arith) c.with_player-bits.ensures
