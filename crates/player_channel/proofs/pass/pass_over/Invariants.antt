-- One key a turn: the keys left, over the state as it is, are the whole pass.
use Rattle.std.proofs.Common.{◌≡◌, ◌*◌, ◌-◌}
use Rattle.table_columns.specs.Parts.{rows_at}
use Rattle.player_channel.specs.Internal.Pass.{pass_from, pass_over}
use Rattle.player_channel.specs.Internal.Passing.{key_of, state_of, Ready}
use Rattle.player_channel.proofs.pass.pass_over.Given as goal

abbrev pub invariant-loop-i : goal.invariant-loop-i
invariant-loop-i l =
    (pass_over l.total l.channel l.at (rows_at 2 l.keys 0 l.count) ≡ pass_from l.total l.at (key_of l.p) (state_of l.p) (rows_at 2 l.keys (l.i * 2) (l.count - l.i)))
    × Ready l.p l.total l.at
