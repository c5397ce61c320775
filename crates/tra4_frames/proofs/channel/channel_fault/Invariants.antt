-- `channel_fault` is the definition: the first fault is the first from row `i` on, after the frame `before`.
use Rattle.std.proofs.Common.{◌≡◌, ◌+◌, ◌-◌, ◌*◌}
use Rattle.std.proofs.Math.Option.{none}
use Rattle.tra4_text.specs.Rules.{channel_fault}
use Rattle.table_columns.specs.Parts.{rows_of}
use Rattle.tra4_frames.specs.Internal.Frames.{before_of}
use Rattle.tra4_frames.proofs.Frames.{channel_from}
use Rattle.tra4_frames.proofs.channel.channel_fault.Given as goal

abbrev pub invariant-loop-i : goal.invariant-loop-i
invariant-loop-i l =
    channel_fault l.total none l.row (rows_of 2 (l.end - l.row) l.keys)
    ≡ channel_from l.total l.keys (before_of l.before) (l.row + l.i) (l.end - l.row - l.i) (l.i * 2)
