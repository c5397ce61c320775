-- What is left to lay, laid, gives what all ranges give.
use Rattle.std.proofs.Common.{◌*◌}
use Rattle.tra4_bone.proofs.Ranges.{Left}
use Rattle.tra4_bone.proofs.laying.lay_keys.Given as goal

abbrev pub invariant-loop-k : goal.invariant-loop-k
invariant-loop-k l = Left l.initial.ranges l.keys l.initial.table l.row (l.k * 2) l.ranges l.table l.next
