-- The number so far has at most 18 digits.
use Rattle.std.proofs.Common.{◌<◌}
use Rattle.vectors.proofs.record.next_number.Given as goal

abbrev pub invariant-loop-b : goal.invariant-loop-b
invariant-loop-b l = l.size < 1000000000000000000
