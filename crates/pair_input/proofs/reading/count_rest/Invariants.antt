-- `count_rest` goes on while blocks are full.
use Rattle.std.proofs.Common.{◌<◌, ◌-◌}
use Rattle.pair_input.proofs.reading.count_rest.Given as goal

abbrev pub invariant-loop-count : goal.invariant-loop-count
invariant-loop-count l = l.count < 100004096

abbrev pub decreases-loop-count : goal.decreases-loop-count
decreases-loop-count l = 100000000 - l.count
