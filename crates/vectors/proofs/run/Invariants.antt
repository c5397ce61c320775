-- `run` goes on after the end of each line.
use Rattle.std.proofs.Common.{◌-◌, length}
use Rattle.vectors.proofs.run.Given as goal

abbrev pub decreases-loop-records : goal.decreases-loop-records
decreases-loop-records l = length l.records - l.at
