-- `first_fault` is the first fault: the faults from the start are those from `i`.
use Rattle.std.proofs.Common.{◌≡◌, ◌-◌, drop, length}
use Rattle.text_check.specs.Faults.{fault_in, outside}
use Rattle.text_check.proofs.check.first_fault.Given as goal

abbrev pub invariant-loop-i : goal.invariant-loop-i
invariant-loop-i l = fault_in outside 0 l.text ≡ fault_in outside l.i (drop l.i l.text)

abbrev pub decreases-loop-i : goal.decreases-loop-i
decreases-loop-i l = length l.text - l.i
