-- `too_many` is the definition: the first list at fault is the first from `i` on.
use Rattle.std.proofs.Common.{◌≡◌, drop}
use Rattle.refusal.specs.Rules.{too_many}
use Rattle.refusal.proofs.limits.too_many.Given as goal

abbrev pub invariant-loop-i : goal.invariant-loop-i
invariant-loop-i l = too_many 0 l.counts l.mosts ≡ too_many l.i (drop l.i l.counts) (drop l.i l.mosts)
