-- `odd_factor` does one halving or one subtraction a turn, which leaves the common factor as it is, and the steps left are what the definition has left.
use Rattle.std.proofs.Common.{◌≡◌, ◌%◌}
use Rattle.player_spec.specs.Fractions.{factor}
use Rattle.player_fractions.specs.Halving.{odd_left}
use Rattle.player_channel.proofs.halving.odd_factor.Given as goal

abbrev pub invariant-loop-x : goal.invariant-loop-x
invariant-loop-x l = (factor l.x l.odd ≡ factor l.a l.b) × (l.odd % 2 ≡ 1) × (odd_left l.left l.x l.odd ≡ odd_left l.steps l.a l.b)

abbrev pub decreases-loop-x : goal.decreases-loop-x
decreases-loop-x l = l.left
