-- `terms` halves both numbers a turn, which leaves the lowest terms as they are, and the steps left are what the definition has left.
use Rattle.std.proofs.Common.{◌≡◌, ◌/◌, ◌<◌}
use Rattle.player_spec.specs.Fractions.{factor}
use Rattle.player_fractions.specs.Halving.{terms_left}
use Rattle.player_channel.proofs.halving.terms.Given as goal

abbrev pub invariant-loop-left : goal.invariant-loop-left
invariant-loop-left l =
    (l.numerator / factor l.numerator l.denominator ≡ l.a / factor l.a l.d)
    × (l.denominator / factor l.numerator l.denominator ≡ l.d / factor l.a l.d)
    × (0 < l.denominator)
    × (terms_left l.left l.numerator l.denominator ≡ terms_left l.steps l.a l.d)

abbrev pub decreases-loop-left : goal.decreases-loop-left
decreases-loop-left l = l.left
