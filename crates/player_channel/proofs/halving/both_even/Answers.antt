-- `both_even` is the definition, by its two tests.
use Rattle.std.proofs.Common.{sym, ◌∙◌}
use Rattle.player_fractions.specs.Halving.{both_even}
use Rattle.player_channel.proofs.halving.both_even.Goals as goal

pub returns-then-is_even : goal.returns-then-is_even
unfolding both_even
returns-then-is_even c = rw (sym c.is_even.ensures ∙ c.if-is_even.true) c.is_even-then-is_even.ensures

pub returns-else-is_even : goal.returns-else-is_even
unfolding both_even
returns-else-is_even c = rw (sym c.is_even.ensures ∙ c.if-is_even.false) c.if-is_even.false
