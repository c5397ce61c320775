-- `is_even` is the definition: the last binary digit is the remainder by 2.
use Rattle.std.proofs.Common.{ap, ℕ}
use Rattle.std.specs.Prelude.{nat_eq}
use lib.Bits.{and_mask}
use Rattle.player_fractions.specs.Halving.{is_even}
use Rattle.player_channel.proofs.halving.is_even.Goals as goal

pub returns : goal.returns
unfolding is_even
returns c = ap (λ (n : ℕ). nat_eq n 0) (and_mask c.args.x 1)
