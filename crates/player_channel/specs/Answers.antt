-- What a sample that the code answers means.
use Rattle.std.proofs.Math.Option.{Option, none, some}
use Rattle.std.specs.Prelude.{ℕ, Option as Answer, Some, None}
use Rattle.player_spec.specs.Fractions.{Fraction}
use Rattle.player_channel.specs.declared.channel.Sample.{Sample}

abbrev pub sampled : Answer Sample → ℕ × ℕ × ℕ × Option Fraction
sampled None = (21, 0, 0, none)
sampled (Some s) = (0, 0, 0, some (record { numerator = s.numerator; denominator = s.denominator }))
