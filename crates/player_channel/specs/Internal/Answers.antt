-- What the code's fraction means, and what is answered of any keys: `can_sample`'s tests of the frame and of the keys.
use Rattle.std.specs.Prelude.{List, ◌&&◌, ℕ, ℤ}
use Rattle.std.proofs.Math.Option.{Option, none}
use Rattle.refusal.specs.Faults.{is_clear}
use Rattle.tra4_text.specs.Movement.{Key}
use Rattle.tra4_text.specs.Rules.{channel_fault}
use Rattle.player_spec.specs.Fractions.{Fraction}
use Rattle.player_spec.specs.Samples.{sample_of}
use Rattle.player_spec.specs.Lookups.{only_if, is_asked, values_fine}
use Rattle.player_channel.specs.declared.fraction.Ratio.{Ratio}

unfoldable pub ratio : Ratio → Fraction
ratio r = record { numerator = r.numerator; denominator = r.denominator }

-- the frame can be asked for, and no key is at fault
unfoldable pub sample_by : ℤ → ℕ → ℕ → List Key → Option Fraction
sample_by total channel at ks = only_if (is_asked total at && is_clear (channel_fault total none 0 ks) && values_fine ks) (sample_of channel ks at)
