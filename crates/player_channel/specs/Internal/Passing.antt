-- What the code holds while it passes over a channel's keys.
use Rattle.std.specs.Prelude.{◌≡◌, List, [], ◌∷◌, Option as Answer, Some, None, ℕ, ◌*◌, ◌≤◌, ◌<◌, length, ℤ, pos, nat_abs}
use Rattle.std.proofs.Math.Option.{Option, none, some}
use Rattle.tra4_text.specs.Movement.{Key}
use Rattle.player_channel.specs.declared.channel.Sample.{Sample}
use Rattle.player_channel.specs.declared.pass.Pass.{Pass}
use Rattle.player_spec.specs.Fractions.{Fraction}
use Rattle.player_channel.specs.Internal.Pass.{or_last, pass_from}

-- the last key
unfoldable pub key_of : Pass → Key
key_of p = pos p.before ∷ p.value ∷ []

unfoldable pub fraction : Sample → Fraction
fraction s = record { numerator = s.numerator; denominator = s.denominator }

-- the sample, once it is known
unfoldable pub known : Answer Sample → Option Fraction
known None = none
known (Some s) = some (fraction s)

unfoldable pub state_of : Pass → Option Fraction
state_of p = known p.sample

-- the keys after the last one, where none was at fault
unfoldable pub then_from : ℤ → ℕ → Answer Pass → List Key → Option Fraction
then_from total at None ks = none
then_from total at (Some p) ks = pass_from total at (key_of p) (state_of p) ks

-- the numbers are small, and the sample is known once its frame is passed
pub record Ready (p : Pass) (total : ℤ) (at : ℕ) : Type 0 where
  pub frames : nat_abs total ≤ 32767
  pub last : p.before < 32767
  pub value : nat_abs p.value ≤ 9999999999999
  pub open_yet : p.sample ≡ None → p.before ≤ at

-- what the pass answers at its end
unfoldable pub said : Pass → Fraction
said p = or_last (state_of p) (key_of p)

unfoldable pub finished : Answer Pass → Option Fraction
finished None = none
finished (Some p) = some (said p)

-- after one key, at frame 0
pub record Begun (p : Pass) (value : ℤ) : Type 0 where
  pub start : p.before ≡ 0
  pub here : p.value ≡ value
  pub unknown : p.sample ≡ None

-- rows of two numbers, under a sound total
pub record KeyRows (keys : List ℤ) (count : ℕ) (total : ℤ) : Type 0 where
  pub rows : count * 2 ≤ length keys
  pub positive : total ≡ pos (nat_abs total)
  pub above : 0 < nat_abs total
  pub frames : nat_abs total ≤ 32767
