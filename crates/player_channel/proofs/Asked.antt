-- What the test of `channel_sample` says of its definition, and what a finished pass answers.
use mathlib.Core.Path.{◌≡◌, refl}
use mathlib.Core.List.{List}
use mathlib.Core.Bool.{true, false}
use mathlib.Core.Option.{none}
use Prim.Native.Nat.{ℕ, ◌/◌}
use native.Mathlib.Omega.{arith}
use lib.IntN.{ℤ}
use lib.ListN.{length}
use Rattle.tra4_text.specs.Movement.{Key}
use Rattle.player_spec.specs.Fractions.{whole}
use Rattle.player_spec.specs.Samples.{key_value}
use Rattle.player_spec.specs.Lookups.{only_if, is_asked}
use Rattle.player_tests.proofs.Numbers.{asked_total}
use Rattle.player_channel.specs.declared.channel.Sample.{Sample}
use Rattle.player_channel.specs.declared.pass.Pass.{Pass}
use Rattle.player_channel.specs.Internal.Answers.{sample_by}
use Rattle.player_channel.specs.Internal.Pass.{or_last, pass_over}
use Rattle.player_channel.specs.Internal.Passing.{KeyRows, key_of, fraction, known, state_of, said}
use Rattle.std.specs.Prelude.{Option as Answer, Some, None, unwrap_or}
use Rattle.player_channel.proofs.Passes.{pass_is}

module _ (total : ℤ) (at : ℕ) where
  pub not_asked : (channel : ℕ) (ks : List Key) → is_asked total at ≡ false → none ≡ sample_by total channel at ks
  unfolding sample_by only_if
  not_asked channel ks h = rw h

  pub played : (channel : ℕ) (ks : List Key) → is_asked total at ≡ true → pass_over total channel at ks ≡ sample_by total channel at ks
  unfolding sample_by
  played channel ks h = rw h (pass_is total channel at ks)

  pub key-rows : (keys : List ℤ) → is_asked total at ≡ true → KeyRows keys (length keys / 2) total
  key-rows keys h = let t = asked_total at total h in record { rows = omega arith; positive = t.0; above = t.1; frames = t.2 }

-- ---- what a finished pass answers

-- the sample, or the last key's value
known_or : (d : Answer Sample) (p : Pass) → fraction (unwrap_or d (record { numerator = p.value; denominator = 1 })) ≡ or_last (known d) (key_of p)
unfolding fraction known or_last key_of key_value whole
known_or (Some s) p = refl
known_or None p = refl

pub by_last : (p : Pass) → fraction (unwrap_or p.sample (record { numerator = p.value; denominator = 1 })) ≡ said p
unfolding said state_of
by_last p = known_or p.sample p
