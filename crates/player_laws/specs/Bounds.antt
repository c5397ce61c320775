-- What is said of an exact sample: the bounds of a fraction, its lowest terms, and a channel's keys by row.
use Rattle.std.specs.Prelude.{◌≡◌, [], true, false, ℕ, ◌<◌, ℤ, pos, nat_abs, ◌+ℤ◌, ◌*ℤ◌, get_or}
use Rattle.std.specs.Int.{◌∣◌}
use Rattle.std.specs.Int.Signed.{le_z}
use Rattle.tra4_text.specs.Movement.{Key, Channel}
use Rattle.player_spec.specs.Fractions.{Fraction}

-- a is at most b: b is a and so many more
pub record AtMost (a b : ℤ) : Type 0 where
  pub gap : ℕ
  pub is : b ≡ a +ℤ pos gap

-- a fraction is not below one number nor above another: its numerator is compared with each of them times its denominator
pub record Bounded (low high : ℤ) (r : Fraction) : Type 0 where
  pub above_low : AtMost (low *ℤ pos r.denominator) r.numerator
  pub below_high : AtMost r.numerator (high *ℤ pos r.denominator)

-- of two values, the smaller and the larger
unfoldable pub smaller : ℤ → ℤ → ℤ
smaller v w = elim (le_z v w) [ true ↦ v | false ↦ w ]

unfoldable pub larger : ℤ → ℤ → ℤ
larger v w = elim (le_z v w) [ true ↦ w | false ↦ v ]

-- a fraction is not below the smaller of two values nor above the larger
abbrev pub Between : ℤ → ℤ → Fraction → Type 0
Between v w r = Bounded (smaller v w) (larger v w) r

-- the denominator is positive, and no number but 1 divides both terms; so zero is 0/1
pub record LowestTerms (r : Fraction) : Type 0 where
  pub positive : 0 < r.denominator
  pub coprime : (d : ℕ) → d ∣ nat_abs r.numerator → d ∣ r.denominator → d ∣ 1

-- a channel's key by its row
unfoldable pub key_at : Channel → ℕ → Key
key_at c i = get_or c i []
