-- Rule 11 of one entry, test by test.
use mathlib.Core.Path.{◌≡◌, refl, ap, ◌∙◌}
use mathlib.Core.List.{List}
use mathlib.Core.Bool.{Bool, true, false, ◌&&◌, false≢true}
use Prim.Native.Nat.{ℕ, ◌<◌, min}
use native.Mathlib.Omega.{arith}
use borrow.Author.Tests.{ltb-true, ltb-false, lt-ltb, le-ltb}
use lib.Dec.{ltb}
use lib.ListN.{length, get_or, set}
use lib.IntN.{ℤ, pos, negsuc, nat_abs}
use mir.Syntax.{w64}
use mir.Val.{SFits, to_z, of_z}
use mir.Facts.{to_z-of_z}
use Rattle.table_references.specs.References.{is_row, is_none}
use Rattle.bac6_owners.specs.Internal.Claims.{is_free, after_claim}
use Rattle.signed.proofs.Tests.{and3}

-- a row is a natural number below the count
pub row_natural : (n : ℕ) (z : ℤ) → is_row n z ≡ true → z ≡ pos (nat_abs z)
unfolding is_row
row_natural n (pos k) e = refl
row_natural n (negsuc k) e = absurd (false≢true e)

pub row_below : (n : ℕ) (z : ℤ) → is_row n z ≡ true → nat_abs z < n
unfolding is_row
row_below n (pos k) e = ltb-true k n e
row_below n (negsuc k) e = absurd (false≢true e)

module _ (n : ℕ) (z : ℤ) (owners : List ℤ) where
  -- what the test of the row says, of the number that was passed
  pub row_told : {m : ℕ} {r : Bool} → SFits w64 z → m ≡ min n (length owners) → r ≡ is_row m (to_z w64 (of_z w64 z)) → r ≡ is_row (min n (length owners)) z
  row_told f e told = told ∙ rw (e, to_z-of_z f)

  pub no_row : is_row (min n (length owners)) z ≡ false → is_free n z owners ≡ false
  unfolding is_free
  no_row e = rw e

  pub row_free : is_row (min n (length owners)) z ≡ true → {b : Bool} → is_none (get_or owners (nat_abs z) (pos 0)) ≡ b → is_free n z owners ≡ b
  unfolding is_free
  row_free e f = rw e f

  pub claim_free : (bone : ℤ) → is_free n z owners ≡ true → after_claim n bone z owners ≡ set owners (nat_abs z) bone
  unfolding after_claim
  claim_free bone e = rw (e, after_claim)

  pub claim_taken : (bone : ℤ) → is_free n z owners ≡ false → after_claim n bone z owners ≡ owners
  unfolding after_claim
  claim_taken bone e = rw (e, after_claim)

-- a number that a test found to be a row, from its bits
pub row_bits : (z : ℤ) → SFits w64 z → nat_abs (to_z w64 (of_z w64 z)) ≡ nat_abs z
row_bits z f = ap nat_abs (to_z-of_z f)
