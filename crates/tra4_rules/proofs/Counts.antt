-- Rule 8 at a list beyond its most, and rule 14 by its tests.
use mathlib.Core.Path.{◌≡◌}
use mathlib.Core.List.{List, ◌∷◌}
use mathlib.Core.Bool.{true, false}
use Prim.Native.Nat.{ℕ, ◌<◌}
use borrow.Author.Tests.{lt-leb}
use lib.IntN.{ℤ, pos}
use lib.Signed.{lt_z}
use Rattle.refusal.specs.Faults.{clear, fault}
use Rattle.refusal.specs.Rules.{too_many}
use Rattle.tra4_text.specs.Rules.{total_fault}
use Rattle.signed.proofs.Tests.{most-above}

pub count_beyond : (i n m : ℕ) (ns ms : List ℕ) → m < n → too_many i (n ∷ ns) (m ∷ ms) ≡ fault 8 i
unfolding too_many
count_beyond i n m ns ms h = rw (lt-leb n m h, too_many)

module _ (z : ℤ) where
  pub total_low : lt_z z (pos 1) ≡ true → total_fault z ≡ fault 14 0
  unfolding total_fault
  total_low e = rw (most-above (pos 1) z, e)

  pub total_high : lt_z z (pos 1) ≡ false → lt_z (pos 32767) z ≡ true → total_fault z ≡ fault 14 0
  unfolding total_fault
  total_high e f = rw (most-above (pos 1) z, most-above z (pos 32767), e, f)

  pub total-fine : lt_z z (pos 1) ≡ false → lt_z (pos 32767) z ≡ false → total_fault z ≡ clear
  unfolding total_fault
  total-fine e f = rw (most-above (pos 1) z, most-above z (pos 32767), e, f)
