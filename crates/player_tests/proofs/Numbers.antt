-- What the code's tests on an `i64` say of the definitions' tests, by the number's sign.
use mathlib.Core.Path.{◌≡◌, refl, sym, ◌∙◌}
use mathlib.Core.Bool.{Bool, true, false, true≢false}
use Prim.Native.Nat.{ℕ, zero, suc, ◌+◌, ◌≤◌, ◌<◌}
use native.Mathlib.Omega.{arith}
use borrow.Author.Tests.{ltb-true, ltb-false, leb-true, leb-false, le-leb, lt-leb}
use lib.Dec.{leb, ltb}
use lib.IntN.{ℤ, pos, negsuc, nat_abs}
use lib.Signed.{le_z, lt_z}
use Rattle.tra4_text.specs.Rules.{total_fault, is_zero}
use Rattle.refusal.specs.Faults.{is_clear}
use Rattle.player_spec.specs.Lookups.{is_float, is_asked, is_range}
use Rattle.text_numerals.specs.Numbers.{in_form}
use Rattle.tra4_text.proofs.Zero.{zero_is}

-- ---- a total of frames

module _ (at : ℕ) where
  pub asked_low : (z : ℤ) → le_z (pos 1) z ≡ false → false ≡ is_asked z at
  unfolding is_asked total_fault is_clear
  asked_low (pos n) e = rw e
  asked_low (negsuc n) e = refl

  pub asked_high : (z : ℤ) → le_z (pos 1) z ≡ true → le_z z (pos 32767) ≡ false → false ≡ is_asked z at
  unfolding is_asked total_fault is_clear
  asked_high (pos n) e h = rw (e, h)
  asked_high (negsuc n) e h = refl

  pub asked_fine : (z : ℤ) → le_z (pos 1) z ≡ true → le_z z (pos 32767) ≡ true → ltb at (nat_abs z) ≡ is_asked z at
  unfolding is_asked total_fault is_clear
  asked_fine (pos n) e h = rw (e, h)
  asked_fine (negsuc n) e h = absurd (true≢false (sym e))

  pub asked_total : (z : ℤ) → is_asked z at ≡ true → (z ≡ pos (nat_abs z)) × (0 < nat_abs z) × (nat_abs z ≤ 32767)
  asked_total z h = go (le_z (pos 1) z) (le_z z (pos 32767)) refl refl
    where
      sizes : (y : ℤ) → le_z (pos 1) y ≡ true → le_z y (pos 32767) ≡ true → (y ≡ pos (nat_abs y)) × (0 < nat_abs y) × (nat_abs y ≤ 32767)
      sizes (pos n) e f = (refl, leb-true 1 n e, leb-true n 32767 f)
      sizes (negsuc n) e f = absurd (true≢false (sym e))

      go : (u v : Bool) → le_z (pos 1) z ≡ u → le_z z (pos 32767) ≡ v → (z ≡ pos (nat_abs z)) × (0 < nat_abs z) × (nat_abs z ≤ 32767)
      go false v e f = absurd (true≢false (sym h ∙ sym (asked_low z e)))
      go true false e f = absurd (true≢false (sym h ∙ sym (asked_high z e f)))
      go true true e f = sizes z e f

-- ---- a range

-- of no rows
pub range_none : (n : ℕ) (f c : ℤ) → is_zero c ≡ true → is_zero f ≡ is_range n f c
unfolding is_range is_zero
range_none n f c e = rw (zero_is c e) (go f)
  where
    go : (z : ℤ) → is_zero z ≡ is_range n z (pos 0)
    go (pos z) = refl
    go (negsuc z) = refl

module _ (n : ℕ) where
  pub range-below : (f c : ℤ) → is_zero c ≡ false → le_z (pos 0) f ≡ false → false ≡ is_range n f c
  unfolding is_range is_zero
  range-below (pos f) c h e = absurd (true≢false (sym (le-leb 0 f (omega arith)) ∙ e))
  range-below (negsuc f) (pos zero) h e = absurd (true≢false h)
  range-below (negsuc f) (pos (suc c)) h e = refl
  range-below (negsuc f) (negsuc c) h e = refl

  pub range_count : (f c : ℤ) → is_zero c ≡ false → lt_z (pos 0) c ≡ false → false ≡ is_range n f c
  unfolding is_range is_zero
  range_count f (pos zero) h e = absurd (true≢false h)
  range_count f (pos (suc c)) h e = absurd (let l = ltb-false 0 (suc c) e in omega arith)
  range_count (pos f) (negsuc c) h e = refl
  range_count (negsuc f) (negsuc c) h e = refl

  pub range-end : (f c : ℤ) → le_z (pos 0) f ≡ true → lt_z (pos 0) c ≡ true → leb (nat_abs f + nat_abs c) n ≡ is_range n f c
  unfolding is_range
  range-end (pos f) (pos zero) e h = absurd (let l = ltb-true 0 0 h in omega arith)
  range-end (pos f) (pos (suc c)) e h = refl
  range-end (pos f) (negsuc c) e h = absurd (true≢false (sym h))
  range-end (negsuc f) c e h = absurd (true≢false (sym e))

-- ---- a float, by its size

pub float_size : (z : ℤ) → is_float z ≡ leb (nat_abs z) 9999999999999
unfolding is_float in_form
float_size (pos n) = refl
float_size (negsuc n) = go (leb n 9999999999998) refl
  where
    go : (v : Bool) → leb n 9999999999998 ≡ v → leb n 9999999999998 ≡ leb (suc n) 9999999999999
    go true e = rw e (sym (le-leb (suc n) 9999999999999 (let h = leb-true n 9999999999998 e in omega arith)))
    go false e = rw e (sym (lt-leb (suc n) 9999999999999 (let h = leb-false n 9999999999998 e in omega arith)))

pub float_most : (z : ℤ) → is_float z ≡ true → nat_abs z ≤ 9999999999999
float_most z h = leb-true _ 9999999999999 (sym (float_size z) ∙ h)
