-- What the code's tests on an `i64` say of the definitions' tests, by the number's sign and bits.
use mathlib.Core.Path.{◌≡◌, refl, sym, ◌∙◌}
use mathlib.Core.Bool.{true, false}
use Prim.Native.Nat.{ℕ, zero, suc, ◌-◌, ◌^◌, ◌<◌}
use native.Mathlib.Omega.{arith}
use borrow.Author.Tests.{ne_eqb}
use lib.Dec.{eqb, ltb}
use lib.IntN.{ℤ, pos, negsuc, nat_abs, pos-ne-negsuc}
use lib.Signed.{mag}
use mir.Syntax.{w64}
use mir.Val.{SFits, of_z}
use Rattle.table_references.specs.References.{is_row, is_none}
use Rattle.table_references.specs.Index.{is_index}

-- -1 by its bits
pub none_bits : (z : ℤ) → SFits w64 z → eqb (of_z w64 z) 18446744073709551615 ≡ is_none z
unfolding is_none
none_bits (pos n) f = let h : n < 2 ^ 63 = f.sfits in ne_eqb n 18446744073709551615 (λ e. omega arith)
none_bits (negsuc zero) f = refl
none_bits (negsuc (suc k)) f =
    let h : suc k < 2 ^ 63 = f.sfits in
    ne_eqb (2 ^ 64 - suc (suc k)) 18446744073709551615 (λ e. omega arith) ∙ sym (ne_eqb (suc k) 0 (λ e. omega arith))

-- ---- the tests at a number below zero, and from zero on

pub negative-row : (n : ℕ) (z : ℤ) → z ≡ negsuc (mag z) → is_row n z ≡ false
unfolding is_row
negative-row n z e = rw e

pub natural_row : (n : ℕ) (z : ℤ) → z ≡ pos (nat_abs z) → is_row n z ≡ ltb (nat_abs z) n
unfolding is_row
natural_row n (pos k) e = refl
natural_row n (negsuc k) e = absurd (pos-ne-negsuc _ _ (sym e))

-- ---- none, or a row

pub index_none : (n : ℕ) (z : ℤ) → is_none z ≡ true → is_index n z ≡ true
unfolding is_index
index_none n z e = rw e

pub index_row : (n : ℕ) (z : ℤ) → is_none z ≡ false → is_index n z ≡ is_row n z
unfolding is_index
index_row n z e = rw e
