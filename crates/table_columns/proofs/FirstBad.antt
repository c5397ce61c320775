-- Laws of the first row that fails a test.
use mathlib.Core.Path.{◌≡◌, refl}
use mathlib.Core.List.{List, ◌∷◌}
use mathlib.Core.Bool.{Bool, true, false}
use Prim.Native.Nat.{ℕ, zero, suc, ◌+◌, ◌-◌, ◌≤◌, ◌<◌}
use native.Mathlib.Nat.{sub-zero}
use native.Mathlib.Omega.{arith}
use lib.ListN.{length, take, drop, length-drop}
use lib.Seq.{drop-drop}
use lib.IntN.{ℤ}
use Rattle.refusal.specs.Faults.{Fault, clear, fault}
use Rattle.refusal.specs.FirstBad.{first_bad}
use Rattle.table_columns.specs.Parts.{rows_of}
use Rattle.table_columns.proofs.Rows.{rows_more, rows_short}

-- ---- the first row that fails

module _ {A : Type 0} (k : ℕ) (t : A → Bool) (row : ℕ) (a : A) (l : List A) where
  pub bad_passed : t a ≡ true → first_bad k t row (a ∷ l) ≡ first_bad k t (suc row) l
  unfolding first_bad
  bad_passed e = rw (e, first_bad)

  pub bad_found : t a ≡ false → first_bad k t row (a ∷ l) ≡ fault k row
  unfolding first_bad
  bad_found e = rw (e, first_bad)

-- ---- a walk over the rows of a table: n rows are left, from `base` on

module _ (k w : ℕ) (t : List ℤ → Bool) (table : List ℤ) where
  -- the first row that fails, from a row on
  unfoldable pub bad_from : ℕ → ℕ → ℕ → Fault
  bad_from row n base = first_bad k t row (rows_of w n (drop base table))

  pub walk_start : (n : ℕ) → first_bad k t 0 (rows_of w n table) ≡ bad_from 0 (n - 0) 0
  unfolding bad_from
  walk_start n = rw (sub-zero n)

  pub walk_done : (row base : ℕ) → bad_from row 0 base ≡ clear
  unfolding bad_from rows_of first_bad
  walk_done row base = refl

  pub walk_short : (row n base : ℕ) → length table - base < w → bad_from row n base ≡ clear
  unfolding bad_from first_bad
  walk_short row n base h = rw (rows_short w n (drop base table) (rw length-drop h))

  pub walk_passed : (row n base : ℕ) → w ≤ length table - base → t (take w (drop base table)) ≡ true → bad_from row (suc n) base ≡ bad_from (suc row) n (base + w)
  unfolding bad_from
  walk_passed row n base h e = rw (rows_more w n (drop base table) (rw length-drop h), bad_passed k t row _ _ e, drop-drop)

  pub walk_found : (row n base : ℕ) → w ≤ length table - base → t (take w (drop base table)) ≡ false → bad_from row (suc n) base ≡ fault k row
  unfolding bad_from
  walk_found row n base h e = rw (rows_more w n (drop base table) (rw length-drop h), bad_found k t row _ _ e)

  -- no row is left, or none that is whole
  pub walk_over : (row n base : ℕ) → (0 < n → length table - base < w) → bad_from row n base ≡ clear
  walk_over row zero base h = walk_done row base
  walk_over row (suc n) base h = walk_short row (suc n) base (h (omega arith))
