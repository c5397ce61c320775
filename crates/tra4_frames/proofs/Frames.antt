-- A frame by the code's tests, and a walk over a channel's keys by its steps.
use mathlib.Core.Path.{◌≡◌, refl}
use mathlib.Core.List.{List}
use mathlib.Core.Bool.{Bool, true, false, ◌&&◌}
use mathlib.Core.Option.{Option, none, some}
use Prim.Native.Nat.{ℕ, zero, suc, ◌+◌, ◌-◌, ◌≤◌, ◌<◌}
use native.Mathlib.Nat.{add-zero, sub-zero}
use native.Mathlib.Omega.{arith}
use lib.ListN.{length, take, drop, get_or, length-drop}
use lib.Seq.{drop-drop, get_or-take, get_or-drop}
use lib.IntN.{ℤ, pos}
use Rattle.refusal.specs.Faults.{Fault, clear, fault}
use Rattle.tra4_text.specs.Movement.{frame_of}
use Rattle.tra4_text.specs.Rules.{is_frame, rises, key_fine, channel_fault}
use Rattle.table_columns.specs.Parts.{rows_of}
use Rattle.table_columns.proofs.Rows.{rows_more, rows_short, row-part, part-rest}

-- ---- one frame

pub row_frame : (table : List ℤ) (w base : ℕ) → 1 ≤ w → frame_of (take w (drop base table)) ≡ get_or table base (pos 0)
unfolding frame_of
row_frame table w base h = rw (get_or-take, get_or-drop, add-zero)

-- ---- a walk over the keys: k rows are left, from `base` on

module _ (total : ℤ) (table : List ℤ) where
  unfoldable pub channel_from : Option ℤ → ℕ → ℕ → ℕ → Fault
  channel_from before row k base = channel_fault total before row (rows_of 2 k (drop base table))

  pub walk_start : (row k : ℕ) → channel_fault total none row (rows_of 2 k table) ≡ channel_from none (row + 0) (k - 0) 0
  unfolding channel_from
  walk_start row k = rw (add-zero row, sub-zero k)

  pub walk_short : (before : Option ℤ) (row k base : ℕ) → length table - base < 2 → channel_from before row k base ≡ clear
  unfolding channel_from channel_fault
  walk_short before row k base h = rw (rows_short 2 k (drop base table) (rw length-drop h))

  -- no row is left, or none that is whole
  pub walk_over : (before : Option ℤ) (row k base : ℕ) → (0 < k → length table - base < 2) → channel_from before row k base ≡ clear
  unfolding channel_from rows_of channel_fault
  walk_over before row zero base h = refl
  walk_over before row (suc k) base h = walk_short before row (suc k) base (h (omega arith))

  module _ (before : Option ℤ) (row k base : ℕ) (h : 2 ≤ length table - base) where
    abbrev frame : ℤ
    frame = get_or table base (pos 0)

    fine : (v : Bool) → (is_frame total frame && rises before frame) ≡ v → key_fine total before (take 2 (drop base table)) ≡ v
    unfolding key_fine
    fine v e = rw (row_frame table 2 base (omega arith)) e

    pub walk_passed : (is_frame total frame && rises before frame) ≡ true → channel_from before row (suc k) base ≡ channel_from (some frame) (suc row) k (base + 2)
    unfolding channel_from channel_fault
    walk_passed e = rw (rows_more 2 k (drop base table) (rw length-drop h)) (rw (fine true e, channel_fault) (rw (row_frame table 2 base (omega arith), drop-drop)))

    pub walk_found : (is_frame total frame && rises before frame) ≡ false → channel_from before row (suc k) base ≡ fault 15 row
    unfolding channel_from channel_fault
    walk_found e = rw (rows_more 2 k (drop base table) (rw length-drop h)) (rw (fine false e, channel_fault))

-- a channel's keys, which stand in a table from `base` on
pub keys-frames : (total : ℤ) (row n base : ℕ) (t : List ℤ) → channel_fault total none row (rows_of 2 (row + n - row) (take (length t - base) (drop base t))) ≡ channel_fault total none row (rows_of 2 n (drop base t))
keys-frames total row n base t = rw (row-part n row, part-rest base t)
