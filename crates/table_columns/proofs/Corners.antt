-- A corner of a face's row, by its column.
use mathlib.Core.Path.{◌≡◌, sym, ◌∙◌}
use mathlib.Core.List.{List}
use Prim.Native.Nat.{ℕ, ◌+◌, ◌≤◌, ◌<◌}
use borrow.Author.Tests.{lt-ltb, le-ltb}
use lib.IntN.{ℤ, pos, negsuc}
use lib.ListN.{length, get_or, take, drop, get_or-eq_default}
use lib.Seq.{get_or-take, get_or-drop}
use Rattle.table_columns.specs.Columns.{corner_at}

module _ (from : ℕ) (f : List ℤ) (k : ℕ) where
  pub corner_none : 4 ≤ k → corner_at from f k ≡ negsuc 0
  unfolding corner_at
  corner_none h = rw (le-ltb k 4 h, corner_at)

  pub corner-is : k < 4 → corner_at from f k ≡ get_or f (from + k) (pos 0)
  unfolding corner_at
  corner-is h = rw (lt-ltb k 4 h, corner_at)

  pub corner_past : k < 4 → length f ≤ from + k → corner_at from f k ≡ pos 0
  corner_past h l = corner-is h ∙ get_or-eq_default f (pos 0) l

  pub corner-part : k < 4 → corner_at from f k ≡ get_or (take 4 (drop from f)) k (pos 0)
  corner-part h = corner-is h ∙ sym (get_or-take 4 (drop from f) k (pos 0) h ∙ get_or-drop from f k (pos 0))
