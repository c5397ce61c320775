-- What each test of `figure_bone` and `movement_bone` says of its definition: a failed one gives nothing, and past them the row is there.
use mathlib.Core.Path.{◌≡◌}
use mathlib.Core.List.{List, []}
use mathlib.Core.Bool.{true, false}
use Prim.Native.Nat.{ℕ, ◌+◌, ◌*◌, ◌≤◌, ◌<◌}
use borrow.Author.Tests.{lt-ltb, le-ltb}
use lib.IntN.{ℤ}
use Rattle.table_counts.specs.declared.counts.MovementCounts.{MovementCounts}
use Rattle.table_counts.specs.declared.counts.FigureCounts.{FigureCounts}
use Rattle.table_movement.specs.Sections.{holds_movement}
use Rattle.table_figure.specs.Sections.{bones_begin, holds_figure}
use Rattle.table_columns.specs.Parts.{numbers_at}
use Rattle.table_bones.specs.Internal.Bones.{row_if, figure_bone, movement_bone}

module _ (n : FigureCounts) (table : List ℤ) (bone : ℕ) where
  pub no_figure_lem : holds_figure n table ≡ false → [] ≡ figure_bone n table bone
  unfolding figure_bone row_if
  no_figure_lem h = rw h

  module _ (held : holds_figure n table ≡ true) where
    pub no_figure-row : n.bones ≤ bone → [] ≡ figure_bone n table bone
    unfolding figure_bone row_if
    no_figure-row h = rw (held, le-ltb _ _ h)

    pub figure-row : bone < n.bones → numbers_at table (bones_begin n + bone * 14) 14 ≡ figure_bone n table bone
    unfolding figure_bone row_if
    figure-row h = rw (held, lt-ltb _ _ h)

module _ (m : MovementCounts) (table : List ℤ) (bone : ℕ) where
  pub no_movement_lem : holds_movement m table ≡ false → [] ≡ movement_bone m table bone
  unfolding movement_bone row_if
  no_movement_lem h = rw h

  module _ (held : holds_movement m table ≡ true) where
    pub no_movement-row : m.bones ≤ bone → [] ≡ movement_bone m table bone
    unfolding movement_bone row_if
    no_movement-row h = rw (held, le-ltb _ _ h)

    pub movement-row : bone < m.bones → numbers_at table (3 + bone * 22) 22 ≡ movement_bone m table bone
    unfolding movement_bone row_if
    movement-row h = rw (held, lt-ltb _ _ h)
