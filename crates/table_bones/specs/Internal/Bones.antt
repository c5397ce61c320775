-- A bone's row in a table, where the table holds what its counts say and has that row; else nothing.
use Rattle.std.specs.Prelude.{List, [], Bool, true, false, ◌&&◌, ℕ, ◌+◌, ◌*◌, ltb, ℤ}
use Rattle.table_counts.specs.declared.counts.MovementCounts.{MovementCounts}
use Rattle.table_counts.specs.declared.counts.FigureCounts.{FigureCounts}
use Rattle.table_movement.specs.Sections.{holds_movement}
use Rattle.table_figure.specs.Sections.{bones_begin, holds_figure}
use Rattle.table_columns.specs.Parts.{numbers_at}

unfoldable pub row_if : Bool → List ℤ → List ℤ
row_if true row = row
row_if false row = []

-- translate, rotate, handle, child flag, brother flag, parent, name place and length
unfoldable pub figure_bone : FigureCounts → List ℤ → ℕ → List ℤ
figure_bone n table bone = row_if (holds_figure n table && ltb bone n.bones) (numbers_at table (bones_begin n + bone * 14) 14)

-- name place and length, then a first key row and a count for each channel
unfoldable pub movement_bone : MovementCounts → List ℤ → ℕ → List ℤ
movement_bone m table bone = row_if (holds_movement m table && ltb bone m.bones) (numbers_at table (3 + bone * 22) 22)
