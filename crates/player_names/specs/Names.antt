-- A bone's name by the pair of its place and length in a table (document 01, "The tables" and "Playing").
use Rattle.std.specs.Prelude.{List, Bool, true, false, ◌&&◌, ℕ, ◌+◌, ◌*◌, leb, ltb, ℤ, pos, negsuc, nat_abs, length}
use Rattle.std.proofs.Math.Option.{Option, none, some}
use Rattle.text_runs.specs.Runs.{part}
use Rattle.table_counts.specs.declared.counts.MovementCounts.{MovementCounts}
use Rattle.table_counts.specs.declared.counts.FigureCounts.{FigureCounts}
use Rattle.table_movement.specs.Sections.{holds_movement}
use Rattle.table_figure.specs.Sections.{bones_begin, holds_figure}
use Rattle.table_columns.specs.Parts.{number_at}
use Rattle.player_spec.specs.Lookups.{only_if}

-- a place and a length that are a part of a text of so many bytes, of at most 255 bytes
unfoldable pub is_name : ℕ → ℤ → ℤ → Bool
is_name size (pos p) (pos l) = leb l 255 && leb (p + l) size
is_name size (pos p) (negsuc l) = false
is_name size (negsuc p) l = false

-- where a name begins and where it ends; none where the pair is no name
unfoldable pub name_span : ℕ → ℤ → ℤ → Option (ℕ × ℕ)
name_span size place long = only_if (is_name size place long) (nat_abs place, nat_abs place + nat_abs long)

unfoldable pub part_at : List ℕ → Option (ℕ × ℕ) → Option (List ℕ)
part_at text none = none
part_at text (some s) = some (part text s.0 s.1)

-- ---- the column of a name's place in a bone's row; its length stands in the next

abbrev pub figure_name_column : ℕ
figure_name_column = 12

abbrev pub movement_name_column : ℕ
movement_name_column = 0

-- ---- the name of a bone in a figure's table, whose bone rows are 14 numbers wide

unfoldable pub figure_span : ℕ → FigureCounts → List ℤ → ℕ → Option (ℕ × ℕ)
figure_span size n table bone = name_span size (number_at table (bones_begin n + bone * 14 + figure_name_column)) (number_at table (bones_begin n + bone * 14 + figure_name_column + 1))

unfoldable pub figure_name : List ℕ → FigureCounts → List ℤ → ℕ → Option (List ℕ)
figure_name text n table bone = part_at text (figure_span (length text) n table bone)

-- ---- in a movement's table, whose bone rows are 22 wide and begin after three numbers

unfoldable pub movement_span : ℕ → List ℤ → ℕ → Option (ℕ × ℕ)
movement_span size table bone = name_span size (number_at table (3 + bone * 22 + movement_name_column)) (number_at table (3 + bone * 22 + movement_name_column + 1))

unfoldable pub movement_name : List ℕ → List ℤ → ℕ → Option (List ℕ)
movement_name text table bone = part_at text (movement_span (length text) table bone)

-- ---- where the name stands, on any table, counts and bone: none is 21

unfoldable pub if_true : {A : Type 0} → Bool → Option A → Option A
if_true true a = a
if_true false a = none

unfoldable pub figure_named : ℕ → FigureCounts → List ℤ → ℕ → Option (ℕ × ℕ)
figure_named size n table bone = if_true (holds_figure n table && ltb bone n.bones) (figure_span size n table bone)

unfoldable pub movement_named : ℕ → MovementCounts → List ℤ → ℕ → Option (ℕ × ℕ)
movement_named size m table bone = if_true (holds_movement m table && ltb bone m.bones) (movement_span size table bone)
