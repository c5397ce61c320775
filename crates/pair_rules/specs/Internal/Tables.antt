-- The rules 18 to 20 over any two tables, their counts and their texts.
use Rattle.std.specs.Prelude.{List, true, false, ◌&&◌, ℕ, ℤ}
use Rattle.refusal.specs.Faults.{Fault, fault}
use Rattle.refusal.specs.Rules.{or_else}
use Rattle.table_counts.specs.declared.counts.FigureCounts.{FigureCounts}
use Rattle.table_counts.specs.declared.counts.MovementCounts.{MovementCounts}
use Rattle.table_movement.specs.Sections.{patterns_begin, holds_movement}
use Rattle.table_figure.specs.Sections.{holds_figure}
use Rattle.table_columns.specs.Parts.{rows_at}
use Rattle.player_names.specs.Names.{figure_name, movement_name}
use Rattle.pair_text.specs.Rules.{bones_fault, names_fault, groups_fault}
use Rattle.player_label.specs.BoneNames.{names_from}

-- in tables that hold what their counts say
unfoldable pub rows_fault : List ℕ → FigureCounts → List ℤ → List ℕ → MovementCounts → List ℤ → Fault
rows_fault figure n table movement m moves =
    or_else (bones_fault n.bones m.bones)
    (or_else (names_fault 0 (names_from (figure_name figure n table) 0 n.bones) (names_from (movement_name movement moves) 0 m.bones))
    (groups_fault n.groups (rows_at 3 moves (patterns_begin m) m.patterns)))

-- 21 where a table does not
unfoldable pub tables_fault : List ℕ → FigureCounts → List ℤ → List ℕ → MovementCounts → List ℤ → Fault
tables_fault figure n table movement m moves =
    elim (holds_figure n table && holds_movement m moves) [ true ↦ rows_fault figure n table movement m moves | false ↦ fault 21 0 ]
