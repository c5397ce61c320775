-- Why a face is shown or hidden, by its row, in a table that holds what its counts say.
use Rattle.std.specs.Prelude.{List, map, Bool, true, false, ◌&&◌, ◌||◌, ℕ, ℤ, nat_abs, take, Option as Answer, Some, None}
use Rattle.std.proofs.Math.Option.{Option, none, some}
use Rattle.table_references.specs.References.{is_none}
use Rattle.tra4_text.specs.Movement.{Pattern}
use Rattle.tra4_text.specs.Rules.{patterns_fault}
use Rattle.table_references.specs.Index.{is_index}
use Rattle.table_counts.specs.declared.counts.FigureCounts.{FigureCounts}
use Rattle.refusal.specs.Faults.{is_clear}
use Rattle.player_spec.specs.Reasons.{Reason, shown, unset, by_line, first_unowned, reason_of}
use Rattle.player_spec.specs.Lookups.{only_if, size_fine, corners_fine, lines_fine, owner_at, owners_fine, corner_owners, group_named}
use Rattle.table_columns.specs.Columns.{face_size, face_vertices, face_group}
use Rattle.player_why.specs.declared.reason.Reason.{Reason as Named}
use Rattle.player_why.specs.Answers.{reason_named}

module _ (n : FigureCounts) (table : List ℤ) where
  -- the first corner without a bone: the size and the vertices are sound, and so many corners are used
  unfoldable pub owned_in : List ℤ → ℕ → Option (Option ℕ)
  owned_in vertices used = only_if (owners_fine n table used vertices) (first_unowned 0 (map (owner_at n table) (take used vertices)))

  unfoldable pub row_owned : List ℤ → Option (Option ℕ)
  row_owned row =
      only_if
      (size_fine (face_size row)
      && corners_fine n.points (nat_abs (face_size row)) (face_vertices row)
      && owners_fine n table (nat_abs (face_size row)) (face_vertices row))
      (first_unowned 0 (corner_owners n table row))

  unfoldable pub row_why : List ℤ → List Pattern → ℤ → ℕ → Option Reason
  row_why row patterns total at =
      only_if
      (size_fine (face_size row)
      && corners_fine n.points (nat_abs (face_size row)) (face_vertices row)
      && owners_fine n table (nat_abs (face_size row)) (face_vertices row)
      && is_index n.groups (face_group row)
      && (is_none (face_group row) || (is_clear (patterns_fault total patterns) && lines_fine n.groups patterns)))
      (reason_of (corner_owners n table row) (group_named (face_group row)) patterns at)

-- what the code answers, without number, place and file
abbrev pub reason_told : Answer Named → Option Reason
reason_told None = none
reason_told (Some r) = some (reason_named r)

-- what the code says of the corners' owners
abbrev pub corner_told : Answer ℕ → Option ℕ
corner_told None = none
corner_told (Some k) = some k

abbrev pub corners_told : Answer (Answer ℕ) → Option (Option ℕ)
corners_told None = none
corners_told (Some corner) = some (corner_told corner)

-- by the row and the flag of the line that decides, if there is one
abbrev pub line_named : Option (ℕ × Bool) → Reason
line_named none = unset
line_named (some line) = elim line.1 [ true ↦ shown | false ↦ by_line line.0 ]
