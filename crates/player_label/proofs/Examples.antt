-- Labels of one bone by its two pairs, and the most bytes of a name, by computation.
use mathlib.Core.Path.{◌≡◌, refl}
use mathlib.Core.List.{List, [], ◌∷◌, map}
use mathlib.Core.Bool.{true, false}
use mathlib.Core.Option.{none, some}
use Prim.Native.Nat.{ℕ}
use lib.IntN.{ℤ, pos, negsuc}
use Rattle.text_bytes.specs.Bytes.{bytes}
use Rattle.text_runs.specs.Runs.{part}
use Rattle.refusal.specs.Rules.{too_many}
use Rattle.table_counts.specs.declared.counts.MovementCounts.{MovementCounts}
use Rattle.table_counts.specs.declared.counts.FigureCounts.{FigureCounts}
use Rattle.table_movement.specs.Sections.{few_in_movement, keys_begin, patterns_begin, movement_end, holds_movement}
use Rattle.table_figure.specs.Sections.{few_in_figure, groups_begin, points_begin, bones_begin, owners_begin, uvs_begin, faces_begin, figure_end, holds_figure}
use Rattle.refusal.specs.Faults.{is_clear}
use Rattle.table_columns.specs.Parts.{number_at}
use Rattle.player_spec.specs.Lookups.{only_if}
use Rattle.player_names.specs.Names.{is_name, name_span, part_at, figure_span, figure_name, movement_span, movement_name, if_true}
use Rattle.player_label.specs.Labels.{label_of, label_from, label_in}
use Rattle.table_counts.specs.Counts.{figure_lists, figure_mosts, movement_lists, movement_mosts}

-- ---- one bone and nothing else in each table

abbrev counts : FigureCounts
counts = record { textures = 0; colours = 0; materials = 0; points = 0; normals = 0; bones = 1; uvs = 0; faces = 0; groups = 0 }

abbrev move_counts : MovementCounts
move_counts = record { bones = 1; keys = 0; patterns = 0 }

abbrev figure : ℤ × ℤ → List ℤ
figure p = pos 0 ∷ pos 0 ∷ pos 0 ∷ pos 0 ∷ pos 0 ∷ pos 0 ∷ pos 0 ∷ pos 0 ∷ pos 0 ∷ pos 0 ∷ pos 0 ∷ pos 0 ∷ pos 0 ∷ pos 0 ∷ p.0 ∷ p.1 ∷ []

abbrev moves : ℤ × ℤ → List ℤ
moves p = pos 1 ∷ pos 0 ∷ pos 0 ∷ p.0 ∷ p.1 ∷ pos 0 ∷ pos 0 ∷ pos 0 ∷ pos 0 ∷ pos 0 ∷ pos 0 ∷ pos 0 ∷ pos 0 ∷ pos 0 ∷ pos 0 ∷ pos 0 ∷ pos 0 ∷ pos 0 ∷ pos 0 ∷ pos 0 ∷ pos 0 ∷ pos 0 ∷ pos 0 ∷ pos 0 ∷ pos 0 ∷ []

-- the figure's pair and the movement's, and a bone
abbrev asked : List ((ℤ × ℤ) × (ℤ × ℤ) × ℕ)
asked =
    ((pos 1, pos 3), (pos 0, pos 2), 0)
    ∷ ((pos 1, pos 3), (pos 0, pos 0), 0)
    ∷ ((pos 0, pos 0), (pos 2, pos 2), 0)
    ∷ ((pos 2, pos 3), (pos 0, pos 2), 0)
    ∷ ((pos 1, pos 3), (pos 4, pos 1), 0)
    ∷ ((pos 1, pos 3), (pos 0, negsuc 0), 0)
    ∷ ((pos 1, pos 3), (pos 0, pos 2), 1)
    ∷ []

pub labels_example : map (λ (a : (ℤ × ℤ) × (ℤ × ℤ) × ℕ). label_in (bytes "bone") counts (figure a.0) (bytes "move") move_counts (moves a.1) a.2) asked ≡ some (bytes "mo") ∷ some (bytes "one") ∷ some (bytes "ve") ∷ none ∷ none ∷ none ∷ none ∷ []
unfolding movement_lists figure_lists few_in_movement few_in_figure groups_begin bytes part too_many figure_mosts movement_mosts number_at is_clear keys_begin patterns_begin movement_end holds_movement points_begin bones_begin owners_begin uvs_begin faces_begin figure_end holds_figure only_if is_name name_span part_at figure_span figure_name movement_span movement_name if_true label_of label_from label_in
labels_example = refl

-- ---- 255 bytes, up to the text's end

pub most_example : map (λ (l : ℕ). is_name 300 (pos 45) (pos l)) (0 ∷ 255 ∷ 256 ∷ []) ≡ true ∷ true ∷ false ∷ []
unfolding is_name
most_example = refl

pub end_example : map (λ (p : ℕ). is_name 300 (pos p) (pos 255)) (45 ∷ 46 ∷ []) ≡ true ∷ false ∷ []
unfolding is_name
end_example = refl
