-- What Sample, Shown and Corner answer on tables, and why a face is shown or hidden: none is 21, exactly where document 01 ("Playing") says so; document 02, (iii): as for Shown.
use Rattle.std.specs.Prelude.{List, [], ◌∷◌, map, Bool, true, false, not, ◌&&◌, ◌||◌, ℕ, zero, suc, ◌+◌, ◌*◌, eqb, leb, ltb, ℤ, pos, negsuc, nat_abs, take}
use Rattle.std.proofs.Math.Option.{Option, none, some}
use Rattle.table_references.specs.References.{is_row, is_none, same_number}
use Rattle.table_references.specs.Index.{is_index}
use Rattle.tra4_text.specs.Movement.{Key, Pattern, group_of}
use Rattle.tra4_text.specs.Rules.{total_fault, channel_fault, patterns_fault}
use Rattle.table_counts.specs.declared.counts.MovementCounts.{MovementCounts}
use Rattle.table_counts.specs.declared.counts.FigureCounts.{FigureCounts}
use Rattle.player_spec.specs.Fractions.{Fraction}
use Rattle.player_spec.specs.Samples.{sample_of}
use Rattle.player_spec.specs.Deciding.{deciding, state_by}
use Rattle.player_spec.specs.Faces.{CornerOf}
use Rattle.player_spec.specs.Reasons.{Reason, reason_of}
use Rattle.refusal.specs.Faults.{is_clear}
use Rattle.table_movement.specs.Sections.{keys_begin, patterns_begin, holds_movement}
use Rattle.table_figure.specs.Sections.{points_begin, owners_begin, uvs_begin, faces_begin, holds_figure}
use Rattle.table_columns.specs.Parts.{number_at, numbers_at, rows_at}
use Rattle.table_columns.specs.Columns.{face_material, face_size, face_vertices, face_uvs, face_group, face_vertex, face_uv, value_of, pattern_flag}
use Rattle.text_numerals.specs.Numbers.{FLOAT, in_form}

unfoldable pub only_if : {A : Type 0} → Bool → A → Option A
only_if true a = some a
only_if false a = none

-- a value that FLOAT can have, in millionths
unfoldable pub is_float : ℤ → Bool
is_float z = in_form FLOAT z

unfoldable pub all_float : List ℤ → Bool
all_float [] = true
all_float (z ∷ zs) = is_float z && all_float zs

-- ---- Sample

-- the total of frames is sound, and the frame is below it
unfoldable pub is_asked : ℤ → ℕ → Bool
is_asked total at = is_clear (total_fault total) && ltb at (nat_abs total)

-- a first row and a count, which lie among n rows; where the count is 0, of a channel that is left out, the row is 0 too
unfoldable pub is_range : ℕ → ℤ → ℤ → Bool
is_range n (pos f) (pos zero) = eqb f 0
is_range n (pos f) (pos (suc c)) = leb (f + suc c) n
is_range n (pos f) (negsuc c) = false
is_range n (negsuc f) c = false

unfoldable pub values_fine : List Key → Bool
values_fine [] = true
values_fine (k ∷ ks) = is_float (value_of k) && values_fine ks

module _ (n : MovementCounts) (table : List ℤ) where
  -- the index of a channel's pair
  unfoldable pub pair_at : ℕ → ℕ → ℕ
  pair_at bone channel = 5 + bone * 22 + channel * 2

  unfoldable pub channel_keys : ℕ → ℕ → List Key
  channel_keys bone channel = rows_at 2 table (keys_begin n + nat_abs (number_at table (pair_at bone channel)) * 2) (nat_abs (number_at table (pair_at bone channel + 1)))

  unfoldable pub can_sample : ℕ → ℕ → ℕ → Bool
  can_sample bone channel at =
      holds_movement n table
      && ltb bone n.bones
      && ltb channel 10
      && is_asked (number_at table 0) at
      && is_range n.keys (number_at table (pair_at bone channel)) (number_at table (pair_at bone channel + 1))
      && is_clear (channel_fault (number_at table 0) none 0 (channel_keys bone channel))
      && values_fine (channel_keys bone channel)

  unfoldable pub sample_in : ℕ → ℕ → ℕ → Option Fraction
  sample_in bone channel at = only_if (can_sample bone channel at) (sample_of channel (channel_keys bone channel) at)

-- ---- a face's row: material, size, four vertices, four uvs, group

unfoldable pub size_fine : ℤ → Bool
size_fine z = same_number z (pos 3) || same_number z (pos 4)

-- the used corners are rows of a list of n, and the unused -1
unfoldable pub corners_fine : ℕ → ℕ → List ℤ → Bool
corners_fine n used [] = true
corners_fine n zero (z ∷ zs) = is_none z && corners_fine n zero zs
corners_fine n (suc used) (z ∷ zs) = is_row n z && corners_fine n used zs

unfoldable pub all_none : List ℤ → Bool
all_none [] = true
all_none (z ∷ zs) = is_none z && all_none zs

-- a pattern's group is a row of a list of n, and its flag 0 or 1
unfoldable pub lines_fine : ℕ → List Pattern → Bool
lines_fine n [] = true
lines_fine n (p ∷ ps) = is_row n (group_of p) && is_row 2 (pattern_flag p) && lines_fine n ps

-- material, size, vertices, uvs and group
unfoldable pub face_sound : FigureCounts → List ℤ → Bool
face_sound n row =
    is_row n.materials (face_material row)
    && size_fine (face_size row)
    && corners_fine n.points (nat_abs (face_size row)) (face_vertices row)
    && (all_none (face_uvs row) || corners_fine n.uvs (nat_abs (face_size row)) (face_uvs row))
    && is_index n.groups (face_group row)

-- the group that a face's row names, none of -1
unfoldable pub group_named : ℤ → Option ℕ
group_named g = elim (is_none g) [ true ↦ none | false ↦ some (nat_abs g) ]

module _ (n : FigureCounts) (table : List ℤ) where
  unfoldable pub face_at : ℕ → List ℤ
  face_at face = numbers_at table (faces_begin n + face * 11) 11

  unfoldable pub owner_at : ℤ → ℤ
  owner_at v = number_at table (owners_begin n + nat_abs v)

  -- ---- Corner

  unfoldable pub point_at : ℤ → List ℤ
  point_at v = numbers_at table (points_begin n + nat_abs v * 3) 3

  unfoldable pub uv_row : ℤ → List ℤ
  uv_row u = numbers_at table (uvs_begin n + nat_abs u * 2) 2

  unfoldable pub uv_fine : ℤ → Bool
  uv_fine u = is_none u || all_float (uv_row u)

  unfoldable pub uv_in : ℤ → Option (List ℤ)
  uv_in u = elim (is_none u) [ true ↦ none | false ↦ some (uv_row u) ]

  unfoldable pub can_corner : ℕ → ℕ → Bool
  can_corner face k =
      holds_figure n table
      && ltb face n.faces
      && face_sound n (face_at face)
      && ltb k (nat_abs (face_size (face_at face)))
      && all_float (point_at (face_vertex (face_at face) k))
      && is_index n.bones (owner_at (face_vertex (face_at face) k))
      && uv_fine (face_uv (face_at face) k)

  unfoldable pub corner_in : ℕ → ℕ → Option CornerOf
  corner_in face k =
      only_if (can_corner face k)
      (record {
        position = point_at (face_vertex (face_at face) k);
        owner = owner_at (face_vertex (face_at face) k);
        uv = uv_in (face_uv (face_at face) k);
        material = face_material (face_at face);
      })

  -- ---- Shown

  unfoldable pub owners_fine : ℕ → List ℤ → Bool
  owners_fine zero vs = true
  owners_fine (suc used) [] = true
  owners_fine (suc used) (v ∷ vs) = is_index n.bones (owner_at v) && owners_fine used vs

  unfoldable pub owned_corners : ℕ → List ℤ → Bool
  owned_corners zero vs = true
  owned_corners (suc used) [] = true
  owned_corners (suc used) (v ∷ vs) = not (is_none (owner_at v)) && owned_corners used vs

  -- the owners of the corners that a face's row uses
  unfoldable pub corner_owners : List ℤ → List ℤ
  corner_owners row = map owner_at (take (nat_abs (face_size row)) (face_vertices row))

  module _ (m : MovementCounts) (moves : List ℤ) where
    unfoldable pub pattern_rows : List Pattern
    pattern_rows = rows_at 3 moves (patterns_begin m) m.patterns

    unfoldable pub patterns_fine : Bool
    patterns_fine = is_clear (patterns_fault (number_at moves 0) pattern_rows) && lines_fine n.groups pattern_rows

    unfoldable pub can_show : ℕ → ℕ → Bool
    can_show face at =
        holds_figure n table
        && holds_movement m moves
        && ltb face n.faces
        && is_asked (number_at moves 0) at
        && size_fine (face_size (face_at face))
        && corners_fine n.points (nat_abs (face_size (face_at face))) (face_vertices (face_at face))
        && owners_fine (nat_abs (face_size (face_at face))) (face_vertices (face_at face))
        && is_index n.groups (face_group (face_at face))
        && (is_none (face_group (face_at face)) || patterns_fine)

    unfoldable pub group_flag : ℤ → ℕ → Bool
    group_flag g at = is_none g || state_by (deciding (nat_abs g) at pattern_rows)

    unfoldable pub shown_in : ℕ → ℕ → Option Bool
    shown_in face at =
        only_if (can_show face at)
        (owned_corners (nat_abs (face_size (face_at face))) (face_vertices (face_at face)) && group_flag (face_group (face_at face)) at)

    -- ---- why a face is shown or hidden: 21 as for Shown

    unfoldable pub why_in : ℕ → ℕ → Option Reason
    why_in face at = only_if (can_show face at) (reason_of (corner_owners (face_at face)) (group_named (face_group (face_at face))) pattern_rows at)
