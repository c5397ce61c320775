-- Lookups on small tables, by computation.
use mathlib.Core.Path.{◌≡◌, refl}
use mathlib.Core.List.{List, [], ◌∷◌, ◌++◌, map}
use mathlib.Core.Option.{Option, none, some}
use mathlib.Core.Bool.{Bool, true, false}
use Prim.Native.Nat.{ℕ}
use lib.IntN.{ℤ, pos, negsuc}
use lib.ListN.{replicate}
use Rattle.refusal.specs.FirstBad.{first_bad}
use Rattle.refusal.specs.Rules.{or_else, too_many}
use Rattle.tra4_text.specs.Rules as tra4
use Rattle.tra4_text.specs.Movement.{Pattern, frame_of, group_of}
use Rattle.table_references.specs.References.{is_row, is_none, same_number}
use Rattle.table_references.specs.Index.{is_index}
use Rattle.player_spec.specs.Fractions.{Fraction, factor_in, factor, signed_as, lowest, whole}
use Rattle.player_spec.specs.Samples.{key_frame, key_value, line, sample_from, pose, standing, sample_of}
use Rattle.player_spec.specs.Deciding.{Line, line_frame, applies, flag_of, not_after, better, deciding_from, deciding, state_by}
use Rattle.player_spec.specs.Faces.{in_group, in_groups, grouped_faces, all_owned, group_shown, shown_of, row_at, uv_at, corner_of}
use Rattle.player_spec.specs.Reasons.{Reason, shown, by_corner, unset, by_line, first_unowned, line_reason, group_reason, corner_first, reason_of}
use Rattle.refusal.specs.Faults.{clear, fault, is_clear}
use Rattle.table_movement.specs.Sections.{few_in_movement, keys_begin, patterns_begin, movement_end, holds_movement}
use Rattle.table_figure.specs.Sections.{few_in_figure, groups_begin, points_begin, bones_begin, owners_begin, uvs_begin, faces_begin, figure_end, holds_figure}
use Rattle.table_columns.specs.Parts.{number_at, numbers_at, rows_at}
use Rattle.player_spec.specs.Lookups.{only_if, is_float, all_float, is_asked, is_range, values_fine, pair_at, channel_keys, can_sample, sample_in, size_fine, corners_fine, all_none, face_at, owner_at, face_sound, point_at, uv_row, uv_fine, uv_in, can_corner, corner_in, owners_fine, owned_corners, pattern_rows, lines_fine, patterns_fine, can_show, group_flag, shown_in, corner_owners, group_named, why_in}
use Rattle.table_counts.specs.declared.counts.MovementCounts.{MovementCounts}
use Rattle.table_counts.specs.declared.counts.FigureCounts.{FigureCounts}
use Rattle.table_counts.specs.Counts.{figure_lists, figure_mosts, movement_lists, movement_mosts}
use Rattle.text_numerals.specs.Numbers.{in_form}

abbrev fraction : ℤ → ℕ → Fraction
fraction n d = record { numerator = n; denominator = d }

-- 01's listing, whose face is never shown, and a movement of one bone with two keys of roll

abbrev figure : List ℤ
figure =
    pos 0 ∷ pos 0 ∷
    pos 0 ∷ pos 0 ∷ pos 0 ∷ pos 1 ∷ negsuc 0 ∷ negsuc 0 ∷ pos 250000 ∷ pos 0 ∷ pos 0 ∷
    pos 0 ∷ pos 0 ∷ pos 0 ∷
    pos 1500000 ∷ pos 0 ∷ pos 0 ∷
    pos 0 ∷ negsuc 0 ∷ pos 0 ∷
    pos 0 ∷ pos 0 ∷ pos 1000000 ∷
    pos 0 ∷ pos 0 ∷ pos 1000000 ∷
    pos 0 ∷ pos 0 ∷ pos 1000000 ∷
    pos 0 ∷ pos 0 ∷ pos 0 ∷ pos 0 ∷ pos 0 ∷ pos 1000000 ∷ pos 0 ∷ pos 1000000 ∷ pos 0 ∷ pos 0 ∷ pos 0 ∷ negsuc 0 ∷ pos 0 ∷ pos 0 ∷
    pos 0 ∷
    pos 0 ∷
    negsuc 0 ∷
    pos 0 ∷ pos 3 ∷ pos 0 ∷ pos 1 ∷ pos 2 ∷ negsuc 0 ∷ negsuc 0 ∷ negsuc 0 ∷ negsuc 0 ∷ negsuc 0 ∷ negsuc 0 ∷ []

abbrev figure_counts : FigureCounts
figure_counts = record { textures = 0; colours = 0; materials = 1; points = 3; normals = 3; bones = 1; uvs = 0; faces = 1; groups = 0 }

abbrev moves : List ℤ
moves =
    pos 5 ∷ pos 0 ∷ pos 0 ∷
    pos 0 ∷ pos 0 ∷ pos 0 ∷ pos 1 ∷ pos 1 ∷ pos 1 ∷ pos 2 ∷ pos 1 ∷ pos 3 ∷ pos 1 ∷ pos 4 ∷ pos 1 ∷ pos 5 ∷ pos 1 ∷ pos 6 ∷ pos 1 ∷ pos 7 ∷ pos 1 ∷ pos 8 ∷ pos 1 ∷ pos 9 ∷ pos 2 ∷
    pos 0 ∷ pos 0 ∷
    pos 0 ∷ pos 0 ∷
    pos 0 ∷ pos 0 ∷
    pos 0 ∷ pos 0 ∷
    pos 0 ∷ pos 0 ∷
    pos 0 ∷ pos 0 ∷
    pos 0 ∷ pos 0 ∷
    pos 0 ∷ pos 0 ∷
    pos 0 ∷ pos 0 ∷
    pos 0 ∷ pos 1500000 ∷
    pos 2 ∷ negsuc 0 ∷ []

abbrev move_counts : MovementCounts
move_counts = record { bones = 1; keys = 11; patterns = 0 }

-- frames 0 to 5 of roll: on a key, between two, on the last, past it, and none
pub roll_example : map (λ (at : ℕ). sample_in move_counts moves 0 9 at) (0 ∷ 1 ∷ 2 ∷ 4 ∷ 5 ∷ []) ≡ some (fraction (pos 1500000) 1) ∷ some (fraction (pos 1499999) 2) ∷ some (fraction (negsuc 0) 1) ∷ some (fraction (negsuc 0) 1) ∷ none ∷ []
unfolding in_form too_many movement_lists figure_lists few_in_movement few_in_figure groups_begin figure_mosts is_row is_none same_number movement_mosts tra4.total_fault tra4.is_frame tra4.is_zero tra4.rises tra4.key_fine tra4.channel_fault tra4.has_start tra4.start_fault tra4.pattern_fine tra4.patterns_fault or_else first_bad frame_of group_of factor_in factor signed_as lowest whole key_frame key_value line sample_from pose standing sample_of in_group in_groups grouped_faces all_owned line_frame applies flag_of not_after better deciding_from deciding state_by group_shown shown_of row_at uv_at corner_of number_at numbers_at rows_at is_clear keys_begin patterns_begin movement_end holds_movement points_begin owners_begin bones_begin uvs_begin faces_begin figure_end holds_figure only_if is_float all_float is_index is_asked is_range values_fine pair_at channel_keys can_sample sample_in size_fine corners_fine all_none face_at owner_at face_sound point_at uv_row uv_fine uv_in can_corner corner_in owners_fine owned_corners pattern_rows lines_fine patterns_fine can_show group_flag shown_in
roll_example = refl

-- a bone without channels, in a movement of one frame: the standing pose at frame 0, and no frame 1. The pair of scale.x may be another, and a key may stand in the table
abbrev still : ℤ → ℤ → List ℤ
still first count = (pos 1 ∷ replicate 10 (pos 0)) ++ (first ∷ count ∷ replicate 12 (pos 0)) ++ (pos 0 ∷ pos 7 ∷ [])

abbrev still_counts : ℕ → MovementCounts
still_counts keys = record { bones = 1; keys = keys; patterns = 0 }

abbrev channels : List ℕ
channels = 0 ∷ 1 ∷ 2 ∷ 3 ∷ 4 ∷ 5 ∷ 6 ∷ 7 ∷ 8 ∷ 9 ∷ []

abbrev scale_by : ℕ → List (ℤ × ℤ) → List (Option Fraction)
scale_by keys = map (λ (z : ℤ × ℤ). sample_in (still_counts keys) (still z.0 z.1) 0 3 0)

pub still-example :
    (map (λ (c : ℕ). sample_in (still_counts 0) (still (pos 0) (pos 0)) 0 c 0) channels ≡ map (λ (v : ℕ). some (fraction (pos v) 1)) (0 ∷ 0 ∷ 0 ∷ 100000000 ∷ 100000000 ∷ 100000000 ∷ 0 ∷ 0 ∷ 1000000 ∷ 0 ∷ []))
    × (map (λ (c : ℕ). sample_in (still_counts 0) (still (pos 0) (pos 0)) 0 c 1) channels ≡ replicate 10 none)
    × (scale_by 0 ((pos 1, pos 0) ∷ (negsuc 0, pos 0) ∷ (pos 0, negsuc 0) ∷ (pos 0, pos 1) ∷ []) ≡ replicate 4 none)
    × (scale_by 1 ((pos 0, pos 0) ∷ (pos 0, pos 1) ∷ (pos 1, pos 0) ∷ (pos 1, pos 1) ∷ []) ≡ some (fraction (pos 100000000) 1) ∷ some (fraction (pos 7) 1) ∷ none ∷ none ∷ [])
unfolding in_form too_many movement_lists figure_lists few_in_movement few_in_figure groups_begin figure_mosts is_row is_none same_number movement_mosts tra4.total_fault tra4.is_frame tra4.is_zero tra4.rises tra4.key_fine tra4.channel_fault tra4.has_start tra4.start_fault tra4.pattern_fine tra4.patterns_fault or_else first_bad frame_of group_of factor_in factor signed_as lowest whole key_frame key_value line sample_from pose standing sample_of in_group in_groups grouped_faces all_owned line_frame applies flag_of not_after better deciding_from deciding state_by group_shown shown_of row_at uv_at corner_of number_at numbers_at rows_at is_clear keys_begin patterns_begin movement_end holds_movement points_begin owners_begin bones_begin uvs_begin faces_begin figure_end holds_figure only_if is_float all_float is_index is_asked is_range values_fine pair_at channel_keys can_sample sample_in size_fine corners_fine all_none face_at owner_at face_sound point_at uv_row uv_fine uv_in can_corner corner_in owners_fine owned_corners pattern_rows lines_fine patterns_fine can_show group_flag shown_in
still-example = (refl, refl, refl, refl)

pub shown_example : map (λ (at : ℕ). shown_in figure_counts figure move_counts moves 0 at) (0 ∷ 4 ∷ 5 ∷ []) ≡ some false ∷ some false ∷ none ∷ []
unfolding in_form too_many movement_lists figure_lists few_in_movement few_in_figure groups_begin figure_mosts is_row is_none same_number movement_mosts tra4.total_fault tra4.is_frame tra4.is_zero tra4.rises tra4.key_fine tra4.channel_fault tra4.has_start tra4.start_fault tra4.pattern_fine tra4.patterns_fault or_else first_bad frame_of group_of factor_in factor signed_as lowest whole key_frame key_value line sample_from pose standing sample_of in_group in_groups grouped_faces all_owned line_frame applies flag_of not_after better deciding_from deciding state_by group_shown shown_of row_at uv_at corner_of number_at numbers_at rows_at is_clear keys_begin patterns_begin movement_end holds_movement points_begin owners_begin bones_begin uvs_begin faces_begin figure_end holds_figure only_if is_float all_float is_index is_asked is_range values_fine pair_at channel_keys can_sample sample_in size_fine corners_fine all_none face_at owner_at face_sound point_at uv_row uv_fine uv_in can_corner corner_in owners_fine owned_corners pattern_rows lines_fine patterns_fine can_show group_flag shown_in
shown_example = refl

-- its third corner has no bone
pub why_example : map (λ (at : ℕ). why_in figure_counts figure move_counts moves 0 at) (0 ∷ 4 ∷ 5 ∷ []) ≡ some (by_corner 2) ∷ some (by_corner 2) ∷ none ∷ []
unfolding in_form too_many movement_lists figure_lists few_in_movement few_in_figure groups_begin figure_mosts is_row is_none same_number movement_mosts tra4.total_fault tra4.is_frame tra4.is_zero tra4.rises tra4.key_fine tra4.channel_fault tra4.has_start tra4.start_fault tra4.pattern_fine tra4.patterns_fault or_else first_bad frame_of group_of factor_in factor signed_as lowest whole key_frame key_value line sample_from pose standing sample_of in_group in_groups grouped_faces all_owned line_frame applies flag_of not_after better deciding_from deciding state_by group_shown shown_of row_at uv_at corner_of number_at numbers_at rows_at is_clear keys_begin patterns_begin movement_end holds_movement points_begin owners_begin bones_begin uvs_begin faces_begin figure_end holds_figure only_if is_float all_float is_index is_asked is_range values_fine pair_at channel_keys can_sample sample_in size_fine corners_fine all_none face_at owner_at face_sound point_at uv_row uv_fine uv_in can_corner corner_in owners_fine owned_corners pattern_rows lines_fine patterns_fine can_show group_flag shown_in first_unowned line_reason group_reason corner_first reason_of corner_owners group_named why_in
why_example = refl

pub corner_example : map (λ (k : ℕ). corner_in figure_counts figure 0 k) (1 ∷ 2 ∷ 3 ∷ []) ≡ some (record { position = pos 1500000 ∷ pos 0 ∷ pos 0 ∷ []; owner = pos 0; uv = none; material = pos 0 }) ∷ some (record { position = pos 0 ∷ negsuc 0 ∷ pos 0 ∷ []; owner = negsuc 0; uv = none; material = pos 0 }) ∷ none ∷ []
unfolding in_form too_many movement_lists figure_lists few_in_movement few_in_figure groups_begin figure_mosts is_row is_none same_number movement_mosts tra4.total_fault tra4.is_frame tra4.is_zero tra4.rises tra4.key_fine tra4.channel_fault tra4.has_start tra4.start_fault tra4.pattern_fine tra4.patterns_fault or_else first_bad frame_of group_of factor_in factor signed_as lowest whole key_frame key_value line sample_from pose standing sample_of in_group in_groups grouped_faces all_owned line_frame applies flag_of not_after better deciding_from deciding state_by group_shown shown_of row_at uv_at corner_of number_at numbers_at rows_at is_clear keys_begin patterns_begin movement_end holds_movement points_begin owners_begin bones_begin uvs_begin faces_begin figure_end holds_figure only_if is_float all_float is_index is_asked is_range values_fine pair_at channel_keys can_sample sample_in size_fine corners_fine all_none face_at owner_at face_sound point_at uv_row uv_fine uv_in can_corner corner_in owners_fine owned_corners pattern_rows lines_fine patterns_fine can_show group_flag shown_in
corner_example = refl

-- ---- the deciding line, with lines as frame, group and flag

abbrev lines : List (ℕ × ℕ × ℕ) → List Pattern
lines = map (λ l. pos l.0 ∷ pos l.1 ∷ pos l.2 ∷ [])

abbrev row : Option Line → Option ℕ
row none = none
row (some l) = some l.0

-- of a group's lines not after a frame the one of greatest frame, in whatever row; of two at one frame the later
pub deciding-example :
    (map (λ (at : ℕ). row (deciding 0 at (lines ((3, 0, 1) ∷ (0, 0, 0) ∷ (2, 1, 1) ∷ [])))) (0 ∷ 2 ∷ 3 ∷ 4 ∷ []) ≡ some 1 ∷ some 1 ∷ some 0 ∷ some 0 ∷ [])
    × (map (λ (at : ℕ). row (deciding 0 at (lines ((2, 0, 1) ∷ (0, 0, 0) ∷ (2, 0, 0) ∷ [])))) (0 ∷ 1 ∷ 2 ∷ []) ≡ some 1 ∷ some 1 ∷ some 2 ∷ [])
    × (map (λ (at : ℕ). row (deciding 1 at (lines ((0, 0, 1) ∷ (2, 1, 1) ∷ [])))) (0 ∷ 1 ∷ 2 ∷ []) ≡ none ∷ none ∷ some 1 ∷ [])
unfolding line_frame applies not_after better deciding_from deciding frame_of group_of
deciding-example = (refl, refl, refl)

-- document 004's lists A and B: its example, and the same in another order
abbrev list_a : List Pattern
list_a = lines ((0, 0, 1) ∷ (10, 1, 1) ∷ (10, 0, 0) ∷ (15, 1, 0) ∷ [])

abbrev list_b : List Pattern
list_b = lines ((10, 1, 1) ∷ (10, 0, 0) ∷ (0, 0, 1) ∷ (15, 1, 0) ∷ [])

abbrev states : ℕ → List Pattern → List Bool
states g ps = map (λ (at : ℕ). state_by (deciding g at ps)) (0 ∷ 1 ∷ 2 ∷ 3 ∷ 4 ∷ 5 ∷ 6 ∷ 7 ∷ 8 ∷ 9 ∷ 10 ∷ 11 ∷ 12 ∷ 13 ∷ 14 ∷ 15 ∷ [])

pub order_example : (states 0 list_a ≡ replicate 10 true ++ replicate 6 false) × (states 0 list_b ≡ states 0 list_a) × (states 1 list_a ≡ replicate 10 false ++ replicate 5 true ++ (false ∷ [])) × (states 1 list_b ≡ states 1 list_a)
unfolding line_frame applies flag_of not_after better deciding_from deciding state_by frame_of group_of
order_example = (refl, refl, refl, refl)

-- and both keep rule 16, with any total above 15
pub order-sound : map (λ (t : ℕ). tra4.patterns_fault (pos t) list_b) (16 ∷ 15 ∷ []) ≡ clear ∷ fault 16 3 ∷ []
unfolding tra4.is_frame tra4.is_zero tra4.has_start tra4.start_fault tra4.pattern_fine tra4.patterns_fault or_else first_bad frame_of group_of
order-sound = refl

-- ---- why a face is shown or hidden, with owners of three corners

abbrev owned : List ℤ
owned = pos 0 ∷ pos 1 ∷ pos 0 ∷ []

abbrev three_lines : List Pattern
three_lines = lines ((0, 0, 1) ∷ (4, 0, 0) ∷ (2, 0, 1) ∷ [])

abbrev reasons : List ℤ → Option ℕ → List Reason
reasons owners g = map (λ (at : ℕ). reason_of owners g three_lines at) (0 ∷ 3 ∷ 4 ∷ 5 ∷ [])

-- the line in row 1 hides group 0 from frame 4 on; group 1 has no line; a face of `Polygons` has no group; the first corner without a bone, whatever the group says
pub reasons-example :
    (reasons owned (some 0) ≡ shown ∷ shown ∷ by_line 1 ∷ by_line 1 ∷ [])
    × (reasons owned (some 1) ≡ replicate 4 unset)
    × (reasons owned none ≡ replicate 4 shown)
    × (map (reasons (pos 0 ∷ negsuc 0 ∷ negsuc 0 ∷ [])) (some 0 ∷ some 1 ∷ none ∷ []) ≡ replicate 3 (replicate 4 (by_corner 1)))
unfolding line_frame applies flag_of not_after better deciding_from deciding frame_of group_of is_none first_unowned line_reason group_reason corner_first reason_of
reasons-example = (refl, refl, refl, refl)
