-- Contents of small tables, by computation: every number up to the total, places as presence, and names as bytes of the text.
use mathlib.Core.Path.{◌≡◌, refl}
use mathlib.Core.List.{List, [], ◌∷◌, ◌++◌, map}
use mathlib.Core.Option.{none, some}
use Prim.Native.Nat.{ℕ}
use lib.IntN.{ℤ, pos, negsuc}
use lib.ListN.{replicate}
use Rattle.text_runs.specs.Runs.{part}
use Rattle.table_counts.specs.declared.counts.FigureCounts.{FigureCounts}
use Rattle.table_counts.specs.declared.counts.MovementCounts.{MovementCounts}
use Rattle.table_columns.specs.Parts.{number_at}
use Rattle.table_figure.specs.Sections.{points_begin, bones_begin, owners_begin, uvs_begin, faces_begin, groups_begin, figure_end}
use Rattle.table_movement.specs.Sections.{keys_begin, patterns_begin, movement_end}
use Rattle.table_contents.specs.Contents.{steps_from, figure_places, movement_places, is_place, presence, unplaced, name_from, name_in, contents_of, figure_contents, movement_contents}

-- a text of ten bytes
abbrev text : List ℕ
text = 70 ∷ 71 ∷ 72 ∷ 73 ∷ 74 ∷ 75 ∷ 76 ∷ 77 ∷ 78 ∷ 79 ∷ []

-- so many numbers that are no places
abbrev others : ℕ → List ℤ
others n = replicate n (pos 9)

-- ---- a movement of two bones, one of them without a name, a key and a pattern line; the numbers past the total do not count

abbrev moved : MovementCounts
moved = record { bones = 2; keys = 1; patterns = 1 }

abbrev movement_read : List ℤ
movement_read =
    pos 8 ∷ pos 3 ∷ pos 2 ∷
    (pos 0 ∷ pos 0 ∷ others 20) ++
    (pos 6 ∷ pos 4 ∷ others 20) ++
    others 5 ++
    others 3

movement-contents : movement_contents text moved movement_read ≡ record {
  numbers =
      pos 8 ∷ pos 1 ∷ pos 2 ∷
      (pos 0 ∷ pos 0 ∷ others 20) ++
      (pos 1 ∷ pos 4 ∷ others 20) ++
      others 5;
  names = some (73 ∷ 74 ∷ []) ∷ none ∷ some (76 ∷ 77 ∷ 78 ∷ 79 ∷ []) ∷ [];
}
unfolding steps_from movement_places is_place presence unplaced name_from name_in contents_of movement_contents keys_begin patterns_begin movement_end number_at part
movement-contents = refl

-- ---- a figure of a point, a normal, two bones and two groups, of which the first each has no name

abbrev figured : FigureCounts
figured = record { textures = 0; colours = 0; materials = 0; points = 1; normals = 1; bones = 2; uvs = 1; faces = 1; groups = 2 }

abbrev figure_read : List ℤ
figure_read =
    pos 0 ∷ pos 0 ∷
    others 6 ++
    others 12 ++ (pos 0 ∷ pos 0 ∷ []) ++
    others 12 ++ (pos 4 ∷ pos 3 ∷ []) ++
    others 14 ++
    (pos 0 ∷ pos 0 ∷ pos 2 ∷ pos 5 ∷ []) ++
    others 3

figure-contents : figure_contents text figured figure_read ≡ record {
  numbers =
      pos 0 ∷ pos 0 ∷
      others 6 ++
      others 12 ++ (pos 0 ∷ pos 0 ∷ []) ++
      others 12 ++ (pos 1 ∷ pos 3 ∷ []) ++
      others 14 ++
      (pos 0 ∷ pos 0 ∷ pos 1 ∷ pos 5 ∷ []);
  names = none ∷ none ∷ some (74 ∷ 75 ∷ 76 ∷ []) ∷ none ∷ some (72 ∷ 73 ∷ 74 ∷ 75 ∷ 76 ∷ []) ∷ [];
}
unfolding steps_from figure_places is_place presence unplaced name_from name_in contents_of figure_contents points_begin bones_begin owners_begin uvs_begin faces_begin groups_begin figure_end number_at part
figure-contents = refl

-- ---- an empty name is there, an absent one is not; a place below 0 is no name's and not an absent one's

empty_name : name_from text (pos 3) (pos 0) ≡ some []
unfolding name_from part
empty_name = refl

absent-name : name_from text (pos 0) (pos 0) ≡ none
unfolding name_from
absent-name = refl

no_name : name_from text (negsuc 2) (pos 2) ≡ none
unfolding name_from
no_name = refl

presences : map presence (pos 0 ∷ pos 1 ∷ pos 7 ∷ negsuc 0 ∷ []) ≡ (pos 0 ∷ pos 1 ∷ pos 1 ∷ pos 1 ∷ [])
unfolding presence
presences = refl
