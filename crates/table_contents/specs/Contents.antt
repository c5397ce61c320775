-- What a table and its text say together, name places left out (document 02: "tables differ in name places alone"): every number up to the total, and each name by presence and bytes.
use Rattle.std.specs.Prelude.{List, [], ◌∷◌, ◌++◌, map, Bool, false, cond, ◌||◌, ℕ, zero, suc, ◌+◌, eqb, ℤ, pos, negsuc, nat_abs, take}
use Rattle.std.proofs.Math.Option.{Option, none, some}
use Rattle.text_runs.specs.Runs.{part}
use Rattle.table_counts.specs.declared.counts.FigureCounts.{FigureCounts}
use Rattle.table_counts.specs.declared.counts.MovementCounts.{MovementCounts}
use Rattle.table_columns.specs.Parts.{number_at}
use Rattle.table_figure.specs.Sections.{bones_begin, groups_begin, figure_end}
use Rattle.table_movement.specs.Sections.{movement_end}

-- ---- which numbers of a table are name places; a name's length stands after its place

-- so many numbers from one on, each so much further
unfoldable pub steps_from : ℕ → ℕ → ℕ → List ℕ
steps_from at step zero = []
steps_from at step (suc n) = at ∷ steps_from (at + step) step n

-- a figure's own, column 12 of its bones' 14, and column 0 of its groups' 2
unfoldable pub figure_places : FigureCounts → List ℕ
figure_places n = 0 ∷ (steps_from (bones_begin n + 12) 14 n.bones ++ steps_from (groups_begin n) 2 n.groups)

-- a movement's own after the total of frames, and column 0 of its bones' 22
unfoldable pub movement_places : MovementCounts → List ℕ
movement_places n = 1 ∷ steps_from 3 22 n.bones

-- ---- numbers without places

unfoldable pub is_place : List ℕ → ℕ → Bool
is_place [] i = false
is_place (p ∷ ps) i = eqb p i || is_place ps i

-- an absent name has place 0, and no other has
unfoldable pub presence : ℤ → ℤ
presence (pos zero) = pos 0
presence (pos (suc p)) = pos 1
presence (negsuc p) = pos 1

-- of numbers that stand from index i on, each place as the presence of its name
unfoldable pub unplaced : List ℕ → ℕ → List ℤ → List ℤ
unplaced places i [] = []
unplaced places i (z ∷ zs) = cond (is_place places i) (presence z) z ∷ unplaced places (suc i) zs

-- ---- names

-- the bytes of the text that a place and the length after it say; none of an absent name, nor of a place below 0, which no text gives
unfoldable pub name_from : List ℕ → ℤ → ℤ → Option (List ℕ)
name_from text (pos zero) long = none
name_from text (pos (suc p)) long = some (part text (suc p) (suc p + nat_abs long))
name_from text (negsuc p) long = none

unfoldable pub name_in : List ℕ → List ℤ → ℕ → Option (List ℕ)
name_in text table i = name_from text (number_at table i) (number_at table (suc i))

-- ---- contents

pub record Contents : Type 0 where
  pub numbers : List ℤ
  pub names : List (Option (List ℕ))

unfoldable pub contents_of : ℕ → List ℕ → List ℕ → List ℤ → Contents
contents_of total places text table = record { numbers = unplaced places 0 (take total table); names = map (name_in text table) places }

unfoldable pub figure_contents : List ℕ → FigureCounts → List ℤ → Contents
figure_contents text n table = contents_of (figure_end n) (figure_places n) text table

unfoldable pub movement_contents : List ℕ → MovementCounts → List ℤ → Contents
movement_contents text n table = contents_of (movement_end n) (movement_places n) text table
