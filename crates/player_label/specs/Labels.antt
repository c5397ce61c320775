-- Label (document 01, "Playing"): the movement's name for a bone where it has one of non-zero length, else the figure's.
use Rattle.std.specs.Prelude.{List, [], ◌∷◌, ◌&&◌, ℕ, ltb, ℤ}
use Rattle.std.proofs.Math.Option.{Option, none, some}
use Rattle.table_counts.specs.declared.counts.MovementCounts.{MovementCounts}
use Rattle.table_counts.specs.declared.counts.FigureCounts.{FigureCounts}
use Rattle.table_movement.specs.Sections.{holds_movement}
use Rattle.table_figure.specs.Sections.{holds_figure}
use Rattle.player_names.specs.Names.{figure_name, movement_name, if_true}

-- ---- from the two texts: of the figure's name and the movement's, an absent one being empty

unfoldable pub label_of : List ℕ → List ℕ → List ℕ
label_of figure [] = figure
label_of figure (b ∷ bs) = b ∷ bs

-- ---- on tables: none is 21

-- both pairs are names
unfoldable pub label_from : Option (List ℕ) → Option (List ℕ) → Option (List ℕ)
label_from none movement = none
label_from (some figure) none = none
label_from (some figure) (some movement) = some (label_of figure movement)

-- by the figure's text, counts and table and the movement's text, counts and table: the tables hold what their counts say, and the bone is a row of both
unfoldable pub label_in : List ℕ → FigureCounts → List ℤ → List ℕ → MovementCounts → List ℤ → ℕ → Option (List ℕ)
label_in figure n table movement m moves bone =
    if_true
    (holds_figure n table && holds_movement m moves && ltb bone n.bones && ltb bone m.bones)
    (label_from (figure_name figure n table bone) (movement_name movement moves bone))

-- at 21 the part is empty
unfoldable pub or_empty : Option (List ℕ) → List ℕ
or_empty none = []
or_empty (some name) = name
