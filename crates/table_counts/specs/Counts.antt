-- The row counts of a figure's and a movement's lists, in the table's order without owners, and the most of each (document 01, "The tables").
use Rattle.std.specs.Prelude.{List, [], ◌∷◌, ℕ}
use Rattle.table_counts.specs.declared.counts.FigureCounts.{FigureCounts}
use Rattle.table_counts.specs.declared.counts.MovementCounts.{MovementCounts}

unfoldable pub figure_lists : FigureCounts → List ℕ
figure_lists n =
    n.textures ∷ n.colours ∷ n.materials ∷ n.points ∷ n.normals ∷ n.bones ∷ n.uvs ∷ n.faces ∷ n.groups ∷ []

unfoldable pub figure_mosts : List ℕ
figure_mosts = 16 ∷ 256 ∷ 64 ∷ 2048 ∷ 2048 ∷ 128 ∷ 4096 ∷ 1024 ∷ 32 ∷ []

unfoldable pub movement_lists : MovementCounts → List ℕ
movement_lists n = n.bones ∷ n.keys ∷ n.patterns ∷ []

unfoldable pub movement_mosts : List ℕ
movement_mosts = 128 ∷ 4096 ∷ 256 ∷ []

-- no rows
unfoldable pub no_figure : FigureCounts
no_figure = record { textures = 0; colours = 0; materials = 0; points = 0; normals = 0; bones = 0; uvs = 0; faces = 0; groups = 0 }

unfoldable pub no_movement : MovementCounts
no_movement = record { bones = 0; keys = 0; patterns = 0 }
