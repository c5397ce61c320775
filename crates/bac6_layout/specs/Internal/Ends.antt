-- Where the lists end in a table of so many numbers.
use Rattle.std.specs.Prelude.{ℕ, ◌+◌, ◌*◌, ◌≤◌, min}
use Rattle.table_counts.specs.declared.counts.FigureCounts.{FigureCounts}
use Rattle.bac6_layout.specs.declared.ends.Ends.{Ends}
use Rattle.bac6_layout.specs.Internal.Places.{materials_from, bones_from, uvs_from, faces_from, rows_end}

unfoldable pub ends_of : FigureCounts → ℕ → Ends
ends_of n room =
    record {
      textures = min (n.textures * 2) room;
      colours = min (materials_from n) room;
      materials = min (materials_from n + n.materials * 9) room;
      points = min (materials_from n + n.materials * 9 + n.points * 3) room;
      normals = min (bones_from n) room;
      bones = min (uvs_from n) room;
      uvs = min (faces_from n) room;
      faces = min (rows_end n) room;
    }

-- each at or after the one before it
pub record Rising (e : Ends) (room : ℕ) : Type 0 where
  pub colours : e.textures ≤ e.colours
  pub materials : e.colours ≤ e.materials
  pub points : e.materials ≤ e.points
  pub normals : e.points ≤ e.normals
  pub bones : e.normals ≤ e.bones
  pub uvs : e.bones ≤ e.uvs
  pub faces : e.uvs ≤ e.faces
  pub last : e.faces ≤ room
