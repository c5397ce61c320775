-- Limits of a figure's lists, and the length of its layout.
use Rattle.std.specs.Prelude.{ℕ, ◌+◌, ◌*◌, ◌≤◌}
use Rattle.table_counts.specs.declared.counts.FigureCounts.{FigureCounts}
use Rattle.bac6_layout.specs.Internal.Places.{rows_end}

-- no list has more rows than its most
pub record Within (n : FigureCounts) : Type 0 where
  pub textures : n.textures ≤ 16
  pub colours : n.colours ≤ 256
  pub materials : n.materials ≤ 64
  pub points : n.points ≤ 2048
  pub normals : n.normals ≤ 2048
  pub bones : n.bones ≤ 128
  pub uvs : n.uvs ≤ 4096
  pub faces : n.faces ≤ 1024
  pub groups : n.groups ≤ 32

-- the name, the rows, the owners and the groups' names
abbrev pub total_of : FigureCounts → ℕ
total_of n = 2 + rows_end n + n.points + n.groups * 2
