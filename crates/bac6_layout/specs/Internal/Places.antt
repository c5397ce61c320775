-- Where a figure's lists begin in the table of rows, one after the other.
use Rattle.std.specs.Prelude.{ℕ, ◌+◌, ◌*◌}
use Rattle.table_counts.specs.declared.counts.FigureCounts.{FigureCounts}

abbrev pub materials_from : FigureCounts → ℕ
materials_from n = n.textures * 2 + n.colours * 3

abbrev pub bones_from : FigureCounts → ℕ
bones_from n = materials_from n + n.materials * 9 + n.points * 3 + n.normals * 3

abbrev pub uvs_from : FigureCounts → ℕ
uvs_from n = bones_from n + n.bones * 14

abbrev pub faces_from : FigureCounts → ℕ
faces_from n = uvs_from n + n.uvs * 2

-- the index after the last row
abbrev pub rows_end : FigureCounts → ℕ
rows_end n = faces_from n + n.faces * 11
