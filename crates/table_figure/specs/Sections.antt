-- Where 01's lists stand in a figure's table, by its counts, and what tables a lookup takes.
use Rattle.std.specs.Prelude.{List, Bool, true, false, ◌&&◌, ℕ, ◌+◌, ◌*◌, ◌≤◌, leb, ℤ, length}
use Rattle.refusal.specs.Rules.{too_many}
use Rattle.table_counts.specs.declared.counts.FigureCounts.{FigureCounts}
use Rattle.table_counts.specs.Counts.{figure_lists, figure_mosts}
use Rattle.table_figure.specs.declared.sections.FigureSections.{FigureSections}
use Rattle.refusal.specs.Faults.{is_clear}

unfoldable pub no_figure_sections : FigureSections
no_figure_sections = record { points = 0; bones = 0; owners = 0; uvs = 0; faces = 0; groups = 0; end = 0 }

module _ (n : FigureCounts) where
  -- after the name's place and length, the textures, the colours and the materials
  unfoldable pub points_begin : ℕ
  points_begin = 2 + n.textures * 2 + n.colours * 3 + n.materials * 9

  unfoldable pub bones_begin : ℕ
  bones_begin = points_begin + n.points * 3 + n.normals * 3

  unfoldable pub owners_begin : ℕ
  owners_begin = bones_begin + n.bones * 14

  unfoldable pub uvs_begin : ℕ
  uvs_begin = owners_begin + n.points

  unfoldable pub faces_begin : ℕ
  faces_begin = uvs_begin + n.uvs * 2

  unfoldable pub groups_begin : ℕ
  groups_begin = faces_begin + n.faces * 11

  unfoldable pub figure_end : ℕ
  figure_end = groups_begin + n.groups * 2

  unfoldable pub figure_sections : FigureSections
  figure_sections = record { points = points_begin; bones = bones_begin; owners = owners_begin; uvs = uvs_begin; faces = faces_begin; groups = groups_begin; end = figure_end }

  unfoldable pub few_in_figure : Bool
  few_in_figure = is_clear (too_many 0 (figure_lists n) figure_mosts)

  unfoldable pub holds_figure : List ℤ → Bool
  holds_figure table = few_in_figure && leb figure_end (length table)

  unfoldable pub figure_in : List ℤ → FigureSections
  figure_in table = elim (holds_figure table) [ true ↦ figure_sections | false ↦ no_figure_sections ]

  -- no count is above its most, as bounds
  abbrev pub WithinMosts : Type 0
  WithinMosts = (n.textures ≤ 16) × (n.colours ≤ 256) × (n.materials ≤ 64) × (n.points ≤ 2048) × (n.normals ≤ 2048) × (n.bones ≤ 128) × (n.uvs ≤ 4096) × (n.faces ≤ 1024) × (n.groups ≤ 32)
