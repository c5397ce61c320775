-- Where the numbers of a vertex and of a texture coordinate stand, by the sections that were found: within the table, at a small index.
use mathlib.Core.Path.{◌≡◌, ap, ◌∙◌}
use mathlib.Core.List.{List}
use mathlib.Core.Bool.{true}
use Prim.Native.Nat.{ℕ, ◌+◌, ◌*◌, ◌≤◌, ◌<◌}
use lib.IntN.{ℤ, nat_abs}
use lib.ListN.{length}
use mir.Syntax.{w64}
use mir.Val.{SFits, to_z, of_z}
use mir.Facts.{to_z-of_z}
use Rattle.table_references.specs.References.{is_row}
use Rattle.table_counts.specs.declared.counts.FigureCounts.{FigureCounts}
use Rattle.table_figure.specs.declared.sections.FigureSections.{FigureSections}
use Rattle.table_figure.specs.Sections.{points_begin, uvs_begin, figure_sections}
use Rattle.table_figure.proofs.Indices.{point_place, uv-place}
use Rattle.player_face_tests.proofs.Corners.{row_is}
use Rattle.table_figure.specs.Internal.Found.{Found}

module _ (n : FigureCounts) (table : List ℤ) (s : FigureSections) (f : Found n table s) (z : ℤ) (k : SFits w64 z) where
  -- the index as the code computes it
  abbrev at : ℕ
  at = nat_abs (to_z w64 (of_z w64 z))

  pub point_index : s.points + at * 3 ≡ points_begin n + nat_abs z * 3
  unfolding figure_sections
  point_index = ap (λ (x : FigureSections). x.points + at * 3) f.sections ∙ ap (λ (x : ℤ). points_begin n + nat_abs x * 3) (to_z-of_z {w = w64} k)

  pub uv_index : s.uvs + at * 2 ≡ uvs_begin n + nat_abs z * 2
  unfolding figure_sections
  uv_index = ap (λ (x : FigureSections). x.uvs + at * 2) f.sections ∙ ap (λ (x : ℤ). uvs_begin n + nat_abs x * 2) (to_z-of_z {w = w64} k)

  pub point_room : is_row n.points z ≡ true → (s.points + at * 3 + 2 < length table) × (s.points + at * 3 + 2 ≤ 40000)
  point_room r = rw point_index (point_place n table f.held (nat_abs z) (row_is n.points z r).1)

  pub uv-room : is_row n.uvs z ≡ true → (s.uvs + at * 2 + 1 < length table) × (s.uvs + at * 2 + 1 ≤ 40000)
  uv-room r = rw uv_index (uv-place n table f.held (nat_abs z) (row_is n.uvs z r).1)
