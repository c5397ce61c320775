-- Where a vertex's point and owner, a texture coordinate, a face and a bone stand: within the table, at a small index.
use mathlib.Core.Path.{◌≡◌}
use mathlib.Core.List.{List}
use Prim.Native.Nat.{ℕ, ◌+◌, ◌*◌, ◌≤◌, ◌<◌}
use native.Mathlib.Omega.{arith}
use lib.IntN.{ℤ}
use lib.ListN.{length}
use mathlib.Core.Bool.{true}
use Rattle.table_counts.specs.declared.counts.FigureCounts.{FigureCounts}
use Rattle.table_figure.specs.Sections.{points_begin, bones_begin, owners_begin, uvs_begin, faces_begin, holds_figure}
use Rattle.table_figure.proofs.Mosts.{figure_small, figure-room}

module _ (n : FigureCounts) (table : List ℤ) (held : holds_figure n table ≡ true) where
  pub owners_place : (owners_begin n ≤ length table) × (owners_begin n ≤ 40000)
  unfolding owners_begin bones_begin points_begin
  owners_place =
      let s = figure_small n table held in
      let r = figure-room n table held in
      (omega arith, omega arith)

  pub owner-place : (v : ℕ) → v < n.points → (owners_begin n + v < length table) × (owners_begin n + v ≤ 40000)
  unfolding owners_begin bones_begin points_begin
  owner-place v h =
      let s = figure_small n table held in
      let r = figure-room n table held in
      (omega arith, omega arith)

  pub point_place : (v : ℕ) → v < n.points → (points_begin n + v * 3 + 2 < length table) × (points_begin n + v * 3 + 2 ≤ 40000)
  unfolding points_begin
  point_place v h =
      let s = figure_small n table held in
      let r = figure-room n table held in
      (omega arith, omega arith)

  pub uv-place : (t : ℕ) → t < n.uvs → (uvs_begin n + t * 2 + 1 < length table) × (uvs_begin n + t * 2 + 1 ≤ 40000)
  unfolding uvs_begin owners_begin bones_begin points_begin
  uv-place t h =
      let s = figure_small n table held in
      let r = figure-room n table held in
      (omega arith, omega arith)

  pub face-place : (face : ℕ) → face < n.faces → (faces_begin n + face * 11 + 11 ≤ length table) × (faces_begin n + face * 11 + 11 ≤ 40000)
  unfolding faces_begin uvs_begin owners_begin bones_begin points_begin
  face-place face h =
      let s = figure_small n table held in
      let r = figure-room n table held in
      (omega arith, omega arith)

  pub bone-place : (bone : ℕ) → bone < n.bones → (bones_begin n + bone * 14 + 14 ≤ length table) × (bones_begin n + bone * 14 + 14 ≤ 40000)
  unfolding bones_begin points_begin
  bone-place bone h =
      let s = figure_small n table held in
      let r = figure-room n table held in
      (omega arith, omega arith)
