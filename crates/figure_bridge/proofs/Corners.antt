-- Corner on a figure's table is Corner on its lists: each number that the lookup reads is the list's, and each test of it passes.
use mathlib.Core.Path.{◌≡◌, refl, ap, sym, ◌∙◌}
use mathlib.Core.List.{List, [], ◌++◌}
use mathlib.Core.Bool.{Bool, true, false, ◌||◌, false≢true}
use mathlib.Core.Logic.{◌⊎◌, inl, inr, ⊎_elim}
use mathlib.Core.Option.{some}
use Prim.Native.Nat.{ℕ, ◌+◌, ◌<◌}
use native.Mathlib.Omega.{arith}
use borrow.Author.Tests.{lt-ltb, le-leb}
use lib.IntN.{ℤ, negsuc, nat_abs}
use lib.ListN.{length, length-append}
use Rattle.text_numerals.specs.Numbers.{FLOAT}
use Rattle.refusal.specs.Faults.{clear, is_clear}
use Rattle.parse_spec.proofs.Given.{Every}
use Rattle.bac6_text.specs.Figure.{Face, Figure}
use Rattle.bac6_text.specs.Rules as bac6
use Rattle.bac6_text.specs.Rules.{faces_of, counts_of, figure_counts, owner_of, figure_fault}
use Rattle.refusal.specs.FirstBad.{all}
use Rattle.table_references.specs.References.{is_row, is_none}
use Rattle.bac6_text.specs.Layout.{layout_of, face_row, face_rows}
use Rattle.parse_spec.proofs.Ranges.{AllIn}
use Rattle.bac6_text.proofs.Whole.{WholeFace, WholeFigure, faces-whole}
use Rattle.bac6_text.proofs.Rows.{face_rows_wide, face_rows-length}
use Rattle.table_counts.specs.declared.counts.FigureCounts.{FigureCounts}
use Rattle.player_spec.specs.Faces.{row_at, uv_at, corner_of}
use Rattle.table_figure.specs.Sections.{figure_end, few_in_figure, holds_figure}
use Rattle.table_references.specs.Index.{is_index}
use Rattle.player_spec.specs.Lookups.{only_if, all_float, face_at, owner_at, face_sound, point_at, uv_row, uv_fine, uv_in, can_corner, corner_in}
use Rattle.movement_bridge.proofs.Laid.{row_laid}
use Rattle.figure_bridge.specs.Rows.{no_face, face_of, grouped_face_of}
use Rattle.figure_bridge.proofs.Sound.{every_at, counts-sound, parents-sound, faces-sound}
use Rattle.figure_bridge.proofs.Tests.{or_yes, row_natural, row_below, either_true, all-at, all_float_lem, owner_known}
use Rattle.figure_bridge.proofs.Parts.{counts, figure_long, points_stand, uvs_stand, faces_stand, owner_stands}
use Rattle.figure_bridge.proofs.Grouped.{group_number, row_of, face_grouped, row_grouped, group_known}
use Rattle.figure_bridge.proofs.FaceRows.{corner_at, row-material, row-size, row_vertex, row-uv, below_four, vertices-sound, uvs-sound, face-fine}
use Rattle.table_counts.specs.Counts.{figure_lists}

-- ---- a corner, where every test passes

module _ (n : FigureCounts) (t : List ℤ) (face k : ℕ) (g : ℤ) (f : Face) where
  corner_by : face_at n t face ≡ face_row g f → holds_figure n t ≡ true → face < n.faces → face_sound n (face_row g f) ≡ true → k < f.size → k < 4 → all_float (point_at n t (corner_at f.vertices k)) ≡ true → is_index n.bones (owner_at n t (corner_at f.vertices k)) ≡ true → uv_fine n t (corner_at f.uvs k) ≡ true → corner_in n t face k ≡ some (record { position = point_at n t (corner_at f.vertices k); owner = owner_at n t (corner_at f.vertices k); uv = uv_in n t (corner_at f.uvs k); material = f.material })
  unfolding corner_in can_corner only_if
  corner_by row held below fine used four float owner uv =
      rw (row, row_vertex g f k four, row-uv g f k four, row-material g f, row-size g f, held, lt-ltb face n.faces below, fine, lt-ltb k f.size used, float, owner, uv)

rows_float : (rs : List (List ℤ)) (z : ℤ) → Every (AllIn FLOAT) rs → is_row (length rs) z ≡ true → all_float (row_at rs z) ≡ true
unfolding row_at
rows_float rs z h e = all_float_lem _ (every_at (AllIn FLOAT) rs (nat_abs z) [] h (row_below (length rs) z e))

-- ---- what stands in a figure's table

module _ (f : Figure) (w : WholeFigure f) (c : figure_fault f ≡ clear) (rest : List ℤ) where
  abbrev table : List ℤ
  table = layout_of f ++ rest

  pub figure_holds : holds_figure (counts f) table ≡ true
  unfolding few_in_figure holds_figure is_clear counts_of figure_counts figure_lists
  figure_holds =
      let e = figure_long f w (parents-sound f c) in
      rw (counts-sound f c, le-leb (figure_end (counts f)) (length table) (rw (length-append (layout_of f) rest) (omega arith)))

  pub face_stands : (face : ℕ) → face < length (faces_of f) → face_at (counts f) table face ≡ row_of (grouped_face_of f face)
  unfolding face_at
  face_stands face h = row_laid 11 (face_rows f) (face_rows_wide f) (faces_stand f w (parents-sound f c) rest) face (rw (face_rows-length f) h) ∙ row_grouped f face h

  point_stands : (v : ℤ) → is_row (length f.points) v ≡ true → point_at (counts f) table v ≡ row_at f.points v
  unfolding point_at row_at
  point_stands v h = row_laid 3 f.points w.points (points_stand f w (parents-sound f c) rest) (nat_abs v) (row_below (length f.points) v h)

  pub owner_of_lem : (v : ℤ) → is_row (length f.points) v ≡ true → owner_at (counts f) table v ≡ owner_of f.bones v
  unfolding owner_at
  owner_of_lem v h = owner_stands f w (parents-sound f c) rest (nat_abs v) (row_below (length f.points) v h) ∙ ap (owner_of f.bones) (row_natural (length f.points) v h)

  uv_stands : (u : ℤ) → is_row (length f.uvs) u ≡ true → uv_row (counts f) table u ≡ row_at f.uvs u
  unfolding uv_row row_at
  uv_stands u h = row_laid 2 f.uvs w.uvs (uvs_stand f w (parents-sound f c) rest) (nat_abs u) (row_below (length f.uvs) u h)

  -- a number that is -1 or a row of the uvs
  module _ (u : ℤ) (h : (is_none u ≡ true) ⊎ (is_row (length f.uvs) u ≡ true)) where
    uv-fine : uv_fine (counts f) table u ≡ true
    unfolding uv_fine
    uv-fine = ⊎_elim (λ (e : is_none u ≡ true). rw e) (λ (e : is_row (length f.uvs) u ≡ true). rw (uv_stands u e, rows_float f.uvs u w.uv_floats e) (or_yes (is_none u))) h

    uv-same : uv_in (counts f) table u ≡ uv_at f.uvs u
    unfolding uv_in uv_at
    uv-same = go (is_none u) refl h
      where
        go : (v : Bool) → is_none u ≡ v → (is_none u ≡ true) ⊎ (is_row (length f.uvs) u ≡ true) → uv_in (counts f) table u ≡ uv_at f.uvs u
        go true e k = rw (e, uv_in, uv_at)
        go false e k = ⊎_elim (λ (y : is_none u ≡ true). absurd (false≢true (sym e ∙ y))) (λ (y : is_row (length f.uvs) u ≡ true). rw (e, uv_in, uv_at) (ap some (uv_stands u y))) k

  -- ---- a face

  module _ (face : ℕ) (below : face < length (faces_of f)) where
    abbrev this : Face
    this = (grouped_face_of f face).0

    pub face-whole : WholeFace this
    face-whole = rw (face_grouped f face) (unfold face_of in every_at WholeFace (faces_of f) face no_face (faces-whole f w) below)

    pub face-sound : bac6.face_fine (length f.materials) (length f.points) (length f.uvs) this ≡ true
    face-sound = rw (face_grouped f face) (unfold face_of in every_at (λ x. bac6.face_fine (length f.materials) (length f.points) (length f.uvs) x ≡ true) (faces_of f) face no_face (faces-sound f c) below)

    pub vertex_rows : all (is_row (length f.points)) this.vertices ≡ true
    vertex_rows = vertices-sound _ _ _ this face-sound

    module _ (k : ℕ) (used : k < this.size) where
      vertex_row : is_row (length f.points) (corner_at this.vertices k) ≡ true
      vertex_row = all-at (is_row (length f.points)) this.vertices k (negsuc 0) vertex_rows (rw face-whole.vertices used)

      uv-row : (is_none (corner_at this.uvs k) ≡ true) ⊎ (is_row (length f.uvs) (corner_at this.uvs k) ≡ true)
      uv-row =
          ⊎_elim
          (λ (e : all is_none this.uvs ≡ true). inl (all-at is_none this.uvs k (negsuc 0) e (rw face-whole.uvs used)))
          (λ (e : all (is_row (length f.uvs)) this.uvs ≡ true). inr (all-at (is_row (length f.uvs)) this.uvs k (negsuc 0) e (rw face-whole.uvs used)))
          (either_true (all is_none this.uvs) (all (is_row (length f.uvs)) this.uvs) (uvs-sound _ _ _ this face-sound))

      corner-read : corner_in (counts f) table face k ≡ some (record { position = point_at (counts f) table (corner_at this.vertices k); owner = owner_at (counts f) table (corner_at this.vertices k); uv = uv_in (counts f) table (corner_at this.uvs k); material = this.material })
      corner-read =
          corner_by (counts f) table face k (group_number (grouped_face_of f face).1) this
          (face_stands face below)
          figure_holds
          below
          (face-fine (counts f) (group_number (grouped_face_of f face).1) this face-whole face-sound (group_known f face below))
          used
          (below_four this face-whole k used)
          (rw (point_stands (corner_at this.vertices k) vertex_row) (rows_float f.points (corner_at this.vertices k) w.point_floats vertex_row))
          (rw (owner_of_lem (corner_at this.vertices k) vertex_row) (owner_known f.bones (corner_at this.vertices k)))
          (uv-fine (corner_at this.uvs k) uv-row)

      corner-same : corner_in (counts f) table face k ≡ some (corner_of f this k)
      unfolding corner_of
      corner-same = corner-read ∙ rw (point_stands (corner_at this.vertices k) vertex_row, owner_of_lem (corner_at this.vertices k) vertex_row, uv-same (corner_at this.uvs k) uv-row)

  pub corner_stands : (face k : ℕ) → face < length (faces_of f) → k < (face_of f face).size → corner_in (counts f) table face k ≡ some (corner_of f (face_of f face) k)
  corner_stands face k below used = rw (← face_grouped f face) (corner-same face below k (rw (face_grouped f face) used))
