-- A face's row lies within the table, at a small index.
use Rattle.std.proofs.Common.{◌≡◌, refl, ap, ℕ, ◌+◌, ◌*◌, ◌≤◌, length, arith}
use Rattle.table_columns.proofs.Parts.{part_length, part-numbers}
use Rattle.table_columns.proofs.SmallIndices.{small_fits, byte_fits}
use Rattle.table_figure.specs.Sections.{faces_begin}
use Rattle.table_figure.proofs.Founds.{faces_are}
use Rattle.table_figure.proofs.Indices.{face-place}
use Rattle.player_spec.specs.Lookups.{face_at}
use Rattle.player_face_tests.proofs.figure.Figure.face.Goals as goal
use Rattle.player_face_tests.proofs.figure.Figure.face.Goals.{Else-self-face}

module _ (c : Else-self-face) where
  begins : c.args.self.now.sections.faces + c.args.face * 11 ≡ faces_begin c.args.self.now.n + c.args.face * 11
  begins = faces_are _ _ _ c.args.self.now.found _

  place : (faces_begin c.args.self.now.n + c.args.face * 11 + 11 ≤ length c.args.self.now.table.now) × (faces_begin c.args.self.now.n + c.args.face * 11 + 11 ≤ 40000)
  place = face-place _ _ c.args.self.now.found.held _ (let h = c.if-self-face.false in omega arith)

  room : c.args.self.now.sections.faces + c.args.face * 11 + 11 ≤ length c.args.self.now.table.now
  room = let h = place in let b = begins in omega arith

pub overflow_mul-base : goal.overflow_mul-base
overflow_mul-base c = let h = place (goal.at.overflow_mul-base c).Else-self-face in small_fits _ (c.args.face * 11) refl (omega arith)

pub overflow_add-base : goal.overflow_add-base
overflow_add-base c = let e = (goal.at.overflow_add-base c).Else-self-face in let h = place e in small_fits _ _ (begins e) (omega arith)

pub overflow_add-result : goal.overflow_add-result
overflow_add-result c = let e = (goal.at.overflow_add-result c).Else-self-face in small_fits _ _ (ap (λ (x : ℕ). x + 11) (begins e)) (place e).1

pub offset_bounds-table-base : goal.offset_bounds-table-base
offset_bounds-table-base c = let e = (goal.at.offset_bounds-table-base c).Else-self-face in let h = place e in byte_fits _ _ (begins e) (omega arith)

pub slice_bounds-result-end : goal.slice_bounds-result-end
slice_bounds-result-end c = room (goal.at.slice_bounds-result-end c).Else-self-face

pub returns : goal.returns
unfolding face_at
returns c =
    let e = (goal.at.returns c).Else-self-face in
    let f = c.args.self.now in
    (let h = c.if-self-face.false in omega arith, part_length (f.sections.faces + c.args.face * 11) 11 f.table.now (room e), part-numbers _ _ 11 _ (begins e))
