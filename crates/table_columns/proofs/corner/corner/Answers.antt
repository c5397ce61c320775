-- None past the fourth corner; else the number of its column, or 0 past the row's end, as `get` has it.
use Rattle.std.proofs.Common.{ap, sym, ◌∙◌, Option, unwrap_or, arith}
use mir.Facts.{to_z-of_z}
use mir.Syntax.{w64}
use lib.IntN.{ℤ, pos}
use Rattle.table_columns.proofs.Corners.{corner_none, corner-is}
use Rattle.table_columns.proofs.Lookups.{read_or_zero}
use Rattle.table_columns.proofs.corner.corner.Goals as goal

pub returns-then-k-ge-FACE_CORNERS : goal.returns-then-k-ge-FACE_CORNERS
returns-then-k-ge-FACE_CORNERS c = sym (corner_none _ _ _ c.if-k-ge-FACE_CORNERS.true)

pub returns : goal.returns
returns c =
    let l = c.get.ensures.lookup in
    let a = c.args in
    let h = c.if-k-ge-FACE_CORNERS.false in
    to_z-of_z {w = w64} {z = c.unwrap_or.result} (record { sfits = c.unwrap_or.type_inv })
    ∙ c.unwrap_or.ensures
    ∙ ap (λ (o : Option ℤ). unwrap_or o (pos 0)) c.copied.ensures
    ∙ read_or_zero a.row.now _ c.get.result l.0 l.1
    ∙ sym (corner-is a.from a.row.now a.k (omega arith))
