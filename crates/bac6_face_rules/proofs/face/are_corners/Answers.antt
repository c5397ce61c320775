-- Each corner by the law of one turn.
use Rattle.std.proofs.Common.{◌≡◌, Bool, true, false, ◌&&◌, ◌||◌, ap, sym, ◌∙◌, arith}
use Rattle.table_references.specs.References.{is_row, is_none}
use Rattle.table_columns.specs.Columns.{corner_at}
use Rattle.bac6_face_rules.proofs.Faces.{left-all, turn_broken, turn_on, turn_end}
use Rattle.bac6_face_rules.proofs.face.are_corners.Goals as goal
use Rattle.bac6_face_rules.proofs.face.are_corners.Goals.{then-rows, else-rows, then-none, else-none}

pub loop-k-init : goal.loop-k-init
loop-k-init c = left-all _ _ _ _

pub returns-then-not-is_vertex : goal.returns-then-not-is_vertex
returns-then-not-is_vertex c =
    let a = c.args in
    let k = c.loop-k.k in
    let v : is_row a.points (corner_at 2 a.f.now k) ≡ false = sym (c.is_vertex.ensures ∙ ap (is_row a.points) c.face_vertex.ensures) ∙ c.if-not-is_vertex.true in
    sym (c.loop-k.invariant ∙ turn_broken a.points a.uvs a.f.now c.requires.0 a.used c.requires.1 c.loop-k.none c.loop-k.rows k c.loop-k-test.true v)

pub loop-k-preserved : goal.loop-k-preserved
loop-k-preserved c =
    let a = c.args in
    let k = c.loop-k.k in
    let u = corner_at 6 a.f.now k in
    let v : is_row a.points (corner_at 2 a.f.now k) ≡ true = sym (c.is_vertex.ensures ∙ ap (is_row a.points) c.face_vertex.ensures) ∙ c.if-not-is_vertex.false in
    let rows : c.if-rows.rows ≡ (c.loop-k.rows && is_row a.uvs u) =
    elim c.if-rows.branch [
      | then-rows w ↦ rw w.if-rows.true (w.rows-is ∙ w.is_uv-rows.ensures ∙ ap (is_row a.uvs) c.face_uv-u.ensures)
      | else-rows w ↦ rw w.if-rows.false (w.rows-is ∙ w.if-rows.false)
    ] in
    let none : c.if-none.none ≡ (c.loop-k.none && is_none u) =
    elim c.if-none.branch [
      | then-none w ↦ rw w.if-none.true (w.none-is ∙ w.is_no_uv-none.ensures ∙ ap is_none c.face_uv-u.ensures)
      | else-none w ↦ rw w.if-none.false (w.none-is ∙ w.if-none.false)
    ] in
    rw (rows, none) (c.loop-k.invariant ∙ turn_on a.points a.uvs a.f.now c.requires.0 a.used c.requires.1 c.loop-k.none c.loop-k.rows k c.loop-k-test.true v)

pub returns-then-none-2 : goal.returns-then-none-2
returns-then-none-2 c = c.if-none-2.true ∙ sym (c.loop-k.invariant ∙ turn_end _ _ c.args.f.now c.requires.0 c.args.used c.requires.1 c.loop-k.none c.loop-k.rows c.loop-k.k (omega arith) ∙ ap (λ (b : Bool). b || c.loop-k.rows) c.if-none-2.true)

pub returns-else-none-2 : goal.returns-else-none-2
returns-else-none-2 c = sym (c.loop-k.invariant ∙ turn_end _ _ c.args.f.now c.requires.0 c.args.used c.requires.1 c.loop-k.none c.loop-k.rows c.loop-k.k (omega arith) ∙ ap (λ (b : Bool). b || c.loop-k.rows) c.if-none-2.false)
