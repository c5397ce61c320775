-- `point_fine` is the test of each number in turn.
use Rattle.std.proofs.Common.{sym, ◌∙◌}
use Rattle.std.proofs.lemmas.Int.{to_z-of_z}
use Rattle.player_corners.proofs.FaceRows.{point_tests}
use Rattle.player_corners.proofs.point.point_fine.Goals as goal
use Rattle.player_corners.proofs.point.point_fine.Goals.{then-is_float, else-is_float, then-is_float-2, else-is_float-2}

pub returns-then-is_float-3 : goal.returns-then-is_float-3
returns-then-is_float-3 c =
    let r = c.ranges in
    elim c.if-is_float-2.branch [
      | then-is_float-2 w ↦
          elim c.if-is_float.branch [
            | then-is_float v ↦
                let x = sym (rw (to_z-of_z _ _ r.x) at c.is_float.ensures) ∙ v.if-is_float.true in
                let y = sym (rw (to_z-of_z _ _ r.y) at v.is_float-then-is_float.ensures) ∙ sym v.value-is ∙ w.if-is_float-2.true in
                let z = sym (rw (to_z-of_z _ _ r.z) at w.is_float-then-is_float-2.ensures) ∙ sym w.value-is ∙ c.if-is_float-3.true in
                rw (point_tests c.args.bones c.args.x c.args.y c.args.z c.args.owner, x, y, z) (rw (to_z-of_z _ _ r.owner) at c.is_index.ensures)
            | else-is_float v ↦ cc
          ]
      | else-is_float-2 w ↦ cc
    ]

pub returns-else-is_float-3 : goal.returns-else-is_float-3
returns-else-is_float-3 c =
    let r = c.ranges in
    let no = c.if-is_float-3.false in
    elim c.if-is_float-2.branch [
      | then-is_float-2 w ↦
          elim c.if-is_float.branch [
            | then-is_float v ↦
                let x = sym (rw (to_z-of_z _ _ r.x) at c.is_float.ensures) ∙ v.if-is_float.true in
                let y = sym (rw (to_z-of_z _ _ r.y) at v.is_float-then-is_float.ensures) ∙ sym v.value-is ∙ w.if-is_float-2.true in
                let z = sym (rw (to_z-of_z _ _ r.z) at w.is_float-then-is_float-2.ensures) ∙ sym w.value-is ∙ no in
                rw (point_tests c.args.bones c.args.x c.args.y c.args.z c.args.owner, x, y, z) no
            | else-is_float v ↦ cc
          ]
      | else-is_float-2 w ↦
          elim c.if-is_float.branch [
            | then-is_float v ↦
                let x = sym (rw (to_z-of_z _ _ r.x) at c.is_float.ensures) ∙ v.if-is_float.true in
                let y = sym (rw (to_z-of_z _ _ r.y) at v.is_float-then-is_float.ensures) ∙ sym v.value-is ∙ w.if-is_float-2.false in
                rw (point_tests c.args.bones c.args.x c.args.y c.args.z c.args.owner, x, y) no
            | else-is_float v ↦
                let x = sym (rw (to_z-of_z _ _ r.x) at c.is_float.ensures) ∙ v.if-is_float.false in
                rw (point_tests c.args.bones c.args.x c.args.y c.args.z c.args.owner, x) no
          ]
    ]
