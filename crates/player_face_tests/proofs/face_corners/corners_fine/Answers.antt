-- The corners left are the next one and those after it.
use Rattle.std.proofs.Common.{◌≡◌, sym, ◌∙◌, cond, pos, get_or, SFits, w64, rules}
use Rattle.std.specs.Prelude.{nat_lt}
use Rattle.std.proofs.lemmas.Int.{to_z-of_z}
use Rattle.table_references.specs.References.{is_row, is_none}
use Rattle.player_face_tests.proofs.Corners.{corner_next, corners_end}
use Rattle.player_face_tests.proofs.face_corners.corners_fine.Goals as goal
use Rattle.player_face_tests.proofs.face_corners.corners_fine.Goals.{After-corner_fine}

-- what the call says of the corner
told : (c : After-corner_fine) → let a = c.args in let i = c.loop-i.i in c.corner_fine.result ≡ cond (nat_lt i a.used) (is_row a.n (get_or a.corners.now i (pos 0))) (is_none (get_or a.corners.now i (pos 0)))
told c =
    let f : SFits w64 (get_or c.args.corners.now c.loop-i.i (pos 0)) = search rules in
    rw (to_z-of_z _ _ f) at c.corner_fine.ensures

pub returns-then-not-corner_fine : goal.returns-then-not-corner_fine
returns-then-not-corner_fine c =
    let m = (goal.at.returns-then-not-corner_fine c).After-corner_fine in
    sym (c.loop-i.invariant ∙ corner_next _ _ _ c.loop-i.i c.loop-i-test.true ∙ rw (sym (told m) ∙ c.if-not-corner_fine.true))

pub loop-i-preserved : goal.loop-i-preserved
loop-i-preserved c =
    let m = (goal.at.loop-i-preserved c).After-corner_fine in
    c.loop-i.invariant ∙ corner_next _ _ _ c.loop-i.i c.loop-i-test.true ∙ rw (sym (told m) ∙ c.if-not-corner_fine.false)

pub returns : goal.returns
returns c = sym (c.loop-i.invariant ∙ corners_end _ _ _ c.loop-i.i c.loop-i-test.false)
