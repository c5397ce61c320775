-- Each way out of a turn by the law of the list's end, of an item that is refused or of a face more.
use Rattle.std.proofs.Common.{Ok, sym, ◌∙◌, arith}
use mir.Facts.{to_z-of_z}
use Rattle.parse_spec.specs.Internal.Branches.{item_of}
use Rattle.parse_cursor.proofs.Steps.{parsed_exit, stopped}
use Rattle.parse_cursor.proofs.Counts.{falls}
use Rattle.parse_cursor.proofs.Branches.{item_takes}
use Rattle.parse_rows.proofs.Folds.{folded_off, folded_end, folded_stop, folded_more, folded_fall}
use Rattle.bac6_text.specs.Grammar.{face}
use Rattle.bac6_face.specs.Internal.Into.{face_tail}
use Rattle.bac6_face.proofs.Faces.{face_opens}
use Rattle.bac6_faces.specs.Internal.Into.{face_step}
use Rattle.bac6_faces.proofs.FaceLists.{face_keeps, face_takes, face-stepped, face_stopped}
use Rattle.bac6_faces.proofs.list.face_list.Goals as goal

pub returns-in_err-ended-clause-out_after : goal.returns-in_err-ended-clause-out_after
returns-in_err-ended-clause-out_after c = parsed_exit _ _ _ _ c.from_residual.ensures.1 (rw (to_z-of_z c.ranges.group) at (c.loop-ended.invariant.0 ∙ folded_off (face_step _) face face_tail face_takes face_keeps face_opens _ _ _ (sym c.in_err-ended.ensures)))

pub returns-then-ended-clause-out_after : goal.returns-then-ended-clause-out_after
returns-then-ended-clause-out_after c = rw (to_z-of_z c.ranges.group) at (sym (c.loop-ended.invariant.0 ∙ folded_end (face_step _) face face_tail face_takes face_keeps face_opens _ _ _ _ c.in_ok-ended.ensures _ c.if-ended.true))

pub returns-then-ended-clause-fewer : goal.returns-then-ended-clause-fewer
returns-then-ended-clause-fewer c = let f = falls _ _ _ item_of _ item_takes c.in_ok-ended.ensures in omega arith

pub returns-in_err-at-clause-out_after : goal.returns-in_err-at-clause-out_after
returns-in_err-at-clause-out_after c =
    parsed_exit _ _ _ _ c.from_residual-in_err-at.ensures.1
    (rw (to_z-of_z c.ranges.group) at
    (c.loop-ended.invariant.0
    ∙ folded_stop (face_step _) face face_tail face_takes face_keeps face_opens _ _ _ _ c.in_ok-ended.ensures _ c.if-ended.false
    (face_stopped _ _ _ _ (omega arith) _ _ (stopped _ _ _ c.in_err-at.ensures))))

pub loop-ended-smaller : goal.loop-ended-smaller
loop-ended-smaller c =
    let s = face-stepped _ c.loop-ended.n c.saturating_mul-to.result c.loop-ended.out (omega arith) _ _ _ _ c.in_ok-at.ensures in
    folded_fall (face_step _) face_tail face_keeps _ _ _ _ _ c.in_ok-ended.ensures _ _ s

pub loop-ended-preserved : goal.loop-ended-preserved
loop-ended-preserved c =
    let s = face-stepped _ c.loop-ended.n c.saturating_mul-to.result c.loop-ended.out (omega arith) _ _ _ _ c.in_ok-at.ensures in
    let f = folded_fall (face_step _) face_tail face_keeps _ _ _ _ _ c.in_ok-ended.ensures _ _ s in
    (c.loop-ended.invariant.0 ∙ folded_more (face_step _) face face_tail face_takes face_keeps face_opens _ _ _ _ c.in_ok-ended.ensures _ (Ok _) _ s c.if-ended.false, omega arith)
