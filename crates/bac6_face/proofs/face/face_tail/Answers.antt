-- `face_tail` goes by the row of the face's first word.
use Rattle.std.proofs.Common.{rules, sym}
use Rattle.text_bytes.specs.Bytes.{bytes}
use Rattle.parse_numbers.specs.Internal.Answers.{form_named}
use Rattle.parse_cursor.proofs.Steps.{reads_exit}
use Rattle.bac6_face.proofs.Faces.{zero_bits, other_bits, by_first, by_second, face_stopped, face_balked, face-joined}
use Rattle.bac6_face.proofs.face.face_tail.Goals as goal

pub returns-in_err-material : goal.returns-in_err-material
unfolding form_named bytes
returns-in_err-material c = reads_exit _ _ _ _ c.from_residual.ensures.1 (face_stopped _ _ _ _ _ _ c.keyword-d.ensures (sym c.in_err-material.ensures))

pub returns-in_err-k : goal.returns-in_err-k
unfolding form_named bytes
returns-in_err-k c = reads_exit _ _ _ _ c.from_residual-in_err-k.ensures.1 (face_balked _ _ _ _ _ _ c.keyword-d.ensures _ _ _ c.in_ok-material.ensures c.opening-e.ensures (sym c.in_err-k.ensures))

pub returns-then-k-eq0 : goal.returns-then-k-eq0
unfolding form_named bytes
returns-then-k-eq0 c =
    face-joined _ _ _ _ _ _ c.keyword-d.ensures _ _ _ c.in_ok-material.ensures c.opening-e.ensures _ _ c.in_ok-k.ensures
    (by_first _ _ _ _ _ (search rules) c.ranges.group _ _ (zero_bits _ (search rules) c.if-k-eq0.true) c.corners.ensures)

pub returns : goal.returns
unfolding form_named bytes
returns c =
    face-joined _ _ _ _ _ _ c.keyword-d.ensures _ _ _ c.in_ok-material.ensures c.opening-e.ensures _ _ c.in_ok-k.ensures
    (by_second _ _ _ _ _ (search rules) c.ranges.group _ _ (other_bits _ c.if-k-eq0.false) c.corners-2.ensures)
