-- `read_end` is the faces' section over the table's last part, and the end of the text.
use Rattle.std.proofs.Common.{Ok}
use Rattle.parse_cursor.proofs.Steps.{parsed_exit, stopped}
use Rattle.bac6_shape.proofs.Steps.{end_stopped, end_balked, end_read}
use Rattle.bac6_shape.proofs.ending.read_end.Goals as goal

pub returns-in_err-polygons : goal.returns-in_err-polygons
returns-in_err-polygons c = let a = c.args in parsed_exit _ _ _ _ c.from_residual.ensures.1 (end_stopped _ _ a.at a.rows.now c.requires _ _ _ _ c.polygons.ensures c.in_err-polygons.was)

pub returns-in_err-past : goal.returns-in_err-past
returns-in_err-past c =
    let a = c.args in
    parsed_exit _ _ _ _ c.from_residual-in_err-past.ensures.1
    (end_balked _ _ a.at a.rows.now c.requires _ _ _ _ c.polygons.ensures c.in_ok-polygons.was _ c.closing.ensures (stopped _ _ _ c.in_err-past.ensures))

pub returns : goal.returns
returns c = let a = c.args in end_read _ _ a.at a.rows.now c.requires _ _ _ _ c.polygons.ensures c.in_ok-polygons.was _ c.closing.ensures (Ok _) c.in_ok-past.ensures
