-- `group_tail` reads a name, sets its row down and hands the faces to `face_list`.
use Rattle.std.proofs.Common.{◌<◌, ◌^◌, sym, arith}
use Rattle.text_bytes.specs.Bytes.{bytes}
use Rattle.signed.proofs.Signed.{bits_pos}
use Rattle.parse_cursor.proofs.Steps.{parsed_exit}
use Rattle.parse_cursor.proofs.Bounds.{place_bounds}
use Rattle.bac6_faces.proofs.Groups.{named-short, name-row, group_stopped, group-joined, fewer-since}
use Rattle.bac6_faces.proofs.group.group_tail.Goals as goal

pub returns-in_err-name-clause-faces_after : goal.returns-in_err-name-clause-faces_after
unfolding bytes
returns-in_err-name-clause-faces_after c = parsed_exit _ _ _ _ c.from_residual.ensures.1 (group_stopped _ _ _ _ _ _ c.keyword-d.ensures (sym c.in_err-name.ensures))

pub overflow_cast-row : goal.overflow_cast-row
overflow_cast-row c = let h = place_bounds _ _ _ _ c.in_ok-name.ensures in record { sfits = omega arith }

pub overflow_cast-row-2 : goal.overflow_cast-row-2
overflow_cast-row-2 c = let h = place_bounds _ _ _ _ c.in_ok-name.ensures in record { sfits = omega arith }

pub face_list-requires : goal.face_list-requires
face_list-requires c = let h = named-short _ _ _ _ _ _ c.keyword-d.ensures c.in_ok-name.ensures in omega arith

pub returns-clause-faces_after : goal.returns-clause-faces_after
unfolding bytes
returns-clause-faces_after c =
    let h = place_bounds _ _ _ _ c.in_ok-name.ensures in
    let small : c.args.group < 2 ^ 63 = omega arith in
    group-joined _ _ _ _ _ _ c.keyword-d.ensures _ _ c.in_ok-name.ensures _ _ _ (name-row _ _ _ _ _ _ (omega arith) (omega arith) (omega arith) c.store.ensures) (rw (bits_pos _ small) at c.face_list.ensures.out_after)

pub returns-clause-fewer : goal.returns-clause-fewer
returns-clause-fewer c = fewer-since _ _ _ _ _ (named-short _ _ _ _ _ _ c.keyword-d.ensures c.in_ok-name.ensures) c.face_list.ensures.fewer
