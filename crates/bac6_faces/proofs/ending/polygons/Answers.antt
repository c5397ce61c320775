-- `polygons` reads the faces and then the groups, where there are any.
use Rattle.std.proofs.Common.{sym, arith}
use Rattle.text_bytes.specs.Bytes.{bytes}
use Rattle.parse_spec.proofs.TokenCounts.{lex_at_count}
use Rattle.parse_cursor.proofs.Steps.{parsed_exit, stopped}
use Rattle.parse_cursor.proofs.Counts.{short}
use Rattle.parse_cursor.proofs.Branches.{last_keeps}
use Rattle.bac6_faces.proofs.PolygonSteps.{polygons_unopened, polygons_stopped, polygons_balked, polygons-groups, polygons_alone}
use Rattle.bac6_faces.proofs.ending.polygons.Goals as goal

pub returns-in_err-begun : goal.returns-in_err-begun
unfolding bytes
returns-in_err-begun c = parsed_exit _ _ _ _ c.from_residual.ensures.1 (polygons_unopened _ _ _ _ (stopped _ _ _ c.in_err-begun.ensures))

pub face_list-requires : goal.face_list-requires
face_list-requires c = omega (arith, lex_at_count c.args.text.now c.in_ok-begun.begun)

pub returns-in_err-count : goal.returns-in_err-count
unfolding bytes
returns-in_err-count c = parsed_exit _ _ _ _ c.from_residual-in_err-count.ensures.1 (polygons_stopped _ _ _ _ _ c.in_ok-begun.ensures (sym c.in_err-count.ensures.out_after))

pub returns-in_err-present : goal.returns-in_err-present
unfolding bytes
returns-in_err-present c = parsed_exit _ _ _ _ c.from_residual-in_err-present.ensures.1 (polygons_balked _ _ _ _ _ c.in_ok-begun.ensures _ _ c.in_ok-count.ensures.out_after (sym c.in_err-present.ensures))

pub group_list-requires : goal.group_list-requires
group_list-requires c =
    let l = short _ _ _ _ _ (last_keeps _) c.in_ok-present.ensures in
    let k = c.in_ok-count.ensures.fewer in
    omega (arith, k, lex_at_count c.args.text.now c.in_ok-begun.begun)

pub returns-then-present : goal.returns-then-present
unfolding bytes
returns-then-present c = polygons-groups _ _ _ _ _ c.in_ok-begun.ensures _ _ c.in_ok-count.ensures.out_after _ _ c.in_ok-present.ensures c.if-present.true _ _ _ c.group_list.ensures

pub returns : goal.returns
unfolding bytes
returns c = polygons_alone _ _ _ _ _ c.in_ok-begun.ensures _ _ c.in_ok-count.ensures.out_after _ _ c.in_ok-present.ensures c.if-present.false
