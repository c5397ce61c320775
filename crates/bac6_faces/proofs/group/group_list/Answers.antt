-- Each way out of a turn by the law of the list's end, of an item that is refused or of a group more.
use Rattle.std.proofs.Common.{Ok, sym, ◌∙◌, arith}
use Rattle.parse_spec.specs.Internal.Branches.{item_of}
use Rattle.parse_cursor.proofs.Steps.{parsed_exit}
use Rattle.parse_cursor.proofs.Counts.{falls}
use Rattle.parse_cursor.proofs.Branches.{item_takes}
use Rattle.parse_rows.proofs.Folds.{folded_off, folded_end, folded_stop, folded_more, folded_fall}
use Rattle.bac6_text.specs.Grammar.{group}
use Rattle.bac6_faces.specs.Internal.Into.{group_tail, group_step}
use Rattle.bac6_faces.proofs.Groups.{group_opens, group_keeps, group_takes}
use Rattle.bac6_faces.proofs.group.group_list.Goals as goal

pub returns-in_err-ended : goal.returns-in_err-ended
returns-in_err-ended c = parsed_exit _ _ _ _ c.from_residual.ensures.1 (c.loop-ended.invariant.0 ∙ folded_off group_step group group_tail group_takes group_keeps group_opens _ _ _ (sym c.in_err-ended.ensures))

pub returns-then-ended : goal.returns-then-ended
returns-then-ended c = sym (c.loop-ended.invariant.0 ∙ folded_end group_step group group_tail group_takes group_keeps group_opens _ _ _ _ c.in_ok-ended.ensures _ c.if-ended.true)

pub group_tail-requires-clause-group_in_bounds : goal.group_tail-requires-clause-group_in_bounds
group_tail-requires-clause-group_in_bounds c = let f = falls _ _ _ item_of _ item_takes c.in_ok-ended.ensures in omega arith

pub group_tail-requires-clause-bounded : goal.group_tail-requires-clause-bounded
group_tail-requires-clause-bounded c = let f = falls _ _ _ item_of _ item_takes c.in_ok-ended.ensures in omega arith

pub returns-in_err-faces_so_far : goal.returns-in_err-faces_so_far
returns-in_err-faces_so_far c =
    parsed_exit _ _ _ _ c.from_residual-in_err-faces_so_far.ensures.1
    (c.loop-ended.invariant.0 ∙ folded_stop group_step group group_tail group_takes group_keeps group_opens _ _ _ _ c.in_ok-ended.ensures _ c.if-ended.false (sym c.in_err-faces_so_far.ensures.faces_after))

pub loop-ended-smaller : goal.loop-ended-smaller
loop-ended-smaller c = folded_fall group_step group_tail group_keeps _ _ _ _ _ c.in_ok-ended.ensures _ _ c.in_ok-faces_so_far.ensures.faces_after

pub loop-ended-preserved : goal.loop-ended-preserved
loop-ended-preserved c =
    let f = falls _ _ _ item_of _ item_takes c.in_ok-ended.ensures in
    let g = folded_fall group_step group_tail group_keeps _ _ _ _ _ c.in_ok-ended.ensures _ _ c.in_ok-faces_so_far.ensures.faces_after in
    let k = c.in_ok-faces_so_far.ensures.fewer in (
      c.loop-ended.invariant.0 ∙ folded_more group_step group group_tail group_takes group_keeps group_opens _ _ _ _ c.in_ok-ended.ensures _ (Ok _) _ c.in_ok-faces_so_far.ensures.faces_after c.if-ended.false,
      omega (arith, k),
      omega arith,
    )
