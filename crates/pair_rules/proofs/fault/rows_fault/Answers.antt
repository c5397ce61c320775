-- `rows_fault` is the definition: each test that finds a fault answers it, in the rules' order.
use Rattle.std.proofs.Common.{◌≡◌, ◌+◌, ◌-◌, ◌*◌, ◌∙◌, arith}
use Rattle.std.proofs.lemmas.Result.{err_from_is_err_and}
use Rattle.refusal.proofs.Rules.{refused_by, clear_by}
use Rattle.table_movement.proofs.Mosts.{movement-room}
use Rattle.table_columns.proofs.Parts.{part_length}
use Rattle.pair_rules.proofs.Faults.{bones_differ, names-found, groups-found}
use Rattle.pair_rules.proofs.fault.rows_fault.Goals as goal

pub returns-then-n-bones : goal.returns-then-n-bones
returns-then-n-bones c = bones_differ _ _ _ _ _ _ c.if-n-bones.true

pub returns-in_err-names_fault : goal.returns-in_err-names_fault
returns-in_err-names_fault c =
    let p = err_from_is_err_and c.from_residual.result c.from_residual.ensures.1 in
    rw (p.1, p.2) (names-found _ _ _ _ _ _ c.if-n-bones.false _ _ (refused_by c.names_fault.ensures c.in_err-names_fault.was))

-- the movement's table is as long as its counts say, which are small
pub overflow_mul-from : goal.overflow_mul-from
overflow_mul-from c = let h = movement-room _ _ c.requires.1 in omega arith

pub overflow_add-from : goal.overflow_add-from
overflow_add-from c = let h = movement-room _ _ c.requires.1 in omega arith

pub overflow_mul-from-2 : goal.overflow_mul-from-2
overflow_mul-from-2 c = let h = movement-room _ _ c.requires.1 in omega arith

pub overflow_add-from-2 : goal.overflow_add-from-2
overflow_add-from-2 c = let h = movement-room _ _ c.requires.1 in omega arith

pub overflow_mul-count : goal.overflow_mul-count
overflow_mul-count c = let h = movement-room _ _ c.requires.1 in omega arith

pub overflow_add-from-3 : goal.overflow_add-from-3
overflow_add-from-3 c = let h = movement-room _ _ c.requires.1 in omega arith

pub offset_bounds-moves-from : goal.offset_bounds-moves-from
offset_bounds-moves-from c = let h = movement-room _ _ c.requires.1 in omega arith

pub slice_bounds-groups_fault-end : goal.slice_bounds-groups_fault-end
slice_bounds-groups_fault-end c = let h = movement-room _ _ c.requires.1 in omega arith

pub groups_fault-requires : goal.groups_fault-requires
groups_fault-requires c =
    let h = movement-room _ _ c.requires.1 in
    let a = c.args in
    (part_length (3 + a.m.bones * 22 + a.m.keys * 2) (a.m.patterns * 3) a.moves.now (omega arith), omega arith)

pub returns : goal.returns
returns c =
    let m = c.args.m in
    let z : 3 + m.bones * 22 + m.keys * 2 + m.patterns * 3 - (3 + m.bones * 22 + m.keys * 2) ≡ m.patterns * 3 = omega arith in
    c.groups_fault.ensures ∙ groups-found _ _ _ _ _ _ c.if-n-bones.false _ z (clear_by c.names_fault.ensures c.in_ok-names_fault.was)
