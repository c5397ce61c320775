-- `place_bones` is the walk over all whole rows, and its answer that of the whole list.
use Rattle.std.proofs.Common.{refl, sym}
use Rattle.bac6_text.specs.Rules.{bones_fault}
use Rattle.bac6_bone_rules.proofs.Walks.{walked_as}
use Rattle.bac6_bone_rules.proofs.Whole.{rows_whole, rows-most, whole_flags, whole_walk, settled_short, settled_at, fault-short, fault-left, fault_none}
use Rattle.bac6_bone_rules.proofs.bone.place_bones.Goals as goal

pub returns-in_default : goal.returns-in_default
unfolding bones_fault
returns-in_default c =
    let t = c.args.table.now in
    let e = c.min-rows.ensures in
    let w = whole_walk _ _ _ e _ _ (walked_as _ _ _ _ c.bones.ensures refl c.in_default.is) in
    record { answer = sym (rw (whole_flags _ _ t e) (fault-short _ _ _ _ _ (rows-most _ _ t e) w)); content = settled_short _ _ _ _ _ (rows-most _ _ t e) w }

pub returns-then-next-rows : goal.returns-then-next-rows
unfolding bones_fault
returns-then-next-rows c =
    let t = c.args.table.now in
    let e = c.min-rows.ensures in
    let w = whole_walk _ _ _ e _ _ (walked_as _ _ _ _ c.bones.ensures refl c.in-Some.is) in
    record { answer = sym (rw (whole_flags _ _ t e) (fault-left _ _ _ _ _ (rows-most _ _ t e) _ w (rows_whole _ _ t e) c.if-next-rows.true)); content = settled_at _ _ _ _ _ (rows-most _ _ t e) _ w }

pub returns : goal.returns
unfolding bones_fault
returns c =
    let t = c.args.table.now in
    let e = c.min-rows.ensures in
    let w = whole_walk _ _ _ e _ _ (walked_as _ _ _ _ c.bones.ensures refl c.in-Some.is) in
    record { answer = sym (rw (whole_flags _ _ t e) (fault_none _ _ _ _ _ (rows-most _ _ t e) _ w (rows_whole _ _ t e) c.if-next-rows.false)); content = settled_at _ _ _ _ _ (rows-most _ _ t e) _ w }
