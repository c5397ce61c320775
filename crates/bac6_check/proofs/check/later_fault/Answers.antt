-- `later_fault` lends each list from its place on.
use Rattle.std.proofs.Common.{arith}
use Rattle.bac6_check.proofs.Parts.{colours_in, uvs_in, later_by}
use Rattle.bac6_check.proofs.check.later_fault.Goals as goal

pub offset_bounds-rows-m : goal.offset_bounds-rows-m
offset_bounds-rows-m c =
    let h = colours_in c.args.n c.args.rows.now _ c.row_ends-e.ensures in
    record { fits = omega arith }

pub offset_bounds-rows-f : goal.offset_bounds-rows-f
offset_bounds-rows-f c =
    let h = uvs_in c.args.n c.args.rows.now _ c.row_ends-e.ensures in
    record { fits = omega arith }

pub slice_bounds-later_fault-count : goal.slice_bounds-later_fault-count
slice_bounds-later_fault-count c = colours_in c.args.n c.args.rows.now _ c.row_ends-e.ensures

pub slice_bounds-later_fault-start : goal.slice_bounds-later_fault-start
slice_bounds-later_fault-start c = colours_in c.args.n c.args.rows.now _ c.row_ends-e.ensures

pub slice_bounds-later_fault-count-2 : goal.slice_bounds-later_fault-count-2
slice_bounds-later_fault-count-2 c = uvs_in c.args.n c.args.rows.now _ c.row_ends-e.ensures

pub slice_bounds-later_fault-start-2 : goal.slice_bounds-later_fault-start-2
slice_bounds-later_fault-start-2 c = uvs_in c.args.n c.args.rows.now _ c.row_ends-e.ensures

pub returns : goal.returns
returns c = later_by c.args.n c.args.rows.now _ c.row_ends-e.ensures _ _ c.later_fault.ensures
