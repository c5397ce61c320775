-- `placed_fault` is the first of two faults, by the law of each, and the bones' part is put back.
use Rattle.std.proofs.Common.{sym, ◌∙◌, arith}
use Rattle.std.proofs.lemmas.Result.{err_from_is_err_and}
use Rattle.refusal.proofs.Rules.{refused_by, clear_by, or-clear, or-fault}
use Rattle.bac6_check.proofs.Parts.{normals_in, bones_by, placed_in}
use Rattle.bac6_check.proofs.check.placed_fault.Goals as goal

pub offset_bounds-rows-b : goal.offset_bounds-rows-b
offset_bounds-rows-b c =
    let h = normals_in c.args.n c.args.rows.now _ c.row_ends-e.ensures in
    record { fits = omega arith }

pub slice_bounds-place_bones-count : goal.slice_bounds-place_bones-count
slice_bounds-place_bones-count c = normals_in c.args.n c.args.rows.now _ c.row_ends-e.ensures

pub slice_bounds-place_bones-start : goal.slice_bounds-place_bones-start
slice_bounds-place_bones-start c = normals_in c.args.n c.args.rows.now _ c.row_ends-e.ensures

pub returns-in_err-place_bones : goal.returns-in_err-place_bones
returns-in_err-place_bones c =
    let a = c.args in
    let b = c.place_bones.ensures in
    let e = c.row_ends-e.ensures in
    let p = err_from_is_err_and c.from_residual.result c.from_residual.ensures.1 in
    record {
      answer = rw (p.1, p.2) (sym (or-fault _ (refused_by (bones_by a.n a.rows.now _ e b.answer) c.in_err-place_bones.was)));
      content = placed_in a.n a.rows.now _ e _ b.content;
    }

pub returns : goal.returns
returns c =
    let a = c.args in
    let b = c.place_bones.ensures in
    let e = c.row_ends-e.ensures in
    record {
      answer = c.later_fault-later.ensures ∙ sym (or-clear _ (clear_by (bones_by a.n a.rows.now _ e b.answer) c.in_ok-place_bones.was));
      content = placed_in a.n a.rows.now _ e _ b.content;
    }
