-- Each turn by the law of a list with a row more to put.
use Rattle.std.proofs.Common.{◌≡◌, ◌-◌, ◌+◌, length, sym, ap, ◌∙◌, arith}
use borrow.Author.Tests.{leb-true, leb-false}
use Rattle.report_lists.specs.Lists.{row_list, Listing, listed, reached}
use Rattle.report_lists.proofs.Lists.{begins, row_put, rows_out, rows_end_lem}
use Rattle.report_lists.proofs.list.append_list.Goals as goal

pub returns-then-not-has_room : goal.returns-then-not-has_room
unfolding reached
returns-then-not-has_room c =
    let l = c.loop-row in
    let a = c.args in
    let out = leb-false (l.at + a.width) (length a.table.now) (sym c.has_room.ensures ∙ c.if-not-has_room.true) in
    sym (rows_out l.n l.at a.width (a.count - l.row) l.buf a.word.now a.table.now l.invariant.within out (omega arith))
    ∙ sym l.invariant.goes_on
    ∙ ap (λ (s : Listing). listed s (row_list a.word.now a.width a.count)) (begins a.p a.buf.now a.table.now _ c.min-at.ensures)

pub loop-row-preserved : goal.loop-row-preserved
loop-row-preserved c =
    let l = c.loop-row in
    let a = c.args in
    let fits = leb-true (l.at + a.width) (length a.table.now) (sym c.has_room.ensures ∙ c.if-not-has_room.false) in
    let left : a.count - (l.row + 1) ≡ a.count - l.row - 1 = omega arith in
    record {
      within = fits;
      goes_on = l.invariant.goes_on ∙ rw left (row_put l.n l.at a.width (a.count - l.row) l.buf a.word.now a.table.now c.append_row-n.result c.append_row-n.new.buf fits (omega arith) c.append_row-n.ensures);
    }

pub returns : goal.returns
unfolding reached
returns c =
    let l = c.loop-row in
    let a = c.args in
    sym (rows_end_lem l.n l.at a.width (a.count - l.row) l.buf a.word.now a.table.now (omega arith))
    ∙ sym l.invariant.goes_on
    ∙ ap (λ (s : Listing). listed s (row_list a.word.now a.width a.count)) (begins a.p a.buf.now a.table.now _ c.min-at.ensures)
