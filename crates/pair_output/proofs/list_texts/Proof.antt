-- `list_texts` puts the reply of what `load` answers, and the labels on what it leaves.
use borrow.Author.Rules.{rules}
use Rattle.pair_output.proofs.Printing.{start_table, start_moves, start_lines, texts-put}
use Rattle.pair_output.proofs.list_texts.Statement.{statement}
use Rattle.pair_output.proofs.list_texts.Tie as tie

slice-aggregate-load : tie.Need-slice_bounds-load-end
slice-aggregate-load c = search rules

slice-aggregate-load-2 : tie.Need-slice_bounds-load-end-2
slice-aggregate-load-2 c = search rules

load-requires : tie.Need-load-answer-requires
load-requires c κs = search rules

list-reply-requires : tie.Need-list_reply-filled-requires
list-reply-requires c κs = search rules

slice-aggregate-append-labels : tie.Need-slice_bounds-append_labels-end
slice-aggregate-append-labels c = search rules

slice-aggregate-append-labels-2 : tie.Need-slice_bounds-append_labels-end-2
slice-aggregate-append-labels-2 c = search rules

append-labels-requires : tie.Need-append_labels-requires
append-labels-requires c κs = search rules

same_length : tie.Need-shape_of-buf
same_length c = search rules

returns : tie.Need-returns
unfolding start_table start_moves
returns c =
    let g = c.before.before in
    let r = g.before.before.before.before.before.before.before.before in
    let l = r.before.before.before.before in
    let a = l.args in
    rw (start_lines a.figure.now a.movement.now) at
    (texts-put a.figure.now start_table a.movement.now start_moves l.load-answer.result l.load-answer.new.table l.load-answer.new.moves l.load-answer.ensures.0 l.load-answer.ensures.1.0 l.load-answer.ensures.1.1 _ _ a.buf.now _ _ r.list_reply-filled.ensures.0 g.append_labels.ensures.0 g.append_labels.ensures.1)

pub list_texts_spec : {M : Type 1} → statement M
list_texts_spec = tie.close (tie.spec slice-aggregate-load slice-aggregate-load-2 load-requires list-reply-requires slice-aggregate-append-labels slice-aggregate-append-labels-2 append-labels-requires same_length returns)
