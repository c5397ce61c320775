-- `list_movement` puts the first line, and the lists where nothing is refused.
use borrow.Author.Tests.{eq-eqb, ne_eqb}
use Rattle.text_bytes.specs.Bytes.{bytes}
use Rattle.report_lists.proofs.Listings.{said_taken, said_refused}
use Rattle.tra4_listing.specs.Movements.{movement_lists, movement_lines, movement_text}
use borrow.Author.Rules.{rules}
use Rattle.tra4_listing.proofs.list_movement.Statement.{statement}
use Rattle.tra4_listing.proofs.list_movement.Tie as tie

first-line-requires : tie.Need-first_line-n-requires
first-line-requires c κs = search rules

same_length : tie.Need-shape_of-buf-then-answer-ne0
same_length c = search rules

returns : tie.Need-returns-then-answer-ne0
unfolding bytes movement_lines movement_text
returns c =
    let k = c.before.before.before.before in
    let a = k.args in
    said_refused (bytes "movement") a.answer.refusal a.answer.place a.answer.total (movement_lists a.answer.counts) a.table.now _ a.buf.now _ (ne_eqb a.answer.refusal 0 c.if-answer-ne0.true) k.first_line-n.ensures

append-lists-requires : tie.Need-append_lists-requires
append-lists-requires c κs = search rules

same-length-2 : tie.Need-shape_of-buf
same-length-2 c = search rules

returns-2 : tie.Need-returns
unfolding bytes movement_lines movement_text
returns-2 c =
    let l = c.before.before in
    let t = l.before.before.before in
    let k = t.before.before.before.before in
    let a = k.args in
    said_taken (bytes "movement") a.answer.refusal a.answer.place a.answer.total (movement_lists a.answer.counts) a.table.now _ _ a.buf.now _ _ (eq-eqb a.answer.refusal 0 t.if-answer-ne0.false) k.first_line-n.ensures l.append_lists.ensures

pub list_movement_spec : {M : Type 1} → statement M
list_movement_spec = tie.close (tie.spec first-line-requires same_length returns append-lists-requires same-length-2 returns-2)
