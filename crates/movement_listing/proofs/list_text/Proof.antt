-- `list_text` lists what `read` answers and leaves.
use mathlib.Core.Path.{ap, ◌∙◌}
use Rattle.report_text.specs.Output.{output}
use Rattle.report_lists.specs.Lists.{appended_each}
use Rattle.movement_listing.specs.Listing.{start_table}
use Rattle.movement_listing.proofs.Reading.{same_lines, same_text}
use borrow.Author.Rules.{rules}
use Rattle.movement_listing.proofs.list_text.Statement.{statement}
use Rattle.movement_listing.proofs.list_text.Tie as tie

slice-aggregate-read : tie.Need-slice_bounds-read-end
slice-aggregate-read c = search rules

read-requires : tie.Need-read-answer-requires
read-requires c κs = search rules

slice-aggregate-list-movement : tie.Need-slice_bounds-list_movement-end
slice-aggregate-list-movement c = search rules

list-movement-requires : tie.Need-list_movement-requires
list-movement-requires c κs = search rules

same_length : tie.Need-shape_of-buf
same_length c = search rules

returns : tie.Need-returns
unfolding start_table
returns c =
    let l = c.list_movement in
    let k = c.before.before.before.before.before.before in
    let r = k.read-answer in
    let a = c.args in
    let lines = same_lines a.text.now r.new.table r.result r.ensures.0 r.ensures.1 in
    let text = same_text a.text.now r.new.table r.result r.ensures.0 r.ensures.1 in
    (l.ensures.0 ∙ ap (appended_each (output 0 a.buf.now)) lines, (l.ensures.1.0, λ h. l.ensures.1.1 (rw text h) ∙ text))

pub list_text_spec : {M : Type 1} → statement M
list_text_spec = tie.close (tie.spec slice-aggregate-read read-requires slice-aggregate-list-movement list-movement-requires same_length returns)
