-- `list_reply` puts a refusal's line, or the totals'.
use mathlib.Core.Path.{◌≡◌}
use mathlib.Core.List.{[], ◌∷◌}
use mir.Syntax.{w64}
use mir.Val.{to_z, of_z}
use borrow.Author.Rules.{rules}
use Rattle.text_bytes.specs.Bytes.{bytes}
use Rattle.report_text.specs.Output.{output, appended}
use Rattle.report_text.specs.Text.{line}
use Rattle.report_lists.proofs.Texts.{held}
use Rattle.pair_listing.proofs.Replies.{taken_put, refused_put}
use Rattle.pair_listing.proofs.list_reply.Statement.{statement}
use Rattle.pair_listing.proofs.list_reply.Tie as tie

slice-aggregate-append-row : tie.Need-slice_bounds-append_row-end-then-refusal-ne0
slice-aggregate-append-row c = search rules

shown-requires : tie.Need-shown-requires
shown-requires c κs = search rules

shown-requires-2 : tie.Need-shown-requires-then-refusal-ne0
shown-requires-2 c κs = search rules

shown-requires-3 : tie.Need-shown-requires-then-refusal-ne0-2
shown-requires-3 c κs = search rules

slice-aggregate-append-row-2 : tie.Need-slice_bounds-append_row-end-3
slice-aggregate-append-row-2 c = search rules

append-row-requires : tie.Need-append_row-requires
append-row-requires c κs = search rules

same_length : tie.Need-shape_of-buf-then-refusal-ne0
same_length c = search rules

returns : tie.Need-returns-then-refusal-ne0
unfolding bytes
returns c =
    let k = c.before.before in
    let s3 = k.before.before in
    let s2 = s3.before in
    let s1 = s2.before in
    let t = s1.before.before.before in
    let a = t.args in
    let e : output k.append_row.result k.append_row.new.buf ≡ appended (output 0 a.buf.now) (line (bytes "refused") (to_z w64 (of_z w64 s1.shown.result) ∷ to_z w64 (of_z w64 s2.shown-then-refusal-ne0.result) ∷ to_z w64 (of_z w64 s3.shown-then-refusal-ne0-2.result) ∷ [])) = k.append_row.ensures in
    refused_put a.refusal a.place a.file a.figure_total a.movement_total _ a.buf.now _ t.if-refusal-ne0.true
    (rw (held a.refusal _ s1.shown.ensures, held a.place _ s2.shown-then-refusal-ne0.ensures, held a.file _ s3.shown-then-refusal-ne0-2.ensures) at e)

shown-requires-4 : tie.Need-shown-requires-2
shown-requires-4 c κs = search rules

shown-requires-5 : tie.Need-shown-requires-3
shown-requires-5 c κs = search rules

append-row-requires-2 : tie.Need-append_row-requires-2
append-row-requires-2 c κs = search rules

same-length-2 : tie.Need-shape_of-buf
same-length-2 c = search rules

returns-2 : tie.Need-returns
unfolding bytes
returns-2 c =
    let k = c.before.before in
    let s2 = k.before.before in
    let s1 = s2.before in
    let t = s1.before.before.before in
    let a = t.args in
    let e : output k.append_row-2.result k.append_row-2.new.buf ≡ appended (output 0 a.buf.now) (line (bytes "pair") (to_z w64 (of_z w64 s1.shown-2.result) ∷ to_z w64 (of_z w64 s2.shown-3.result) ∷ [])) = k.append_row-2.ensures in
    taken_put a.refusal a.place a.file a.figure_total a.movement_total _ a.buf.now _ t.if-refusal-ne0.false
    (rw (held a.figure_total _ s1.shown-2.ensures, held a.movement_total _ s2.shown-3.ensures) at e)

pub list_reply_spec : {M : Type 1} → statement M
list_reply_spec = tie.close (tie.spec shown-requires shown-requires-2 shown-requires-3 slice-aggregate-append-row append-row-requires same_length returns shown-requires-4 shown-requires-5 slice-aggregate-append-row-2 append-row-requires-2 same-length-2 returns-2)
