-- `append_lists` puts the lists one after the other, each by `append_list`.
use mathlib.Core.Path.{ap, ◌∙◌}
use Rattle.text_bytes.specs.Bytes.{bytes}
use Rattle.report_text.specs.Output.{output}
use Rattle.report_lists.specs.Lists.{reached}
use Rattle.report_lists.proofs.Texts.{next_list, all_listed, put_of, all_lines}
use Rattle.tra4_listing.specs.Movements.{movement_lists}
use borrow.Author.Rules.{rules}
use Rattle.tra4_listing.proofs.append_lists.Statement.{statement}
use Rattle.tra4_listing.proofs.append_lists.Tie as tie

append-list-requires : tie.Need-append_list-frames-requires
append-list-requires c κs = search rules

append-list-requires-2 : tie.Need-append_list-names-requires
append-list-requires-2 c κs = search rules

append-list-requires-3 : tie.Need-append_list-bones-requires
append-list-requires-3 c κs = search rules

append-list-requires-4 : tie.Need-append_list-keys-requires
append-list-requires-4 c κs = search rules

append-list-requires-5 : tie.Need-append_list-patterns-requires
append-list-requires-5 c κs = search rules

same_length : tie.Need-shape_of-buf
same_length c =
    let k5 = c.before.before in
    let k4 = k5.before.before.before.before.before in
    let k3 = k4.before.before.before.before.before in
    let k2 = k3.before.before.before.before.before in
    let k1 = k2.before.before.before.before.before in
    k5.append_list-patterns.auto.buf ∙ k4.append_list-keys.auto.buf ∙ k3.append_list-bones.auto.buf ∙ k2.append_list-names.auto.buf ∙ k1.append_list-frames.auto.buf

returns : tie.Need-returns
unfolding put_of reached all_listed movement_lists bytes
returns c =
    let k5 = c.before.before in
    let k4 = k5.before.before.before.before.before in
    let k3 = k4.before.before.before.before.before in
    let k2 = k3.before.before.before.before.before in
    let k1 = k2.before.before.before.before.before in
    let a = k1.args in
    ap put_of (next_list _ k5.append_list-patterns.ensures
    (next_list _ k4.append_list-keys.ensures
    (next_list _ k3.append_list-bones.ensures
    (next_list _ k2.append_list-names.ensures
    k1.append_list-frames.ensures))))
    ∙ all_lines (output a.start a.buf.now) a.table.now (movement_lists a.n)

pub append_lists_spec : {M : Type 1} → statement M
append_lists_spec = tie.close (tie.spec append-list-requires append-list-requires-2 append-list-requires-3 append-list-requires-4 append-list-requires-5 same_length returns)
