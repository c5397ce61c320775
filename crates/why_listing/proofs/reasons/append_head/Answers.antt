-- `append_head` puts one part after another.
use Rattle.std.proofs.Common.{◌≡◌, w64, to_z, of_z}
use Rattle.text_bytes.specs.Bytes.{bytes}
use Rattle.report_text.specs.Output.{output, appended}
use Rattle.report_text.specs.Text.{numeral}
use Rattle.report_lists.specs.Lists.{appended_each}
use Rattle.report_lists.proofs.Texts.{held}
use Rattle.why_listing.specs.Reasons.{head_parts}
use Rattle.why_listing.proofs.reasons.append_head.Goals as goal

pub returns : goal.returns
unfolding bytes head_parts appended_each
returns c =
    let row : output c.append_number-row.result c.append_number-row.new.buf ≡ appended (output c.append-first.result c.append-first.new.buf) (numeral (to_z w64 (of_z w64 c.shown.result))) = c.append_number-row.ensures in
    let frame : output c.append_number.result c.append_number.new.buf ≡ appended (output c.append-second.result c.append-second.new.buf) (numeral (to_z w64 (of_z w64 c.shown-2.result))) = c.append_number.ensures in
    rw (← c.append-word.ensures, ← c.append-first.ensures, ← (rw (held c.args.face _ c.shown.ensures) at row), ← c.append-second.ensures) (rw (held c.args.at _ c.shown-2.ensures) at frame)
