-- `append_reason` puts the rest of the line, by the reason's cases.
use Rattle.std.proofs.Common.{◌≡◌, [], ◌∷◌, w64, to_z, of_z}
use Rattle.text_bytes.specs.Bytes.{bytes}
use Rattle.report_text.specs.Text.{fields, line}
use Rattle.report_text.specs.Output.{output, appended}
use Rattle.report_lists.proofs.Texts.{held}
use Rattle.why_listing.specs.Reasons.{reason_line}
use Rattle.why_listing.proofs.reasons.append_reason.Goals as goal

pub returns-in-Shown : goal.returns-in-Shown
unfolding bytes reason_line line fields
returns-in-Shown c = rw c.in-Shown.is c.append.ensures

pub returns-in-Corner : goal.returns-in-Corner
unfolding bytes reason_line
returns-in-Corner c =
    let put : output c.append_row.result c.append_row.new.buf ≡ appended (output c.args.n c.args.buf.now) (line (9 ∷ bytes "corner") (to_z w64 (of_z w64 c.shown.result) ∷ [])) = c.append_row.ensures in
    rw c.in-Corner.is (rw (held _ _ c.shown.ensures) at put)

pub returns-in-Unset : goal.returns-in-Unset
unfolding bytes reason_line line fields
returns-in-Unset c = rw c.in-Unset.is c.append-in-Unset.ensures

pub returns-in-Line : goal.returns-in-Line
unfolding bytes reason_line
returns-in-Line c =
    let put : output c.append_row-in-Line.result c.append_row-in-Line.new.buf ≡ appended (output c.args.n c.args.buf.now) (line (9 ∷ bytes "line") (to_z w64 (of_z w64 c.shown-in-Line.result) ∷ [])) = c.append_row-in-Line.ensures in
    rw c.in-Line.is (rw (held _ _ c.shown-in-Line.ensures) at put)
