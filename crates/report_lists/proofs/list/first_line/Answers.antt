-- `first_line` puts a refusal's line, or the total's.
use Rattle.std.proofs.Common.{◌≡◌, [], ◌∷◌, sym, ap, ◌∙◌, w64}
use mir.Val.{to_z, of_z}
use borrow.Author.Tests.{eq-eqb, ne_eqb}
use Rattle.text_bytes.specs.Bytes.{bytes}
use Rattle.report_text.specs.Output.{output, appended}
use Rattle.report_text.specs.Text.{line}
use Rattle.report_lists.proofs.Texts.{held}
use Rattle.report_lists.proofs.Listings.{first_taken, first-refused}
use Rattle.report_lists.proofs.list.first_line.Goals as goal

pub returns-then-refusal-ne0 : goal.returns-then-refusal-ne0
unfolding bytes
returns-then-refusal-ne0 c =
    let a = c.args in
    let e : output c.append_row.result c.append_row.new.buf ≡ appended (output 0 a.buf.now) (line (bytes "refused") (to_z w64 (of_z w64 c.shown.result) ∷ to_z w64 (of_z w64 c.shown-then-refusal-ne0.result) ∷ [])) = c.append_row.ensures in
    rw (held a.refusal c.shown.result c.shown.ensures, held a.place c.shown-then-refusal-ne0.result c.shown-then-refusal-ne0.ensures) at e
    ∙ ap (appended (output 0 a.buf.now)) (sym (first-refused a.word.now a.refusal a.place a.total (ne_eqb a.refusal 0 c.if-refusal-ne0.true)))

pub returns : goal.returns
returns c =
    let a = c.args in
    let e : output c.append_row-2.result c.append_row-2.new.buf ≡ appended (output 0 a.buf.now) (line a.word.now (to_z w64 (of_z w64 c.shown-2.result) ∷ [])) = c.append_row-2.ensures in
    rw (held a.total c.shown-2.result c.shown-2.ensures) at e
    ∙ ap (appended (output 0 a.buf.now)) (sym (first_taken a.word.now a.refusal a.place a.total (eq-eqb a.refusal 0 c.if-refusal-ne0.false)))
