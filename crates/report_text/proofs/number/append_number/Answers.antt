-- `append_number` puts down the sign and what `io::decimal` gives, by the laws of a number's text.
use Rattle.std.proofs.Common.{[], ◌∷◌, sym, ap, ◌∙◌}
use Rattle.report_text.specs.Output.{appended}
use Rattle.report_text.specs.Text.{numeral}
use Rattle.report_text.proofs.Appending.{no_room, has_room, both}
use Rattle.report_text.proofs.Numerals.{text-below, text-from, width-below}
use Rattle.report_text.proofs.number.append_number.Goals as goal

pub returns-then-not-has_room : goal.returns-then-not-has_room
returns-then-not-has_room c =
    let d = c.decimal-k.ensures in
    let a = c.args in
    no_room a.n _ a.buf.now (numeral a.z) (width-below _ _ _ _ c.ranges.z c.magnitude.ensures d.len d.digits c.if-z-lt0.true) c.has_room.ensures c.if-not-has_room.true

pub returns-then-z-lt0 : goal.returns-then-z-lt0
returns-then-z-lt0 c =
    let d = c.decimal-k.ensures in
    let a = c.args in
    let text = text-below _ _ _ _ c.ranges.z c.magnitude.ensures d.len d.digits c.if-z-lt0.true in
    let wide = width-below _ _ _ _ c.ranges.z c.magnitude.ensures d.len d.digits c.if-z-lt0.true in
    let fits = has_room a.n _ a.buf.now (numeral a.z) wide c.has_room.ensures c.if-not-has_room.false in
    rw text (both a.n c.append-at.result a.buf.now _ (45 ∷ []) _ (rw text at fits) c.append-at.ensures _ _ c.append.ensures)

pub returns : goal.returns
returns c =
    let d = c.decimal-k.ensures in
    c.append-2.ensures ∙ ap (appended _) (sym (text-from _ _ _ _ c.ranges.z c.magnitude.ensures d.len d.digits c.if-z-lt0.false))
