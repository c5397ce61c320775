-- Each piece goes on where the one before it ends, by the laws of a line's rest.
use Rattle.std.proofs.Common.{get_or, pos, refl, sym, ap, ◌∙◌, rules, add-one, w64}
use mir.Val.{SFits}
use Rattle.std.proofs.lemmas.Int.{to_z-of_z}
use Rattle.report_text.specs.Output.{output, appended}
use Rattle.report_text.specs.Text.{line}
use Rattle.report_text.proofs.Appending.{no_room, has_room, goes_on, fits_on}
use Rattle.report_rows.proofs.Lines.{rest, rest_end, line-rest, field_fits, field_goes_on}
use Rattle.report_rows.proofs.row.append_row.Goals as goal

pub returns-then-not-row_fits : goal.returns-then-not-row_fits
returns-then-not-row_fits c =
    let a = c.args in
    no_room a.n _ a.buf.now (line a.word.now a.numbers.now) refl c.row_fits.ensures c.if-not-row_fits.true

pub loop-z-init : goal.loop-z-init
loop-z-init c =
    let a = c.args in
    let fits = rw line-rest at (has_room a.n _ a.buf.now (line a.word.now a.numbers.now) refl c.row_fits.ensures c.if-not-row_fits.false) in
    record { fits = fits_on a.n _ a.buf.now _ a.word.now _ fits c.append-at.ensures; goes_on = refl }

pub loop-z-preserved : goal.loop-z-preserved
loop-z-preserved c =
    let zs = c.args.numbers.now in
    let l = c.loop-z in
    let f : SFits w64 (get_or zs l.z-index (pos 0)) = search rules in
    let tab = c.append-at-in-loop-z.ensures in
    let number = simp to_z-of_z at c.append_number-at.ensures in
    record {
      fits = rw (add-one l.z-index) (field_fits zs l.z-index _ _ _ _ _ _ c.loop-z-test.true l.invariant.fits tab number);
      goes_on = rw (add-one l.z-index) (l.invariant.goes_on ∙ field_goes_on zs l.z-index _ _ _ _ _ _ c.loop-z-test.true l.invariant.fits tab number);
    }

pub returns : goal.returns
returns c =
    let a = c.args in
    let l = c.loop-z in
    let zs = a.numbers.now in
    let fits = rw line-rest at (has_room a.n _ a.buf.now (line a.word.now zs) refl c.row_fits.ensures c.if-not-row_fits.false) in
    c.append.ensures
    ∙ ap (appended (output l.at l.buf)) (sym (rest_end zs l.z-index c.loop-z-test.false))
    ∙ sym l.invariant.goes_on
    ∙ sym (goes_on a.n _ a.buf.now _ a.word.now (rest zs 0) fits c.append-at.ensures)
    ∙ ap (appended (output a.n a.buf.now)) (sym (line-rest a.word.now zs))
