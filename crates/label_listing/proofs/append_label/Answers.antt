-- `append_label` puts one part of the line after another.
use Rattle.std.proofs.Common.{◌≡◌, [], ◌∷◌, ◌++◌, arith, w64, to_z, of_z, length-append}
use Rattle.text_bytes.specs.Bytes.{bytes}
use Rattle.report_text.specs.Output.{output, appended}
use Rattle.report_text.specs.Text.{numeral}
use Rattle.report_text.proofs.Numerals.{numeral-most}
use Rattle.report_lists.specs.Lists.{appended_each, text_of, shown}
use Rattle.report_lists.proofs.Texts.{held, shown-fits}
use Rattle.label_listing.specs.Lines.{label_parts}
use Rattle.label_listing.proofs.append_label.Goals as goal

pub returns-clause-parts : goal.returns-clause-parts
unfolding bytes label_parts appended_each
returns-clause-parts c =
    let row : output c.append_number-row.result c.append_number-row.new.buf ≡ appended (output c.append-first.result c.append-first.new.buf) (numeral (to_z w64 (of_z w64 c.shown.result))) = c.append_number-row.ensures in
    rw (← c.append-word.ensures, ← c.append-first.ensures, ← (rw (held c.args.bone _ c.shown.ensures) at row), ← c.append-second.ensures, ← c.append-end.ensures) c.append.ensures

pub returns-clause-most : goal.returns-clause-most
unfolding label_parts text_of bytes
returns-clause-most c =
    let row = numeral (shown c.args.bone) in
    let name = c.args.name.now in
    omega (arith, length-append row (9 ∷ (name ++ (10 ∷ []))), length-append name (10 ∷ []), numeral-most (shown c.args.bone) (shown-fits c.args.bone))
