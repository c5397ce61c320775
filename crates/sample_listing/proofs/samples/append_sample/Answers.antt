-- `append_sample` puts one line, by the answer's two cases.
use Rattle.std.proofs.Common.{◌≡◌, [], ◌∷◌, arith, rules, w64, SFits, to_z, of_z, to_z-of_z}
use Rattle.text_bytes.specs.Bytes.{bytes}
use Rattle.report_text.specs.Text.{line}
use Rattle.report_text.specs.Output.{output, appended}
use Rattle.report_lists.specs.Lists.{shown}
use Rattle.report_lists.specs.Refusals.{refused_line}
use Rattle.report_lists.proofs.Texts.{AllFit, held, line-most, shown-fits}
use Rattle.report_lists.proofs.Refusals.{refused-most}
use Rattle.sample_listing.specs.Samples.{sample_line}
use Rattle.sample_listing.proofs.samples.append_sample.Goals as goal

pub returns-in_default-clause-line : goal.returns-in_default-clause-line
unfolding bytes sample_line refused_line shown
returns-in_default-clause-line c = rw (c.in_default.is, c.in_default.is) c.append_row.ensures

pub returns-in_default-clause-most : goal.returns-in_default-clause-most
unfolding sample_line
returns-in_default-clause-most c = rw (c.in_default.is, c.in_default.is) (omega (arith, refused-most 21 0))

pub returns-clause-line : goal.returns-clause-line
unfolding bytes sample_line
returns-clause-line c =
    let a = c.args in
    let s = c.in-Some.sample in
    let fits : SFits w64 s.numerator = search rules in
    let put : output c.append_row-2.result c.append_row-2.new.buf ≡ appended (output a.n a.buf.now) (line (bytes "sample") (to_z w64 (of_z w64 c.shown.result) ∷ to_z w64 (of_z w64 c.shown-2.result) ∷ to_z w64 (of_z w64 c.shown-3.result) ∷ to_z w64 (of_z w64 s.numerator) ∷ to_z w64 (of_z w64 c.shown-4.result) ∷ [])) = c.append_row-2.ensures in
    rw c.in-Some.is (rw (held a.bone _ c.shown.ensures, held a.channel _ c.shown-2.ensures, held a.at _ c.shown-3.ensures, to_z-of_z {w = w64} fits, held s.denominator _ c.shown-4.ensures) at put)

pub returns-clause-most : goal.returns-clause-most
unfolding bytes sample_line AllFit
returns-clause-most c =
    let a = c.args in
    let s = c.in-Some.sample in
    let fits : SFits w64 s.numerator = search rules in
    rw c.in-Some.is (
    omega (
      arith,
      line-most (bytes "sample") (shown a.bone ∷ shown a.channel ∷ shown a.at ∷ s.numerator ∷ shown s.denominator ∷ [])
          (shown-fits a.bone, (shown-fits a.channel, (shown-fits a.at, (fits, (shown-fits s.denominator, tt))))),
    )
    )
