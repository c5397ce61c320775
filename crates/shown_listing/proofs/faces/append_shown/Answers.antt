-- `append_shown` puts one line, by the answer's two cases.
use Rattle.std.proofs.Common.{◌≡◌, refl, ◌∙◌, Bool, true, false, [], ◌∷◌, ℤ, pos, arith, rules, w64, SFits, to_z, of_z, to_z-of_z}
use mir.Val.{bool_byte}
use Rattle.text_bytes.specs.Bytes.{bytes}
use Rattle.report_text.specs.Text.{line}
use Rattle.report_text.specs.Output.{output, appended}
use Rattle.report_lists.specs.Lists.{shown}
use Rattle.report_lists.specs.Refusals.{refused_line}
use Rattle.report_lists.proofs.Texts.{AllFit, held, line-most, shown-fits}
use Rattle.report_lists.proofs.Refusals.{refused-most}
use Rattle.shown_listing.specs.Faces.{flag_number, shown_line}
use Rattle.shown_listing.proofs.faces.append_shown.Goals as goal

flag : (b : Bool) → pos (bool_byte b) ≡ flag_number b
unfolding flag_number
flag true = refl
flag false = refl

flag-fits : (b : Bool) → SFits w64 (flag_number b)
unfolding flag_number
flag-fits true = search rules
flag-fits false = search rules

-- the flag comes back from its bits
flag_held : (b : Bool) (z : ℤ) → z ≡ pos (bool_byte b) → to_z w64 (of_z w64 z) ≡ flag_number b
flag_held b z e = rw (e ∙ flag b) (to_z-of_z {w = w64} (flag-fits b))

pub returns-in_default-clause-line : goal.returns-in_default-clause-line
unfolding bytes shown_line refused_line shown
returns-in_default-clause-line c = rw (c.in_default.is, c.in_default.is) c.append_row.ensures

pub returns-in_default-clause-most : goal.returns-in_default-clause-most
unfolding shown_line
returns-in_default-clause-most c = rw (c.in_default.is, c.in_default.is) (refused-most 21 0)

pub returns-clause-line : goal.returns-clause-line
unfolding bytes shown_line
returns-clause-line c =
    let a = c.args in
    let b = c.in-Some.is_shown in
    let put : output c.append_row-2.result c.append_row-2.new.buf ≡ appended (output a.n a.buf.now) (line (bytes "shown") (to_z w64 (of_z w64 c.shown.result) ∷ to_z w64 (of_z w64 c.shown-2.result) ∷ to_z w64 (of_z w64 c.from.result) ∷ [])) = c.append_row-2.ensures in
    rw c.in-Some.is (rw (held a.face _ c.shown.ensures, held a.at _ c.shown-2.ensures, flag_held b _ c.from.ensures) at put)

pub returns-clause-most : goal.returns-clause-most
unfolding bytes shown_line AllFit
returns-clause-most c =
    let a = c.args in
    let b = c.in-Some.is_shown in
    rw c.in-Some.is (omega (arith, line-most (bytes "shown") (shown a.face ∷ shown a.at ∷ flag_number b ∷ []) (shown-fits a.face, (shown-fits a.at, (flag-fits b, tt)))))
