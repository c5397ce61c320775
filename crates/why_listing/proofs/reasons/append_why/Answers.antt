-- `append_why` puts a refusal's line, or face and frame and then the reason.
use Rattle.std.proofs.Common.{ap, sym, ◌∙◌, [], ◌∷◌, ◌++◌, ℕ, ◌≤◌, arith, length, length-append}
use Rattle.std.proofs.Math.Option.{some}
use Rattle.text_bytes.specs.Bytes.{bytes}
use Rattle.report_text.specs.Text.{numeral, fields, line}
use Rattle.report_text.specs.Output.{Output}
use Rattle.report_text.proofs.Numerals.{numeral-most}
use Rattle.report_lists.specs.Lists.{appended_each, text_of}
use Rattle.report_lists.specs.Lists as lists
use Rattle.report_lists.specs.Refusals.{refused_line}
use Rattle.report_lists.proofs.Texts.{AllFit, line-most, shown-fits, each_both, text_both}
use Rattle.report_lists.proofs.Turns.{one_line}
use Rattle.report_lists.proofs.Refusals.{refused-most}
use Rattle.player_spec.specs.Reasons.{Reason, shown, by_corner, unset, by_line}
use Rattle.player_why.specs.Answers.{reason_named}
use Rattle.why_listing.specs.Reasons.{head_parts, reason_line, why_parts}
use Rattle.why_listing.proofs.reasons.append_why.Goals as goal

head-most : (face at : ℕ) → length (text_of (head_parts face at)) ≤ 45
unfolding head_parts text_of bytes
head-most face at =
    let f = numeral (lists.shown face) in
    let t = numeral (lists.shown at) in
    omega (arith, length-append f (9 ∷ (t ++ [])), length-append t [], numeral-most (lists.shown face) (shown-fits face), numeral-most (lists.shown at) (shown-fits at))

reason_most : (r : Reason) → length (reason_line (0, 0, 0, some r)) ≤ 29
unfolding reason_line bytes line fields AllFit
reason_most shown = omega arith
reason_most (by_corner k) = omega (arith, line-most (9 ∷ bytes "corner") (lists.shown k ∷ []) (shown-fits k, tt))
reason_most unset = omega arith
reason_most (by_line row) = omega (arith, line-most (9 ∷ bytes "line") (lists.shown row ∷ []) (shown-fits row, tt))

pub returns-in-None-clause-parts : goal.returns-in-None-clause-parts
unfolding bytes why_parts reason_line refused_line lists.shown appended_each
returns-in-None-clause-parts c = rw (c.in-None.is, c.in-None.is) c.append_row.ensures

pub returns-in-None-clause-most : goal.returns-in-None-clause-most
unfolding why_parts reason_line
returns-in-None-clause-most c = rw (c.in-None.is, c.in-None.is) (one_line (refused_line 21 0) 74 (omega (arith, refused-most 21 0)))

pub returns-in-Some-clause-parts : goal.returns-in-Some-clause-parts
unfolding why_parts appended_each
returns-in-Some-clause-parts c =
    let last = reason_line (0, 0, 0, some (reason_named c.in-Some.reason)) ∷ [] in
    rw (c.in-Some.is, c.in-Some.is) (
    c.append_reason.ensures
    ∙ ap (λ (o : Output). appended_each o last) c.append_head-head.ensures
    ∙ sym (each_both _ (head_parts c.args.face c.args.at) last)
    )

pub returns-in-Some-clause-most : goal.returns-in-Some-clause-most
unfolding why_parts
returns-in-Some-clause-most c =
    let head = head_parts c.args.face c.args.at in
    let reason = reason_named c.in-Some.reason in
    let last = reason_line (0, 0, 0, some reason) in
    rw (c.in-Some.is, c.in-Some.is) (omega (arith, text_both head (last ∷ []), head-most c.args.face c.args.at, one_line last 29 (reason_most reason)))
