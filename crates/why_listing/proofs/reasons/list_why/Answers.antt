-- Each turn by the law of a thing's lines more; at the end all lines are put.
use Rattle.std.proofs.Common.{ap}
use Rattle.report_lists.proofs.Turns.{begin, next, all_put, all_within, all_whole}
use Rattle.why_listing.specs.Reasons.{why_parts, why_lines, why_text}
use Rattle.why_listing.proofs.reasons.list_why.Goals as goal

pub loop-at-init : goal.loop-at-init
loop-at-init c = begin

pub loop-at-preserved : goal.loop-at-preserved
loop-at-preserved c =
    let l = c.loop-at in
    let put = c.append_why-filled.ensures in
    next l.invariant _ (ap (why_parts c.args.face l.at) c.why-answer.ensures) c.loop-at-test.true put.parts put.most

pub returns-clause-lines : goal.returns-clause-lines
unfolding why_lines
returns-clause-lines c = all_put c.loop-at.invariant c.loop-at-test.false

pub returns-clause-within : goal.returns-clause-within
returns-clause-within c = all_within c.loop-at.invariant c.loop-at-test.false

pub returns-clause-whole : goal.returns-clause-whole
unfolding why_lines why_text
returns-clause-whole c = all_whole c.loop-at.invariant c.loop-at-test.false
