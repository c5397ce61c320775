-- Each turn by the law of a line more; at the end all lines are put.
use Rattle.std.proofs.Common.{[], ◌∷◌, ap}
use Rattle.report_lists.proofs.Turns.{begin, next_line, all_put, all_within, all_whole}
use Rattle.sample_listing.specs.Samples.{sample_line, sample_lines, sample_text}
use Rattle.sample_listing.proofs.samples.list_samples.Goals as goal

pub loop-at-init : goal.loop-at-init
loop-at-init c = begin

pub loop-at-preserved : goal.loop-at-preserved
loop-at-preserved c =
    let l = c.loop-at in
    let put = c.append_sample-filled.ensures in
    next_line l.invariant _ (ap (λ r. sample_line c.args.bone c.args.channel l.at r ∷ []) c.sample-answer.ensures) c.loop-at-test.true put.line put.most

pub returns-clause-lines : goal.returns-clause-lines
unfolding sample_lines
returns-clause-lines c = all_put c.loop-at.invariant c.loop-at-test.false

pub returns-clause-within : goal.returns-clause-within
returns-clause-within c = all_within c.loop-at.invariant c.loop-at-test.false

pub returns-clause-whole : goal.returns-clause-whole
unfolding sample_lines sample_text
returns-clause-whole c = all_whole c.loop-at.invariant c.loop-at-test.false
