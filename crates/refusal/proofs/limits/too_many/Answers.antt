-- Each step by the law of rule 8 for a list within its most, beyond it, and none left.
use Rattle.std.proofs.Common.{◌≤◌, ℕ, refl, sym, ◌∙◌, arith, length, add-one}
use Rattle.refusal.proofs.Rules.{lists_end, count_within, count_beyond}
use Rattle.refusal.proofs.limits.too_many.Goals as goal

pub returns-then-mosts-i : goal.returns-then-mosts-i
returns-then-mosts-i c = sym (c.loop-i.invariant ∙ count_beyond c.loop-i.i c.args.counts.now c.args.mosts.now (omega arith) (omega arith) c.if-mosts-i.true)

pub loop-i-preserved : goal.loop-i-preserved
loop-i-preserved c = c.loop-i.invariant ∙ rw (add-one c.loop-i.i) (count_within c.loop-i.i c.args.counts.now c.args.mosts.now (omega arith) (omega arith) c.if-mosts-i.false)

pub returns : goal.returns
returns c = sym (c.loop-i.invariant ∙ lists_end c.loop-i.i c.args.counts.now c.args.mosts.now (omega arith))
