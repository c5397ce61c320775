-- `tried` is the definition, by whether every entry before was free.
use Rattle.bac6_entries.proofs.EntrySteps.{tried_yes, tried_no}
use Rattle.bac6_entries.proofs.entry.tried.Goals as goal

pub returns-then-fine : goal.returns-then-fine
returns-then-fine c = tried_yes _ _ _ _ _ _ _ c.ranges.bone c.ranges.z c.if-fine.true c.claim.ensures.answer c.claim.ensures.content

pub returns : goal.returns
returns c = tried_no _ _ _ _ _ c.if-fine.false
