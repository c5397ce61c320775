-- `counts_fault` is rule 8 on the three lists.
use Rattle.table_counts.specs.Counts.{movement_mosts}
use Rattle.tra4_rules.proofs.count.counts_fault.Goals as goal

pub returns : goal.returns
unfolding movement_mosts
returns c = c.too_many.ensures
