-- `first_row` is the definition, by whether there are rows.
use Rattle.tra4_bone.proofs.Ranges.{first_none, first_some}
use Rattle.tra4_bone.proofs.laying.first_row.Statement.{statement}
use Rattle.tra4_bone.proofs.laying.first_row.Tie as tie

returns : tie.Need-returns-then-count-eq0
returns c = first_none _ _ c.if-count-eq0.true

returns-2 : tie.Need-returns
returns-2 c = first_some _ _ c.if-count-eq0.false

pub first_row_spec : {M : Type 1} → statement M
first_row_spec = tie.close (tie.spec returns returns-2)
