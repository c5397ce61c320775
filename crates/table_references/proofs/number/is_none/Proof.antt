-- `is_none` is the definition, by the bits of -1.
use Rattle.table_references.proofs.Numbers.{none_bits}
use Rattle.table_references.proofs.number.is_none.Statement.{statement}
use Rattle.table_references.proofs.number.is_none.Tie as tie

returns : tie.Need-returns
returns c = none_bits _ c.ranges.z

pub is_none_spec : {M : Type 1} → statement M
is_none_spec = tie.close (tie.spec returns)
