-- `holds_movement` says whether the sections end.
use Rattle.table_movement.proofs.Mosts.{movement-ended}
use borrow.Author.Rules.{rules}
use Rattle.table_movement.proofs.sections.holds_movement.Statement.{statement}
use Rattle.table_movement.proofs.sections.holds_movement.Tie as tie

movement-in-requires : tie.Need-movement_in-requires
movement-in-requires c κs = search rules

returns : tie.Need-returns
returns c = movement-ended _ _ _ c.movement_in.ensures

pub holds_movement_spec : {M : Type 1} → statement M
holds_movement_spec = tie.close (tie.spec movement-in-requires returns)
