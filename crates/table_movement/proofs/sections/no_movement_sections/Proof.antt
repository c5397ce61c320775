-- `no_movement_sections` gives zeros, by computation.
use mathlib.Core.Path.{refl}
use Rattle.table_movement.specs.Sections.{no_movement_sections}
use Rattle.table_movement.proofs.sections.no_movement_sections.Statement.{statement}
use Rattle.table_movement.proofs.sections.no_movement_sections.Tie as tie

returns : tie.Need-returns
unfolding no_movement_sections
returns c = refl

pub no_movement_sections_spec : {M : Type 1} → statement M
no_movement_sections_spec = tie.close (tie.spec returns)
