-- `movement_sections` is each sum, which is small.
use mathlib.Core.Path.{refl}
use Rattle.table_movement.specs.Sections.{keys_begin, patterns_begin, movement_end, movement_sections}
use borrow.Author.Rules.{rules}
use Rattle.table_movement.proofs.sections.movement_sections.Statement.{statement}
use Rattle.table_movement.proofs.sections.movement_sections.Tie as tie

mul-keys : tie.Need-overflow_mul-keys
mul-keys c = search rules

add-keys : tie.Need-overflow_add-keys
add-keys c = search rules

mul-patterns : tie.Need-overflow_mul-patterns
mul-patterns c = search rules

add-patterns : tie.Need-overflow_add-patterns
add-patterns c = search rules

mul-end : tie.Need-overflow_mul-end
mul-end c = search rules

add-end : tie.Need-overflow_add-end
add-end c = search rules

returns : tie.Need-returns
unfolding keys_begin patterns_begin movement_end movement_sections
returns c = refl

pub movement_sections_spec : {M : Type 1} → statement M
movement_sections_spec = tie.close (tie.spec mul-keys add-keys mul-patterns add-patterns mul-end add-end returns)
