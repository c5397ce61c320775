-- Where 01's lists stand in a movement's table, by its counts, and what tables a lookup takes.
use Rattle.std.specs.Prelude.{List, Bool, true, false, ◌&&◌, ℕ, ◌+◌, ◌*◌, leb, ℤ, length}
use Rattle.refusal.specs.Rules.{too_many}
use Rattle.table_counts.specs.declared.counts.MovementCounts.{MovementCounts}
use Rattle.table_counts.specs.Counts.{movement_lists, movement_mosts}
use Rattle.table_movement.specs.declared.sections.MovementSections.{MovementSections}
use Rattle.refusal.specs.Faults.{is_clear}

-- no section
unfoldable pub no_movement_sections : MovementSections
no_movement_sections = record { bones = 0; keys = 0; patterns = 0; end = 0 }

module _ (n : MovementCounts) where
  -- after the total of frames and the name's place and length
  unfoldable pub keys_begin : ℕ
  keys_begin = 3 + n.bones * 22

  unfoldable pub patterns_begin : ℕ
  patterns_begin = keys_begin + n.keys * 2

  unfoldable pub movement_end : ℕ
  movement_end = patterns_begin + n.patterns * 3

  unfoldable pub movement_sections : MovementSections
  movement_sections = record { bones = 3; keys = keys_begin; patterns = patterns_begin; end = movement_end }

  -- no count is above its most
  unfoldable pub few_in_movement : Bool
  few_in_movement = is_clear (too_many 0 (movement_lists n) movement_mosts)

  -- and the table is not shorter than they say
  unfoldable pub holds_movement : List ℤ → Bool
  holds_movement table = few_in_movement && leb movement_end (length table)

  unfoldable pub movement_in : List ℤ → MovementSections
  movement_in table = elim (holds_movement table) [ true ↦ movement_sections | false ↦ no_movement_sections ]
