-- Readers of bones, and what the code keeps of what they read: rows of a table, and the claims of vertex entries.
use Rattle.std.specs.Prelude.{List, map, Option, Some, None, ℕ, ◌+◌, ◌*◌, ℤ, pos, length}
use Rattle.parse_spec.specs.Readers.{Reader, ◌>>=◌, pure, many⁺}
use Rattle.table_rows.specs.Internal.Overlay.{overlay_at}
use Rattle.bac6_text.specs.Figure.{Bone}
use Rattle.bac6_text.specs.Grammar.{bone}
use Rattle.bac6_text.specs.Layout.{bone_row}
use Rattle.table_rows.specs.Flat.{flat}
use Rattle.refusal.specs.Faults.{Fault, clear, fault}
use Rattle.bac6_owners.specs.Internal.Claims.{claimed_bone, claimed_bones}

-- the first fault of rule 11, as the code holds it
unfoldable pub fault_of : Option ℕ → Fault
fault_of None = clear
fault_of (Some row) = fault 11 row

-- a bone more: how many there are, their rows in a table, and their claims
unfoldable pub bone_step : ℕ → ℕ × List ℤ × (Fault × List ℤ) → Bone → ℕ × List ℤ × (Fault × List ℤ)
bone_step points s b = (s.0 + 1, overlay_at (s.0 * 14) (bone_row b (pos 0)) s.1, claimed_bone points s.0 s.2 b.vertices)

-- one bone or more up to ), of a figure with so many points
unfoldable pub bones_into : ℕ → List ℤ → List ℤ → Reader (ℕ × List ℤ × (Fault × List ℤ))
bones_into points table owners = many⁺ bone >>= λ bs. pure (length bs, overlay_at 0 (flat (map (λ b. bone_row b (pos 0)) bs)) table, claimed_bones points 0 (clear, owners) bs)
