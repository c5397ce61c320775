-- The steps by which the code reads what follows a figure's front.
use Rattle.std.specs.Prelude.{List, ℕ, ℤ, length}
use Rattle.refusal.specs.Faults.{Fault, clear}
use Rattle.table_rows.specs.Flat.{flat}
use Rattle.table_rows.specs.Internal.Overlay.{overlay_at}
use Rattle.parse_spec.specs.Readers.{Reader, ◌>>=◌, ◌>>◌, pure, close_bracket, text_end}
use Rattle.bac6_text.specs.Figure.{Bone, Face, Group}
use Rattle.bac6_text.specs.Grammar.{bone_section, polygon_section}
use Rattle.bac6_text.specs.Layout.{group_names}
use Rattle.bac6_owners.specs.Internal.Claims.{claimed_bones}
use Rattle.bac6_faces.specs.Internal.Into.{all_rows}
use Rattle.bac6_section.specs.Internal.Lists.{rows_laid}
use Rattle.bac6_shape.specs.Internal.Parse.{blank_bones}

-- bones: how many there are, their rows laid after those before them, and their claims
unfoldable pub bones_laid : ℕ → ℕ × List ℤ → List ℤ → List Bone → ℕ × (ℕ × List ℤ) × (Fault × List ℤ)
bones_laid points s owners bs = (length bs, rows_laid 14 s (blank_bones bs), claimed_bones points 0 (clear, owners) bs)

unfoldable pub bone_step : ℕ → ℕ × List ℤ → List ℤ → Reader (ℕ × (ℕ × List ℤ) × (Fault × List ℤ))
bone_step points s owners = bone_section >>= λ bs. pure (bones_laid points s owners bs)

-- faces and groups: how many faces, their rows laid after those before them, how many groups, and their names
unfoldable pub faces_laid : ℕ × List ℤ → List ℤ → List Face × List Group → ℕ × List ℤ × ℕ × List ℤ
faces_laid s names x =
    (length (all_rows x.0 x.1), overlay_at s.0 (flat (all_rows x.0 x.1)) s.1, length x.1, overlay_at 0 (flat (group_names x.1)) names)

-- and nothing after them
unfoldable pub end_step : ℕ × List ℤ → List ℤ → Reader (ℕ × List ℤ × ℕ × List ℤ)
end_step s names = polygon_section >>= λ x. close_bracket >> (text_end >> pure (faces_laid s names x))
