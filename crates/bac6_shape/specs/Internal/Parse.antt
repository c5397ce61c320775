-- What parsing keeps of a figure: its rows in one table in text order, its vertices' claims, and its groups' names.
use Rattle.std.specs.Prelude.{List, ◌++◌, map, ℕ, ℤ, pos, length}
use Rattle.refusal.specs.Faults.{Fault, clear}
use Rattle.table_counts.specs.declared.counts.FigureCounts.{FigureCounts}
use Rattle.table_rows.specs.Flat.{flat}
use Rattle.table_rows.specs.Internal.Overlay.{overlay_at}
use Rattle.parse_spec.specs.Readers.{Reader, ◌>>=◌, pure}
use Rattle.parse_spec.specs.Internal.Places.{place_of}
use Rattle.bac6_text.specs.Figure.{Bone, Figure}
use Rattle.bac6_text.specs.Grammar.{figure}
use Rattle.bac6_text.specs.Rules.{figure_counts}
use Rattle.bac6_text.specs.Layout.{bone_row, face_rows, group_names}
use Rattle.bac6_owners.specs.Internal.Claims.{claimed_bones}

-- the name's place and length, how many rows each list has, the first fault of the claims and the vertices' owners, the rows, and the groups' names
pub record Kept : Type 0 where
  pub name : ℕ × ℕ
  pub counts : FigureCounts
  pub claims : Fault × List ℤ
  pub rows : List ℤ
  pub names : List ℤ

-- bones that have no parent yet
unfoldable pub blank_bones : List Bone → List (List ℤ)
blank_bones bs = map (λ b. bone_row b (pos 0)) bs

-- all rows but the groups' names, in text order
unfoldable pub row_numbers : Figure → List ℤ
row_numbers f =
    flat f.textures
    ++ flat f.colours
    ++ flat f.materials
    ++ flat f.points
    ++ flat f.normals
    ++ flat (blank_bones f.bones)
    ++ flat f.uvs
    ++ flat (face_rows f)

-- over tables of rows, owners and names
unfoldable pub kept_of : List ℤ → List ℤ → List ℤ → Figure → Kept
kept_of rows owners names f =
    record {
      name = place_of f.name;
      counts = figure_counts f;
      claims = claimed_bones (length f.points) 0 (clear, owners) f.bones;
      rows = overlay_at 0 (row_numbers f) rows;
      names = overlay_at 0 (flat (group_names f.groups)) names;
    }

unfoldable pub figure_into : List ℤ → List ℤ → List ℤ → Reader Kept
figure_into rows owners names = figure >>= λ f. pure (kept_of rows owners names f)
