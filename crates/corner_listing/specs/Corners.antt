-- A face's corners as text.
use Rattle.std.specs.Prelude.{List, [], ◌∷◌, ◌++◌, ℕ, ℤ}
use Rattle.std.proofs.Math.Option.{Option, none, some}
use Rattle.text_bytes.specs.Bytes.{bytes}
use Rattle.report_text.specs.Text.{line}
use Rattle.report_lists.specs.Lists.{shown, text_of}
use Rattle.player_spec.specs.Faces.{CornerOf}
use Rattle.player_spec.specs.Lookups.{corner_in}
use Rattle.player_spec.specs.Answers.{numbered}
use Rattle.table_counts.specs.declared.counts.FigureCounts.{FigureCounts}
use Rattle.report_lists.specs.Parts.{lines_from}

unfoldable pub uv_numbers : Option (List ℤ) → List ℤ
uv_numbers none = []
uv_numbers (some zs) = zs

-- position, owner and material, and the texture coordinate where there is one
unfoldable pub corner_numbers : CornerOf → List ℤ
corner_numbers c = c.position ++ (c.owner ∷ c.material ∷ uv_numbers c.uv)

-- face, corner and those; a corner that does not exist has no line
unfoldable pub corner_lines : ℕ → ℕ → ℕ × ℕ × ℕ × Option CornerOf → List (List ℕ)
corner_lines face k (n, p, file, none) = []
corner_lines face k (n, p, file, some c) = line (bytes "corner") (shown face ∷ shown k ∷ corner_numbers c) ∷ []

-- a face has at most four
unfoldable pub face_lines : FigureCounts → List ℤ → ℕ → List (List ℕ)
face_lines n table face = lines_from (λ k. corner_lines face k (numbered (corner_in n table face k))) 0 4

-- the lines of so many faces from a face on
unfoldable pub figure_lines : FigureCounts → List ℤ → ℕ → ℕ → List (List ℕ)
figure_lines n table = lines_from (face_lines n table)

unfoldable pub figure_text : FigureCounts → List ℤ → ℕ → ℕ → List ℕ
figure_text n table face k = text_of (figure_lines n table face k)
