-- Whether a face is shown, as text.
use Rattle.std.specs.Prelude.{Bool, true, false, List, [], ◌∷◌, ℕ, ℤ, pos}
use Rattle.std.proofs.Math.Option.{Option, none, some}
use Rattle.text_bytes.specs.Bytes.{bytes}
use Rattle.report_text.specs.Text.{line}
use Rattle.report_lists.specs.Lists.{shown, text_of}
use Rattle.player_spec.specs.Lookups.{shown_in}
use Rattle.player_spec.specs.Answers.{numbered}
use Rattle.table_counts.specs.declared.counts.FigureCounts.{FigureCounts}
use Rattle.table_counts.specs.declared.counts.MovementCounts.{MovementCounts}
use Rattle.report_lists.specs.Parts.{lines_from}
use Rattle.report_lists.specs.Refusals.{refused_line}

unfoldable pub flag_number : Bool → ℤ
flag_number true = pos 1
flag_number false = pos 0

-- face, frame, and 1 or 0
unfoldable pub shown_line : ℕ → ℕ → ℕ × ℕ × ℕ × Option Bool → List ℕ
shown_line face at (n, p, file, none) = refused_line n p
shown_line face at (n, p, file, some b) = line (bytes "shown") (shown face ∷ shown at ∷ flag_number b ∷ [])

-- the lines of so many frames of a face from a frame on
unfoldable pub shown_lines : FigureCounts → List ℤ → MovementCounts → List ℤ → ℕ → ℕ → ℕ → List (List ℕ)
shown_lines n table m moves face = lines_from (λ at. shown_line face at (numbered (shown_in n table m moves face at)) ∷ [])

unfoldable pub shown_text : FigureCounts → List ℤ → MovementCounts → List ℤ → ℕ → ℕ → ℕ → List ℕ
shown_text n table m moves face at k = text_of (shown_lines n table m moves face at k)
