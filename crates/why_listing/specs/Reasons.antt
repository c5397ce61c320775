-- Why a face is shown or hidden, as text: a line of `why`, face, frame, and `shown`, or `corner` and its number, or `unset`, or `line` and its row.
use Rattle.std.specs.Prelude.{List, [], ◌∷◌, ◌++◌, ℕ, ℤ}
use Rattle.std.proofs.Math.Option.{Option, none, some}
use Rattle.text_bytes.specs.Bytes.{bytes}
use Rattle.report_text.specs.Text.{numeral, line}
use Rattle.report_lists.specs.Lists.{text_of}
use Rattle.report_lists.specs.Lists as lists
use Rattle.report_lists.specs.Parts.{lines_from}
use Rattle.report_lists.specs.Refusals.{refused_line}
use Rattle.table_counts.specs.declared.counts.FigureCounts.{FigureCounts}
use Rattle.table_counts.specs.declared.counts.MovementCounts.{MovementCounts}
use Rattle.player_spec.specs.Reasons.{Reason, shown, by_corner, unset, by_line}
use Rattle.player_spec.specs.Lookups.{why_in}
use Rattle.player_spec.specs.Answers.{numbered}

-- `why`, face and frame
unfoldable pub head_parts : ℕ → ℕ → List (List ℕ)
head_parts face at = bytes "why" ∷ (9 ∷ []) ∷ numeral (lists.shown face) ∷ (9 ∷ []) ∷ numeral (lists.shown at) ∷ []

-- the rest of the line, after a tab; or a refusal's line
unfoldable pub reason_line : ℕ × ℕ × ℕ × Option Reason → List ℕ
reason_line (n, p, file, none) = refused_line n p
reason_line (n, p, file, some shown) = line (9 ∷ bytes "shown") []
reason_line (n, p, file, some (by_corner k)) = line (9 ∷ bytes "corner") (lists.shown k ∷ [])
reason_line (n, p, file, some unset) = line (9 ∷ bytes "unset") []
reason_line (n, p, file, some (by_line row)) = line (9 ∷ bytes "line") (lists.shown row ∷ [])

unfoldable pub why_parts : ℕ → ℕ → ℕ × ℕ × ℕ × Option Reason → List (List ℕ)
why_parts face at (n, p, file, none) = reason_line (n, p, file, none) ∷ []
why_parts face at (n, p, file, some r) = head_parts face at ++ (reason_line (n, p, file, some r) ∷ [])

-- the lines of so many frames of a face from a frame on
unfoldable pub why_lines : FigureCounts → List ℤ → MovementCounts → List ℤ → ℕ → ℕ → ℕ → List (List ℕ)
why_lines n table m moves face = lines_from (λ at. why_parts face at (numbered (why_in n table m moves face at)))

unfoldable pub why_text : FigureCounts → List ℤ → MovementCounts → List ℤ → ℕ → ℕ → ℕ → List ℕ
why_text n table m moves face at k = text_of (why_lines n table m moves face at k)
