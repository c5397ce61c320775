-- Each bone's label as a line, by any tables and counts.
use Rattle.std.specs.Prelude.{List, [], ◌∷◌, ℕ, ℤ}
use Rattle.text_bytes.specs.Bytes.{bytes}
use Rattle.report_text.specs.Text.{numeral}
use Rattle.report_lists.specs.Lists.{shown}
use Rattle.report_lists.specs.Parts.{lines_from}
use Rattle.table_counts.specs.declared.counts.FigureCounts.{FigureCounts}
use Rattle.table_counts.specs.declared.counts.MovementCounts.{MovementCounts}
use Rattle.player_label.specs.Labels.{or_empty, label_in}

-- a bone's row and its name's bytes, each after a tab, and a line feed
unfoldable pub label_parts : ℕ → List ℕ → List (List ℕ)
label_parts bone name = bytes "label" ∷ (9 ∷ []) ∷ numeral (shown bone) ∷ (9 ∷ []) ∷ name ∷ (10 ∷ []) ∷ []

unfoldable pub labels_in : List ℕ → FigureCounts → List ℤ → List ℕ → MovementCounts → List ℤ → List (List ℕ)
labels_in figure n table movement m moves = lines_from (λ bone. label_parts bone (or_empty (label_in figure n table movement m moves bone))) 0 n.bones
