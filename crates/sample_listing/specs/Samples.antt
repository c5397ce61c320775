-- A sample as a line of text.
use Rattle.std.specs.Prelude.{List, [], ◌∷◌, ℕ, ℤ}
use Rattle.std.proofs.Math.Option.{Option, none, some}
use Rattle.text_bytes.specs.Bytes.{bytes}
use Rattle.report_text.specs.Text.{line}
use Rattle.report_lists.specs.Lists.{shown, text_of}
use Rattle.player_spec.specs.Fractions.{Fraction}
use Rattle.player_spec.specs.Lookups.{sample_in}
use Rattle.player_spec.specs.Answers.{numbered}
use Rattle.table_counts.specs.declared.counts.MovementCounts.{MovementCounts}
use Rattle.report_lists.specs.Parts.{lines_from}
use Rattle.report_lists.specs.Refusals.{refused_line}

-- bone, channel and frame, then numerator and denominator
unfoldable pub sample_line : ℕ → ℕ → ℕ → ℕ × ℕ × ℕ × Option Fraction → List ℕ
sample_line bone channel at (n, p, file, none) = refused_line n p
sample_line bone channel at (n, p, file, some f) = line (bytes "sample") (shown bone ∷ shown channel ∷ shown at ∷ f.numerator ∷ shown f.denominator ∷ [])

-- the lines of so many frames from a frame on
unfoldable pub sample_lines : MovementCounts → List ℤ → ℕ → ℕ → ℕ → ℕ → List (List ℕ)
sample_lines n table bone channel = lines_from (λ at. sample_line bone channel at (numbered (sample_in n table bone channel at)) ∷ [])

unfoldable pub sample_text : MovementCounts → List ℤ → ℕ → ℕ → ℕ → ℕ → List ℕ
sample_text n table bone channel at k = text_of (sample_lines n table bone channel at k)
