-- What a figure's answer says, and how it follows from what was parsed.
use Rattle.std.specs.Prelude.{ℕ, length}
use Rattle.table_counts.specs.Counts.{no_figure}
use Rattle.bac6_text.specs.Figure.{Figure}
use Rattle.bac6_text.specs.Rules.{figure_counts}
use Rattle.bac6_text.specs.Layout.{layout_of}
use Rattle.refusal.specs.Outcomes.{Outcome, rejected, accepted}
use Rattle.bac6.specs.declared.setting.FigureAnswer.{FigureAnswer}

-- a refusal's number and place, file 0 and zeros
unfoldable pub refused_with : ℕ → ℕ → FigureAnswer
refused_with n p = record { refusal = n; place = p; file = 0; total = 0; counts = no_figure }

-- that, or the total and the nine counts
unfoldable pub answer_of : Outcome Figure → FigureAnswer
answer_of (rejected n p) = refused_with n p
answer_of (accepted f) = record { refusal = 0; place = 0; file = 0; total = length (layout_of f); counts = figure_counts f }
