-- How what was parsed is answered.
use Rattle.std.specs.Prelude.{List, [], ◌∷◌, ℤ, pos}
use Rattle.refusal.specs.Outcomes.{Outcome, ruled}
use Rattle.parse_text.specs.Internal.Answered as outcomes
use Rattle.bac6_text.specs.Figure.{Figure}
use Rattle.bac6_text.specs.Rules.{figure_fault}
use Rattle.bac6_text.specs.Layout.{layout_of}
use Rattle.bac6_shape.specs.declared.shape.Parsed.{Parsed}
use Rattle.bac6_layout.specs.Internal.Numbers.{numbers_of}
use Rattle.bac6.specs.declared.setting.FigureAnswer.{FigureAnswer}
use Rattle.bac6.specs.Answers.{answer_of}
use Rattle.bac6.specs.Internal.Checks.{Held}

-- an outcome's answer, and what it leaves of the table
abbrev pub Answered : Outcome Figure → List ℤ → List ℤ → FigureAnswer → Type 0
Answered o table exit r = outcomes.Answered answer_of layout_of o table exit r

-- that of the rules over the figure that the rows hold
pub record RowsAnswered (p : Parsed) (rows owners names table exit : List ℤ) (r : FigureAnswer) : Type 0 where
  pub outcome : (h : Held p rows owners names) → Answered (ruled h.read (figure_fault h.read)) table exit r

-- the numbers of what was parsed
unfoldable pub laid_numbers : Parsed → List ℤ → List ℤ → List ℤ → List ℤ
laid_numbers p rows owners names = numbers_of p.counts (pos p.place ∷ pos p.length ∷ []) rows owners names
