-- `corner` is its definition: past the tests of the table and the face, it is the corner by the face's row.
use Rattle.std.proofs.Common.{◌≡◌, ap, ◌∙◌, List, ℤ}
use mathlib.Core.Path.{ap₂}
use Rattle.table_counts.specs.declared.counts.FigureCounts.{FigureCounts}
use Rattle.player_spec.specs.Lookups.{corner_in}
use Rattle.player_spec.specs.Answers.{numbered}
use Rattle.player_corners.specs.Answers.{cornered}
use Rattle.player_corners.specs.Internal.CornerRow.{row_corner}
use Rattle.player_corners.proofs.CornerTests.{answered, not-held, no_face_lem, by_row}
use Rattle.player_corners.proofs.corners.corner.Goals as goal
use Rattle.player_corners.proofs.corners.corner.Goals.{In_ok-f}

pub returns-in_err-f : goal.returns-in_err-f
unfolding numbered
returns-in_err-f c = ap cornered c.from_residual.ensures ∙ ap numbered (not-held _ _ _ _ c.in_err-f.ensures)

-- what the figure answers is what the table does
same : (c : In_ok-f) → corner_in c.in_ok-f.f.n c.in_ok-f.f.table.now c.args.face c.args.k ≡ corner_in c.args.n c.args.table.now c.args.face c.args.k
same c = ap₂ (λ (n : FigureCounts) (t : List ℤ). corner_in n t c.args.face c.args.k) c.in_ok-f.ensures.0 c.in_ok-f.ensures.1

pub returns-in_err-row : goal.returns-in_err-row
unfolding numbered
returns-in_err-row c =
    ap cornered c.from_residual-in_err-row.ensures
    ∙ ap numbered (no_face_lem _ _ _ _ c.in_ok-f.f.found.held c.in_err-row.ensures ∙ same (goal.at.returns-in_err-row c).In_ok-f)

pub returns : goal.returns
returns c =
    let f = c.in_ok-f.f in
    answered _
    ∙ ap numbered
    (c.row_corner.ensures
    ∙ ap (λ (r : List ℤ). row_corner f.n f.table.now r c.args.k) c.in_ok-row.ensures.2
    ∙ by_row _ _ _ _ f.found.held c.in_ok-row.ensures.0
    ∙ same (goal.at.returns c).In_ok-f)
