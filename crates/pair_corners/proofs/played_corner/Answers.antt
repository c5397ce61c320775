-- `played_corner` answers what the two texts say, or the pair's refusal; the tables are as loading left them.
use Rattle.std.proofs.Common.{refl, ap, ◌∙◌, List}
use mathlib.Core.Path.{ap₂}
use lib.IntN.{ℤ}
use Rattle.table_counts.specs.declared.counts.FigureCounts.{FigureCounts}
use Rattle.player_spec.specs.Lookups.{corner_in}
use Rattle.pair_laws.proofs.Loaded.{every_corner}
use Rattle.bac6_text.specs.Figure.{Figure}
use Rattle.tra4_text.specs.Movement.{Movement}
use Rattle.pair_load.specs.declared.pair.PairAnswer.{PairAnswer}
use Rattle.player_corners.specs.Answers.{cornered}
use Rattle.pair_bridge.specs.Playing.{corner_asked}
use Rattle.pair_played.specs.Answers.{told}
use Rattle.pair_played.proofs.Told.{told_answered}
use Rattle.pair_laws.proofs.Answered.{pair-refused, pair-loaded, by_texts}
use Rattle.pair_corners.proofs.played_corner.Goals as goal

pub returns-then-a-eq0-clause-answer : goal.returns-then-a-eq0-clause-answer
returns-then-a-eq0-clause-answer c =
    let a = c.args in
    ap (told cornered) c.refused.ensures ∙ pair-refused (λ (f : Figure) (m : Movement). corner_asked f a.face a.k) _ _ c.load-a.ensures.answer c.if-a-eq0.true

pub returns-clause-answer : goal.returns-clause-answer
returns-clause-answer c =
    let l = c.load-a in
    let a = c.args in
    let o = pair-loaded _ _ l.ensures.answer c.if-a-eq0.false in
    let same = ap₂ (λ (n : FigureCounts) (t : List ℤ). corner_in n t a.face a.k) (ap (λ (x : PairAnswer). x.figure) l.ensures.answer) l.ensures.figure ∙ every_corner a.figure.now a.table.now a.movement.now a.moves.now o.figure o.movement o.is a.face a.k in
    ap (told cornered) c.answered.ensures
    ∙ told_answered cornered refl (λ v. refl) c.corner.result
    ∙ c.corner.ensures
    ∙ by_texts (λ (f : Figure) (m : Movement). corner_asked f a.face a.k) _ o _ same
