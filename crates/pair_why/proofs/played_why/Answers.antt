-- `played_why` answers what the two texts say, or the pair's refusal; the tables are as loading left them.
use Rattle.std.proofs.Common.{refl, ap, ◌∙◌}
use Rattle.pair_laws.proofs.Loaded.{why_of_lem}
use Rattle.bac6_text.specs.Figure.{Figure}
use Rattle.tra4_text.specs.Movement.{Movement}
use Rattle.pair_load.specs.declared.pair.PairAnswer.{PairAnswer}
use Rattle.player_why.specs.Answers.{explained}
use Rattle.pair_bridge.specs.Playing.{why_asked}
use Rattle.pair_played.specs.Answers.{told}
use Rattle.pair_played.proofs.Told.{told_answered}
use Rattle.pair_laws.proofs.Answered.{pair-refused, pair-loaded, by_texts}
use Rattle.pair_why.proofs.played_why.Goals as goal

pub returns-then-a-eq0-clause-answer : goal.returns-then-a-eq0-clause-answer
returns-then-a-eq0-clause-answer c =
    let a = c.args in
    ap (told explained) c.refused.ensures ∙ pair-refused (λ (f : Figure) (m : Movement). why_asked f m a.face a.at) _ _ c.load-a.ensures.answer c.if-a-eq0.true

pub returns-clause-answer : goal.returns-clause-answer
returns-clause-answer c =
    let l = c.load-a in
    let a = c.args in
    let o = pair-loaded _ _ l.ensures.answer c.if-a-eq0.false in
    let same = why_of_lem a.figure.now a.table.now a.movement.now a.moves.now o.figure o.movement o.is l.result.figure _ l.result.movement _ (ap (λ (x : PairAnswer). x.figure) l.ensures.answer) l.ensures.figure (ap (λ (x : PairAnswer). x.movement) l.ensures.answer) l.ensures.movement a.face a.at in
    ap (told explained) c.answered.ensures
    ∙ told_answered explained refl (λ v. refl) c.why.result
    ∙ c.why.ensures
    ∙ by_texts (λ (f : Figure) (m : Movement). why_asked f m a.face a.at) _ o _ same
