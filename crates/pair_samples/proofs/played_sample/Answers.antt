-- `played_sample` answers what the two texts say, or the pair's refusal; the tables are as loading left them.
use Rattle.std.proofs.Common.{refl, ap, ◌∙◌, List}
use mathlib.Core.Path.{ap₂}
use lib.IntN.{ℤ}
use Rattle.table_counts.specs.declared.counts.MovementCounts.{MovementCounts}
use Rattle.player_spec.specs.Lookups.{sample_in}
use Rattle.pair_laws.proofs.Loaded.{every_sample}
use Rattle.bac6_text.specs.Figure.{Figure}
use Rattle.tra4_text.specs.Movement.{Movement}
use Rattle.pair_load.specs.declared.pair.PairAnswer.{PairAnswer}
use Rattle.player_channel.specs.Answers.{sampled}
use Rattle.pair_bridge.specs.Playing.{sample_asked}
use Rattle.pair_played.specs.Answers.{told}
use Rattle.pair_played.proofs.Told.{told_answered}
use Rattle.pair_laws.proofs.Answered.{pair-refused, pair-loaded, by_texts}
use Rattle.pair_samples.proofs.played_sample.Goals as goal

pub returns-then-a-eq0-clause-answer : goal.returns-then-a-eq0-clause-answer
returns-then-a-eq0-clause-answer c =
    let a = c.args in
    ap (told sampled) c.refused.ensures ∙ pair-refused (λ (f : Figure) (m : Movement). sample_asked m a.bone a.channel a.at) _ _ c.load-a.ensures.answer c.if-a-eq0.true

pub returns-clause-answer : goal.returns-clause-answer
returns-clause-answer c =
    let l = c.load-a in
    let a = c.args in
    let o = pair-loaded _ _ l.ensures.answer c.if-a-eq0.false in
    let same = ap₂ (λ (n : MovementCounts) (t : List ℤ). sample_in n t a.bone a.channel a.at) (ap (λ (x : PairAnswer). x.movement) l.ensures.answer) l.ensures.movement ∙ every_sample a.figure.now a.table.now a.movement.now a.moves.now o.figure o.movement o.is a.bone a.channel a.at in
    ap (told sampled) c.answered.ensures
    ∙ told_answered sampled refl (λ v. refl) c.sample.result
    ∙ c.sample.ensures
    ∙ by_texts (λ (f : Figure) (m : Movement). sample_asked m a.bone a.channel a.at) _ o _ same
