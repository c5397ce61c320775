-- `played_label` answers what the two texts say, or the pair's refusal; the tables are as loading left them.
use mathlib.Core.Path.{ap, ◌∙◌}
use Rattle.bac6_text.specs.Figure.{Figure}
use Rattle.tra4_text.specs.Movement.{Movement}
use Rattle.pair_load.specs.declared.pair.PairAnswer.{PairAnswer}
use Rattle.text_runs.proofs.Parts.{part_none}
use native.Mathlib.Omega.{arith}
use Rattle.player_label.specs.Labels.{or_empty}
use Rattle.pair_bridge.specs.Playing.{label_asked}
use Rattle.pair_labels.specs.Answers.{bytes_of}
use Rattle.pair_laws.proofs.Loaded.{label_of}
use Rattle.pair_laws.proofs.Answered.{pair-refused, pair-loaded, by_texts}
use Rattle.pair_labels.proofs.Labelled.{bytes_some}
use borrow.Author.Rules.{rules}
use Rattle.pair_labels.proofs.played_label.Statement.{statement}
use Rattle.pair_labels.proofs.played_label.Tie as tie

load-requires : tie.Need-load-a-requires
load-requires c κs = search rules

part-requires : tie.Need-part-requires
part-requires c κs = search rules

same_length : tie.Need-shape_of-table-then-a-eq0
same_length c = search rules

same-length-2 : tie.Need-shape_of-moves-then-a-eq0
same-length-2 c = search rules

returns : tie.Need-returns-then-a-eq0
unfolding bytes_of or_empty
returns c = let l = c.load-a in
    let a = c.args in
    (c.part.ensures ∙ part_none _ _ _ (omega arith) ∙ ap bytes_of (pair-refused (λ (f : Figure) (m : Movement). label_asked f m a.bone) _ _ l.ensures.0 c.if-a-eq0.true), l.ensures.1)

label-requires : tie.Need-label-requires
label-requires c κs = search rules

same-length-3 : tie.Need-shape_of-table
same-length-3 c = search rules

same-length-4 : tie.Need-shape_of-moves
same-length-4 c = search rules

returns-2 : tie.Need-returns
returns-2 c = let l = c.load-a in
    let a = c.args in
    let o = pair-loaded _ _ l.ensures.0 c.if-a-eq0.false in
    let same = label_of a.figure.now a.table.now a.movement.now a.moves.now o.figure o.movement o.is l.result.figure _ l.result.movement _ (ap (λ (x : PairAnswer). x.figure) l.ensures.0) l.ensures.1.0 (ap (λ (x : PairAnswer). x.movement) l.ensures.0) l.ensures.1.1 a.bone in
    (c.label.ensures ∙ bytes_some _ ∙ ap bytes_of (by_texts (λ (f : Figure) (m : Movement). label_asked f m a.bone) _ o _ same), l.ensures.1)

pub played_label_spec : {M : Type 1} → statement M
played_label_spec = tie.close (tie.spec load-requires part-requires same_length same-length-2 returns label-requires same-length-3 same-length-4 returns-2)
