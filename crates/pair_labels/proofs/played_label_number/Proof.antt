-- `played_label_number` answers what the two texts say, or the pair's refusal; the tables are as loading left them.
use mathlib.Core.Path.{ap, ◌∙◌}
use Rattle.bac6_text.specs.Figure.{Figure}
use Rattle.tra4_text.specs.Movement.{Movement}
use Rattle.pair_load.specs.declared.pair.PairAnswer.{PairAnswer}
use Rattle.pair_bridge.specs.Playing.{label_asked}
use Rattle.pair_labels.specs.Answers.{refusal_of}
use Prim.Native.Nat.{ℕ}
use Rattle.pair_laws.proofs.Loaded.{label_of}
use Rattle.pair_laws.proofs.Answered.{pair-refused, pair-loaded, by_texts}
use Rattle.pair_labels.proofs.Labelled.{number-zeros}
use borrow.Author.Rules.{rules}
use Rattle.pair_labels.proofs.played_label_number.Statement.{statement}
use Rattle.pair_labels.proofs.played_label_number.Tie as tie

load-requires : tie.Need-load-a-requires
load-requires c κs = search rules

same_length : tie.Need-shape_of-table-then-a-eq0
same_length c = search rules

same-length-2 : tie.Need-shape_of-moves-then-a-eq0
same-length-2 c = search rules

returns : tie.Need-returns-then-a-eq0
unfolding refusal_of
returns c = let l = c.load-a in
    let a = c.args in
    (ap refusal_of (pair-refused (λ (f : Figure) (m : Movement). label_asked f m a.bone) _ _ l.ensures.0 c.if-a-eq0.true), l.ensures.1)

label-number-requires : tie.Need-label_number-requires
label-number-requires c κs = search rules

same-length-3 : tie.Need-shape_of-table
same-length-3 c = search rules

same-length-4 : tie.Need-shape_of-moves
same-length-4 c = search rules

returns-2 : tie.Need-returns
returns-2 c = let l = c.load-a in
    let a = c.args in
    let o = pair-loaded _ _ l.ensures.0 c.if-a-eq0.false in
    let same = label_of a.figure.now a.table.now a.movement.now a.moves.now o.figure o.movement o.is l.result.figure _ l.result.movement _ (ap (λ (x : PairAnswer). x.figure) l.ensures.0) l.ensures.1.0 (ap (λ (x : PairAnswer). x.movement) l.ensures.0) l.ensures.1.1 a.bone in
    (ap (λ (n : ℕ). record { number = n; place = 0; file = 0 }) c.label_number.ensures ∙ number-zeros _ ∙ ap refusal_of (by_texts (λ (f : Figure) (m : Movement). label_asked f m a.bone) _ o _ same), l.ensures.1)

pub played_label_number_spec : {M : Type 1} → statement M
played_label_number_spec = tie.close (tie.spec load-requires same_length same-length-2 returns label-number-requires same-length-3 same-length-4 returns-2)
