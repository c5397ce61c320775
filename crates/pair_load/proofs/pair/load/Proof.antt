-- `load` is the definition: the figure read into a table that holds every layout, then the movement with it; each return is one law of PairEnds.
use mathlib.Core.Path.{◌≡◌, ap, ap₂, sym, ◌∙◌}
use mathlib.Core.List.{List, ◌++◌}
use Prim.Native.Nat.{ℕ, ◌≤◌}
use native.Mathlib.Omega.{arith}
use lib.IntN.{ℤ, pos}
use lib.ListN.{length, drop, replicate, length-replicate, length-append, length-take}
use Rattle.refusal.specs.Outcomes.{accepted, fitted, laid}
use Rattle.bac6_text.specs.Layout.{layout_of}
use Rattle.bac6_text.specs.Answer.{figure_outcome, figure_answer, table_after}
use Rattle.bac6.specs.Answers.{answer_of}
use Rattle.bac6.specs.declared.setting.FigureAnswer.{FigureAnswer}
use Rattle.figure_bridge.proofs.Texts.{figure-table}
use Rattle.table_counts.specs.declared.counts.FigureCounts.{FigureCounts}
use Rattle.pair_text.specs.Answer.{Loaded, loaded, with_figure, pair_answer, figure_left, movement_of, movement_left}
use Rattle.bac6_text.specs.Figure.{Figure}
use Rattle.tra4_text.specs.Movement.{Movement}
use Rattle.pair_load.specs.Answers.{pair_reply}
use Rattle.pair_movement.specs.Moved.{moved_answer}
use Rattle.pair_movement.proofs.Rooms.{figure-held, figure_small, Read, read-refused, read_taken, total-is, read_whole, room-short, room_enough, left_is}
use Rattle.pair_movement.proofs.Standing.{figure_stands}
use Rattle.pair_load.proofs.PairEnds.{figure-refused, pair_is, half_is, moved-refused, moved-taken, refused-pair, refused_half, figure-kept, reply-is}
use borrow.Author.Rules.{rules}
use Rattle.pair_load.proofs.pair.load.Statement.{statement}
use Rattle.pair_load.proofs.pair.load.Tie as tie

-- what is read into a table of the most numbers
read_is : (e : tie.After-read-answer) → e.read-answer.result ≡ answer_of (fitted layout_of 37026 (figure_outcome e.args.figure.now))
unfolding figure_answer
read_is e = e.read-answer.ensures.0 ∙ ap (λ (n : ℕ). answer_of (fitted layout_of n (figure_outcome e.args.figure.now))) (length-replicate 37026 (pos 0))

module _ (e : tie.Else-total-eq0) where
  abbrev text : List ℕ
  text = e.args.figure.now

  abbrev zeros : List ℤ
  zeros = replicate 37026 (pos 0)

  abbrev last : List ℤ
  last = e.read-answer.new.table

  took : Read figure-held 37026 (figure_outcome text) e.read-answer.result
  took = read_taken figure-held 37026 _ (figure_small _) _ (read_is e.before.before) e.if-total-eq0.false

  taken : figure_answer text (length zeros) ≡ accepted took.value
  unfolding figure_answer
  taken = ap (λ (n : ℕ). fitted layout_of n (figure_outcome text)) (length-replicate 37026 (pos 0)) ∙ read_whole figure-held 37026 _ _ took (figure_small _)

  left : last ≡ table_after text zeros
  left = e.read-answer.ensures.1

  laid-down : last ≡ layout_of took.value ++ drop (length (layout_of took.value)) zeros
  laid-down = left ∙ figure-table text zeros took.value taken

  long : e.read-answer.result.total ≤ length last
  long = let a = ap length laid-down ∙ length-append (layout_of took.value) _ in let b = total-is figure-held 37026 _ _ took in omega arith

-- the pair as the movement's half with the figure's own table
module _ (l : tie.After-load_movement-moved) where
  abbrev before-it : tie.Else-total-eq0
  before-it = l.before.before.before.before.before

  abbrev movement : List ℕ
  movement = before-it.args.movement.now

  abbrev space : ℕ
  space = length before-it.args.moves.now

  abbrev half : Loaded Movement
  half = moved_answer (text before-it) before-it.read-answer.result.counts (last before-it) movement space

  abbrev whole : Loaded (Figure × Movement)
  whole = pair_answer (text before-it) (length before-it.args.table.now) movement space

  paired : whole ≡ with_figure (took before-it).value half
  unfolding figure_answer answer_of
  paired =
      pair_is _ _ _ _ (replicate 37026 (pos 0)) (took before-it).value (taken before-it) (figure_stands _ _ (took before-it).alone) (room_enough figure-held 37026 _ _ (took before-it) _ l.if-table-total.false)
      ∙ ap (with_figure (took before-it).value) (sym (ap₂ (λ (n : FigureCounts) (t : List ℤ). moved_answer (text before-it) n t movement space) (ap (λ (a : FigureAnswer). a.counts) (took before-it).answer) (left before-it)))

  halved : half ≡ movement_of whole
  halved = sym (ap movement_of paired ∙ half_is _ _)

  loaded-is : (m : Movement) → half ≡ loaded m → whole ≡ loaded ((took before-it).value, m)
  unfolding with_figure
  loaded-is m e = paired ∙ ap (with_figure (took before-it).value) e

slice-aggregate-read : tie.Need-slice_bounds-read-end
slice-aggregate-read c = search rules

read-requires : tie.Need-read-answer-requires
read-requires c κs = search rules

refused-requires : tie.Need-refused-requires
refused-requires c κs = search rules

returns : tie.Need-returns-then-total-eq0
unfolding figure_answer
returns c = let p = figure-refused _ _ _ _ _ _ (read-refused figure-held 37026 _ (figure_small _) _ (read_is c.before.before.before) c.if-total-eq0.true _) in
    let b = refused-pair _ _ _ _ p _ in
    (c.refused.ensures ∙ b.0, (b.1, refused_half _ _ _ _ p _))

refused-requires-2 : tie.Need-refused-requires-then-table-total
refused-requires-2 c κs = search rules

returns-2 : tie.Need-returns-then-table-total
unfolding figure_answer
returns-2 c = let e = c.before.before in
    let p = figure-refused _ _ _ _ _ _ (room-short figure-held 37026 _ _ (took e) _ c.if-table-total.true) in
    let b = refused-pair _ _ _ _ p _ in
    (c.refused-then-table-total.ensures ∙ b.0, (b.1, refused_half _ _ _ _ p _))

slice-aggregate-load-movement : tie.Need-slice_bounds-load_movement-end
slice-aggregate-load-movement c = search rules

load-movement-requires : tie.Need-load_movement-moved-requires
load-movement-requires c κs = search rules

refused-requires-3 : tie.Need-refused-requires-then-moved-eq0
refused-requires-3 c κs = search rules

same_length : tie.Need-shape_of-moves-then-moved-eq0
same_length c = search rules

returns-3 : tie.Need-returns-then-moved-eq0
returns-3 c = let l = c.before.before.before.before in
    let e = l.before.before.before.before in
    let p = paired l ∙ figure-kept _ _ _ _ _ (moved-refused _ _ l.load_movement-moved.ensures.0 c.if-moved-eq0.true) in
    let b = refused-pair _ _ _ _ p _ in
    (c.refused-then-moved-eq0.ensures ∙ b.0, (b.1, l.load_movement-moved.ensures.1 ∙ ap (movement_left _) (halved l)))

array-share-prefix-rows : tie.Need-slice_bounds-rows-end
array-share-prefix-rows c = long c.before.before.before.before.before.before.before.before.before

slice-aggregate-put : tie.Need-slice_bounds-put-end
slice-aggregate-put c = let h = long c.before.before.before.before.before.before.before.before.before.before in simp length-take (omega arith)

put-requires : tie.Need-put-requires
put-requires c κs = search rules

same-length-2 : tie.Need-shape_of-table
same-length-2 c = search rules

same-length-3 : tie.Need-shape_of-moves
same-length-3 c = search rules

returns-4 : tie.Need-returns
unfolding figure_left laid
returns-4 c = let l = c.before.before.before.before.before.before.before.before in
    let e = l.before.before.before.before.before in
    let d = moved-taken _ _ l.load_movement-moved.ensures.0 c.if-moved-eq0.false in
    let p = loaded-is l d.movement d.is in (
      reply-is _ _ _ _ (took e).answer d.answer ∙ ap pair_reply (sym p),
      (
        c.put.ensures.0 ∙ rw (laid-down e, p) (left_is figure-held 37026 _ _ (took e) _ _ l.if-table-total.false),
        l.load_movement-moved.ensures.1 ∙ ap (movement_left _) (halved l),
      ),
    )

pub load_spec : {M : Type 1} → statement M
load_spec = tie.close (tie.spec slice-aggregate-read read-requires refused-requires returns refused-requires-2 returns-2 slice-aggregate-load-movement load-movement-requires refused-requires-3 same_length returns-3 array-share-prefix-rows slice-aggregate-put put-requires same-length-2 same-length-3 returns-4)
