-- `load_movement` is the definition: each return is one law of MovementEnds, on what reading gave into a table that holds every layout.
use mathlib.Core.Path.{◌≡◌, ap, ap₂, sym, ◌∙◌}
use mathlib.Core.List.{List, ◌++◌}
use mathlib.Core.Bool.{true}
use Prim.Native.Nat.{ℕ, ◌≤◌}
use native.Mathlib.Omega.{arith}
use lib.IntN.{ℤ, pos}
use lib.ListN.{length, drop, replicate, length-replicate, length-append, length-take}
use Rattle.parse_spec.specs.Fields.{is_some}
use Rattle.refusal.specs.Outcomes.{accepted, fitted, laid}
use Rattle.refusal.proofs.Rules.{refused_by, clear_by}
use Rattle.tra4_text.specs.Layout.{layout_of}
use Rattle.tra4_text.specs.Answer.{movement_outcome, movement_answer, movement_table}
use Rattle.tra4.specs.Answers.{answer_of}
use Rattle.table_movement.specs.Sections.{holds_movement}
use Rattle.tra4.specs.declared.setting.MovementAnswer.{MovementAnswer}
use Rattle.movement_bridge.proofs.Tables.{counts_read, table-read, movement_holds}
use Rattle.pair_text.specs.Rules.{pair_fault}
use Rattle.pair_text.specs.Answer.{movement_left}
use Rattle.player_label.specs.BoneNames.{names_in}
use Rattle.pair_movement.specs.Moved.{moved_reply}
use Rattle.pair_rules.specs.Internal.Tables.{rows_fault, tables_fault}
use Rattle.pair_rules.proofs.Faults.{held_tables}
use Rattle.pair_movement.proofs.Rooms.{movement-held, movement_small, Read, read-refused, read_taken, total-is, read_whole, room-short, room_enough, left_is}
use Rattle.pair_movement.proofs.Standing.{movement_stands}
use Rattle.pair_movement.proofs.MovementEnds.{names, names_some, tables_are, moved_unnamed, moved-rejected, moved-fault, moved-loaded, refused_both}
use Rattle.pair_movement.proofs.moving.load_movement.Goals as goal
use Rattle.pair_movement.proofs.moving.load_movement.Goals.{Else-total-eq0}

-- what is read into a table of the most numbers
read_is : (text : List ℕ) (a : MovementAnswer) → a ≡ answer_of (movement_answer text (length (replicate 11779 (pos 0)))) → a ≡ answer_of (fitted layout_of 11779 (movement_outcome text))
unfolding movement_answer
read_is text a e = e ∙ ap (λ (n : ℕ). answer_of (fitted layout_of n (movement_outcome text))) (length-replicate 11779 (pos 0))

module _ (e : Else-total-eq0) where
  abbrev text : List ℕ
  text = e.args.movement.now

  abbrev zeros : List ℤ
  zeros = replicate 11779 (pos 0)

  abbrev last : List ℤ
  last = e.read-answer.new.table

  named : is_some (names_in e.args.figure.now e.args.n e.args.table.now) ≡ true
  named = sym e.has_names.ensures ∙ e.if-not-has_names.false

  took : Read movement-held 11779 (movement_outcome text) e.read-answer.result
  took = read_taken movement-held 11779 _ (movement_small _) _ (read_is _ _ e.read-answer.ensures.answer) e.if-total-eq0.false

  taken : movement_answer text (length zeros) ≡ accepted took.value
  unfolding movement_answer
  taken = ap (λ (n : ℕ). fitted layout_of n (movement_outcome text)) (length-replicate 11779 (pos 0)) ∙ read_whole movement-held 11779 _ _ took (movement_small _)

  left : last ≡ movement_table text zeros
  left = e.read-answer.ensures.content

  laid-down : last ≡ layout_of took.value ++ drop (length (layout_of took.value)) zeros
  laid-down = left ∙ table-read text zeros took.value taken

  counted : e.read-answer.result.counts ≡ counts_read took.value
  unfolding answer_of
  counted = ap (λ (a : MovementAnswer). a.counts) took.answer

  holds : holds_movement e.read-answer.result.counts last ≡ true
  holds = ap₂ holds_movement counted left ∙ movement_holds text zeros took.value taken

  long : e.read-answer.result.total ≤ length last
  long = let a = ap length laid-down ∙ length-append (layout_of took.value) _ in let b = total-is movement-held 11779 _ _ took in omega arith

  ruled : tables_fault e.args.figure.now e.args.n e.args.table.now text e.read-answer.result.counts last ≡ pair_fault (names e.args.figure.now e.args.n e.args.table.now) e.args.n.groups took.value
  ruled = held_tables _ _ _ _ _ _ (names_some _ _ _ named).1 holds ∙ ap₂ (rows_fault _ _ _ text) counted left ∙ (tables_are text zeros took.value taken (movement_stands text took.value took.alone) _ _ _)

pub returns-then-not-has_names : goal.returns-then-not-has_names
returns-then-not-has_names c = let b = refused_both _ _ _ _ (moved_unnamed _ _ _ _ _ (sym c.has_names.ensures ∙ c.if-not-has_names.true)) _ in record { answer = c.refused.ensures ∙ b.0; content = b.1 }

pub returns-then-total-eq0 : goal.returns-then-total-eq0
unfolding movement_answer
returns-then-total-eq0 c =
    let b = refused_both _ _ _ _ (moved-rejected _ _ _ _ _ (sym c.has_names.ensures ∙ c.if-not-has_names.false) _ _ (read-refused movement-held 11779 _ (movement_small _) _ (read_is _ _ c.read-answer.ensures.answer) c.if-total-eq0.true _)) _ in
    record { answer = c.refused-then-total-eq0.ensures ∙ b.0; content = b.1 }

pub returns-then-moves-total : goal.returns-then-moves-total
unfolding movement_answer
returns-then-moves-total c =
    let e = (goal.at.returns-then-moves-total c).Else-total-eq0 in
    let b = refused_both _ _ _ _ (moved-rejected _ _ _ _ _ (named e) _ _ (room-short movement-held 11779 _ _ (took e) _ c.if-moves-total.true)) _ in
    record { answer = c.refused-then-moves-total.ensures ∙ b.0; content = b.1 }

pub returns-in-Err : goal.returns-in-Err
unfolding movement_answer
returns-in-Err c =
    let e = (goal.at.returns-in-Err c).Else-total-eq0 in
    let b = refused_both _ _ _ _ (moved-fault _ _ _ _ _ (named e) (took e).value _ _ (room_enough movement-held 11779 _ _ (took e) _ c.if-moves-total.false) (sym (ruled e) ∙ refused_by c.pair_fault.ensures c.in-Err.is)) _ in
    record { answer = c.refused-in-Err.ensures ∙ b.0; content = b.1 }

pub slice_bounds-rows-end : goal.slice_bounds-rows-end
slice_bounds-rows-end c = long (goal.at.slice_bounds-rows-end c).Else-total-eq0

pub slice_bounds-put-end : goal.slice_bounds-put-end
slice_bounds-put-end c = let h = long (goal.at.slice_bounds-put-end c).Else-total-eq0 in simp length-take (omega arith)

pub returns-in-Ok : goal.returns-in-Ok
unfolding movement_answer moved_reply movement_left laid
returns-in-Ok c =
    let e = (goal.at.returns-in-Ok c).Else-total-eq0 in
    let l = moved-loaded _ _ _ _ _ (named e) (took e).value (room_enough movement-held 11779 _ _ (took e) _ c.if-moves-total.false) (sym (ruled e) ∙ clear_by c.pair_fault.ensures c.in-Ok.is) in
    record { answer = (took e).answer ∙ ap moved_reply (sym l); content = c.put.ensures.content ∙ rw (laid-down e, l) (left_is movement-held 11779 _ _ (took e) _ _ c.if-moves-total.false) }
