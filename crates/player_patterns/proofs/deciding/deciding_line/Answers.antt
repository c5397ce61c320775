-- Each turn is one step of the pass: a fault ends it, a line that decides is kept, and any other leaves the best so far.
use Rattle.std.proofs.Common.{◌≡◌, refl, sym, ap, ◌∙◌, ◌+◌, ◌*◌, ◌/◌, Bool, true, false, ◌&&◌, pos, length, get_or, SFits, w64, arith, rules}
use Rattle.std.specs.Bool.{then_some}
use Rattle.std.specs.Prelude.{leb, nat_abs, Option as Answer}
use Rattle.std.proofs.Math.Option.{Option, none, some}
use Rattle.std.proofs.lemmas.Int.{to_z-of_z}
use Rattle.table_columns.proofs.Casts.{natural_cast}
use Rattle.table_columns.specs.Parts.{rows_at}
use Rattle.tra4_text.specs.Movement.{frame_of}
use Rattle.tra4_text.proofs.Zero.{zero_bits}
use Rattle.player_spec.specs.Deciding.{Line, line_frame, applies}
use Rattle.player_spec.specs.Lookups.{only_if}
use Rattle.player_patterns.specs.declared.deciding.Line.{Line as Answered}
use Rattle.player_patterns.specs.Internal.Answers.{line_told, decided, row_and_flag, decided_in}
use Rattle.player_patterns.specs.Internal.Pass.{line_fine, best_frame}
use Rattle.player_patterns.proofs.Lines.{line_naturals, flag_bits}
use Rattle.player_patterns.proofs.Passed.{answer_by}
use Rattle.player_patterns.proofs.LineRows.{line_at, from, begun, ended, turn_fault, turn_taken, turn_kept}
use Rattle.player_patterns.proofs.deciding.deciding_line.Goals as goal
use Rattle.player_patterns.proofs.deciding.deciding_line.Goals.{After-line_fine, Else-not-line_fine, Joined-replaces, then-replaces, else-replaces}

pub loop-row-init : goal.loop-row-init
unfolding row_and_flag best_frame
loop-row-init c = (none, refl, refl, rw (to_z-of_z _ _ c.ranges.total) (begun _ _ _ _ _ _))

-- the line's numbers from their bits
frame : (c : After-line_fine) → SFits w64 (get_or c.args.rows.now (c.loop-row.row * 3) (pos 0))
frame c = search rules

group : (c : After-line_fine) → SFits w64 (get_or c.args.rows.now (c.loop-row.row * 3 + 1) (pos 0))
group c = search rules

flag : (c : After-line_fine) → SFits w64 (get_or c.args.rows.now (c.loop-row.row * 3 + 2) (pos 0))
flag c = search rules

-- the invariant, with the total as it was passed
held : (c : After-line_fine) → let a = c.args in let n = length a.rows.now / 3 in decided_in a.total a.groups a.group a.at (rows_at 3 a.rows.now 0 n) ≡ answer_by (from a.rows.now n a.total a.groups a.group a.at c.loop-row.row c.loop-row.started c.loop-row.invariant.0)
held c = rw (to_z-of_z _ _ c.ranges.total) at c.loop-row.invariant.3

-- the test of a line
tested : (c : After-line_fine) → let a = c.args in c.line_fine.result ≡ line_fine a.total a.groups (line_at a.rows.now (c.loop-row.row * 3))
tested c = rw (to_z-of_z _ _ c.ranges.total, to_z-of_z _ _ (frame c), to_z-of_z _ _ (group c), to_z-of_z _ _ (flag c)) at c.line_fine.ensures

pub returns-then-not-line_fine : goal.returns-then-not-line_fine
unfolding answer_by
returns-then-not-line_fine c =
    let m = (goal.at.returns-then-not-line_fine c).After-line_fine in
    sym (held m ∙ ap answer_by (turn_fault _ _ _ _ _ _ (omega arith) _ _ _ c.loop-row-test.true (sym (tested m) ∙ c.if-not-line_fine.true)))

-- a sound line
sound : (c : Else-not-line_fine) → let a = c.args in line_fine a.total a.groups (line_at a.rows.now (c.loop-row.row * 3)) ≡ true
sound c = sym (tested c.before) ∙ c.if-not-line_fine.false

pub replaces-requires : goal.replaces-requires
replaces-requires c =
    let e = (goal.at.replaces-requires c).Else-not-line_fine in
    let m = (goal.at.replaces-requires c).After-line_fine in
    rw (to_z-of_z _ _ (frame m), to_z-of_z _ _ (group m)) (line_naturals _ _ _ _ _ (sound e))

pub overflow_cast-frame : goal.overflow_cast-frame
overflow_cast-frame c =
    let m = (goal.at.overflow_cast-frame c).After-line_fine in
    natural_cast _ (frame m) (line_naturals _ _ _ _ _ (sound (goal.at.overflow_cast-frame c).Else-not-line_fine)).0

-- whether it decides over the best so far
decides : (c : Joined-replaces) → let a = c.args in c.replaces.result ≡ (applies a.group a.at (line_at a.rows.now (c.loop-row.row * 3)) && leb (best_frame c.loop-row.invariant.0) (line_frame (line_at a.rows.now (c.loop-row.row * 3))))
decides c =
    let m = (goal.at.loop-row-preserved c).After-line_fine in
    rw (to_z-of_z _ _ (frame m), to_z-of_z _ _ (group m), c.loop-row.invariant.2) at (c.replaces.ensures (get_or c.args.rows.now (c.loop-row.row * 3 + 2) (pos 0)))

pub loop-row-preserved : goal.loop-row-preserved
unfolding row_and_flag best_frame line_frame frame_of
loop-row-preserved c =
    let m = (goal.at.loop-row-preserved c).After-line_fine in
    let e = (goal.at.loop-row-preserved c).Else-not-line_fine in
    let t = to_z-of_z _ _ c.ranges.total in
    let here = line_at c.args.rows.now (c.loop-row.row * 3) in
    elim c.if-replaces.branch [
      | then-replaces w ↦ (
        some (c.loop-row.row, here),
        ap line_told w.best-is ∙ ap (λ (b : Bool). some (c.loop-row.row, b)) (flag_bits _ _ _ (flag m)),
        w.frame-is ∙ ap nat_abs (to_z-of_z _ _ (frame m)),
        rw (t, zero_bits _ (frame m)) (held m ∙ ap answer_by (turn_taken _ _ _ _ _ _ (omega arith) _ _ _ c.loop-row-test.true (sound e) (sym (decides c) ∙ w.if-replaces.true))),
      )
      | else-replaces w ↦ (
        c.loop-row.invariant.0,
        ap line_told w.best-is ∙ c.loop-row.invariant.1,
        w.frame-is ∙ c.loop-row.invariant.2,
        rw (t, zero_bits _ (frame m)) (held m ∙ ap answer_by (turn_kept _ _ _ _ _ _ (omega arith) _ _ _ c.loop-row-test.true (sound e) (sym (decides c) ∙ w.if-replaces.false))),
      )
    ]

-- what the pass says at its end
said : (started : Bool) (l : Answer Answered) (best : Option Line) → line_told l ≡ row_and_flag best → decided (then_some started l) ≡ answer_by (only_if started best)
unfolding answer_by only_if
said true l best h = ap some h
said false l best h = refl

pub returns : goal.returns
returns c =
    let l = c.loop-row in
    ap decided c.then_some.ensures
    ∙ said _ _ l.invariant.0 l.invariant.1
    ∙ sym ((rw (to_z-of_z _ _ c.ranges.total) at l.invariant.3) ∙ ap answer_by (ended _ _ _ _ _ _ l.started l.invariant.0 l.row c.loop-row-test.false))
