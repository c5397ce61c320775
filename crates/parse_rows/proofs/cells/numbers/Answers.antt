-- `numbers` reads one number a turn: within the table it is stored, past its end it is dropped.
use mathlib.Core.Path.{sym, ◌∙◌}
use Prim.Native.Nat.{◌+◌, ◌-◌}
use native.Mathlib.Omega.{arith}
use borrow.Author.Rules.{rules}
use mir.Syntax.{w64}
use mir.Val.{SFits}
use mir.Facts.{to_z-of_z}
use lib.ListN.{length-set}
use lib.Seq.{take-set-le}
use Rattle.parse_cursor.proofs.Steps.{reads_exit}
use Rattle.parse_rows.proofs.Into.{numbers_none, numbers_store, numbers-drop, numbers_off}
use Rattle.parse_rows.proofs.cells.numbers.Goals as goal
use Rattle.parse_rows.proofs.cells.numbers.Goals.{then-i-out, else-i-out}

pub returns-in_err-value-clause-meaning : goal.returns-in_err-value-clause-meaning
returns-in_err-value-clause-meaning c =
    let l = c.loop in
    reads_exit _ _ _ _ c.from_residual-in_err-value.ensures.1
    (rw c.in_ok-d.was (l.invariant.0 ∙ numbers_off _ _ _ _ (c.args.width - (l.counter + 1)) _ _ (omega arith) (sym c.in_err-value.ensures)))

pub loop-preserved : goal.loop-preserved
loop-preserved c =
    let l = c.loop in
    let f : SFits w64 c.in_ok-value.value = search rules in
    elim c.if-i-out.branch [
      | then-i-out w ↦ rw (w.out-is, w.i-is) (rw (to_z-of_z f) (
        l.invariant.0 ∙ numbers_store _ _ _ _ _ _ _ _ _ (omega arith) c.in_ok-value.ensures,
        length-set _ _ _ ∙ l.invariant.1,
        take-set-le _ _ _ _ l.invariant.3 ∙ l.invariant.2,
        omega (arith, l.invariant.3),
      ))
      | else-i-out w ↦ rw (w.out-is, w.i-is)
          (l.invariant.0 ∙ numbers-drop _ _ _ _ _ _ _ _ _ (omega arith) c.in_ok-value.ensures w.if-i-out.false, l.invariant.1, l.invariant.2, l.invariant.3)
    ]

pub returns-clause-meaning : goal.returns-clause-meaning
returns-clause-meaning c = rw c.in_ok-d.was (sym (c.loop.invariant.0 ∙ numbers_none _ _ _ _ _ _ (omega arith)))
