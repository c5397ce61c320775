-- `total_fault` is the definition, by its two bounds.
use Rattle.std.proofs.Common.{sym}
use mir.Syntax.{w64}
use mir.Facts.{to_z-of_z}
use Rattle.tra4_rules.proofs.Counts.{total_low, total_high, total-fine}
use Rattle.tra4_rules.proofs.count.total_fault.Goals as goal
use Rattle.tra4_rules.proofs.count.total_fault.Goals.{then-total-lt1-via-then-total-lt1, then-total-lt1-via-else-total-lt1+then-total-gt32767}

pub returns-then-total-lt1 : goal.returns-then-total-lt1
returns-then-total-lt1 c =
    let f = to_z-of_z {w = w64} c.ranges.total in
    elim c.then-total-lt1.branch [
      | then-total-lt1-via-then-total-lt1 w ↦ sym (total_low _ (rw f at w.if-total-lt1.true))
      | then-total-lt1-via-else-total-lt1+then-total-gt32767 w ↦ sym (total_high _ (rw f at w.if-total-lt1.false) (rw f at w.if-total-gt32767.true))
    ]

pub returns : goal.returns
returns c = let f = to_z-of_z {w = w64} c.ranges.total in sym (total-fine _ (rw f at c.if-total-lt1.false) (rw f at c.if-total-gt32767.false))
