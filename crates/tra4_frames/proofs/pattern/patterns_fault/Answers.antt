-- `patterns_fault` is the definition on the whole rows: no line, none with frame 0, or the first that breaks its own rule.
use Rattle.std.proofs.Common.{sym, ◌∙◌, arith}
use mir.Facts.{to_z-of_z}
use Rattle.tra4_frames.proofs.Patterns.{whole_lines, no_line, no_start, some_start}
use Rattle.tra4_frames.proofs.pattern.patterns_fault.Goals as goal
use Rattle.tra4_frames.proofs.pattern.patterns_fault.Goals.{else-rows-ne0-via-then-rows-ne0+else-not-has_start, else-rows-ne0-via-else-rows-ne0}

pub returns-then-not-has_start : goal.returns-then-not-has_start
returns-then-not-has_start c =
    rw (whole_lines c.args.count c.min-rows.result c.args.patterns.now (omega arith)) (no_start _ _ (omega arith) _ (omega arith) (sym c.has_start.ensures ∙ c.if-not-has_start.true))

pub returns : goal.returns
returns c =
    rw (whole_lines c.args.count c.min-rows.result c.args.patterns.now (omega arith)) (rw (to_z-of_z c.ranges.total) at c.lines_fault.ensures ∙ elim c.else-rows-ne0.branch [
      | else-rows-ne0-via-then-rows-ne0+else-not-has_start w ↦ some_start _ _ (omega arith) _ (sym w.has_start.ensures ∙ w.if-not-has_start.false)
      | else-rows-ne0-via-else-rows-ne0 w ↦ no_line _ _ _ (omega arith)
    ])
