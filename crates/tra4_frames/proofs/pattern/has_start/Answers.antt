-- A line with frame 0 is one that fails the test of all others, so each step is a law of such a walk.
use Rattle.std.proofs.Common.{◌≡◌, ◌+◌, ◌-◌, ◌*◌, suc, true, false, sym, ◌∙◌, arith, rules}
use Rattle.table_columns.proofs.FirstBad.{walk_start, walk_over, walk_passed, walk_found}
use Rattle.tra4_text.proofs.Zero.{zero_no, zero_yes}
use Rattle.tra4_frames.proofs.Patterns.{not_start, row-start, start_none, start_some}
use Rattle.tra4_frames.proofs.pattern.has_start.Goals as goal

pub loop-row-init : goal.loop-row-init
loop-row-init c = walk_start 16 3 not_start _ _

pub returns-then-patterns-row-eq0 : goal.returns-then-patterns-row-eq0
returns-then-patterns-row-eq0 c =
    let n : c.args.rows - c.loop-row.row ≡ suc (c.args.rows - (c.loop-row.row + 1)) = omega arith in
    sym (start_some _ {k = 16} {row = c.loop-row.row} (c.loop-row.invariant ∙ rw n (walk_found 16 3 not_start _ _ _ _ (omega arith) (row-start c.args.patterns.now (c.loop-row.row * 3) true (zero_yes _ (search rules) c.if-patterns-row-eq0.true)))))

pub loop-row-preserved : goal.loop-row-preserved
loop-row-preserved c =
    let n : c.args.rows - c.loop-row.row ≡ suc (c.args.rows - (c.loop-row.row + 1)) = omega arith in
    let s : c.loop-row.row + 1 ≡ suc c.loop-row.row = omega arith in
    let b : suc c.loop-row.row * 3 ≡ c.loop-row.row * 3 + 3 = omega arith in
    c.loop-row.invariant ∙ rw (n, s, b) (walk_passed 16 3 not_start _ _ _ _ (omega arith) (row-start c.args.patterns.now (c.loop-row.row * 3) false (zero_no _ c.if-patterns-row-eq0.false)))

pub returns : goal.returns
returns c = sym (start_none _ (c.loop-row.invariant ∙ walk_over 16 3 not_start _ _ _ _ (λ h. omega arith)))
