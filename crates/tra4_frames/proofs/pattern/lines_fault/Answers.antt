-- Each step by the law of a walk over rows.
use Rattle.std.proofs.Common.{◌≡◌, ℕ, pos, slice_index_or, ◌+◌, ◌-◌, ◌*◌, suc, sym, ◌∙◌, arith, rules}
use mir.Syntax.{w64}
use mir.Facts.{to_z-of_z}
use Rattle.tra4_text.specs.Rules.{pattern_fine}
use Rattle.table_columns.proofs.FirstBad.{walk_start, walk_over, walk_passed, walk_found}
use Rattle.tra4_frames.proofs.Patterns.{line_row}
use Rattle.tra4_frames.proofs.pattern.lines_fault.Goals as goal

pub loop-row-init : goal.loop-row-init
loop-row-init c = walk_start 16 3 _ _ _

pub returns-then-not-pattern_fits : goal.returns-then-not-pattern_fits
returns-then-not-pattern_fits c =
    let a = c.args in
    let row = c.loop-row.row in
    let p = λ (k : ℕ). slice_index_or a.patterns.now k (pos 0) in
    let told = rw (to_z-of_z c.ranges.total, to_z-of_z {w = w64} {z = p (row * 3)} (search rules), to_z-of_z {w = w64} {z = p (row * 3 + 1)} (search rules)) at (c.pattern_fits.ensures (p (row * 3 + 2))) in
    let n : a.rows - row ≡ suc (a.rows - (row + 1)) = omega arith in
    sym (rw (to_z-of_z c.ranges.total) at c.loop-row.invariant ∙ rw n (walk_found 16 3 (pattern_fine a.total) _ _ _ _ (omega arith) (rw (line_row a.patterns.now (row * 3) (omega arith)) (sym told ∙ c.if-not-pattern_fits.true))))

pub loop-row-preserved : goal.loop-row-preserved
loop-row-preserved c =
    let a = c.args in
    let row = c.loop-row.row in
    let p = λ (k : ℕ). slice_index_or a.patterns.now k (pos 0) in
    let told = rw (to_z-of_z c.ranges.total, to_z-of_z {w = w64} {z = p (row * 3)} (search rules), to_z-of_z {w = w64} {z = p (row * 3 + 1)} (search rules)) at (c.pattern_fits.ensures (p (row * 3 + 2))) in
    let n : a.rows - row ≡ suc (a.rows - (row + 1)) = omega arith in
    let s : row + 1 ≡ suc row = omega arith in
    let b : suc row * 3 ≡ row * 3 + 3 = omega arith in
    rw (to_z-of_z c.ranges.total) (rw (to_z-of_z c.ranges.total) at c.loop-row.invariant ∙ rw (n, s, b) (walk_passed 16 3 (pattern_fine a.total) _ _ _ _ (omega arith) (rw (line_row a.patterns.now (row * 3) (omega arith)) (sym told ∙ c.if-not-pattern_fits.false))))

pub returns : goal.returns
returns c = sym (rw (to_z-of_z c.ranges.total) at c.loop-row.invariant ∙ walk_over 16 3 _ _ _ _ _ (λ h. omega arith))
