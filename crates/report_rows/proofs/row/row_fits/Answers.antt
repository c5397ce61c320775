-- Each step by the length of a line, and of its fields from the next on.
use Rattle.std.proofs.Common.{ℕ, rules, ◌+◌, length, get_or, pos, sym, ap, ◌∙◌, arith, add-one, w64}
use mir.Val.{SFits}
use borrow.Author.Tests.{lt-leb, leb-true, leb-false}
use Rattle.std.proofs.lemmas.Int.{to_z-of_z}
use Rattle.report_rows.proofs.Lines.{fields-length, fields_end, line-length, left_over}
use Rattle.report_rows.proofs.row.row_fits.Goals as goal

pub returns-then-not-has_room : goal.returns-then-not-has_room
returns-then-not-has_room c =
    let a = c.args in
    let full = leb-false (a.n + length a.word.now) a.size (sym c.has_room.ensures ∙ c.if-not-has_room.true) in
    sym (lt-leb _ _ (omega (arith, full, line-length a.word.now a.numbers.now)))

pub loop-z-init : goal.loop-z-init
loop-z-init c =
    let a = c.args in
    let fits = leb-true (a.n + length a.word.now) a.size (sym c.has_room.ensures ∙ c.if-not-has_room.false) in
    omega (arith, fits, line-length a.word.now a.numbers.now)

pub returns-then-left-w : goal.returns-then-left-w
returns-then-left-w c =
    let numbers = c.args.numbers.now in
    let i = c.loop-z.z-index in
    let f : SFits w64 (get_or numbers i (pos 0)) = search rules in
    sym (lt-leb _ _ (omega (arith, c.loop-z.invariant, fields-length numbers i _ c.loop-z-test.true (simp to_z-of_z at c.width-w.ensures))))

pub loop-z-preserved : goal.loop-z-preserved
loop-z-preserved c =
    let numbers = c.args.numbers.now in
    let i = c.loop-z.z-index in
    let f : SFits w64 (get_or numbers i (pos 0)) = search rules in
    rw (add-one i) (omega (arith, c.loop-z.invariant, fields-length numbers i _ c.loop-z-test.true (simp to_z-of_z at c.width-w.ensures)))

pub returns : goal.returns
returns c =
    let numbers = c.args.numbers.now in
    left_over _ _ c.loop-z.left (c.loop-z.invariant ∙ ap (λ (k : ℕ). c.args.size + 1 + k) (ap length (fields_end numbers c.loop-z.z-index c.loop-z-test.false)))
