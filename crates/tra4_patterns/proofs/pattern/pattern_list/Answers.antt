-- `pattern_list` reads one line a turn, until the list ends.
use Rattle.std.proofs.Common.{◌≡◌, ◌+◌, ◌*◌, ℕ, refl, sym, ◌∙◌, arith}
use Prim.Native.Nat.{min}
use Rattle.parse_cursor.proofs.Steps.{parsed_exit, stopped}
use Rattle.parse_spec.proofs.TokenCounts.{lex_at_count}
use Rattle.parse_rows.specs.Internal.Folds.{row_step}
use Rattle.parse_rows.proofs.Folds.{folded_off, folded_end, folded_more, folded_stop, folded_fall, row-stepped, row_refused}
use Rattle.tra4_text.specs.Grammar.{pattern}
use Rattle.tra4_patterns.specs.Internal.Patterns.{pattern_tail, pattern_into}
use Rattle.tra4_patterns.proofs.PatternLines.{pattern_opens, pattern_keeps, pattern_takes}
use Rattle.tra4_patterns.proofs.pattern.pattern_list.Goals as goal

rows_on : (r i n len len' : ℕ) → len' ≡ len → min i len ≡ min (n * 3) len → min r len' ≡ min (i + 3) len' → min r len' ≡ min ((n + 1) * 3) len'
rows_on r i n len len' e h k = omega arith

pub loop-ended-init : goal.loop-ended-init
loop-ended-init c = record { same = refl; long = refl; index = refl; few = omega (arith, lex_at_count c.args.text.now c.in_ok-d.d) }

pub returns-in_err-ended : goal.returns-in_err-ended
returns-in_err-ended c =
    parsed_exit _ _ _ _ c.from_residual-in_err-ended.ensures.1
    (rw c.in_ok-d.was (c.loop-ended.invariant.same ∙ folded_off (row_step 3) pattern pattern_tail pattern_takes pattern_keeps pattern_opens _ _ _ (sym c.in_err-ended.ensures)))

pub returns-then-ended : goal.returns-then-ended
returns-then-ended c =
    rw c.in_ok-d.was (sym (c.loop-ended.invariant.same ∙ folded_end (row_step 3) pattern pattern_tail pattern_takes pattern_keeps pattern_opens _ _ _ _ c.in_ok-ended.ensures _ c.if-ended.true))

pub returns-in_err-d-2 : goal.returns-in_err-d-2
unfolding pattern_into
returns-in_err-d-2 c =
    let l = c.loop-ended in
    parsed_exit _ _ _ _ c.from_residual-in_err-d-2.ensures.1
    (rw c.in_ok-d.was (l.invariant.same ∙ folded_stop (row_step 3) pattern pattern_tail pattern_takes pattern_keeps pattern_opens _ _ _ _ c.in_ok-ended.ensures _ c.if-ended.false
    (row_refused pattern_tail 3 l.count l.i l.out _ _ l.invariant.index (stopped _ _ _ c.in_err-d-2.ensures))))

pub loop-ended-smaller : goal.loop-ended-smaller
unfolding pattern_into
loop-ended-smaller c =
    let l = c.loop-ended in
    folded_fall (row_step 3) pattern_tail pattern_keeps _ _ _ _ _ c.in_ok-ended.ensures _ _ (row-stepped pattern_tail 3 l.count l.i l.out _ _ l.invariant.index _ _ c.in_ok-d-2.ensures)

pub loop-ended-preserved : goal.loop-ended-preserved
unfolding pattern_into
loop-ended-preserved c =
    let l = c.loop-ended in
    let long = c.pattern_tail.auto.out in
    let step = row-stepped pattern_tail 3 l.count l.i l.out _ _ l.invariant.index _ _ c.in_ok-d-2.ensures in
    let fewer = folded_fall (row_step 3) pattern_tail pattern_keeps _ _ _ _ _ c.in_ok-ended.ensures _ _ step in
    record {
      same = l.invariant.same ∙ folded_more (row_step 3) pattern pattern_tail pattern_takes pattern_keeps pattern_opens _ _ _ _ c.in_ok-ended.ensures _ _ _ step c.if-ended.false;
      long = long ∙ l.invariant.long;
      index = rows_on _ l.i l.count _ _ long l.invariant.index c.advance-i.ensures;
      few = omega arith;
    }
