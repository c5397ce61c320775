-- Each way out of a turn by the law of the list's end, of an item that is refused or of a material more.
use Rattle.std.proofs.Common.{ℕ, ◌≡◌, ◌+◌, ◌*◌, min, Ok, sym, ◌∙◌, refl, arith}
use Rattle.parse_spec.proofs.TokenCounts.{lex_at_count}
use Rattle.parse_cursor.proofs.Steps.{parsed_exit, stopped}
use Rattle.parse_rows.specs.Internal.Folds.{row_step}
use Rattle.parse_rows.proofs.Folds.{folded_off, folded_end, folded_stop, folded_more, folded_fall, row-stepped, row_refused}
use Rattle.bac6_text.specs.Grammar.{material}
use Rattle.bac6_materials.specs.Internal.Into.{material_tail, material_into}
use Rattle.bac6_materials.proofs.Chunks.{material_opens, material_keeps, material_takes}
use Rattle.bac6_materials.proofs.material.more_materials.Goals as goal

rows_on : (r i n len len' : ℕ) → len' ≡ len → min i len ≡ min (n * 9) len → min r len' ≡ min (i + 9) len' → min r len' ≡ min ((n + 1) * 9) len'
rows_on r i n len len' e h k = omega arith

pub loop-ended-init : goal.loop-ended-init
loop-ended-init c = (refl, refl, omega (arith, lex_at_count c.args.text.now c.args.start))

pub returns-in_err-ended : goal.returns-in_err-ended
returns-in_err-ended c = parsed_exit _ _ _ _ c.from_residual.ensures.1 (c.loop-ended.invariant.0 ∙ folded_off (row_step 9) material material_tail material_takes material_keeps material_opens _ _ _ (sym c.in_err-ended.ensures))

pub returns-then-ended : goal.returns-then-ended
returns-then-ended c = sym (c.loop-ended.invariant.0 ∙ folded_end (row_step 9) material material_tail material_takes material_keeps material_opens _ _ _ _ c.in_ok-ended.ensures _ c.if-ended.true)

pub returns-in_err-at : goal.returns-in_err-at
unfolding material_into
returns-in_err-at c =
    parsed_exit _ _ _ _ c.from_residual-in_err-at.ensures.1
    (c.loop-ended.invariant.0
    ∙ folded_stop (row_step 9) material material_tail material_takes material_keeps material_opens _ _ _ _ c.in_ok-ended.ensures _ c.if-ended.false
    (row_refused material_tail 9 _ _ _ _ _ c.loop-ended.invariant.1 (stopped _ _ _ c.in_err-at.ensures)))

pub loop-ended-smaller : goal.loop-ended-smaller
unfolding material_into
loop-ended-smaller c =
    let s = row-stepped material_tail 9 c.loop-ended.count c.loop-ended.i c.loop-ended.out _ _ c.loop-ended.invariant.1 _ _ c.in_ok-at.ensures in
    folded_fall (row_step 9) material_tail material_keeps _ _ _ _ _ c.in_ok-ended.ensures _ _ s

pub loop-ended-preserved : goal.loop-ended-preserved
unfolding material_into
loop-ended-preserved c =
    let s = row-stepped material_tail 9 c.loop-ended.count c.loop-ended.i c.loop-ended.out _ _ c.loop-ended.invariant.1 _ _ c.in_ok-at.ensures in
    let f = folded_fall (row_step 9) material_tail material_keeps _ _ _ _ _ c.in_ok-ended.ensures _ _ s in (
      c.loop-ended.invariant.0 ∙ folded_more (row_step 9) material material_tail material_takes material_keeps material_opens _ _ _ _ c.in_ok-ended.ensures _ (Ok _) _ s c.if-ended.false,
      rows_on _ c.loop-ended.i c.loop-ended.count _ _ c.material_tail.auto.out c.loop-ended.invariant.1 c.advance-i.ensures,
      omega arith,
    )
