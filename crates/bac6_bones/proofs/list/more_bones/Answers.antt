-- Each way out of a turn by the law of the list's end, of an item that is refused or of a bone more.
use Rattle.std.proofs.Common.{ℕ, ◌≡◌, ◌+◌, ◌*◌, min, Ok, sym, ◌∙◌, refl, arith}
use Rattle.parse_spec.proofs.TokenCounts.{lex_at_count}
use Rattle.parse_cursor.proofs.Steps.{parsed_exit}
use Rattle.parse_rows.proofs.Folds.{folded_off, folded_end, folded_stop, folded_more, folded_fall}
use Rattle.bac6_text.specs.Grammar.{bone}
use Rattle.bac6_bone.specs.Internal.Into.{bone_tail}
use Rattle.bac6_bones.specs.Internal.Into.{bone_step}
use Rattle.bac6_bones.proofs.Lists.{bone_opens, bone_keeps, bone_takes, item_falls}
use Rattle.bac6_bones.proofs.list.more_bones.Goals as goal

rows_on : (r i n k len len' : ℕ) → len' ≡ len → k ≡ n + 1 → min i len ≡ min (n * 14) len → min r len' ≡ min (i + 14) len' → min r len' ≡ min (k * 14) len'
rows_on r i n k len len' e f h g = omega arith

pub loop-ended-init : goal.loop-ended-init
loop-ended-init c = let p = c.requires in (refl, rw p, rw p (omega (arith, lex_at_count c.args.text.now c.args.start)))

pub returns-in_err-ended : goal.returns-in_err-ended
returns-in_err-ended c = parsed_exit _ _ _ _ c.from_residual.ensures.1 (c.loop-ended.invariant.0 ∙ folded_off (bone_step _) bone bone_tail bone_takes bone_keeps bone_opens _ _ _ (sym c.in_err-ended.ensures))

pub returns-then-ended : goal.returns-then-ended
returns-then-ended c = sym (c.loop-ended.invariant.0 ∙ folded_end (bone_step _) bone bone_tail bone_takes bone_keeps bone_opens _ _ _ _ c.in_ok-ended.ensures _ c.if-ended.true)

pub next_bone-requires : goal.next_bone-requires
next_bone-requires c = let two = item_falls _ _ _ _ c.in_ok-ended.ensures in (c.loop-ended.invariant.1, omega arith)

pub returns-in_err-bones : goal.returns-in_err-bones
returns-in_err-bones c =
    parsed_exit _ _ _ _ c.from_residual-in_err-bones.ensures.1
    (c.loop-ended.invariant.0 ∙ folded_stop (bone_step _) bone bone_tail bone_takes bone_keeps bone_opens _ _ _ _ c.in_ok-ended.ensures _ c.if-ended.false (sym c.in_err-bones.ensures.owners_after))

pub loop-ended-smaller : goal.loop-ended-smaller
loop-ended-smaller c = folded_fall (bone_step _) bone_tail bone_keeps _ _ _ _ _ c.in_ok-ended.ensures _ _ c.in_ok-bones.ensures.owners_after

pub loop-ended-preserved : goal.loop-ended-preserved
loop-ended-preserved c =
    let f = folded_fall (bone_step _) bone_tail bone_keeps _ _ _ _ _ c.in_ok-ended.ensures _ _ c.in_ok-bones.ensures.owners_after in
    let one = c.in_ok-bones.ensures.count_value in (
      c.loop-ended.invariant.0 ∙ folded_more (bone_step _) bone bone_tail bone_takes bone_keeps bone_opens _ _ _ _ c.in_ok-ended.ensures _ (Ok _) _ c.in_ok-bones.ensures.owners_after c.if-ended.false,
      rows_on _ c.loop-ended.i c.loop-ended.so_far.count _ _ _ c.next_bone.auto.table one c.loop-ended.invariant.1 c.advance-i.ensures,
      omega (arith, one),
    )
