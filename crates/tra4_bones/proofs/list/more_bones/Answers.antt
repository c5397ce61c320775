-- `more_bones` reads one bone a turn, by the laws of a turn.
use Rattle.std.proofs.Common.{◌≡◌, ◌+◌, ◌*◌, ℕ, refl, sym, ◌∙◌, arith}
use Prim.Native.Nat.{min}
use Rattle.text_bytes.specs.Bytes.{bytes}
use Rattle.parse_cursor.proofs.Steps.{parsed_exit}
use Rattle.parse_spec.proofs.TokenCounts.{lex_at_count, lex_at_some}
use Rattle.tra4_text.specs.Grammar.{bone}
use Rattle.tra4_bones.specs.Internal.Into.{bone_step, more_into}
use Rattle.tra4_bones.proofs.Repeats.{repeats_off, repeats_end, repeats_more, repeats_stop, repeats_fall, start_falls}
use Rattle.tra4_bones.proofs.Lists.{bone_keeps}
use Rattle.tra4_bones.proofs.list.more_bones.Goals as goal

rows_on : (r i n k len len' : ℕ) → len' ≡ len → k ≡ n + 1 → min i len ≡ min (n * 22) len → min r len' ≡ min (i + 22) len' → min r len' ≡ min (k * 22) len'
rows_on r i n k len len' e f h g = omega arith

pub loop-stands-init : goal.loop-stands-init
loop-stands-init c = let p = c.requires in record { same = refl; bones_long = refl; keys_long = refl; index = rw p; few = rw p (omega (arith, lex_at_count c.args.text.now c.args.at)) }

pub returns-in_err-stands : goal.returns-in_err-stands
unfolding bytes more_into
returns-in_err-stands c = parsed_exit _ _ _ _ c.from_residual.ensures.1 (c.loop-stands.invariant.same ∙ repeats_off "bone" bone_step bone bone_keeps _ _ _ (sym c.in_err-stands.ensures))

pub returns-then-not-stands : goal.returns-then-not-stands
unfolding bytes more_into
returns-then-not-stands c = sym (c.loop-stands.invariant.same ∙ repeats_end "bone" bone_step bone bone_keeps _ _ _ _ c.in_ok-stands.ensures _ c.if-not-stands.true)

pub next_bone-requires : goal.next_bone-requires
unfolding bytes
next_bone-requires c =
    let l = c.loop-stands in
    let two = start_falls "bone" bone_step bone bone_keeps _ _ _ _ c.in_ok-stands.ensures c.if-not-stands.false in
    let some = lex_at_some c.args.text.now c.in_ok-stands.start in
    (l.invariant.index, omega arith)

pub returns-in_err-b : goal.returns-in_err-b
unfolding bytes more_into
returns-in_err-b c = parsed_exit _ _ _ _ c.from_residual-in_err-b.ensures.1 (c.loop-stands.invariant.same ∙ repeats_stop "bone" bone_step bone bone_keeps _ _ _ _ c.in_ok-stands.ensures _ c.if-not-stands.false (sym c.in_err-b.ensures.key_rows_after))

pub loop-stands-smaller : goal.loop-stands-smaller
unfolding bytes
loop-stands-smaller c = repeats_fall "bone" bone_step bone bone_keeps _ _ _ _ c.in_ok-stands.ensures c.if-not-stands.false _ _ _ c.in_ok-b.ensures.key_rows_after

pub loop-stands-preserved : goal.loop-stands-preserved
unfolding bytes more_into
loop-stands-preserved c =
    let l = c.loop-stands in
    let fewer = repeats_fall "bone" bone_step bone bone_keeps _ _ _ _ c.in_ok-stands.ensures c.if-not-stands.false _ _ _ c.in_ok-b.ensures.key_rows_after in
    let one = c.in_ok-b.ensures.count_value in
    record {
      same = l.invariant.same ∙ repeats_more "bone" bone_step bone bone_keeps _ _ _ _ c.in_ok-stands.ensures _ c.if-not-stands.false _ _ c.in_ok-b.ensures.key_rows_after;
      bones_long = c.next_bone.auto.bone_rows ∙ l.invariant.bones_long;
      keys_long = c.next_bone.auto.key_rows ∙ l.invariant.keys_long;
      index = rows_on c.advance-i.result l.i l.so_far.count _ _ _ c.next_bone.auto.bone_rows one l.invariant.index c.advance-i.ensures;
      few = omega (arith, one);
    }
