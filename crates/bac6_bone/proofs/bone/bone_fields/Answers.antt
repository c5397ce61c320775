-- Each way out of a turn by the law of a head that is refused, of none, or of a chunk.
use Rattle.std.proofs.Common.{rules, refl, sym, arith}
use mir.Facts.{to_z-of_z}
use Rattle.text_bytes.specs.Bytes.{bytes}
use Rattle.parse_cursor.proofs.Steps.{parsed_exit}
use Rattle.bac6_bone.proofs.Turns.{between_start, fields_off, fields_end, field_row, field_left, field_off, field_on}
use Rattle.bac6_bone.proofs.bone.bone_fields.Goals as goal

pub loop-chunk-init : goal.loop-chunk-init
loop-chunk-init c = between_start _ _ _ _ _ _ _ c.requires refl

pub returns-in_err-chunk : goal.returns-in_err-chunk
unfolding bytes
returns-in_err-chunk c = parsed_exit _ _ _ _ c.from_residual-in_err-chunk.ensures.1 (rw c.in_ok-at.was (rw (to_z-of_z c.ranges.bone) at (fields_off _ _ _ _ _ _ _ _ _ c.loop-chunk.invariant (sym c.in_err-chunk.ensures.kind_value))))

pub returns-in_default : goal.returns-in_default
unfolding bytes
returns-in_default c = rw c.in_ok-at.was (rw (to_z-of_z c.ranges.bone) at (fields_end _ _ _ _ _ _ _ _ _ c.loop-chunk.invariant _ _ c.in_ok-chunk.ensures.kind_value (search rules)))

pub bone_value-requires : goal.bone_value-requires
unfolding bytes
bone_value-requires c = field_row _ _ _ _ _ _ _ _ _ c.loop-chunk.invariant _ _ c.in_ok-chunk.ensures.kind_value _ c.in-Some.is

pub returns-in_err-still : goal.returns-in_err-still
unfolding bytes
returns-in_err-still c =
    parsed_exit _ _ _ _ c.from_residual-in_err-still.ensures.1
    (rw c.in_ok-at.was (rw (to_z-of_z c.ranges.bone) at (field_off _ _ _ _ _ _ _ _ _ c.loop-chunk.invariant _ _ c.in_ok-chunk.ensures.kind_value _ c.in-Some.is (sym c.in_err-still.ensures))))

pub overflow_sub-left : goal.overflow_sub-left
unfolding bytes
overflow_sub-left c = let h = field_left _ _ _ _ _ _ _ _ _ c.loop-chunk.invariant _ _ c.in_ok-chunk.ensures.kind_value _ c.in-Some.is in omega arith

pub loop-chunk-smaller : goal.loop-chunk-smaller
unfolding bytes
loop-chunk-smaller c = let h = field_left _ _ _ _ _ _ _ _ _ c.loop-chunk.invariant _ _ c.in_ok-chunk.ensures.kind_value _ c.in-Some.is in omega arith

pub loop-chunk-preserved : goal.loop-chunk-preserved
unfolding bytes
loop-chunk-preserved c = field_on _ _ _ _ _ _ _ _ _ c.loop-chunk.invariant _ _ c.in_ok-chunk.ensures.kind_value _ c.in-Some.is _ _ c.in_ok-still.ensures _ (rw c.in-Some.is at c.in_ok-chunk.ensures.seen_after)
