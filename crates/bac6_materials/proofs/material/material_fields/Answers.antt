-- Each way out of a turn by the law of a head that is refused, of none, or of a chunk.
use Rattle.std.proofs.Common.{rules, refl, arith, ◌∙◌, sym}
use mir.Syntax.{w64}
use mir.Val.{SFits}
use mir.Facts.{to_z-of_z}
use Rattle.std.proofs.Math.ListN.{length-set}
use Rattle.text_bytes.specs.Bytes.{bytes}
use Rattle.parse_cursor.proofs.Steps.{reads_exit}
use Rattle.bac6_materials.proofs.Chunks.{between_start, fields_off, fields_end, field_row, field_left, field_off, field_on}
use Rattle.bac6_materials.proofs.material.material_fields.Goals as goal

pub loop-chunk-init : goal.loop-chunk-init
loop-chunk-init c = (between_start _ _ _ _ c.requires refl, rw c.requires refl)

pub returns-in_err-chunk : goal.returns-in_err-chunk
unfolding bytes
returns-in_err-chunk c = reads_exit _ _ _ _ c.from_residual-in_err-chunk.ensures.1 (rw c.in_ok-at.was (fields_off _ _ _ _ _ _ c.loop-chunk.invariant.0 (sym c.in_err-chunk.ensures.kind_value)))

pub returns-in_default : goal.returns-in_default
unfolding bytes
returns-in_default c = rw c.in_ok-at.was (fields_end _ _ _ _ _ _ c.loop-chunk.invariant.0 _ _ c.in_ok-chunk.ensures.kind_value (search rules))

pub material_value-requires : goal.material_value-requires
unfolding bytes
material_value-requires c = field_row _ _ _ _ _ _ c.loop-chunk.invariant.0 _ _ c.in_ok-chunk.ensures.kind_value _ c.in-Some.is

pub returns-in_err-value : goal.returns-in_err-value
unfolding bytes
returns-in_err-value c = reads_exit _ _ _ _ c.from_residual-in_err-value.ensures.1 (rw c.in_ok-at.was (field_off _ _ _ _ _ _ c.loop-chunk.invariant.0 _ _ c.in_ok-chunk.ensures.kind_value _ c.in-Some.is (sym c.in_err-value.ensures)))

pub offset_bounds-row-k : goal.offset_bounds-row-k
unfolding bytes
offset_bounds-row-k c = let h = field_row _ _ _ _ _ _ c.loop-chunk.invariant.0 _ _ c.in_ok-chunk.ensures.kind_value _ c.in-Some.is in omega arith

pub bounds-row-k : goal.bounds-row-k
unfolding bytes
bounds-row-k c = let h = field_row _ _ _ _ _ _ c.loop-chunk.invariant.0 _ _ c.in_ok-chunk.ensures.kind_value _ c.in-Some.is in omega arith

pub overflow_sub-left : goal.overflow_sub-left
unfolding bytes
overflow_sub-left c = let h = field_left _ _ _ _ _ _ c.loop-chunk.invariant.0 _ _ c.in_ok-chunk.ensures.kind_value _ c.in-Some.is in omega arith

pub loop-chunk-smaller : goal.loop-chunk-smaller
unfolding bytes
loop-chunk-smaller c = let h = field_left _ _ _ _ _ _ c.loop-chunk.invariant.0 _ _ c.in_ok-chunk.ensures.kind_value _ c.in-Some.is in omega arith

pub loop-chunk-preserved : goal.loop-chunk-preserved
unfolding bytes
loop-chunk-preserved c =
    let f : SFits w64 c.in_ok-value.value = search rules in
    rw (to_z-of_z f)
    (field_on _ _ _ _ _ _ c.loop-chunk.invariant.0 _ _ c.in_ok-chunk.ensures.kind_value _ c.in-Some.is _ _ c.in_ok-value.ensures _ (rw c.in-Some.is at c.in_ok-chunk.ensures.seen_after), length-set _ _ _ ∙ c.loop-chunk.invariant.1)
