-- `movement_bone` is the definition: the tests of the table and the bone, then the row from where the bones begin.
use mathlib.Core.Path.{◌≡◌, refl, ap, sym, ◌∙◌}
use mathlib.Core.Bool.{true}
use Prim.Native.Nat.{ℕ, ◌+◌, ◌*◌, ◌≤◌, ◌<◌}
use lib.ListN.{length}
use native.Mathlib.Omega.{arith}
use Rattle.table_columns.proofs.Parts.{part-numbers}
use Rattle.table_movement.specs.declared.sections.MovementSections.{MovementSections}
use Rattle.table_movement.specs.Sections.{movement_sections, holds_movement}
use Rattle.table_movement.proofs.Mosts.{movement_none, movement-held, movement-found}
use Rattle.table_columns.proofs.SmallIndices.{small_fits, byte_fits}
use Rattle.table_movement.proofs.Indices.{movement_bone-place}
use Rattle.table_bones.proofs.BoneRows.{no_movement_lem, no_movement-row, movement-row}
use borrow.Author.Rules.{rules}
use Rattle.table_bones.proofs.bones.movement_bone.Statement.{statement}
use Rattle.table_bones.proofs.bones.movement_bone.Tie as tie

held : (e : tie.Else-s-eq0) → holds_movement e.args.m e.args.moves.now ≡ true
held e = movement-held _ _ _ e.movement_in-s.ensures e.if-s-eq0.false

is-bone : (e : tie.Else-m-bone) → e.args.bone < e.args.m.bones
is-bone e = (let h = e.if-m-bone.false in omega arith)

-- where the bone's row begins, and that it lies within the table
begins : (e : tie.Else-m-bone) → e.movement_in-s.result.bones + e.args.bone * 22 ≡ 3 + e.args.bone * 22
begins e =
    ap (λ (s : MovementSections). s.bones + e.args.bone * 22) (movement-found _ _ _ e.movement_in-s.ensures e.if-s-eq0.false)
    ∙ unfold movement_sections in refl

place : (e : tie.Else-m-bone) → (3 + e.args.bone * 22 + 22 ≤ length e.args.moves.now) × (3 + e.args.bone * 22 + 22 ≤ 40000)
place e = movement_bone-place _ _ (held e.before.before) _ (is-bone e)

movement-in-requires : tie.Need-movement_in-s-requires
movement-in-requires c κs = search rules

slice-aggregate-result : tie.Need-slice_bounds-result-end
slice-aggregate-result c = search rules

returns : tie.Need-returns-then-s-eq0
returns c = no_movement_lem _ _ _ (movement_none _ _ _ c.movement_in-s.ensures c.if-s-eq0.true)

slice-aggregate-result-2 : tie.Need-slice_bounds-result-end-then-m-bone
slice-aggregate-result-2 c = search rules

returns-2 : tie.Need-returns-then-m-bone
returns-2 c = no_movement-row _ _ _ (held c.before.before) c.if-m-bone.true

mul-base : tie.Need-overflow_mul-base
mul-base c = (let h = place c in small_fits _ (c.args.bone * 22) refl (omega arith))

add-base : tie.Need-overflow_add-base
add-base c = (let h = place c.before in small_fits _ _ (begins c.before) (omega arith))

add-result : tie.Need-overflow_add-result
add-result c = small_fits _ _ (ap (λ (x : ℕ). x + 22) (begins c.before)) (place c.before).1

mul-result : tie.Need-offset_bounds-moves-base
mul-result c = (let h = place c.before in byte_fits _ _ (begins c.before) (omega arith))

sub-result : tie.Need-slice_bounds-result-count
sub-result c = search rules

part-result-start : tie.Need-slice_bounds-result-start
part-result-start c = search rules

part-result-end : tie.Need-slice_bounds-result-end-2
part-result-end c = (let h = place c.before in let e = begins c.before in omega arith)

returns-3 : tie.Need-returns
returns-3 c = part-numbers _ _ 22 _ (begins c.before.before) ∙ movement-row _ _ _ (held c.before.before.before.before) (is-bone c.before.before)

pub movement_bone_spec : {M : Type 1} → statement M
movement_bone_spec = tie.close (tie.spec movement-in-requires slice-aggregate-result returns slice-aggregate-result-2 returns-2 mul-base add-base add-result mul-result sub-result part-result-start part-result-end returns-3)
