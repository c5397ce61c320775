-- `figure_bone` is the definition: the tests of the table and the bone, then the row from where the bones begin.
use mathlib.Core.Path.{◌≡◌, refl, ap, sym, ◌∙◌}
use mathlib.Core.Bool.{true}
use Prim.Native.Nat.{ℕ, ◌+◌, ◌*◌, ◌≤◌, ◌<◌}
use lib.ListN.{length}
use native.Mathlib.Omega.{arith}
use Rattle.table_columns.proofs.Parts.{part-numbers}
use Rattle.table_figure.specs.declared.sections.FigureSections.{FigureSections}
use Rattle.table_figure.specs.Sections.{bones_begin, figure_sections, holds_figure}
use Rattle.table_figure.proofs.Mosts.{figure_none, figure-held, figure-found}
use Rattle.table_columns.proofs.SmallIndices.{small_fits, byte_fits}
use Rattle.table_figure.proofs.Indices.{bone-place}
use Rattle.table_bones.proofs.BoneRows.{no_figure_lem, no_figure-row, figure-row}
use borrow.Author.Rules.{rules}
use Rattle.table_bones.proofs.bones.figure_bone.Statement.{statement}
use Rattle.table_bones.proofs.bones.figure_bone.Tie as tie

held : (e : tie.Else-s-eq0) → holds_figure e.args.n e.args.table.now ≡ true
held e = figure-held _ _ _ e.figure_in-s.ensures e.if-s-eq0.false

is-bone : (e : tie.Else-n-bone) → e.args.bone < e.args.n.bones
is-bone e = (let h = e.if-n-bone.false in omega arith)

-- where the bone's row begins, and that it lies within the table
begins : (e : tie.Else-n-bone) → e.figure_in-s.result.bones + e.args.bone * 14 ≡ bones_begin e.args.n + e.args.bone * 14
begins e =
    ap (λ (s : FigureSections). s.bones + e.args.bone * 14) (figure-found _ _ _ e.figure_in-s.ensures e.if-s-eq0.false)
    ∙ unfold figure_sections in refl

place : (e : tie.Else-n-bone) → (bones_begin e.args.n + e.args.bone * 14 + 14 ≤ length e.args.table.now) × (bones_begin e.args.n + e.args.bone * 14 + 14 ≤ 40000)
place e = bone-place _ _ (held e.before.before) _ (is-bone e)

figure-in-requires : tie.Need-figure_in-s-requires
figure-in-requires c κs = search rules

slice-aggregate-result : tie.Need-slice_bounds-result-end
slice-aggregate-result c = search rules

returns : tie.Need-returns-then-s-eq0
returns c = no_figure_lem _ _ _ (figure_none _ _ _ c.figure_in-s.ensures c.if-s-eq0.true)

slice-aggregate-result-2 : tie.Need-slice_bounds-result-end-then-n-bone
slice-aggregate-result-2 c = search rules

returns-2 : tie.Need-returns-then-n-bone
returns-2 c = no_figure-row _ _ _ (held c.before.before) c.if-n-bone.true

mul-base : tie.Need-overflow_mul-base
mul-base c = (let h = place c in small_fits _ (c.args.bone * 14) refl (omega arith))

add-base : tie.Need-overflow_add-base
add-base c = (let h = place c.before in small_fits _ _ (begins c.before) (omega arith))

add-result : tie.Need-overflow_add-result
add-result c = small_fits _ _ (ap (λ (x : ℕ). x + 14) (begins c.before)) (place c.before).1

mul-result : tie.Need-offset_bounds-table-base
mul-result c = (let h = place c.before in byte_fits _ _ (begins c.before) (omega arith))

sub-result : tie.Need-slice_bounds-result-count
sub-result c = search rules

part-result-start : tie.Need-slice_bounds-result-start
part-result-start c = search rules

part-result-end : tie.Need-slice_bounds-result-end-2
part-result-end c = (let h = place c.before in let e = begins c.before in omega arith)

returns-3 : tie.Need-returns
returns-3 c = part-numbers _ _ 14 _ (begins c.before.before) ∙ figure-row _ _ _ (held c.before.before.before.before) (is-bone c.before.before)

pub figure_bone_spec : {M : Type 1} → statement M
figure_bone_spec = tie.close (tie.spec figure-in-requires slice-aggregate-result returns slice-aggregate-result-2 returns-2 mul-base add-base add-result mul-result sub-result part-result-start part-result-end returns-3)
