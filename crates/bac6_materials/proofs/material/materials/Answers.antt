-- `materials` is the first material and then the others.
use Rattle.std.proofs.Common.{Ok, refl, sym, ◌∙◌}
use Rattle.parse_cursor.proofs.Steps.{parsed_exit, stopped, from-same}
use Rattle.parse_rows.specs.Internal.Folds.{row_step}
use Rattle.parse_rows.proofs.Folds.{folded-first, first_stop, row-stepped, row_refused}
use Rattle.bac6_text.specs.Grammar.{material}
use Rattle.bac6_materials.specs.Internal.Into.{material_tail, material_into}
use Rattle.bac6_materials.proofs.Chunks.{material_opens}
use Rattle.bac6_materials.proofs.Rows.{materials-same}
use Rattle.bac6_materials.proofs.material.materials.Goals as goal

pub returns-in_err-first : goal.returns-in_err-first
unfolding material_into
returns-in_err-first c =
    parsed_exit _ _ _ _ c.from_residual.ensures.1
    (from-same _ _ _ _ (materials-same _)
    ∙ first_stop (row_step 9) material material_tail material_opens _ _ _ _ c.opening.ensures (row_refused material_tail 9 0 0 _ _ _ refl (stopped _ _ _ c.in_err-first.ensures)))

pub returns : goal.returns
unfolding material_into
returns c =
    folded-first (row_step 9) material material_tail material_opens _ _ _ _ (Ok _) _ c.opening.ensures
    (row-stepped material_tail 9 0 0 _ _ _ refl _ _ c.in_ok-first.ensures) c.more_materials.ensures
    ∙ sym (from-same _ _ _ _ (materials-same _))
