-- `material_tail` is a material's row, set down in the table.
use Rattle.text_bytes.specs.Bytes.{bytes}
use Rattle.parse_cursor.proofs.Steps.{reads_exit, stopped}
use Rattle.bac6_materials.proofs.Chunks.{material_on, material_off}
use Rattle.bac6_materials.proofs.material.material_tail.Goals as goal

pub returns-in_err-at : goal.returns-in_err-at
unfolding bytes
returns-in_err-at c = reads_exit _ _ _ _ c.from_residual.ensures.1 (material_off _ _ _ c.keyword-d.ensures _ _ (stopped _ _ _ c.in_err-at.ensures))

pub returns : goal.returns
unfolding bytes
returns c = rw c.store.ensures (material_on _ _ _ c.keyword-d.ensures _ _ _ _ c.in_ok-at.ensures)
