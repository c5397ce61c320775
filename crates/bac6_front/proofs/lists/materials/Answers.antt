-- `materials` is the materials' section, laid over the table's last part.
use Rattle.text_bytes.specs.Bytes.{bytes}
use Rattle.parse_spec.specs.Readers.{opened}
use Rattle.bac6_materials.specs.Internal.Into.{materials_into}
use Rattle.bac6_text.specs.Grammar.{material_section}
use Rattle.bac6_section.proofs.Laid.{then_read, list_read, lent_read, ended}
use Rattle.bac6_front.proofs.lists.materials.Goals as goal

pub returns : goal.returns
unfolding material_section materials_into opened bytes
returns c =
    let a = c.args in
    ended _ _ _ _ _ c.with_end.ensures _ (list_read _ _ _ material_section 9 a.at a.rows.now _ (then_read _ _ _ _ _ _ _ c.opened-begun.ensures (lent_read _ _ _ _ a.at a.rows.now _ c.requires c.materials-k.ensures)))
