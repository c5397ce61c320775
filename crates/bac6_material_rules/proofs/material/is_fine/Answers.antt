-- `is_fine` is the definition, whose tests are joined in the same order.
use Rattle.std.proofs.Common.{◌≡◌, ◌&&◌, ℕ, pos, slice_index_or, refl, ◌∙◌, rules}
use Rattle.signed.proofs.Tests.{tested}
use Rattle.bac6_text.specs.Rules.{is_level, material_fine}
use Rattle.table_references.specs.Index.{is_index}
use Rattle.bac6_material_rules.proofs.Materials.{joined, ended}
use Rattle.bac6_material_rules.proofs.material.is_fine.Goals as goal
use Rattle.bac6_material_rules.proofs.material.is_fine.Goals.{then-is_index, else-is_index, then-is_index-2, else-is_index-2, then-is_level, else-is_level}

pub returns-then-is_level-2 : goal.returns-then-is_level-2
unfolding material_fine is_index
returns-then-is_level-2 c =
    let a = c.args in
    let m = λ (k : ℕ). slice_index_or a.m.now k (pos 0) in
    let two : c.if-is_index.value ≡ (is_index a.textures (m 4) && is_index a.colours (m 5)) =
    elim c.if-is_index.branch [
      | then-is_index w ↦ joined (w.value-is ∙ tested (is_index a.colours) (m 5) (search rules) w.is_index-then-is_index.ensures) (tested (is_index a.textures) (m 4) (search rules) c.is_index.ensures) w.if-is_index.true
      | else-is_index w ↦ ended (is_index a.colours (m 5)) w.value-is (tested (is_index a.textures) (m 4) (search rules) c.is_index.ensures) w.if-is_index.false
    ] in
    let three : c.if-is_index-2.value ≡ (is_index a.textures (m 4) && is_index a.colours (m 5) && is_level (m 6)) =
    elim c.if-is_index-2.branch [
      | then-is_index-2 w ↦ joined (w.value-is ∙ tested is_level (m 6) (search rules) w.is_level.ensures) two w.if-is_index-2.true
      | else-is_index-2 w ↦ ended (is_level (m 6)) w.value-is two w.if-is_index-2.false
    ] in
    let four : c.if-is_level.value ≡ (is_index a.textures (m 4) && is_index a.colours (m 5) && is_level (m 6) && is_level (m 7)) =
    elim c.if-is_level.branch [
      | then-is_level w ↦ joined (w.value-is ∙ tested is_level (m 7) (search rules) w.is_level-then-is_level.ensures) three w.if-is_level.true
      | else-is_level w ↦ ended (is_level (m 7)) w.value-is three w.if-is_level.false
    ] in
    joined (tested is_level (m 8) (search rules) c.is_level-then-is_level-2.ensures) four c.if-is_level-2.true

pub returns-else-is_level-2 : goal.returns-else-is_level-2
unfolding material_fine is_index
returns-else-is_level-2 c =
    let a = c.args in
    let m = λ (k : ℕ). slice_index_or a.m.now k (pos 0) in
    let two : c.if-is_index.value ≡ (is_index a.textures (m 4) && is_index a.colours (m 5)) =
    elim c.if-is_index.branch [
      | then-is_index w ↦ joined (w.value-is ∙ tested (is_index a.colours) (m 5) (search rules) w.is_index-then-is_index.ensures) (tested (is_index a.textures) (m 4) (search rules) c.is_index.ensures) w.if-is_index.true
      | else-is_index w ↦ ended (is_index a.colours (m 5)) w.value-is (tested (is_index a.textures) (m 4) (search rules) c.is_index.ensures) w.if-is_index.false
    ] in
    let three : c.if-is_index-2.value ≡ (is_index a.textures (m 4) && is_index a.colours (m 5) && is_level (m 6)) =
    elim c.if-is_index-2.branch [
      | then-is_index-2 w ↦ joined (w.value-is ∙ tested is_level (m 6) (search rules) w.is_level.ensures) two w.if-is_index-2.true
      | else-is_index-2 w ↦ ended (is_level (m 6)) w.value-is two w.if-is_index-2.false
    ] in
    let four : c.if-is_level.value ≡ (is_index a.textures (m 4) && is_index a.colours (m 5) && is_level (m 6) && is_level (m 7)) =
    elim c.if-is_level.branch [
      | then-is_level w ↦ joined (w.value-is ∙ tested is_level (m 7) (search rules) w.is_level-then-is_level.ensures) three w.if-is_level.true
      | else-is_level w ↦ ended (is_level (m 7)) w.value-is three w.if-is_level.false
    ] in
    ended (is_level (m 8)) refl four c.if-is_level-2.false
