-- `parse` is the front, the bones, the uvs and the end of a figure, one after the other.
use Rattle.std.proofs.Common.{refl, sym, ◌∙◌}
use Rattle.text_bytes.specs.Bytes.{bytes}
use Rattle.text_numerals.specs.Numbers.{FLOAT}
use Rattle.parse_numbers.specs.Internal.Answers.{form_named}
use Rattle.parse_cursor.proofs.Counts.{whole-text}
use Rattle.parse_cursor.proofs.Steps.{parsed_exit, join, halt}
use Rattle.bac6_text.specs.Grammar.{uv_section}
use Rattle.bac6_front.specs.Internal.Answers.{front_value}
use Rattle.bac6_section.proofs.Laid.{section_list}
use Rattle.bac6_shape.specs.Internal.Answers.{kept_by}
use Rattle.bac6_shape.proofs.Figures.{kept, back_steps, figure-steps}
use Rattle.bac6_shape.proofs.shape.parse.Goals as goal

pub returns-in_err-f : goal.returns-in_err-f
returns-in_err-f c =
    let a = c.args in
    parsed_exit _ _ _ _ c.from_residual.ensures.1
    (sym (whole-text a.text.now _ ∙ figure-steps a.rows.now a.owners.now a.names.now _)
    ∙ halt _ _ _ (sym c.in_err-f.ensures.content) (back_steps a.rows.now a.owners.now a.names.now))

pub returns-in_err-b : goal.returns-in_err-b
unfolding back_steps front_value
returns-in_err-b c =
    let a = c.args in
    parsed_exit _ _ _ _ c.from_residual-in_err-b.ensures.1
    (sym (join _ _ _ _ _ (back_steps a.rows.now a.owners.now a.names.now) c.in_ok-f.ensures.content
    (sym (halt _ _ _ (sym c.in_err-b.ensures) _))
    ∙ whole-text a.text.now _
    ∙ figure-steps a.rows.now a.owners.now a.names.now _))

pub returns-in_err-u : goal.returns-in_err-u
unfolding back_steps front_value uv_section bytes form_named
returns-in_err-u c =
    let a = c.args in
    parsed_exit _ _ _ _ c.from_residual-in_err-u.ensures.1
    (sym (join _ _ _ _ _ (back_steps a.rows.now a.owners.now a.names.now) c.in_ok-f.ensures.content
    (join _ _ _ _ _ _ c.in_ok-b.ensures
    (sym (halt _ _ _ (sym (section_list "TextureCoords" "f2" FLOAT 2 _ _ _ c.in_err-u.ensures.content)) _)))
    ∙ whole-text a.text.now _
    ∙ figure-steps a.rows.now a.owners.now a.names.now _))

pub returns-in_err-q : goal.returns-in_err-q
unfolding back_steps front_value uv_section bytes form_named
returns-in_err-q c =
    let a = c.args in
    parsed_exit _ _ _ _ c.from_residual-in_err-q.ensures.1
    (sym (join _ _ _ _ _ (back_steps a.rows.now a.owners.now a.names.now) c.in_ok-f.ensures.content
    (join _ _ _ _ _ _ c.in_ok-b.ensures
    (join _ _ _ _ _ _ (section_list "TextureCoords" "f2" FLOAT 2 _ _ _ c.in_ok-u.ensures.content)
    (sym (halt _ _ _ (sym c.in_err-q.ensures) _))))
    ∙ whole-text a.text.now _
    ∙ figure-steps a.rows.now a.owners.now a.names.now _))

pub returns : goal.returns
unfolding back_steps kept kept_by front_value uv_section bytes form_named
returns c =
    let a = c.args in
    join _ _ _ _ _ (back_steps a.rows.now a.owners.now a.names.now) c.in_ok-f.ensures.content
    (join _ _ _ _ _ _ c.in_ok-b.ensures
    (join _ _ _ _ _ _ (section_list "TextureCoords" "f2" FLOAT 2 _ _ _ c.in_ok-u.ensures.content)
    (join _ _ _ _ _ _ c.in_ok-q.ensures
    refl)))
    ∙ whole-text a.text.now _
    ∙ figure-steps a.rows.now a.owners.now a.names.now _
