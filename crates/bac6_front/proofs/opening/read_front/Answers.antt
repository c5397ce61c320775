-- `read_front` is the front of a figure: its sections one after the other.
use Rattle.std.proofs.Common.{refl, sym}
use Rattle.text_bytes.specs.Bytes.{bytes}
use Rattle.text_numerals.specs.Numbers.{INT, FLOAT}
use Rattle.parse_numbers.specs.Internal.Answers.{form_named}
use Rattle.parse_spec.specs.Readers.{head, opened}
use Rattle.parse_spec.specs.Internal.Places.{optional_name}
use Rattle.parse_cursor.proofs.Steps.{parsed_exit, join, seq, halt}
use Rattle.bac6_text.specs.Grammar.{name_section, texture_section, colour_section}
use Rattle.bac6_front.specs.Internal.Answers.{front_value}
use Rattle.bac6_front.specs.Internal.Front.{name_into, front_into}
use Rattle.bac6_section.proofs.Laid.{then_read, section_list}
use Rattle.bac6_front.proofs.opening.read_front.Goals as goal

pub returns-in_err-name-clause-content : goal.returns-in_err-name-clause-content
unfolding front_into name_into name_section optional_name head opened bytes
returns-in_err-name-clause-content c =
    parsed_exit _ _ _ _ c.from_residual.ensures.1 (halt _ _ _ (sym (then_read _ _ _ _ _ _ _ (seq _ _ _ _ _ _ c.head-head.ensures c.opened.ensures) c.in_err-name.ensures)) _)

pub returns-in_err-t-clause-content : goal.returns-in_err-t-clause-content
unfolding front_into name_into name_section optional_name texture_section head opened bytes form_named
returns-in_err-t-clause-content c =
    parsed_exit _ _ _ _ c.from_residual-in_err-t.ensures.1
    (sym (join _ _ _ _ _ _ (then_read _ _ _ _ _ _ _ (seq _ _ _ _ _ _ c.head-head.ensures c.opened.ensures) c.in_ok-name.ensures)
    (sym (halt _ _ _ (sym (section_list "Textures" "i2" INT 2 _ _ _ c.in_err-t.ensures.content)) _))))

pub returns-in_err-k-clause-content : goal.returns-in_err-k-clause-content
unfolding front_into name_into name_section optional_name texture_section colour_section head opened bytes form_named
returns-in_err-k-clause-content c =
    parsed_exit _ _ _ _ c.from_residual-in_err-k.ensures.1
    (sym (join _ _ _ _ _ _ (then_read _ _ _ _ _ _ _ (seq _ _ _ _ _ _ c.head-head.ensures c.opened.ensures) c.in_ok-name.ensures)
    (join _ _ _ _ _ _ (section_list "Textures" "i2" INT 2 _ _ _ c.in_ok-t.ensures.content)
    (sym (halt _ _ _ (sym (section_list "Colors" "f3" FLOAT 3 _ _ _ c.in_err-k.ensures.content)) _)))))

pub returns-in_err-m-clause-content : goal.returns-in_err-m-clause-content
unfolding front_into name_into name_section optional_name texture_section colour_section head opened bytes form_named
returns-in_err-m-clause-content c =
    parsed_exit _ _ _ _ c.from_residual-in_err-m.ensures.1
    (sym (join _ _ _ _ _ _ (then_read _ _ _ _ _ _ _ (seq _ _ _ _ _ _ c.head-head.ensures c.opened.ensures) c.in_ok-name.ensures)
    (join _ _ _ _ _ _ (section_list "Textures" "i2" INT 2 _ _ _ c.in_ok-t.ensures.content)
    (join _ _ _ _ _ _ (section_list "Colors" "f3" FLOAT 3 _ _ _ c.in_ok-k.ensures.content)
    (sym (halt _ _ _ (sym c.in_err-m.ensures) _))))))

pub returns-in_err-p-clause-content : goal.returns-in_err-p-clause-content
unfolding front_into name_into name_section optional_name texture_section colour_section head opened bytes form_named
returns-in_err-p-clause-content c =
    parsed_exit _ _ _ _ c.from_residual-in_err-p.ensures.1
    (sym (join _ _ _ _ _ _ (then_read _ _ _ _ _ _ _ (seq _ _ _ _ _ _ c.head-head.ensures c.opened.ensures) c.in_ok-name.ensures)
    (join _ _ _ _ _ _ (section_list "Textures" "i2" INT 2 _ _ _ c.in_ok-t.ensures.content)
    (join _ _ _ _ _ _ (section_list "Colors" "f3" FLOAT 3 _ _ _ c.in_ok-k.ensures.content)
    (join _ _ _ _ _ _ c.in_ok-m.ensures
    (sym (halt _ _ _ (sym c.in_err-p.ensures) _)))))))

pub returns-in_err-v-clause-content : goal.returns-in_err-v-clause-content
unfolding front_into name_into name_section optional_name texture_section colour_section head opened bytes form_named
returns-in_err-v-clause-content c =
    parsed_exit _ _ _ _ c.from_residual-in_err-v.ensures.1
    (sym (join _ _ _ _ _ _ (then_read _ _ _ _ _ _ _ (seq _ _ _ _ _ _ c.head-head.ensures c.opened.ensures) c.in_ok-name.ensures)
    (join _ _ _ _ _ _ (section_list "Textures" "i2" INT 2 _ _ _ c.in_ok-t.ensures.content)
    (join _ _ _ _ _ _ (section_list "Colors" "f3" FLOAT 3 _ _ _ c.in_ok-k.ensures.content)
    (join _ _ _ _ _ _ c.in_ok-m.ensures
    (join _ _ _ _ _ _ c.in_ok-p.ensures
    (sym (halt _ _ _ (sym c.in_err-v.ensures.content) _))))))))

pub returns-clause-content : goal.returns-clause-content
unfolding front_into front_value name_into name_section optional_name texture_section colour_section head opened bytes form_named
returns-clause-content c =
    join _ _ _ _ _ _ (then_read _ _ _ _ _ _ _ (seq _ _ _ _ _ _ c.head-head.ensures c.opened.ensures) c.in_ok-name.ensures)
    (join _ _ _ _ _ _ (section_list "Textures" "i2" INT 2 _ _ _ c.in_ok-t.ensures.content)
    (join _ _ _ _ _ _ (section_list "Colors" "f3" FLOAT 3 _ _ _ c.in_ok-k.ensures.content)
    (join _ _ _ _ _ _ c.in_ok-m.ensures
    (join _ _ _ _ _ _ c.in_ok-p.ensures
    (join _ _ _ _ _ _ c.in_ok-v.ensures.content
    refl)))))
