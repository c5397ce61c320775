-- Document 01's listing example, by computation.
use mathlib.Core.Path.{◌≡◌, refl}
use mathlib.Core.List.{List, [], ◌∷◌, ◌++◌}
use Prim.Native.Nat.{ℕ}
use lib.IntN.{ℤ, pos, negsuc}
use lib.ListN.{replicate}
use Rattle.text_bytes.specs.Bytes.{bytes, is_blank, between, is_letter, class_of, in_line, in_string, in_word, is_digit, is_content}
use Rattle.text_runs.specs.Runs.{run, part, same}
use Rattle.text_numerals.specs.Numbers.{refusal_of, decimal_from, decimal, signed, not_empty, all_digits, int_most, whole_of, int_of, millionths, float_of, number_from, after_digits, unsigned, negative, unsigned_part, fixed_of, in_mantissa, mantissa, with_exponent, number_of, in_form}
use Rattle.text_tokens.specs.Tokens.{lexeme, tokens, lex_at, lex, first, bytes_of, width_of, is_keyword}
use Rattle.text_check.specs.Faults.{fault_in, mark_of, blank_or_end, begins, marked, text_fault}
use Rattle.parse_spec.specs.Readers.{after, ◌>>=◌, ◌>>◌, pure, stop, token_of, rest, take_if, open_bracket, close_bracket, word_of, keyword, text_end, opened_of, opened, closed, number_in, number_at, number, numbers, version_at, version, absent, name_at, string, one_from, one_of, starts, optional, trailing, many_in, many, many⁺, cells, row_of, row, head_of, head}
use Rattle.text_kinds.specs.Kinds.{is_opening, is_closing, is_end}
use Rattle.text_kinds.specs.Internal.Kinds.{is_plain}
use Rattle.parse_spec.specs.Fields.{kind, is_some, unread, complete, kind_from, fields_in, fields}
use Rattle.table_rows.specs.Flat.{flat}
use Rattle.bac6_text.specs.Grammar.{word, truth, blend, material_kinds, or_zero, material, bone_kinds, name_in, flag_in, numbers_in, bone_of, bone, face_of, face_by, face, group, name_section, texture_section, colour_section, material_section, point_section, normal_section, bone_section, uv_section, polygon_section, figure}
use Rattle.refusal.specs.Rules.{or_else, too_many}
use Rattle.bac6_text.specs.Rules.{group_faces, faces_of, counts_of, figure_counts, normals_fault, flags_of, is_set, joined, then_if, bone_list, whole_list, placed_fault, parents_in, bones_fault, entries_fine, vertices_fault, owner_from, owner_of, is_level, material_fine, face_fine, figure_fault}
use Rattle.refusal.specs.FirstBad.{all, first_bad}
use Rattle.table_references.specs.References.{is_row, is_none, same_number, member}
use Rattle.bac6_text.specs.Layout.{name_numbers, bone_row, bone_rows, owners_from, corners, face_row, group_rows, face_rows, group_names, layout_of}
use Rattle.bac6_text.specs.Answer.{figure_outcome, figure_answer, table_after}
use Rattle.refusal.specs.Outcomes.{ruled, fitted, laid}
use Rattle.parse_text.specs.Texts.{shaped, checked, outcome}
use Rattle.table_counts.specs.Counts.{figure_mosts, figure_lists}

abbrev text : List ℕ
text =
    (bytes ";BAC" ++ (10 ∷
    (bytes "(Head(bacVersion 6.0))(Figure(Materials(material" ++ (10 ∷
    (bytes "(blendMode normal)(doubleFace false)(transparent false)" ++ (10 ∷
    (bytes "(lighting true)(textureIndex -1)(colorIndex -1)(specular 0.25)))" ++ (10 ∷
    (bytes "(Vertices(coords(pnt 0 0 0)(pnt 1.5 0 0)(pnt 0 -0.000001 0))" ++ (10 ∷
    (bytes "(normals(vct 0 0 1)(vct 0 0 1)(vct 0 0 1)))" ++ (10 ∷
    (bytes "(Bones(bone(hasChild false)(hasBrother false)(translate 0 0 0)" ++ (10 ∷
    (bytes "(rotate 0 0 1)(handle 0 1 0)(vertexIndices 0 1)))" ++ (10 ∷
    (bytes "(Polygons(face 0(i3 0 1 2)(i3 -1 -1 -1))))" ++ (10 ∷ []))))))))))))))))))

abbrev rows : List ℤ
rows =
    pos 0 ∷ pos 0 ∷
    pos 0 ∷ pos 0 ∷ pos 0 ∷ pos 1 ∷ negsuc 0 ∷ negsuc 0 ∷ pos 250000 ∷ pos 0 ∷ pos 0 ∷
    pos 0 ∷ pos 0 ∷ pos 0 ∷
    pos 1500000 ∷ pos 0 ∷ pos 0 ∷
    pos 0 ∷ negsuc 0 ∷ pos 0 ∷
    pos 0 ∷ pos 0 ∷ pos 1000000 ∷
    pos 0 ∷ pos 0 ∷ pos 1000000 ∷
    pos 0 ∷ pos 0 ∷ pos 1000000 ∷
    pos 0 ∷ pos 0 ∷ pos 0 ∷ pos 0 ∷ pos 0 ∷ pos 1000000 ∷ pos 0 ∷ pos 1000000 ∷ pos 0 ∷ pos 0 ∷ pos 0 ∷ negsuc 0 ∷ pos 0 ∷ pos 0 ∷
    pos 0 ∷
    pos 0 ∷
    negsuc 0 ∷
    pos 0 ∷ pos 3 ∷ pos 0 ∷ pos 1 ∷ pos 2 ∷ negsuc 0 ∷ negsuc 0 ∷ negsuc 0 ∷ negsuc 0 ∷ negsuc 0 ∷ negsuc 0 ∷ []

pub listing_example : table_after text (replicate 60 (pos 7)) ≡ rows ++ replicate 3 (pos 7)
unfolding bytes is_blank between is_letter class_of in_line in_string in_word is_digit is_content run part same refusal_of decimal_from decimal signed not_empty all_digits int_most whole_of int_of millionths float_of number_from after_digits unsigned negative unsigned_part fixed_of in_mantissa mantissa with_exponent number_of in_form lexeme tokens lex_at lex first bytes_of width_of is_keyword fault_in mark_of blank_or_end begins marked text_fault after ◌>>=◌ ◌>>◌ pure stop token_of rest is_opening is_closing is_plain is_end take_if open_bracket close_bracket word_of keyword text_end opened_of opened closed number_in number_at number numbers version_at version absent name_at string one_from one_of starts optional trailing many_in many many⁺ cells row_of row head_of head kind is_some unread complete kind_from fields_in fields flat word truth blend material_kinds or_zero material bone_kinds name_in flag_in numbers_in bone_of bone face_of face_by face group name_section texture_section colour_section material_section point_section normal_section bone_section uv_section polygon_section figure or_else group_faces faces_of counts_of figure_counts figure_lists figure_mosts too_many normals_fault flags_of is_set joined then_if bone_list whole_list placed_fault parents_in bones_fault is_row is_none same_number member all first_bad entries_fine vertices_fault owner_from owner_of is_level material_fine face_fine figure_fault name_numbers bone_row bone_rows owners_from corners face_row group_rows face_rows group_names layout_of ruled shaped checked outcome figure_outcome fitted figure_answer laid table_after
listing_example = refl
