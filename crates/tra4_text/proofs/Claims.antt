-- Worked movements, by computation: the tables of whole texts, channels left out among them, what refuses each text at its place, and both sides of the rules 8 and 14.
use mathlib.Core.Path.{◌≡◌, refl}
use mathlib.Core.List.{List, [], ◌∷◌, ◌++◌, map}
use Prim.Native.Nat.{ℕ}
use Prim.Native.String.{String}
use lib.ListN.{length, replicate}
use lib.IntN.{ℤ, pos, negsuc}
use Rattle.text_bytes.specs.Bytes.{bytes, is_blank, between, is_letter, class_of, in_line, in_string, is_digit, is_content}
use Rattle.text_runs.specs.Runs.{run, same}
use Rattle.text_tokens.specs.Tokens.{lexeme, tokens, lex, is_keyword}
use Rattle.text_numerals.specs.Numbers.{decimal_from, decimal, signed, not_empty, all_digits, int_most, whole_of, int_of, millionths, float_of, number_from, after_digits, unsigned, negative, unsigned_part, fixed_of, in_mantissa, mantissa, with_exponent, number_of, refusal_of}
use Rattle.text_check.specs.Faults.{fault_in, mark_of, blank_or_end, begins, marked, text_fault}
use Rattle.refusal.specs.Faults.{clear, fault}
use Rattle.parse_spec.specs.Readers.{row_of, cells, after, ◌>>=◌, ◌>>◌, pure, stop, token_of, rest, take_if, open_bracket, close_bracket, word_of, text_end, opened_of, opened, closed, number_in, number_at, number, numbers, version_at, version, absent, name_at, string, one_from, one_of, starts, optional, trailing, many_in, many, many⁺, head_of, head}
use Rattle.text_kinds.specs.Kinds.{is_opening, is_closing, is_end}
use Rattle.parse_spec.specs.Fields.{kind, is_some, unread, complete, kind_from, fields_in, fields}
use Rattle.table_rows.specs.Flat.{flat}
use Rattle.tra4_text.specs.Movement.{Movement, frame_of, group_of}
use Rattle.tra4_text.specs.Grammar.{repeated_in, repeated, repeated⁺, key, channel_names, channel, channel_kinds, keys_in, bone, word, truth, pattern, movement}
use Rattle.tra4_text.specs.Rules.{channels_of, all_keys, key_rows, counts_of, movement_counts, total_fault, is_frame, is_zero, rises, key_fine, channel_fault, keys_fault, pattern_fine, has_start, start_fault, patterns_fault, movement_fault}
use Rattle.tra4_text.specs.Layout.{name_numbers, first_row, key_ranges, bone_row, bone_rows, layout_of}
use Rattle.tra4_text.specs.Answer.{movement_outcome, movement_answer, movement_table}
use Rattle.refusal.specs.FirstBad.{first_bad}
use Rattle.refusal.specs.Rules.{or_else, too_many}
use Rattle.refusal.specs.Outcomes.{Outcome, rejected, accepted, ruled, fitted, laid}
use Rattle.parse_text.specs.Texts.{shaped, checked, outcome}
use Rattle.table_counts.specs.Counts.{movement_mosts, movement_lists}

-- ---- a text of two bones, their channels out of order, and the table that it leaves of one with a number more than it takes

abbrev walk : List ℕ
walk =
    bytes ";TRA\n(Head(traVersion 4.0))(Figure(name \"walk\")(totalFrame 5)"
    ++ bytes "(bone(name \"hip\")(roll(kf 0 1.5)(kf 2 -0.000001))(scale.x(kf 0 100))(translate.y(kf 0 2))(translate.x(kf 0 1))(translate.z(kf 0 3))"
    ++ bytes "(scale.z(kf 0 102))(scale.y(kf 0 101))(rotate.z(kf 0 6))(rotate.y(kf 0 5))(rotate.x(kf 0 4)))"
    ++ bytes "(bone(roll(kf 0 0))(rotate.z(kf 0 0))(rotate.y(kf 0 0))(rotate.x(kf 0 0))(scale.z(kf 0 0))(scale.y(kf 0 0))(scale.x(kf 0 0))"
    ++ bytes "(translate.z(kf 0 0))(translate.y(kf 0 0))(translate.x(kf 0 7)(kf 4 8)))"
    ++ bytes "(DynamicPolygons(kgf 0 0 true)(kgf 3 1 false)(kgf 3 0 false)))"

abbrev walked : List ℤ
walked =
    map pos (5 ∷ 41 ∷ 4 ∷ [])
    ++ map pos (73 ∷ 3 ∷ 0 ∷ 1 ∷ 1 ∷ 1 ∷ 2 ∷ 1 ∷ 3 ∷ 1 ∷ 4 ∷ 1 ∷ 5 ∷ 1 ∷ 6 ∷ 1 ∷ 7 ∷ 1 ∷ 8 ∷ 1 ∷ 9 ∷ 2 ∷ [])
    ++ map pos (0 ∷ 0 ∷ 11 ∷ 2 ∷ 13 ∷ 1 ∷ 14 ∷ 1 ∷ 15 ∷ 1 ∷ 16 ∷ 1 ∷ 17 ∷ 1 ∷ 18 ∷ 1 ∷ 19 ∷ 1 ∷ 20 ∷ 1 ∷ 21 ∷ 1 ∷ [])
    ++ map pos (0 ∷ 1000000 ∷ 0 ∷ 2000000 ∷ 0 ∷ 3000000 ∷ 0 ∷ 100000000 ∷ 0 ∷ 101000000 ∷ 0 ∷ 102000000 ∷ 0 ∷ 4000000 ∷ 0 ∷ 5000000 ∷ 0 ∷ 6000000 ∷ [])
    ++ (pos 0 ∷ pos 1500000 ∷ pos 2 ∷ negsuc 0 ∷ [])
    ++ map pos (0 ∷ 7000000 ∷ 4 ∷ 8000000 ∷ [])
    ++ replicate 18 (pos 0)
    ++ map pos (0 ∷ 0 ∷ 1 ∷ 3 ∷ 1 ∷ 0 ∷ 3 ∷ 0 ∷ 0 ∷ [])

-- ---- channels left out: of a bone all, all but roll and scale.y, all but rotate.z, which count on

abbrev still : List ℕ
still = bytes ";TRA\n(Head(traVersion 4.0))(Figure(totalFrame 1)(bone))"

abbrev sparse : List ℕ
sparse = bytes ";TRA\n(Head(traVersion 4.0))(Figure(totalFrame 3)(bone(roll(kf 0 1)(kf 2 2))(scale.y(kf 0 100)))(bone)(bone(name \"ear\")(rotate.z(kf 0 1))))"

abbrev laid_out : List ℤ
laid_out =
    map pos (3 ∷ 0 ∷ 0 ∷ [])
    ++ map pos (0 ∷ 0 ∷ 0 ∷ 0 ∷ 0 ∷ 0 ∷ 0 ∷ 0 ∷ 0 ∷ 0 ∷ 0 ∷ 1 ∷ 0 ∷ 0 ∷ 0 ∷ 0 ∷ 0 ∷ 0 ∷ 0 ∷ 0 ∷ 1 ∷ 2 ∷ [])
    ++ replicate 22 (pos 0)
    ++ map pos (113 ∷ 3 ∷ 0 ∷ 0 ∷ 0 ∷ 0 ∷ 0 ∷ 0 ∷ 0 ∷ 0 ∷ 0 ∷ 0 ∷ 0 ∷ 0 ∷ 0 ∷ 0 ∷ 0 ∷ 0 ∷ 3 ∷ 1 ∷ 0 ∷ 0 ∷ [])
    ++ map pos (0 ∷ 100000000 ∷ 0 ∷ 1000000 ∷ 2 ∷ 2000000 ∷ 0 ∷ 1000000 ∷ [])

-- ---- a text that goes on after nine channels, at offset 221, and what refuses it: number and place; of a text that is taken 0 and its total

abbrev front : List ℕ
front =
    bytes ";TRA\n(Head(traVersion 4.0))(Figure(totalFrame 5)(bone(translate.x(kf 0 0))(translate.y(kf 0 0))(translate.z(kf 0 0))"
    ++ bytes "(scale.x(kf 0 0))(scale.y(kf 0 0))(scale.z(kf 0 0))(rotate.x(kf 0 0))(rotate.y(kf 0 0))(rotate.z(kf 0 0))"

abbrev reply : Outcome Movement → ℕ × ℕ
reply (rejected n p) = (n, p)
reply (accepted m) = (0, length (layout_of m))

abbrev cases : List (String × (ℕ × ℕ))
cases =
    ("(roll(kf 0 0))))", (0, 45))
    -- the shape
    ∷ (")", (5, 222))
    ∷ ("))", (0, 43))
    ∷ ("(roll)", (5, 226))
    ∷ ("(scale.x", (5, 222))
    ∷ ("(name \"x\")", (5, 222))
    ∷ ("(roll(kf 0 0)(kgf", (5, 235))
    ∷ ("(roll(kf 0 0))(", (5, 235))
    ∷ ("(roll(kf 0 0)))(Bone", (5, 237))
    ∷ ("(roll(kf 0 0)))(bone)", (5, 242))
    ∷ ("(roll(kf 0 0)))(bone))", (0, 67))
    ∷ ("(roll(kf 0 0)))(bone(roll)", (5, 246))
    ∷ ("(roll(kf 0 0)))(bone(roll(kf 0 0))(roll", (5, 256))
    ∷ ("(roll(kf 0 0)))(bone(roll(kf 0 0))(name", (5, 256))
    ∷ ("(roll(kf 0 0)))(DynamicPolygons))", (0, 45))
    ∷ ("(roll(kf 0 0)))(DynamicPolygons)(bone", (5, 253))
    ∷ ("(roll(kf 0 0)))(DynamicPolygons(kgf 0 0 yes", (5, 261))
    ∷ ("(roll(kf 0 0))))(", (5, 237))
    ∷ ("(roll(kf 0 0)))", (5, 236))
    ∷ ("(roll(kf 0 10000000", (6, 232))
    -- 15
    ∷ ("(roll(kf 1 0))))", (15, 9))
    ∷ ("(roll(kf 0 0)(kf 4 0))))", (0, 47))
    ∷ ("(roll(kf 0 0)(kf 5 0))))", (15, 10))
    ∷ ("(roll(kf 0 0)(kf -1 0))))", (15, 10))
    ∷ ("(roll(kf 0 0)(kf 2 0)(kf 2 0))))", (15, 11))
    -- 16
    ∷ ("(roll(kf 0 0)))(DynamicPolygons(kgf 0 0 true)(kgf 4 1 true)(kgf 4 0 false)))", (0, 54))
    ∷ ("(roll(kf 0 0)))(DynamicPolygons(kgf 1 0 true)))", (16, 0))
    ∷ ("(roll(kf 0 0)))(DynamicPolygons(kgf 0 0 true)(kgf 5 0 true)))", (16, 1))
    ∷ ("(roll(kf 0 0)))(DynamicPolygons(kgf 0 0 true)(kgf 3 0 true)(kgf -1 0 true)))", (16, 2))
    ∷ ("(roll(kf 0 0)))(DynamicPolygons(kgf 0 -1 true)))", (16, 0))
    -- in any order: a falling frame, and 0 in no row or in a later one
    ∷ ("(roll(kf 0 0)))(DynamicPolygons(kgf 0 0 true)(kgf 3 0 true)(kgf 2 0 true)))", (0, 54))
    ∷ ("(roll(kf 0 0)))(DynamicPolygons(kgf 3 0 true)(kgf 0 0 false)))", (0, 51))
    ∷ ("(roll(kf 0 0)))(DynamicPolygons(kgf 1 0 true)(kgf 9 0 true)))", (16, 0))
    ∷ ("(roll(kf 0 0)))(DynamicPolygons(kgf 1 0 true)(kgf 0 -1 true)))", (16, 1))
    ∷ ("(roll(kf 0 0)))(DynamicPolygons(kgf 9 0 true)(kgf 0 -1 true)))", (16, 0))
    -- 15 before 16
    ∷ ("(roll(kf 1 0)))(DynamicPolygons(kgf 1 0 true)))", (15, 9))
    ∷ []

pub worked : (movement_table walk (replicate 101 (pos 9)) ≡ walked ++ (pos 9 ∷ [])) × (movement_answer walk 99 ≡ rejected 17 100) × (movement_table still (replicate 26 (pos 9)) ≡ pos 1 ∷ replicate 24 (pos 0) ++ (pos 9 ∷ [])) × (movement_table sparse (replicate 77 (pos 9)) ≡ laid_out) × (map (λ c. reply (movement_answer (front ++ bytes c.0) 100)) cases ≡ map (λ c. c.1) cases)
unfolding row_of cells bytes is_blank between is_letter class_of in_line in_string is_digit is_content run same lexeme tokens lex is_keyword decimal_from decimal signed not_empty all_digits int_most whole_of int_of millionths float_of number_from after_digits unsigned negative unsigned_part fixed_of in_mantissa mantissa with_exponent number_of refusal_of fault_in mark_of blank_or_end begins marked text_fault after ◌>>=◌ ◌>>◌ pure stop token_of rest is_opening is_closing is_end take_if open_bracket close_bracket word_of text_end opened_of opened closed number_in number_at number numbers version_at version absent name_at string one_from one_of starts optional trailing many_in many many⁺ head_of head kind is_some unread complete kind_from fields_in fields flat frame_of group_of repeated_in repeated repeated⁺ key channel_names channel channel_kinds keys_in bone word truth pattern movement or_else channels_of all_keys key_rows counts_of movement_counts movement_lists movement_mosts too_many total_fault is_frame is_zero rises key_fine channel_fault keys_fault pattern_fine has_start start_fault first_bad patterns_fault movement_fault name_numbers first_row key_ranges bone_row bone_rows layout_of ruled shaped checked outcome movement_outcome fitted movement_answer laid movement_table
worked = (refl, refl, refl, refl, refl)

-- ---- the lists' mosts, and the total's range

pub most-rows : map (λ ns. too_many 0 ns movement_mosts) ((128 ∷ 4096 ∷ 256 ∷ []) ∷ (129 ∷ 4097 ∷ 257 ∷ []) ∷ (128 ∷ 4097 ∷ 257 ∷ []) ∷ (128 ∷ 4096 ∷ 257 ∷ []) ∷ []) ≡ clear ∷ fault 8 0 ∷ fault 8 1 ∷ fault 8 2 ∷ []
unfolding row_of cells too_many movement_mosts
most-rows = refl

pub total-range : map total_fault (pos 1 ∷ pos 32767 ∷ pos 0 ∷ negsuc 0 ∷ pos 32768 ∷ []) ≡ clear ∷ clear ∷ fault 14 0 ∷ fault 14 0 ∷ fault 14 0 ∷ []
unfolding row_of cells total_fault
total-range = refl
