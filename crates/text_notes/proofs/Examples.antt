-- What is a gap and what is none, and a small text with two notes, computed from the definitions.
use mathlib.Core.Path.{◌≡◌, refl}
use mathlib.Core.List.{List, [], ◌∷◌, map}
use mathlib.Core.Bool.{Bool, true, false}
use Prim.Native.Nat.{ℕ}
use native.Mathlib.Omega.{arith}
use Rattle.text_bytes.specs.Bytes.{bytes, class_of, is_blank, is_letter, between, in_line, in_string, is_content}
use Rattle.text_runs.specs.Runs.{run, same}
use Rattle.text_tokens.specs.Tokens.{Lexeme, lexeme, tokens, lex, width_of}
use Rattle.refusal.specs.FirstBad.{all}
use Rattle.text_check.specs.Faults.{bac, fault_in, mark_of, blank_or_end, begins, marked, text_fault}
use Rattle.text_notes.specs.Notes.{is_line, is_comment, is_gap, token_at, end_of, with_gap, Note, is_note, noted, annotated, Annotates, moved, shifted}
use Rattle.text_notes.specs.SameWord.{SamePlace}

-- ---- gaps

abbrev gaps : List (List ℕ) → List Bool
gaps ls = map is_gap ls

-- no bytes, the four blanks, and a comment that holds a quote and a bracket
pub are_gaps : gaps ([] ∷ (9 ∷ 10 ∷ 13 ∷ 32 ∷ []) ∷ bytes ";\"(\n" ∷ bytes ";;\n" ∷ bytes ";\n" ∷ []) ≡ true ∷ true ∷ true ∷ true ∷ true ∷ []
unfolding is_gap is_comment is_line is_blank all bytes
are_gaps = refl

-- a comment without its line feed, one with two, one with a blank after it or before it, a word, a bracket
pub are_none : gaps (bytes ";x" ∷ bytes ";x\n\n" ∷ bytes ";x\n " ∷ bytes " ;x\n" ∷ bytes "x" ∷ bytes "(" ∷ bytes ";" ∷ []) ≡ false ∷ false ∷ false ∷ false ∷ false ∷ false ∷ false ∷ []
unfolding is_gap is_comment is_line is_blank all bytes
are_none = refl

-- ---- a text and its notes

abbrev small : List ℕ
small = bytes ";BAC\n(a \"b\")"

abbrev notes : List Note
notes = (1, bytes ";x\n") ∷ (2, bytes "\t") ∷ (0, bytes "  ") ∷ (3, bytes ";\n") ∷ []

abbrev large : List ℕ
large = bytes ";BAC\n(  a;x\n \"b\"\t);\n"

abbrev offsets : List Lexeme → List ℕ
offsets ms = map (λ m. m.offset) ms

-- where its words end
pub small_ends : map (end_of (lex small)) (0 ∷ 1 ∷ 2 ∷ 3 ∷ 4 ∷ []) ≡ 6 ∷ 7 ∷ 11 ∷ 12 ∷ 12 ∷ []
unfolding bytes lex tokens class_of is_blank is_letter between run in_line in_string end_of token_at width_of lexeme
small_ends = refl

-- after the last word, and after the text's end, where none stands
pub small_notes : map (is_note (lex small)) ((3, []) ∷ (4, []) ∷ (0, bytes "x") ∷ []) ≡ true ∷ false ∷ false ∷ []
unfolding bytes lex tokens class_of is_blank is_letter between run in_line in_string is_note is_gap is_comment is_line all lexeme
small_notes = refl

pub small_annotated : annotated notes small ≡ large
unfolding bytes lex tokens class_of is_blank is_letter between run in_line in_string annotated noted with_gap end_of token_at width_of lexeme
small_annotated = refl

pub small_offsets : offsets (lex small) ≡ 5 ∷ 6 ∷ 8 ∷ 11 ∷ 12 ∷ []
unfolding bytes lex tokens class_of is_blank is_letter between run in_line in_string lexeme
small_offsets = refl

pub large_offsets : offsets (lex large) ≡ 5 ∷ 8 ∷ 13 ∷ 17 ∷ 20 ∷ []
unfolding bytes lex tokens class_of is_blank is_letter between run in_line in_string lexeme
large_offsets = refl

-- the first note moves the tokens from the end of `a` on
pub first-moved : offsets (moved (shifted 7 3) (lex small)) ≡ 5 ∷ 6 ∷ 11 ∷ 14 ∷ 15 ∷ []
unfolding bytes lex tokens class_of is_blank is_letter between run in_line in_string lexeme moved shifted
first-moved = refl

-- at the end itself a token is moved: the bracket after `"b"`
pub second_moved : offsets (moved (shifted 11 1) (lex small)) ≡ 5 ∷ 6 ∷ 8 ∷ 12 ∷ 13 ∷ []
unfolding bytes lex tokens class_of is_blank is_letter between run in_line in_string lexeme moved shifted
second_moved = refl

pub small_annotates : Annotates bac small large
unfolding bytes lex tokens class_of is_blank is_letter between run in_line in_string is_content annotated noted with_gap end_of token_at width_of lexeme all is_note is_gap is_comment is_line text_fault marked mark_of begins blank_or_end same fault_in
small_annotates = record { passes = refl; notes = notes; sound = refl; made = refl; most = omega arith }

-- a refusal 7 at the string: at 8 in the one text, at 13 in the other
pub same-string : SamePlace small large 7 8 13
unfolding bytes lex tokens class_of is_blank is_letter between run in_line in_string lexeme token_at SamePlace
same-string = record { number = 2; within = omega arith; within' = omega arith; word = refl; place = refl; place' = refl }

-- a refusal 8 at a list
pub same_list : SamePlace small large 8 3 3
unfolding between SamePlace
same_list = refl
