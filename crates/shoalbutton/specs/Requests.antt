-- Document 02's requests, as statements over the definitions that the calls of this crate equal. proofs/Requests.antt gives them.
use Rattle.std.specs.Prelude.{◌≡◌, ◌↔◌, ◌⊎◌, List, [], ◌∷◌, ◌++◌, map, true, false, ◌&&◌, ℕ, suc, ◌+◌, ◌<◌, ℤ, pos, negsuc, nat_abs, length, get_or, set}
use Rattle.std.proofs.Math.Option.{Option, none, some}
use Prim.Native.String.{String}
use Rattle.text_bytes.specs.Bytes.{bytes}
use Rattle.text_tokens.specs.Tokens.{Lexeme, is_keyword, lex}
use Rattle.text_check.specs.Faults.{Format, bac, tra, text_fault}
use Rattle.text_notes.specs.Notes.{is_gap, token_at, end_of, tokens_of, with_gap, Annotates, moved, shifted}
use Rattle.text_kinds.specs.Kinds.{is_closing}
use Rattle.parse_spec.specs.Readers.{got, ◌>>=◌, pure, token_of, rest, many⁺}
use Rattle.parse_spec.specs.Fields.{kind_from, fields_in, fields}
use Rattle.refusal.specs.Faults.{clear, fault}
use Rattle.refusal.specs.Outcomes.{accepted}
use Rattle.refusal.specs.FirstBad.{all, first_bad}
use Rattle.text_numerals.specs.Numbers.{value, wrong, INT, FLOAT, fixed_of, exponent_of, number_of}
use Rattle.text_numerals.specs.Exponents.{has_exponent, Power, Makes}
use Rattle.tra4_text.specs.Movement as movements
use Rattle.tra4_text.specs.Movement.{Key, Channel, Pattern, group_of, Movement}
use Rattle.tra4_text.specs.Grammar.{key, channel_names, channel_kinds, keys_in, bone, movement}
use Rattle.tra4_text.specs.Rules.{pattern_fine, has_start, patterns_fault, movement_counts}
use Rattle.tra4_text.specs.Layout.{key_ranges}
use Rattle.tra4_text.specs.Answer.{movement_answer, movement_table}
use Rattle.table_counts.specs.declared.counts.FigureCounts.{FigureCounts}
use Rattle.table_counts.specs.declared.counts.MovementCounts.{MovementCounts}
use Rattle.table_columns.specs.Parts.{number_at}
use Rattle.table_columns.specs.Columns.{face_vertex, face_group}
use Rattle.table_movement.specs.Sections.{holds_movement}
use Rattle.player_spec.specs.Fractions.{Fraction, whole}
use Rattle.player_spec.specs.Samples.{pose, standing, sample_of}
use Rattle.player_spec.specs.Lookups.{is_asked, pair_at, channel_keys, sample_in, face_at, owner_at, corner_owners, group_named, pattern_rows, can_show, shown_in, why_in}
use Rattle.player_spec.specs.Deciding.{line_frame, Line, deciding, state_by, Decides}
use Rattle.player_spec.specs.InOrder.{never_falls, last_flag}
use Rattle.player_spec.specs.Faces.{all_owned, shown_of, corner_of}
use Rattle.player_spec.specs.Reasons.{Reason, shown, why_of, Because}
use Rattle.player_fractions.specs.Halving.{Unreduced, unreduced_of, reduced, steps_left, Enough}
use Rattle.bac6_text.specs.Figure.{Bone, Face, Figure}
use Rattle.bac6_text.specs.Rules.{owner_of}
use Rattle.bac6_text.specs.Grammar.{figure}
use Rattle.bac6_text.specs.Answer.{figure_answer}
use Rattle.parse_alike.specs.Moving.{moved_name, moved_got}
use Rattle.bac6_alike.specs.Renamed as figures
use Rattle.tra4_alike.specs.Renamed as named
use Rattle.movement_bridge.specs.Counts.{channel_of}
use Rattle.pair_text.specs.Answer.{loaded, pair_answer, movement_left}
use Rattle.pair_bridge.specs.Playing.{frames_of, shown_asked, why_asked}
use Rattle.pair_movement.specs.Moved.{moved_answer}
use Rattle.comments.specs.Same.{SameOutcome, SameFigure, SameMovement, SameLoaded, SamePair}

-- ---- (vii): "A FLOAT may now end in `e`, an optional `-` and one digit 0 to 6. It is accepted if the value is a whole number of millionths, at most 9,999,999,999,999 either way."

-- words are split at their first `e`, which is byte 101
pub record Exponents : Type 0 where
  -- a word is taken exactly if what stands before the `e` is a FLOAT of 01, what follows is such a power, and the product is exact and in range
  pub taken : (m x : List ℕ) (v : ℤ) → has_exponent m ≡ false → number_of FLOAT (m ++ (101 ∷ x)) ≡ value v ↔ Makes m x v
  pub power : (x : List ℕ) (e : ℤ) → exponent_of x ≡ value e ↔ Power x e
  -- 5 where one of the two is not of its form; what is neither taken nor 5 is 6
  pub malformed : (m x : List ℕ) → has_exponent m ≡ false → number_of FLOAT (m ++ (101 ∷ x)) ≡ wrong ↔ ((fixed_of FLOAT m ≡ wrong) ⊎ (exponent_of x ≡ wrong))
  -- nothing else has changed: every word with an `e` was 5 before, and a word without one, and an INT, means what it did
  pub added : (word : List ℕ) → has_exponent word ≡ true → fixed_of FLOAT word ≡ wrong
  pub without : (word : List ℕ) → has_exponent word ≡ false → number_of FLOAT word ≡ fixed_of FLOAT word
  pub whole : (word : List ℕ) → number_of INT word ≡ fixed_of INT word

-- ---- (ii): "Lines stand in any order, and if there are any, one has frame 0. A group's state at a frame comes from its line of greatest frame not after it, the later among equals."

-- `patterns_fault` is rule 16 in `movement_fault`, and what Shown asks of all lines of a table in `can_show`
pub record AnyOrder : Type 0 where
  -- rule 16: lines are taken exactly if one has frame 0, where there are any, and each keeps its own rule
  pub taken : (total : ℤ) (ps : List Pattern) → patterns_fault total ps ≡ clear ↔ (((length ps ≡ 0) ⊎ (has_start ps ≡ true)) × (all (pattern_fine total) ps ≡ true))
  -- its place: row 0 where there are lines and none has frame 0, else the first line that breaks its own rule
  pub startless : (total : ℤ) (p : Pattern) (ps : List Pattern) → has_start (p ∷ ps) ≡ false → patterns_fault total (p ∷ ps) ≡ fault 16 0
  pub started : (total : ℤ) (ps : List Pattern) → has_start ps ≡ true → patterns_fault total ps ≡ first_bad 16 (pattern_fine total) 0 ps
  -- the line that decides of a group at a frame, with its row: all that apply give way to it; there is none exactly where none applies
  pub greatest : (g at : ℕ) (ps : List Pattern) (best : Option Line) → deciding g at ps ≡ best ↔ Decides g at ps (length ps) best
  -- Shown of a face whose corners have bones is the state of its group, and yes for a face of `Polygons`, which reads no line
  pub shown : (bs : List Bone) (ps : List Pattern) (f : Face) (g at : ℕ) → shown_of bs ps (f, some g) at ≡ (all_owned bs f.vertices && state_by (deciding g at ps))
  pub polygons : (bs : List Bone) (ps : List Pattern) (f : Face) (at : ℕ) → shown_of bs ps (f, none) at ≡ all_owned bs f.vertices
  -- in any order: neighbours may be exchanged, and no state changes, unless both are of one group and frame
  pub rule : (total : ℤ) (before after : List Pattern) (p q : Pattern) → patterns_fault total (before ++ (p ∷ q ∷ after)) ≡ clear → patterns_fault total (before ++ (q ∷ p ∷ after)) ≡ clear
  pub state : (g at : ℕ) (before after : List Pattern) (p q : Pattern) → (nat_abs (group_of p) ≡ nat_abs (group_of q) → line_frame p ≡ line_frame q → ⊥) → state_by (deciding g at (before ++ (p ∷ q ∷ after))) ≡ state_by (deciding g at (before ++ (q ∷ p ∷ after)))
  -- lines whose frames never fall show what they did
  pub unfallen : (g at : ℕ) (ps : List Pattern) → never_falls 0 ps ≡ true → state_by (deciding g at ps) ≡ last_flag g at false ps

-- ---- (x): "A missing channel now means 004's standing pose: 0 for translation and roll, 100 for scale, 0, 0, 1 for rotate. Its first key row and key count are 0, and Sample gives the default at all frames below the total."

-- document 004's standing pose, by keyword and decimal
abbrev pub standing_pose : List (String × String)
standing_pose =
    ("translate.x", "0")
    ∷ ("translate.y", "0")
    ∷ ("translate.z", "0")
    ∷ ("scale.x", "100")
    ∷ ("scale.y", "100")
    ∷ ("scale.z", "100")
    ∷ ("rotate.x", "0")
    ∷ ("rotate.y", "0")
    ∷ ("rotate.z", "1")
    ∷ ("roll", "0")
    ∷ []

-- a channel's pair, first key row and key count, is 0 and 0
abbrev pub ZeroPair : MovementCounts → List ℤ → ℕ → ℕ → Type 0
ZeroPair n table bone channel = (number_at table (pair_at n table bone channel) ≡ pos 0) × (number_at table (pair_at n table bone channel + 1) ≡ pos 0)

-- `fields channel_kinds` reads the chunks of a bone's channels, by `kind_from` one at a time: `none` for one that is left out
pub record LeftOut : Type 0 where
  -- a bone may end whatever channels have stood, and however few
  pub ends : (n : ℕ) (fs : List (Option Channel)) (ms : List Lexeme) → is_closing (token_of ms) ≡ true → fields_in n channel_kinds fs ms ≡ got fs (rest ms)
  -- where the keyword of one that has not stood comes next, its keys are read into its own field, whatever their values
  pub read : (channel : ℕ) (fs : List (Option Channel)) (ms : List Lexeme) → channel < 10 → length fs ≡ 10 → get_or fs channel none ≡ none → is_keyword (bytes (get_or channel_names channel "")) (token_of ms) ≡ true → kind_from channel_kinds fs ms ≡ (many⁺ key >>= λ c. pure (set fs channel (some c))) (rest ms)
  -- a bone's channels are those of its chunks, and one that stands has a key: so a channel without keys is one that is left out
  pub chunks : (ms ls : List Lexeme) (b : movements.Bone) → bone ms ≡ got b ls → (tokens : List Lexeme) × (fs : List (Option Channel)) × (fields channel_kinds tokens ≡ got fs ls) × (b.channels ≡ map keys_in fs)
  pub kept : (ms ls : List Lexeme) (fs : List (Option Channel)) → fields channel_kinds ms ≡ got fs ls → (channel : ℕ) → keys_in (get_or fs channel none) ≡ [] ↔ get_or fs channel none ≡ none
  -- in the table: 0 and 0, and the channels after it count on; of one with keys the row that they begin at, and how many they are
  pub zeros : (row : ℕ) (cs : List Channel) → key_ranges row ([] ∷ cs) ≡ pos 0 ∷ pos 0 ∷ key_ranges row cs
  pub laid : (row : ℕ) (k : Key) (c : Channel) (cs : List Channel) → key_ranges row ((k ∷ c) ∷ cs) ≡ pos row ∷ pos (length (k ∷ c)) ∷ key_ranges (row + length (k ∷ c)) cs
  -- what it stands for: the decimal of its keyword, as FLOAT reads it, and the sample of a channel written out with one key of that value
  pub keywords : map (λ p. p.0) standing_pose ≡ channel_names
  pub decimals : map (λ p. number_of FLOAT (bytes p.1)) standing_pose ≡ map value pose
  pub default : (channel at : ℕ) → sample_of channel [] at ≡ whole (standing channel)
  pub written : (channel at : ℕ) → sample_of channel ((pos 0 ∷ standing channel ∷ []) ∷ []) at ≡ sample_of channel [] at
  -- of every text that is taken, whatever its table held: a channel is left out exactly where its pair is 0 and 0, and Sample then gives the default at each frame
  pub pair : (text : List ℕ) (table : List ℤ) (m : Movement) → movement_answer text (length table) ≡ accepted m → (bone channel : ℕ) → bone < length m.bones → channel < 10 → channel_of m bone channel ≡ [] ↔ ZeroPair (movement_counts m) (movement_table text table) bone channel
  pub sampled : (text : List ℕ) (table : List ℤ) (m : Movement) → movement_answer text (length table) ≡ accepted m → (bone channel at : ℕ) → bone < length m.bones → channel < 10 → at < frames_of m → channel_of m bone channel ≡ [] → sample_in (movement_counts m) (movement_table text table) bone channel at ≡ some (whole (standing channel))
  -- of any table: the pair 0 and 0 is sound, and with count 0 no other; a number below 0 is not
  pub zeros_sound : (n : MovementCounts) (table : List ℤ) (bone channel at : ℕ) → holds_movement n table ≡ true → bone < n.bones → channel < 10 → is_asked (number_at table 0) at ≡ true → ZeroPair n table bone channel → sample_in n table bone channel at ≡ some (whole (standing channel))
  pub other_row : (n : MovementCounts) (table : List ℤ) (bone channel at : ℕ) → (number_at table (pair_at n table bone channel) ≡ pos 0 → ⊥) → number_at table (pair_at n table bone channel + 1) ≡ pos 0 → sample_in n table bone channel at ≡ none
  pub below_zero : (n : MovementCounts) (table : List ℤ) (bone channel at z : ℕ) → (number_at table (pair_at n table bone channel) ≡ negsuc z) ⊎ (number_at table (pair_at n table bone channel + 1) ≡ negsuc z) → sample_in n table bone channel at ≡ none

-- ---- (v): "a sample be brought to lowest terms by halving and subtracting only, in at most 200 such steps. The answers and all statements about them stay."

-- `steps_left n` is what is left of n steps once a sample is in lowest terms, one being taken off for each halving of one number and for each subtraction, and none where n are not enough. The code counts in the same way from
-- 200, and is proved never to fall below zero (`player_channel/src/halving.rt`); that what it has left of them is what the definition leaves for a line's two numbers is the contract of `line` (`player_channel/src/line.rt`)
pub record NoDivider : Type 0 where
  -- a sample is a value that is kept, or a number over a denominator, which is brought to lowest terms
  pub answer : (channel : ℕ) (c : Channel) (at : ℕ) → sample_of channel c at ≡ reduced (unreduced_of channel c at)
  -- 200 steps are enough for every sample that is answered, of any table with any counts
  pub steps : (n : MovementCounts) (table : List ℤ) (bone channel at : ℕ) (r : Fraction) → sample_in n table bone channel at ≡ some r → Enough (steps_left 200 (unreduced_of channel (channel_keys n table bone channel) at))
  -- and for every sample of a text that is taken
  pub text_steps : (text : List ℕ) (table : List ℤ) (m : Movement) → movement_answer text (length table) ≡ accepted m → (bone channel at : ℕ) → bone < length m.bones → channel < 10 → at < frames_of m → Enough (steps_left 200 (unreduced_of channel (channel_of m bone channel) at))
  -- of one step more one more is left: so how many are taken does not depend on how many there are
  pub one_more : (n k : ℕ) (u : Unreduced) → steps_left n u ≡ some k → steps_left (suc n) u ≡ some (suc k)

-- ---- (iii): "shown; hidden by a corner (the first with no bone); hidden because its group has no line by that frame; or hidden by a pattern line (the deciding one). Corners are tried first. It says shown exactly when
-- Shown says yes. Refusals: 21 as for Shown." Of a loaded pair it is the reason that the two texts give, and never 21 for what is in the files: `why` and `every_why` of demand 3

-- `Because owners g ps at r`: what the reason r says, by the owners of a face's corners, -1 for none, by its group, none for a face of `Polygons`, and by the pattern lines
pub record WhyHidden : Type 0 where
  -- a reason is given exactly where it holds: of texts, and of any tables with any counts, where Shown's tests pass
  pub text_reason : (bs : List Bone) (ps : List Pattern) (f : Face) (g : Option ℕ) (at : ℕ) (r : Reason) → why_of bs ps (f, g) at ≡ r ↔ Because (map (owner_of bs) f.vertices) g ps at r
  pub table_reason : (n : FigureCounts) (table : List ℤ) (m : MovementCounts) (moves : List ℤ) (face at : ℕ) (r : Reason) → why_in n table m moves face at ≡ some r ↔ ((can_show n table m moves face at ≡ true) × Because (corner_owners n table (face_at n table face)) (group_named (face_group (face_at n table face))) (pattern_rows n table m moves) at r)
  -- the owners are those that Corner tells, by the corner's number
  pub text_owners : (f : Figure) (face : Face) (k : ℕ) → k < length face.vertices → get_or (map (owner_of f.bones) face.vertices) k (pos 0) ≡ (corner_of f face k).owner
  pub table_owners : (n : FigureCounts) (table row : List ℤ) (k : ℕ) → k < length (corner_owners n table row) → get_or (corner_owners n table row) k (pos 0) ≡ owner_at n table (face_vertex row k)
  -- shown exactly when Shown says yes, and 21 exactly when Shown is
  pub text_shown : (bs : List Bone) (ps : List Pattern) (f : Face × Option ℕ) (at : ℕ) → shown_of bs ps f at ≡ true ↔ why_of bs ps f at ≡ shown
  pub text_refused : (f : Figure) (m : Movement) (face at : ℕ) → shown_asked f m face at ≡ none ↔ why_asked f m face at ≡ none
  pub table_shown : (n : FigureCounts) (table : List ℤ) (m : MovementCounts) (moves : List ℤ) (face at : ℕ) → shown_in n table m moves face at ≡ some true ↔ why_in n table m moves face at ≡ some shown
  pub table_refused : (n : FigureCounts) (table : List ℤ) (m : MovementCounts) (moves : List ℤ) (face at : ℕ) → shown_in n table m moves face at ≡ none ↔ why_in n table m moves face at ≡ none

-- ---- (ix): "Take a text that passes 1 to 4, and put directly after any word but the last any blanks, or a comment with its line feed. If both are at most 65,536 bytes and are read into equal lent tables, both are
-- accepted or both refused with the same number at the same word, list, row, count or text's end; when accepted, tables differ in name places alone and with the same other file every player's answer is equal, labels by
-- their bytes."

-- `Annotates f text text'`: text' is such a text, with any number of notes, after the last word too. What is then the same: `text_notes/specs/SameWord.antt` (places), `table_contents/specs/Contents.antt` (tables without
-- name places) and `comments/specs/Same.antt` (answers)
pub record Comments : Type 0 where
  -- one note leaves each word before it where it is, and moves those after it by its own length
  pub one : (f : Format) (text : List ℕ) (i : ℕ) (gap : List ℕ) → text_fault f text ≡ clear → suc i < length (lex text) → is_gap gap ≡ true → lex (with_gap text (end_of (lex text) i) gap) ≡ moved (shifted (end_of (lex text) i) (length gap)) (lex text)
  -- a text with notes passes 1 to 4 and has the same words, each at a place of its own; and notes may be put into it again
  pub passes : (f : Format) (text text' : List ℕ) → Annotates f text text' → text_fault f text' ≡ clear
  pub words : (f : Format) (text text' : List ℕ) → Annotates f text text' → tokens_of (lex text') ≡ tokens_of (lex text)
  pub apart : (text : List ℕ) (i j : ℕ) → i < j → j < length (lex text) → (token_at (lex text) i).offset < (token_at (lex text) j).offset
  pub again : (f : Format) (text text' last : List ℕ) → Annotates f text text' → Annotates f text' last → Annotates f text last
  -- offsets do not matter to either grammar: however those of a text's tokens are moved, names move with their strings, a refusal moves with its token, and nothing else
  pub figure_offsets : (to : ℕ → ℕ) (text : List ℕ) → figure (moved to (lex text)) ≡ moved_got to (figures.renamed (moved_name to)) (figure (lex text))
  pub movement_offsets : (to : ℕ → ℕ) (text : List ℕ) → movement (moved to (lex text)) ≡ moved_got to (named.renamed (moved_name to)) (movement (lex text))
  -- read into equal lent tables: the same refusal, the tables then staying (demand 1), or the same answer, tables that differ in name places alone, and equal lookups with any other text, counts and table
  pub figure_read : (text text' : List ℕ) → Annotates bac text text' → (table : List ℤ) → SameOutcome text text' (SameFigure text text' table) (figure_answer text (length table)) (figure_answer text' (length table))
  pub movement_read : (text text' : List ℕ) → Annotates tra text text' → (table : List ℤ) → SameOutcome text text' (SameMovement text text' table) (movement_answer text (length table)) (movement_answer text' (length table))
  -- loaded with the same other file, whatever that is: the same refusal, or the same answer and all that can be played on what loading leaves
  pub figure_loaded : (F F' : List ℕ) → Annotates bac F F' → (table : List ℤ) (M : List ℕ) (moves : List ℤ) → SameLoaded 0 F F' (SamePair F F' table M M moves) (pair_answer F (length table) M (length moves)) (pair_answer F' (length table) M (length moves))
  pub movement_loaded : (M M' : List ℕ) → Annotates tra M M' → (F : List ℕ) (table moves : List ℤ) → SameLoaded 1 M M' (SamePair F F table M M' moves) (pair_answer F (length table) M (length moves)) (pair_answer F (length table) M' (length moves))
  -- a movement for a figure in any table with any counts; what it leaves is what reading it alone leaves
  pub movement_moved : (M M' : List ℕ) → Annotates tra M M' → (F : List ℕ) (n : FigureCounts) (table moves : List ℤ) → SameLoaded 1 M M' (SameMovement M M' moves) (moved_answer F n table M (length moves)) (moved_answer F n table M' (length moves))
  pub moved_held : (F : List ℕ) (n : FigureCounts) (table : List ℤ) (M : List ℕ) (moves : List ℤ) (m : Movement) → moved_answer F n table M (length moves) ≡ loaded m → (movement_answer M (length moves) ≡ accepted m) × (movement_left moves (loaded m) ≡ movement_table M moves)
