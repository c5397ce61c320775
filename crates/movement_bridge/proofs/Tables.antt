-- The table of a movement that is taken: where its lists stand in it, and that its numbers are sound; from what a taken text says.
use mathlib.Core.Path.{◌≡◌, refl, ap, ◌∙◌}
use mathlib.Core.List.{List, [], ◌∷◌, ◌++◌, append_assoc}
use mathlib.Core.Bool.{true}
use Prim.Native.Nat.{ℕ, ◌+◌, ◌*◌, ◌≤◌, ◌<◌}
use native.Mathlib.Omega.{arith}
use borrow.Author.Tests.{le-leb}
use lib.IntN.{ℤ, pos, nat_abs}
use lib.ListN.{length, get_or, drop, length-append}
use Rattle.text_check.specs.Faults.{tra}
use Rattle.refusal.specs.Faults.{clear, is_clear}
use Rattle.text_tokens.specs.Tokens.{lex}
use Rattle.table_rows.specs.Flat.{flat}
use Rattle.refusal.specs.Rules.{too_many, or_else}
use Rattle.refusal.specs.Outcomes.{Outcome, accepted, laid}
use Rattle.parse_spec.proofs.Given.{Every}
use Rattle.refusal.proofs.Rules.{or-first, or_second}
use Rattle.parse_rows.proofs.Widths.{Wide, flat-length}
use Rattle.table_references.specs.References.{is_row}
use Rattle.tra4_text.specs.Movement.{Movement}
use Rattle.tra4_text.specs.Grammar.{movement}
use Rattle.tra4_text.specs.Rules.{channels_of, key_rows, counts_of, movement_counts, total_fault, keys_fault, patterns_fault, movement_fault}
use Rattle.tra4_text.specs.Layout.{name_numbers, bone_rows, layout_of}
use Rattle.tra4_text.specs.Answer.{movement_outcome, movement_answer, movement_table}
use Rattle.tra4_text.proofs.Whole.{WholeMovement, movement-whole}
use Rattle.tra4_text.proofs.Layouts.{all_wide, rows_wide, rows_count, layout_length}
use Rattle.table_counts.specs.declared.counts.MovementCounts.{MovementCounts}
use Rattle.table_movement.specs.Sections.{keys_begin, patterns_begin, movement_end, few_in_movement, holds_movement}
use Rattle.table_columns.specs.Parts.{number_at, rows_at}
use Rattle.player_spec.specs.Lookups.{is_asked}
use Rattle.movement_bridge.proofs.Laid.{Laid, rows-laid, number-laid}
use Rattle.movement_bridge.proofs.Taken.{Taken, taken}
use Rattle.movement_bridge.proofs.Faultless.{asked_below, flags_in-row}
use Rattle.table_counts.specs.Counts.{movement_mosts, movement_lists}

-- the counts that reading answers
abbrev pub counts_read : Movement → MovementCounts
counts_read m = movement_counts m

-- ---- the layout's lists, in a table that begins with it

keys-here : (a b k p r : List ℤ) → a ++ b ++ k ++ p ++ r ≡ a ++ b ++ (k ++ (p ++ r))
keys-here a b k p r = simp append_assoc

bones-here : (a b k p r : List ℤ) → a ++ b ++ k ++ p ++ r ≡ a ++ (b ++ (k ++ (p ++ r)))
bones-here a b k p r = simp append_assoc

patterns-here : (a b k p r : List ℤ) → a ++ b ++ k ++ p ++ r ≡ a ++ b ++ k ++ (p ++ r)
patterns-here a b k p r = simp append_assoc

module _ (m : Movement) (w : WholeMovement m) (t rest : List ℤ) (e : t ≡ layout_of m ++ rest) where
  abbrev lead : List ℤ
  lead = m.total_frames ∷ name_numbers m.name

  bones-size : length (flat (bone_rows 0 m.bones)) ≡ length m.bones * 22
  bones-size = flat-length 22 (bone_rows 0 m.bones) (rows_wide 0 m.bones w.bones) ∙ ap (λ (n : ℕ). n * 22) (rows_count 0 m.bones)

  keys_two : Wide 2 (key_rows m)
  unfolding key_rows
  keys_two = all_wide m.bones w.bones

  pub total_first : number_at t 0 ≡ m.total_frames
  unfolding number_at layout_of
  total_first = rw e

  pub bones-laid : Laid (bone_rows 0 m.bones) 3 t
  unfolding layout_of name_numbers
  bones-laid =
      record {
        front = lead;
        rest = flat (key_rows m) ++ (flat m.patterns ++ rest);
        here = e ∙ bones-here lead (flat (bone_rows 0 m.bones)) (flat (key_rows m)) (flat m.patterns) rest;
        begins = refl;
      }

  -- a number of a bone's row
  pub bone-number : (bone j i : ℕ) → bone < length m.bones → j < 22 → i ≡ 3 + bone * 22 + j → number_at t i ≡ get_or (get_or (bone_rows 0 m.bones) bone []) j (pos 0)
  bone-number bone j i h k o =
      ap (λ (x : ℕ). number_at t x) o
      ∙ number-laid 22 (bone_rows 0 m.bones) (rows_wide 0 m.bones w.bones) bones-laid bone j (omega (arith, rows_count 0 m.bones)) k

  pub keys-laid : Laid (key_rows m) (keys_begin (counts_read m)) t
  unfolding layout_of name_numbers keys_begin movement_counts
  keys-laid =
      let a = length-append lead (flat (bone_rows 0 m.bones)) in
      let b = bones-size in
      record {
        front = lead ++ flat (bone_rows 0 m.bones);
        rest = flat m.patterns ++ rest;
        here = e ∙ keys-here lead (flat (bone_rows 0 m.bones)) (flat (key_rows m)) (flat m.patterns) rest;
        begins = omega arith;
      }

  pub patterns-laid : Laid m.patterns (patterns_begin (counts_read m)) t
  unfolding layout_of name_numbers patterns_begin keys_begin movement_counts
  patterns-laid =
      let a = length-append lead (flat (bone_rows 0 m.bones)) in
      let b = bones-size in
      let c = length-append (lead ++ flat (bone_rows 0 m.bones)) (flat (key_rows m)) in
      let d = flat-length 2 (key_rows m) keys_two in
      record {
        front = lead ++ flat (bone_rows 0 m.bones) ++ flat (key_rows m);
        rest = rest;
        here = e ∙ patterns-here lead (flat (bone_rows 0 m.bones)) (flat (key_rows m)) (flat m.patterns) rest;
        begins = omega arith;
      }

-- ---- the rules, each

module _ (m : Movement) (clean : movement_fault m ≡ clear) where
  pub counts-clear : too_many 0 (counts_of m) movement_mosts ≡ clear
  unfolding movement_fault
  counts-clear = or-first _ _ clean

  total_on : or_else (total_fault m.total_frames) (or_else (keys_fault m.total_frames 0 (channels_of m.bones)) (patterns_fault m.total_frames m.patterns)) ≡ clear
  unfolding movement_fault
  total_on = or_second (too_many 0 (counts_of m) movement_mosts) _ clean

  pub total-clear : total_fault m.total_frames ≡ clear
  total-clear = or-first _ _ total_on

  keys_on : or_else (keys_fault m.total_frames 0 (channels_of m.bones)) (patterns_fault m.total_frames m.patterns) ≡ clear
  keys_on = or_second _ _ total_on

  pub keys-clear : keys_fault m.total_frames 0 (channels_of m.bones) ≡ clear
  keys-clear = or-first _ _ keys_on

  pub lines_clear : patterns_fault m.total_frames m.patterns ≡ clear
  lines_clear = or_second _ _ keys_on

holds_read : (m : Movement) (t : List ℤ) → too_many 0 (counts_of m) movement_mosts ≡ clear → 3 + length m.bones * 22 + length (key_rows m) * 2 + length m.patterns * 3 ≤ length t → holds_movement (counts_read m) t ≡ true
unfolding few_in_movement holds_movement movement_end patterns_begin keys_begin is_clear counts_of movement_counts movement_lists
holds_read m t e h = rw (e, le-leb _ _ h)

-- ---- a text that is taken

module _ (text : List ℕ) (table : List ℤ) (m : Movement) (e : movement_answer text (length table) ≡ accepted m) where
  read : Taken movement movement_fault layout_of text (length table) m
  unfolding movement_answer movement_outcome
  read = taken tra movement movement_fault layout_of text (length table) m e

  pub whole-read : WholeMovement m
  whole-read = movement-whole (lex text) m read.shape.left read.shape.gives

  pub clean_read : movement_fault m ≡ clear
  clean_read = read.shape.clean

  pub table-read : movement_table text table ≡ layout_of m ++ drop (length (layout_of m)) table
  unfolding movement_table laid
  table-read = ap (λ (o : Outcome Movement). laid layout_of table o) e

  -- the counts are within their movementMosts, and the table holds them
  pub movement_holds : holds_movement (counts_read m) (movement_table text table) ≡ true
  movement_holds =
      let l = ap length table-read ∙ length-append (layout_of m) (drop (length (layout_of m)) table) in
      let k = layout_length m whole-read in
      holds_read m (movement_table text table) (counts-clear m clean_read) (omega arith)

  pub total_stands : number_at (movement_table text table) 0 ≡ m.total_frames
  total_stands = total_first m whole-read _ _ table-read

  pub frame_asked : (at : ℕ) → at < nat_abs m.total_frames → is_asked m.total_frames at ≡ true
  frame_asked at h = asked_below m.total_frames at (total-clear m clean_read) h

  pub patterns_stand : rows_at 3 (movement_table text table) (patterns_begin (counts_read m)) (counts_read m).patterns ≡ m.patterns
  unfolding movement_counts
  patterns_stand = rows-laid 3 m.patterns whole-read.patterns (patterns-laid m whole-read _ _ table-read)

  pub patterns-clear : patterns_fault m.total_frames m.patterns ≡ clear
  patterns-clear = lines_clear m clean_read

  pub flags_fine : Every (λ p. is_row 2 (get_or p 2 (pos 0)) ≡ true) m.patterns
  flags_fine = flags_in-row m.patterns whole-read.flags
