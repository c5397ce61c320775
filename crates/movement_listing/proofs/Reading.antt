-- The listing of what `read` answers and leaves, from a table of 11,779 zeros, is the text's.
use mathlib.Core.Path.{◌≡◌, ap}
use mathlib.Core.List.{List}
use Prim.Native.Nat.{ℕ}
use lib.IntN.{ℤ, pos}
use lib.ListN.{length, length-replicate}
use Rattle.report_lists.specs.Lists.{text_of}
use Rattle.tra4_text.specs.Answer.{movement_answer, movement_table}
use Rattle.tra4.specs.Answers.{answer_of}
use Rattle.tra4.specs.declared.setting.MovementAnswer.{MovementAnswer}
use Rattle.tra4_listing.specs.Movements.{movement_lines, movement_text}
use Rattle.movement_listing.specs.Listing.{start_table, text_lines, text_listing}

start-length : length start_table ≡ 11779
unfolding start_table
start-length = length-replicate 11779 (pos 0)

module _ (text : List ℕ) (table : List ℤ) (a : MovementAnswer) (e : a ≡ answer_of (movement_answer text (length start_table))) (f : table ≡ movement_table text start_table) where
  pub same_lines : movement_lines a table ≡ text_lines text
  unfolding text_lines
  same_lines = rw (e, f, start-length)

  pub same_text : movement_text a table ≡ text_listing text
  unfolding movement_text text_listing
  same_text = ap text_of same_lines
