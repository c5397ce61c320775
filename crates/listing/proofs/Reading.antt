-- The listing of what `read` answers and leaves, from a table of 8,192 zeros, is the text's.
use mathlib.Core.Path.{◌≡◌, ap}
use mathlib.Core.List.{List}
use Prim.Native.Nat.{ℕ}
use lib.IntN.{ℤ, pos}
use lib.ListN.{length, length-replicate}
use Rattle.report_lists.specs.Lists.{text_of}
use Rattle.bac6_text.specs.Answer.{figure_answer, table_after}
use Rattle.bac6.specs.Answers.{answer_of}
use Rattle.bac6.specs.declared.setting.FigureAnswer.{FigureAnswer}
use Rattle.bac6_listing.specs.Figures.{figure_lines, figure_text}
use Rattle.listing.specs.Listing.{start_table, text_lines, text_listing}

start-length : length start_table ≡ 8192
unfolding start_table
start-length = length-replicate 8192 (pos 0)

module _ (text : List ℕ) (table : List ℤ) (a : FigureAnswer) (e : a ≡ answer_of (figure_answer text (length start_table))) (f : table ≡ table_after text start_table) where
  pub same_lines : figure_lines a table ≡ text_lines text
  unfolding text_lines
  same_lines = rw (e, f, start-length)

  pub same_text : figure_text a table ≡ text_listing text
  unfolding figure_text text_listing
  same_text = ap text_of same_lines
