-- What the program prints for a text: the listing of its answer and of the table that began as 8,192 zeros.
use Rattle.std.specs.Prelude.{List, ℕ, ℤ, pos, replicate}
use Rattle.report_lists.specs.Lists.{text_of}
use Rattle.bac6_text.specs.Answer.{figure_answer, table_after}
use Rattle.bac6.specs.Answers.{answer_of}
use Rattle.bac6_listing.specs.Figures.{figure_lines}

unfoldable pub start_table : List ℤ
start_table = replicate 8192 (pos 0)

unfoldable pub text_lines : List ℕ → List (List ℕ)
text_lines text = figure_lines (answer_of (figure_answer text 8192)) (table_after text start_table)

unfoldable pub text_listing : List ℕ → List ℕ
text_listing text = text_of (text_lines text)
