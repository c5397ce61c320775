-- What the program prints for a text: the listing of its answer and of the table that began as 11,779 zeros.
use Rattle.std.specs.Prelude.{List, ℕ, ℤ, pos, replicate}
use Rattle.report_lists.specs.Lists.{text_of}
use Rattle.tra4_text.specs.Answer.{movement_answer, movement_table}
use Rattle.tra4.specs.Answers.{answer_of}
use Rattle.tra4_listing.specs.Movements.{movement_lines}

unfoldable pub start_table : List ℤ
start_table = replicate 11779 (pos 0)

unfoldable pub text_lines : List ℕ → List (List ℕ)
text_lines text = movement_lines (answer_of (movement_answer text 11779)) (movement_table text start_table)

unfoldable pub text_listing : List ℕ → List ℕ
text_listing text = text_of (text_lines text)
