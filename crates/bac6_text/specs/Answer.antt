-- What reading a figure answers (document 01, "Refusal numbers"), and what it leaves in the table.
use Rattle.std.specs.Prelude.{List, ℕ, length, ℤ}
use Rattle.text_check.specs.Faults.{bac}
use Rattle.refusal.specs.Outcomes.{Outcome, fitted, laid}
use Rattle.parse_text.specs.Texts.{outcome}
use Rattle.bac6_text.specs.Figure.{Figure}
use Rattle.bac6_text.specs.Grammar.{figure}
use Rattle.bac6_text.specs.Rules.{figure_fault}
use Rattle.bac6_text.specs.Layout.{layout_of}

-- 1 to 13
unfoldable pub figure_outcome : List ℕ → Outcome Figure
figure_outcome text = outcome bac figure figure_fault text

-- 1 to 17, for a table of `room` numbers
unfoldable pub figure_answer : List ℕ → ℕ → Outcome Figure
figure_answer text room = fitted layout_of room (figure_outcome text)

-- the table at exit
unfoldable pub table_after : List ℕ → List ℤ → List ℤ
table_after text table = laid layout_of table (figure_answer text (length table))
