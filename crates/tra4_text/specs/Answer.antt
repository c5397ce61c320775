-- What reading a movement answers (document 01, "Refusal numbers"), and what it leaves in the table.
use Rattle.std.specs.Prelude.{List, ℕ, length, ℤ}
use Rattle.text_check.specs.Faults.{tra}
use Rattle.refusal.specs.Outcomes.{Outcome, fitted, laid}
use Rattle.parse_text.specs.Texts.{outcome}
use Rattle.tra4_text.specs.Movement.{Movement}
use Rattle.tra4_text.specs.Grammar.{movement}
use Rattle.tra4_text.specs.Rules.{movement_fault}
use Rattle.tra4_text.specs.Layout.{layout_of}

-- 1 to 16
unfoldable pub movement_outcome : List ℕ → Outcome Movement
movement_outcome text = outcome tra movement movement_fault text

-- 1 to 17, for a table of `room` numbers
unfoldable pub movement_answer : List ℕ → ℕ → Outcome Movement
movement_answer text room = fitted layout_of room (movement_outcome text)

-- the table at exit
unfoldable pub movement_table : List ℕ → List ℤ → List ℤ
movement_table text table = laid layout_of table (movement_answer text (length table))
