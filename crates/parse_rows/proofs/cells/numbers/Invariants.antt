-- The numbers left, over the table as it is, are all of them over the table as it came; what stands before the first index is as it came.
use Rattle.std.proofs.Common.{◌≡◌, ◌-◌, ◌≤◌, Ok, length, take}
use Rattle.parse_cursor.specs.Internal.Cursors.{from}
use Rattle.parse_numbers.specs.Internal.Answers.{form_named}
use Rattle.parse_rows.specs.Internal.Into.{numbers_into}
use Rattle.parse_rows.proofs.cells.numbers.Given as goal

abbrev pub invariant-loop : goal.invariant-loop
invariant-loop l =
    (from l.text (Ok l.initial.d) (numbers_into (form_named l.form) l.width l.at l.initial.out) ≡ from l.text (Ok l.d) (numbers_into (form_named l.form) (l.width - l.counter) l.i l.out))
    × (length l.out ≡ length l.initial.out)
    × (take l.at l.out ≡ take l.at l.initial.out)
    × (l.at ≤ l.i)
