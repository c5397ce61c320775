-- `number` goes by what the next token is as a number.
use Rattle.text_numbers.specs.Internal.Answers.{number_named}
use Rattle.parse_cursor.proofs.NumberSteps.{number-value, number-beyond, number-wrong}
use mathlib.Core.Path.{sym, ◌∙◌}
use mir.Syntax.{w64}
use mir.Val.{SFits}
use mir.Facts.{to_z-of_z}
use borrow.Author.Rules.{rules}
use Rattle.parse_numbers.proofs.numerals.number.Goals as goal

pub returns-in-Ok : goal.returns-in-Ok
unfolding number_named
returns-in-Ok c =
    let f : SFits w64 c.in-Ok.value = search rules in
    rw (to_z-of_z f, c.in_ok-c.was) (number-value _ _ _ c.next-t.ensures _ _ (sym c.in-Ok.ensures))

pub returns-in-Err-Beyond : goal.returns-in-Err-Beyond
unfolding number_named
returns-in-Err-Beyond c = rw c.in_ok-c.was (number-beyond _ _ _ c.next-t.ensures _ (sym c.token_number.ensures ∙ rw (c.in-Err-Beyond.is, c.in-Err-Beyond.field-0-is)))

pub returns-in-Err-Malformed : goal.returns-in-Err-Malformed
unfolding number_named
returns-in-Err-Malformed c = rw c.in_ok-c.was (number-wrong _ _ _ c.next-t.ensures _ (sym c.token_number.ensures ∙ rw (c.in-Err-Malformed.is, c.in-Err-Malformed.field-0-is)))
