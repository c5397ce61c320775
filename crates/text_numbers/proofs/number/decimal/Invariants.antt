-- `decimal` is the value of the digits: `value` is that of the digits so far.
use Rattle.std.proofs.Common.{◌≡◌, take}
use Rattle.text_numerals.specs.Numbers.{decimal}
use Rattle.text_numbers.proofs.number.decimal.Given as goal

abbrev pub invariant-loop-b : goal.invariant-loop-b
invariant-loop-b l = l.value ≡ decimal (take l.b-index l.digits)
