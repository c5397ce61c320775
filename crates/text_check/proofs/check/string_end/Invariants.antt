-- `string_end` finds the string's end or its fault: the faults from the quote are those from `i`.
use Rattle.std.proofs.Common.{◌≡◌, ◌-◌, suc, drop}
use Rattle.text_check.specs.Faults.{fault_in, string}
use Rattle.text_check.proofs.check.string_end.Given as goal

abbrev pub invariant-loop-i : goal.invariant-loop-i
invariant-loop-i l =
    fault_in (string l.quote 0) (suc l.quote) (drop (suc l.quote) l.text) ≡ fault_in (string l.quote (l.i - suc l.quote)) l.i (drop l.i l.text)
