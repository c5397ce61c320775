-- 01's number and place of what a check answers.
use Rattle.std.specs.Prelude.{Result, Ok, Err}
use Rattle.refusal.specs.declared.checked.Refusal.{Refusal}
use Rattle.refusal.specs.Faults.{Fault, clear, fault}

-- 01's number and place, or none
abbrev pub refusal : {A : Type 0} → Result A Refusal → Fault
refusal (Ok a) = clear
refusal (Err e) = fault e.number e.place
