-- What the code's formats and scanned strings are in the definitions' terms.
use Rattle.std.specs.Prelude.{List, ℕ, ◌≤◌, ◌<◌, drop, Result, Ok, Err}
use Rattle.refusal.specs.declared.checked.Refusal.{Refusal}
use Rattle.text_check.specs.declared.check.Format.{Format as FormatName}
use Rattle.text_check.specs.declared.check.Format.TheVariants.{Bac, Tra}
use Rattle.text_check.specs.Faults.{fault_in, outside, Format, bac, tra}
use Rattle.refusal.specs.Faults.{Fault, fault}

unfoldable pub format_named : FormatName → Format
format_named Bac = bac
format_named Tra = tra

-- what a scanned string leaves: the first fault from its end on, or its own
abbrev pub scanned : List ℕ → Result ℕ Refusal → Fault
scanned text (Ok n) = fault_in outside n (drop n text)
scanned text (Err e) = fault e.number e.place

-- a string that ends does so after its quote and within n bytes
abbrev pub Ahead : ℕ → ℕ → Result ℕ Refusal → Type 0
Ahead q n (Ok e) = (q < e) × (e ≤ n)
Ahead q n (Err e) = Unit {0}
