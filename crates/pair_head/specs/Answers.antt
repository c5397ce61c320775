-- What each answer of the code says in the definitions' terms.
use Rattle.std.proofs.Math.Option.{Option, none, some}
use Rattle.std.specs.Prelude.{ℕ, Option as Optional, Some, None, Result, Ok, Err}
use Rattle.refusal.specs.declared.checked.Refusal.{Refusal}
use Rattle.pair_head.specs.Division.{Divided, figure, refused}

unfoldable pub length_named : Optional ℕ → Option ℕ
length_named (Some n) = some n
length_named None = none

unfoldable pub division_named : Result ℕ Refusal → Divided
division_named (Ok end) = figure end
division_named (Err e) = refused e.number
