-- What the answers of the code say.
use Rattle.std.specs.Prelude.{ℕ, ◌+◌, ◌*◌, min, Result, Ok, Err}
use Rattle.refusal.specs.declared.checked.Refusal.{Refusal}
use Rattle.bac6_section.specs.declared.rows.Listed.{Listed}

-- a list of rows of w numbers, laid from an index on in a table of n numbers
unfoldable pub listed_at : Result (ℕ × ℕ) Refusal → ℕ → ℕ → ℕ → Result (Listed × ℕ) Refusal
listed_at (Ok p) at w n = Ok (record { count = p.0; end = min (at + p.0 * w) n }, p.1)
listed_at (Err e) at w n = Err e
