-- What the answer of the code means.
use Rattle.std.proofs.Math.Option.{Option, none, some}
use Rattle.std.specs.Prelude.{ℕ, Option as Answer, Some, None}
use Rattle.player_names.specs.declared.names.NameSpan.{NameSpan}

abbrev pub found : Answer NameSpan → Option (ℕ × ℕ)
found None = none
found (Some s) = some (s.start, s.end)
