-- What the answer of the code means.
use Rattle.std.specs.Borrow.{Bor}
use Rattle.std.specs.Prelude.{List, ℕ, Option as Answer, Some, None}
use Rattle.std.proofs.Math.Option.{Option, none, some}

-- the bytes of the part
abbrev pub named : Answer (Bor (List ℕ)) → Option (List ℕ)
named None = none
named (Some text) = some text.now
