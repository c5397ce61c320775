-- What the structs of the code mean, and 01's number, place and file of each answer.
use Rattle.std.proofs.Math.Option.{Option, none, some}
use Rattle.std.specs.Prelude.{ℕ}

-- 01's number, place and file of an answer, with its values: 21 has place 0 and file 0, and an answer that is given zeros
unfoldable pub numbered : {A : Type 0} → Option A → ℕ × ℕ × ℕ × Option A
numbered none = (21, 0, 0, none)
numbered (some a) = (0, 0, 0, some a)
