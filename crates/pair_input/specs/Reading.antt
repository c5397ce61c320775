-- What holds of an input that is read into a text, whatever its bytes are.
use Rattle.std.specs.Prelude.{List, ◌≡◌, ℕ, ◌<◌, length}
use Rattle.io.specs.Counts.{IsPrefixLen}
use Rattle.pair_input.specs.declared.reading.Input.{Input}

-- the bytes that are filled stand in the text; nothing follows where it is not full; some hundred million bytes are
-- counted at most
pub record Taken (text : List ℕ) (r : Input) : Type 0 where
  pub filled : IsPrefixLen r.size text
  pub ended : r.size < length text → r.more ≡ 0
  pub counted : r.more < 100004096
