-- `number` is below a hundred million, as what eight digits say is.
use Rattle.std.proofs.Common.{◌≡◌, ◌<◌, ℕ, List, refl, arith, Option, Some, None, unwrap_or}
use Rattle.pair_head.specs.Division.{head_of}
use Rattle.pair_head.specs.Answers.{length_named}
use Rattle.pair_head.proofs.Heads.{head-below}
use Rattle.pair_vectors.proofs.number.Goals as goal

below : (bytes : List ℕ) (h : Option ℕ) → length_named h ≡ head_of bytes → unwrap_or h 0 < 100000000
below bytes None e = omega arith
below bytes (Some n) e = head-below bytes (Some n) n e refl

pub returns : goal.returns
returns c = rw c.unwrap_or.ensures (below _ c.parse_head.result c.parse_head.ensures)
