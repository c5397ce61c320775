-- `is_float` compares the magnitude.
use Rattle.std.proofs.Common.{ap, sym, ◌∙◌, ℤ}
use Rattle.std.specs.Prelude.{leb, nat_abs}
use Rattle.std.proofs.lemmas.Int.{to_z-of_z}
use Rattle.player_tests.proofs.Numbers.{float_size}
use Rattle.player_tests.proofs.number.is_float.Goals as goal

pub returns : goal.returns
returns c = rw c.magnitude.ensures (ap (λ (z : ℤ). leb (nat_abs z) 9999999999999) (to_z-of_z _ _ c.ranges.z) ∙ sym (float_size _))
