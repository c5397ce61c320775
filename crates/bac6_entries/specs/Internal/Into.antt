-- The entries of a bone, as the code keeps them: the claims after each.
use Rattle.std.specs.Prelude.{List, Bool, ℕ, ℤ}
use Rattle.text_numerals.specs.Numbers.{INT}
use Rattle.parse_spec.specs.Readers.{Reader, ◌>>=◌, pure, number, many}
use Rattle.bac6_text.specs.Grammar.{bone}
use Rattle.bac6_owners.specs.Internal.Claims.{claimed}

-- the entries of a bone up to ): each claims its vertex
unfoldable pub entries_into : ℕ → ℤ → Bool × List ℤ → Reader (Bool × List ℤ)
entries_into n bone s = many (number INT) >>= λ zs. pure (claimed n bone s zs)
