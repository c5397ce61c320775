-- A name without its place.
use Rattle.std.specs.Prelude.{ℕ, zero, suc}
use Rattle.parse_spec.specs.Readers.{Name}

-- 0 of an absent name, 1 of any other
unfoldable pub presence_at : ℕ → ℕ
presence_at zero = 0
presence_at (suc p) = 1

unfoldable pub placeless_name : Name → Name
placeless_name n = record { at = presence_at n.at; bytes = n.bytes }
