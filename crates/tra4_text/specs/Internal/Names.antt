-- What holds of every name in a movement.
use Rattle.text_bytes.specs.Internal.Every.{Every}
use Rattle.parse_spec.specs.Readers.{Name}
use Rattle.tra4_text.specs.Movement.{Movement}

-- its own name, and each bone's
pub record NamedMovement (P : Name → Type 0) (m : Movement) : Type 0 where
  pub own : P m.name
  pub bones : Every (λ b. P b.name) m.bones
