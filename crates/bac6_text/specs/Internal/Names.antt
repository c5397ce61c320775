-- What holds of every name in a figure.
use Rattle.text_bytes.specs.Internal.Every.{Every}
use Rattle.parse_spec.specs.Readers.{Name}
use Rattle.bac6_text.specs.Figure.{Figure}

-- its own name, each bone's and each group's
pub record NamedFigure (P : Name → Type 0) (f : Figure) : Type 0 where
  pub own : P f.name
  pub bones : Every (λ b. P b.name) f.bones
  pub groups : Every (λ g. P g.name) f.groups
