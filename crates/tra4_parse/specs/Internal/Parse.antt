-- A whole movement's text, its lists written to tables.
use Rattle.std.specs.Prelude.{List, ℕ, ℤ}
use Rattle.text_numerals.specs.Numbers.{INT}
use Rattle.parse_spec.specs.Readers.{Reader, ◌>>=◌, ◌>>◌, pure, head, opened, closed, number, close_bracket, text_end}
use Rattle.parse_spec.specs.Internal.Places.{optional_name}
use Rattle.tra4_bones.specs.Internal.Into.{bones_into}
use Rattle.tra4_bone.specs.Internal.Into.{Kept}
use Rattle.tra4_patterns.specs.Internal.Patterns.{patterns_into}

-- the total of frames; the name's place and length; how many bones there are and what is kept of them; how many pattern lines, and their table
pub record MovementValue : Type 0 where
  pub total : ℤ
  pub name : ℕ × ℕ
  pub bones : ℕ × Kept
  pub patterns : ℕ × List ℤ

unfoldable pub movement_value : ℤ → ℕ × ℕ → ℕ × Kept → ℕ × List ℤ → MovementValue
movement_value t n b p = record { total = t; name = n; bones = b; patterns = p }

unfoldable pub movement_into : List ℤ → List ℤ → List ℤ → Reader MovementValue
movement_into bones keys patterns = do
  head "traVersion" "4.0"
  opened "Figure"
  n ← optional_name
  opened "totalFrame"
  t ← closed (number INT)
  b ← bones_into bones keys
  p ← patterns_into patterns
  close_bracket
  text_end
  pure (movement_value t n b p)
