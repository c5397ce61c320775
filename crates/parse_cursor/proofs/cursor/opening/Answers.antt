-- `opening` takes the token that its test takes, and refuses any other.
use mathlib.Core.Path.{refl, sym, ◌∙◌}
use Rattle.text_tokens.specs.Internal.Answers.{lexeme_of}
use Rattle.text_tokens.specs.Tokens.{lexeme}
use Rattle.text_kinds.specs.Kinds.{is_opening}
use Rattle.parse_spec.specs.Readers.{open_bracket}
use Rattle.parse_cursor.proofs.Steps.{took, balked}
use Rattle.parse_cursor.proofs.cursor.opening.Goals as goal

pub returns-then-is_opening : goal.returns-then-is_opening
unfolding open_bracket is_opening lexeme_of lexeme
returns-then-is_opening c = rw c.in_ok-c.was (took _ _ _ c.next-t.ensures is_opening refl (sym (c.is_opening.ensures _) ∙ c.if-is_opening.true))

pub returns : goal.returns
unfolding open_bracket is_opening lexeme_of lexeme
returns c = rw c.in_ok-c.was (balked _ _ _ c.next-t.ensures is_opening refl (sym (c.is_opening.ensures _) ∙ c.if-is_opening.false))
