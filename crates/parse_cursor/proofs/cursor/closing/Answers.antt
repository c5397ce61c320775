-- `closing` takes the token that its test takes, and refuses any other.
use mathlib.Core.Path.{refl, sym, ◌∙◌}
use Rattle.text_tokens.specs.Internal.Answers.{lexeme_of}
use Rattle.text_tokens.specs.Tokens.{lexeme}
use Rattle.text_kinds.specs.Kinds.{is_closing}
use Rattle.parse_spec.specs.Readers.{close_bracket}
use Rattle.parse_cursor.proofs.Steps.{took, balked}
use Rattle.parse_cursor.proofs.cursor.closing.Goals as goal

pub returns-then-is_closing : goal.returns-then-is_closing
unfolding close_bracket is_closing lexeme_of lexeme
returns-then-is_closing c = rw c.in_ok-c.was (took _ _ _ c.next-span.ensures is_closing refl (sym (c.is_closing.ensures _) ∙ c.if-is_closing.true))

pub returns : goal.returns
unfolding close_bracket is_closing lexeme_of lexeme
returns c = rw c.in_ok-c.was (balked _ _ _ c.next-span.ensures is_closing refl (sym (c.is_closing.ensures _) ∙ c.if-is_closing.false))
