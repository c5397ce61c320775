-- `text_end` goes by whether the next token is the last.
use mathlib.Core.Path.{sym, ◌∙◌}
use Rattle.text_tokens.specs.Tokens.{lexeme}
use Rattle.text_tokens.specs.Internal.Answers.{lexeme_of}
use Rattle.parse_text.proofs.HeadSteps.{end_here, end_later}
use Rattle.parse_text.proofs.heading.text_end.Goals as goal

pub returns-then-is_ending : goal.returns-then-is_ending
unfolding lexeme_of lexeme
returns-then-is_ending c = rw c.in_ok-at.was (end_here _ _ _ c.next-left.ensures (sym (c.is_ending.ensures _) ∙ c.if-is_ending.true))

pub returns : goal.returns
unfolding lexeme_of lexeme
returns c = rw c.in_ok-at.was (end_later _ _ _ c.next-left.ensures (sym (c.is_ending.ensures _) ∙ c.if-is_ending.false))
