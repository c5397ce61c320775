-- `version` goes by whether the next token is the word wanted, and else by whether it is plain.
use mathlib.Core.Path.{sym, ◌∙◌}
use Rattle.text_tokens.specs.Tokens.{lexeme}
use Rattle.text_tokens.specs.Internal.Answers.{lexeme_of}
use Rattle.parse_text.proofs.HeadSteps.{version_right, version-wrong, version_missing}
use Rattle.parse_text.proofs.heading.version.Goals as goal

pub returns-then-is_keyword : goal.returns-then-is_keyword
unfolding lexeme_of lexeme
returns-then-is_keyword c = rw c.in_ok-c.was (version_right _ _ _ c.next-t.ensures _ (sym c.is_keyword.ensures ∙ c.if-is_keyword.true))

pub returns-then-is_plain : goal.returns-then-is_plain
unfolding lexeme_of lexeme
returns-then-is_plain c = rw c.in_ok-c.was (version-wrong _ _ _ c.next-t.ensures _ (sym c.is_keyword.ensures ∙ c.if-is_keyword.false) (sym (c.is_plain.ensures _) ∙ c.if-is_plain.true))

pub returns : goal.returns
unfolding lexeme_of lexeme
returns c = rw c.in_ok-c.was (version_missing _ _ _ c.next-t.ensures _ (sym (c.is_plain.ensures _) ∙ c.if-is_plain.false))
