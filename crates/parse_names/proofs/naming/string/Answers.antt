-- `string` goes by whether the next token is quoted.
use mathlib.Core.Path.{sym, ◌∙◌}
use native.Mathlib.Omega.{arith}
use Rattle.text_tokens.specs.Tokens.{lexeme}
use Rattle.text_tokens.specs.Internal.Answers.{lexeme_of}
use Rattle.parse_names.proofs.NameSteps.{string-inside, string-quoted, string-other}
use Rattle.parse_names.proofs.naming.string.Goals as goal

pub overflow_add-found : goal.overflow_add-found
unfolding lexeme_of lexeme
overflow_add-found c = omega (arith, string-inside _ _ _ c.next-t.ensures (sym (c.is_quoted.ensures _) ∙ c.if-is_quoted.true))

pub returns-then-is_quoted : goal.returns-then-is_quoted
unfolding lexeme_of lexeme
returns-then-is_quoted c = rw c.in_ok-c.was (string-quoted _ _ _ c.next-t.ensures (sym (c.is_quoted.ensures _) ∙ c.if-is_quoted.true))

pub returns : goal.returns
unfolding lexeme_of lexeme
returns c = rw c.in_ok-c.was (string-other _ _ _ c.next-t.ensures (sym (c.is_quoted.ensures _) ∙ c.if-is_quoted.false))
