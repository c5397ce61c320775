-- `trailing` is the definition by the next token.
use mathlib.Core.Path.{sym, ◌∙◌}
use Rattle.text_tokens.specs.Tokens.{lexeme}
use Rattle.text_tokens.specs.Internal.Answers.{lexeme_of}
use Rattle.parse_cursor.proofs.Steps.{onto_then, halt_then, parsed_exit, stopped}
use Rattle.parse_cursor.proofs.Branches.{last_no_bracket, last_bracket}
use Rattle.parse_optional.proofs.optionals.trailing.Goals as goal

pub returns-then-not-is_opening : goal.returns-then-not-is_opening
unfolding lexeme_of lexeme
returns-then-not-is_opening c = rw c.in_ok-at.was (last_no_bracket _ _ _ _ c.next-t.ensures (sym (c.is_opening.ensures _) ∙ c.if-not-is_opening.true))

pub returns-in_err-keyword : goal.returns-in_err-keyword
unfolding lexeme_of lexeme
returns-in_err-keyword c =
    let b = last_bracket _ _ _ _ c.next-t.ensures (sym (c.is_opening.ensures _) ∙ c.if-not-is_opening.false) in
    parsed_exit _ _ _ _ c.from_residual-in_err-keyword.ensures.1 (rw c.in_ok-at.was (sym b ∙ halt_then _ _ _ (stopped _ _ _ c.in_err-keyword.ensures) _))

pub returns : goal.returns
unfolding lexeme_of lexeme
returns c =
    let b = last_bracket _ _ _ _ c.next-t.ensures (sym (c.is_opening.ensures _) ∙ c.if-not-is_opening.false) in
    rw c.in_ok-at.was (sym (onto_then _ _ _ _ _ _ c.in_ok-keyword.ensures) ∙ b)
