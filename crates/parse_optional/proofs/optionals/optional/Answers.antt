-- `optional` is the definition by the next two tokens.
use mathlib.Core.Path.{sym, ◌∙◌}
use Rattle.text_tokens.specs.Tokens.{lexeme}
use Rattle.text_tokens.specs.Internal.Answers.{lexeme_of}
use Rattle.parse_cursor.proofs.Branches.{start_no_bracket, start_no_word, start_word}
use Rattle.parse_optional.proofs.optionals.optional.Goals as goal

pub returns-then-not-is_opening : goal.returns-then-not-is_opening
unfolding lexeme_of lexeme
returns-then-not-is_opening c = rw c.in_ok-at.was (start_no_bracket _ _ _ _ c.next-t.ensures (sym (c.is_opening.ensures _) ∙ c.if-not-is_opening.true))

pub returns-then-not-is_keyword : goal.returns-then-not-is_keyword
unfolding lexeme_of lexeme
returns-then-not-is_keyword c =
    rw c.in_ok-at.was
    (start_no_word _ _ _ _ c.next-t.ensures (sym (c.is_opening.ensures _) ∙ c.if-not-is_opening.false) _ c.next-k.ensures (sym c.is_keyword.ensures ∙ c.if-not-is_keyword.true))

pub returns : goal.returns
unfolding lexeme_of lexeme
returns c =
    rw c.in_ok-at.was
    (start_word _ _ _ _ c.next-t.ensures (sym (c.is_opening.ensures _) ∙ c.if-not-is_opening.false) _ c.next-k.ensures (sym c.is_keyword.ensures ∙ c.if-not-is_keyword.false))
