-- `next_item` is the definition by the kind of the next token.
use mathlib.Core.Path.{sym, ◌∙◌}
use Rattle.text_tokens.specs.Tokens.{lexeme}
use Rattle.text_tokens.specs.Internal.Answers.{lexeme_of}
use Rattle.parse_cursor.proofs.Branches.{item_ends, item_opens, item_stops}
use Rattle.parse_numbers.proofs.items.next_item.Goals as goal

pub returns-then-is_closing : goal.returns-then-is_closing
unfolding lexeme_of lexeme
returns-then-is_closing c = rw c.in_ok-c.was (item_ends _ _ _ c.next-t.ensures (sym (c.is_closing.ensures _) ∙ c.if-is_closing.true))

pub returns-then-is_opening : goal.returns-then-is_opening
unfolding lexeme_of lexeme
returns-then-is_opening c =
    rw c.in_ok-c.was
    (item_opens _ _ _ c.next-t.ensures (sym (c.is_closing.ensures _) ∙ c.if-is_closing.false) (sym (c.is_opening.ensures _) ∙ c.if-is_opening.true))

pub returns : goal.returns
unfolding lexeme_of lexeme
returns c =
    rw c.in_ok-c.was
    (item_stops _ _ _ c.next-t.ensures (sym (c.is_closing.ensures _) ∙ c.if-is_closing.false) (sym (c.is_opening.ensures _) ∙ c.if-is_opening.false))
