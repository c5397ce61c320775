-- `keyword` takes a plain word of its bytes, and refuses any other token.
use mathlib.Core.Path.{refl, sym, ◌∙◌}
use Rattle.text_tokens.specs.Tokens.{is_keyword}
use Rattle.parse_spec.specs.Readers.{word_of}
use Rattle.parse_cursor.proofs.Steps.{took, balked}
use Rattle.parse_cursor.proofs.cursor.keyword.Goals as goal

pub returns-then-is_keyword : goal.returns-then-is_keyword
unfolding word_of is_keyword
returns-then-is_keyword c = rw c.in_ok-c.was (took _ _ _ c.next-word_span.ensures (is_keyword _) refl (sym c.is_keyword.ensures ∙ c.if-is_keyword.true))

pub returns : goal.returns
unfolding word_of is_keyword
returns c = rw c.in_ok-c.was (balked _ _ _ c.next-word_span.ensures (is_keyword _) refl (sym c.is_keyword.ensures ∙ c.if-is_keyword.false))
