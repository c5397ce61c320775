-- `next_chunk` is the definition: each test of the token is a law of heads, and after the opening bracket comes the keyword.
use mathlib.Core.Path.{sym, ◌∙◌}
use Rattle.text_tokens.specs.Tokens.{lexeme}
use Rattle.text_tokens.specs.Internal.Answers.{lexeme_of}
use Rattle.parse_chunks.proofs.Heads.{next_close, next_early, next_full, next_other, next_open}
use Rattle.parse_chunks.proofs.chunk.next_chunk.Goals as goal
use Rattle.parse_chunks.proofs.chunk.next_chunk.Goals.{then-left-eq0-via-then-left-eq0, then-left-eq0-via-else-left-eq0+then-not-is_opening}

pub returns-then-covers-clause-kind_value : goal.returns-then-covers-clause-kind_value
unfolding lexeme_of lexeme
returns-then-covers-clause-kind_value c =
    rw c.in_ok-c.was (next_close _ _ _ c.next-t.ensures _ _ _ _ (sym (c.is_closing.ensures _) ∙ c.if-is_closing.true) (sym c.covers.ensures ∙ c.if-covers.true))

pub returns-then-is_closing-clause-kind_value : goal.returns-then-is_closing-clause-kind_value
unfolding lexeme_of lexeme
returns-then-is_closing-clause-kind_value c =
    rw c.in_ok-c.was (next_early _ _ _ c.next-t.ensures _ _ _ _ (sym (c.is_closing.ensures _) ∙ c.if-is_closing.true) (sym c.covers.ensures ∙ c.if-covers.false))

pub returns-then-left-eq0-clause-kind_value : goal.returns-then-left-eq0-clause-kind_value
unfolding lexeme_of lexeme
returns-then-left-eq0-clause-kind_value c =
    let no = sym (c.is_closing.ensures _) ∙ c.if-is_closing.false in
    rw c.in_ok-c.was
    (elim c.then-left-eq0.branch [
      | then-left-eq0-via-then-left-eq0 w ↦ next_full _ _ _ c.next-t.ensures _ _ _ _ w.if-left-eq0.true no
      | then-left-eq0-via-else-left-eq0+then-not-is_opening w ↦ next_other _ _ _ c.next-t.ensures _ _ _ _ no (sym (w.is_opening.ensures _) ∙ w.if-not-is_opening.true)
    ])

pub returns-clause-kind_value : goal.returns-clause-kind_value
unfolding lexeme_of lexeme
returns-clause-kind_value c =
    rw c.in_ok-c.was
    (next_open _ _ _ c.next-t.ensures _ _ _ _ c.if-left-eq0.false (sym (c.is_closing.ensures _) ∙ c.if-is_closing.false) (sym (c.is_opening.ensures _) ∙ c.if-not-is_opening.false) c.next_keyword.ensures.kind_value)
