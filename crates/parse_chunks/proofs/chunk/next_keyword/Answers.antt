-- `next_keyword` is the definition: a plain word by its row in the list and the row's flag, any other token refused.
use mathlib.Core.Path.{sym, ◌∙◌}
use Rattle.text_tokens.specs.Tokens.{lexeme}
use Rattle.text_tokens.specs.Internal.Answers.{lexeme_of}
use Rattle.parse_chunks.proofs.Heads.{unmet-other, unmet_past, unmet-set, unmet_yes, word_no, word_yes}
use Rattle.parse_chunks.proofs.chunk.next_keyword.Goals as goal
use Rattle.parse_chunks.proofs.chunk.next_keyword.Goals.{else-k-seen-via-then-k-seen+else-not-seen-k, else-k-seen-via-else-k-seen}

pub returns-then-not-seen-k-clause-kind_value : goal.returns-then-not-seen-k-clause-kind_value
unfolding lexeme_of lexeme
returns-then-not-seen-k-clause-kind_value c =
    let k = c.word_index-k.ensures in
    rw k (word_yes _ _ _ c.next-t.ensures _ _
    (unmet_yes _ _ _ (sym (c.is_plain.ensures _) ∙ c.if-is_plain.true) (rw (← k) c.if-k-seen.true) (rw (← k) c.if-not-seen-k.true)))

pub returns-else-k-seen-clause-kind_value : goal.returns-else-k-seen-clause-kind_value
unfolding lexeme_of lexeme
returns-else-k-seen-clause-kind_value c =
    let k = c.word_index-k.ensures in
    word_no _ _ _ c.next-t.ensures _ _
    (elim c.else-k-seen.branch [
      | else-k-seen-via-then-k-seen+else-not-seen-k w ↦ unmet-set _ _ _ (rw (← k) w.if-not-seen-k.false)
      | else-k-seen-via-else-k-seen w ↦ unmet_past _ _ _ (rw (← k) w.if-k-seen.false)
    ])

pub returns-else-is_plain-clause-kind_value : goal.returns-else-is_plain-clause-kind_value
unfolding lexeme_of lexeme
returns-else-is_plain-clause-kind_value c = word_no _ _ _ c.next-t.ensures _ _ (unmet-other _ _ _ (sym (c.is_plain.ensures _) ∙ c.if-is_plain.false))
