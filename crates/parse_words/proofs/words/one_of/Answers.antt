-- `one_of` takes a plain word that is among the list's first, and refuses any other token.
use mathlib.Core.Path.{sym, ◌∙◌}
use Prim.Native.Nat.{◌<◌, ◌^◌}
use native.Mathlib.Omega.{arith}
use Rattle.text_tokens.specs.Tokens.{lexeme}
use Rattle.text_tokens.specs.Internal.Answers.{lexeme_of}
use Rattle.signed.proofs.Signed.{bits_pos}
use Rattle.parse_words.proofs.Vocabulary.{among-other, among_past, among_yes, word_took, word_balked}
use Rattle.parse_words.proofs.words.one_of.Goals as goal

pub returns-then-row-count : goal.returns-then-row-count
unfolding lexeme_of lexeme
returns-then-row-count c =
    let small : c.word_index-row.result < 2 ^ 63 = omega arith in
    rw (bits_pos _ small, c.in_ok-c.was, c.word_index-row.ensures)
    (word_took _ _ _ c.next-t.ensures _ _ (among_yes _ _ _ (sym (c.is_plain.ensures _) ∙ c.if-is_plain.true) (rw (← c.word_index-row.ensures) c.if-row-count.true)))

pub returns-else-row-count : goal.returns-else-row-count
unfolding lexeme_of lexeme
returns-else-row-count c =
    rw c.in_ok-c.was (word_balked _ _ _ c.next-t.ensures _ _ (among_past _ _ _ (sym (c.is_plain.ensures _) ∙ c.if-is_plain.true) (rw (← c.word_index-row.ensures) c.if-row-count.false)))

pub returns-else-is_plain : goal.returns-else-is_plain
unfolding lexeme_of lexeme
returns-else-is_plain c = rw c.in_ok-c.was (word_balked _ _ _ c.next-t.ensures _ _ (among-other _ _ _ (sym (c.is_plain.ensures _) ∙ c.if-is_plain.false)))
