-- None of the words passed is the token's.
use Rattle.std.proofs.Common.{◌≡◌, ◌+◌, ◌-◌, ◌≤◌, length, drop}
use Rattle.text_tokens.specs.Internal.Answers.{lexeme_of}
use Rattle.parse_words.specs.Internal.Words.{words, index_in}
use Rattle.parse_words.proofs.words.word_index.Given as goal

abbrev pub invariant-loop-t : goal.invariant-loop-t
invariant-loop-t l =
    (l.start ≤ length l.list) × (l.row ≤ l.start)
    × (index_in (lexeme_of l.text l.t).token (words l.list) ≡ l.row + index_in (lexeme_of l.text l.t).token (words (drop l.start l.list)))

abbrev pub decreases-loop-t : goal.decreases-loop-t
decreases-loop-t l = length l.list - l.start
