-- `next` is the next token: the tokens from `at` are those from `i`.
use Rattle.std.proofs.Common.{◌≡◌, ◌≤◌, ◌-◌, length}
use Rattle.text_tokens.specs.Tokens.{lex_at}
use Rattle.text_tokens.proofs.token.next.Given as goal

abbrev pub invariant-loop-i : goal.invariant-loop-i
invariant-loop-i l = (lex_at l.text l.at ≡ lex_at l.text l.i) × (l.at ≤ l.i)

abbrev pub decreases-loop-i : goal.decreases-loop-i
decreases-loop-i l = length l.text - l.i
