-- Counts that stay within the tokens of a text.
use Rattle.std.specs.Prelude.{List, ℕ, suc, ◌+◌, ◌≤◌, length, Result, IfOk}
use Rattle.refusal.specs.declared.checked.Refusal.{Refusal}
use Rattle.text_tokens.specs.Tokens.{lex_at}

-- n items and the tokens left are no more than a text's tokens
abbrev pub Bounded : List ℕ → ℕ → ℕ → Type 0
Bounded text at n = n + length (lex_at text at) ≤ suc (length text)

-- each item that is new has taken a token
abbrev pub Fewer : List ℕ → ℕ → ℕ → Result (ℕ × ℕ) Refusal → Type 0
Fewer text at n r = IfOk r (λ p. p.0 + length (lex_at text p.1) ≤ n + length (lex_at text at))
