-- Strings that stand in their text: the bytes of each are the part of the text that follows its quote.
use Rattle.std.specs.Prelude.{◌≡◌, List, true, ℕ, suc, ◌+◌, ◌≤◌, length}
use Rattle.text_bytes.specs.Bytes.{is_content}
use Rattle.text_runs.specs.Runs.{part}
use Rattle.text_bytes.specs.Internal.Every.{Every}
use Rattle.text_tokens.specs.Tokens.{Token, opening, closing, ending, quoted, plain, Lexeme}

-- bytes that begin at an offset of a text: that part of it, at most 255 bytes, each of them content
pub record StringAt (text : List ℕ) (start : ℕ) (bs : List ℕ) : Type 0 where
  pub is : part text start (start + length bs) ≡ bs
  pub most : length bs ≤ 255
  pub within : start + length bs ≤ length text
  pub content : Every (λ b. is_content b ≡ true) bs

-- a token whose bytes begin at an offset: a string stands there, of any other token nothing is said
abbrev pub StandsAt : List ℕ → ℕ → Token → Type 0
StandsAt text start opening = Unit {0}
StandsAt text start closing = Unit {0}
StandsAt text start ending = Unit {0}
StandsAt text start (quoted bs) = StringAt text start bs
StandsAt text start (plain bs) = Unit {0}

-- a string stands after its quote
abbrev pub Stands : List ℕ → Lexeme → Type 0
Stands text m = StandsAt text (suc m.offset) m.token
