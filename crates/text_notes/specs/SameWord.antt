-- "at the same word, list, row, count or text's end" (document 02, (ix)): a place in each of two texts.
use Rattle.std.specs.Prelude.{◌≡◌, List, true, false, ℕ, ◌<◌, length}
use Rattle.text_bytes.specs.Bytes.{between}
use Rattle.text_tokens.specs.Tokens.{Lexeme, lex}
use Rattle.text_notes.specs.Notes.{token_at}

-- the offsets of one word by its number, or of the text's end, which is the last
pub record SameWord (ms ms' : List Lexeme) (p p' : ℕ) : Type 0 where
  pub number : ℕ
  pub within : number < length ms
  pub within' : number < length ms'
  pub word : (token_at ms' number).token ≡ (token_at ms number).token
  pub place : (token_at ms number).offset ≡ p
  pub place' : (token_at ms' number).offset ≡ p'

-- the places of one refusal: of 5, 6 and 7 one word's, of any other number the same list, row, count or total. 1 to 4 do not occur in a text that passes them, and no two tokens of a text share an offset (`words-apart`), so that a place tells its word
unfoldable pub SamePlace : List ℕ → List ℕ → ℕ → ℕ → ℕ → Type 0
SamePlace text text' n p p' = elim (between 5 7 n) as (λ x. Type 0) [ true ↦ SameWord (lex text) (lex text') p p' | false ↦ p' ≡ p ]
