-- The tokens of a text (document 01's "words"), each with the offset (01's "place") of its first byte.
use Rattle.std.specs.Prelude.{List, [], ◌∷◌, Bool, false, ℕ, zero, suc, ◌+◌, min, length, drop}
use Rattle.text_bytes.specs.Bytes.{blank, opener, closer, quote, semicolon, letter, other, class_of, is_letter, in_line, in_string}
use Rattle.text_runs.specs.Runs.{run, same}

-- `ending` stands at the text's length, after the last token
pub data Token : Type 0 where
  opening closing ending : Token
  quoted plain : List ℕ → Token

pub record Lexeme : Type 0 where
  pub offset : ℕ
  pub token : Token

unfoldable pub lexeme : ℕ → Token → Lexeme
lexeme p t = record { offset = p; token = t }

-- the tokens of the bytes that stand at offset p, of which the first k belong to what stands before them
unfoldable pub tokens : ℕ → ℕ → List ℕ → List Lexeme
tokens k p [] = lexeme p ending ∷ []
tokens (suc k) p (b ∷ bs) = tokens k (suc p) bs
tokens zero p (b ∷ bs) =
    elim (class_of b) [
      | blank ↦ tokens 0 (suc p) bs
      | opener ↦ lexeme p opening ∷ tokens 0 (suc p) bs
      | closer ↦ lexeme p closing ∷ tokens 0 (suc p) bs
      | quote ↦ lexeme p (quoted (run in_string bs)) ∷ tokens (suc (length (run in_string bs))) (suc p) bs
      | semicolon ↦ tokens (length (run in_line bs)) (suc p) bs
      | letter ↦ lexeme p (plain (b ∷ run is_letter bs)) ∷ tokens (length (run is_letter bs)) (suc p) bs
      | other ↦ tokens 0 (suc p) bs
    ]

-- the tokens from an offset on
unfoldable pub lex_at : List ℕ → ℕ → List Lexeme
lex_at text at = tokens 0 (min at (length text)) (drop at text)

-- the tokens of a text
unfoldable pub lex : List ℕ → List Lexeme
lex text = tokens 0 0 text

-- the first of some tokens; there is always one
unfoldable pub first : List Lexeme → Lexeme
first [] = lexeme 0 ending
first (m ∷ ms) = m

-- what a string or a plain word holds
unfoldable pub bytes_of : Token → List ℕ
bytes_of opening = []
bytes_of closing = []
bytes_of ending = []
bytes_of (quoted bs) = bs
bytes_of (plain bs) = bs

-- how many bytes of the text a token takes
unfoldable pub width_of : Token → ℕ
width_of opening = 1
width_of closing = 1
width_of ending = 0
width_of (quoted bs) = length bs + 2
width_of (plain bs) = length bs

-- whether a token is a keyword: a plain word of those bytes
unfoldable pub is_keyword : List ℕ → Token → Bool
is_keyword k opening = false
is_keyword k closing = false
is_keyword k ending = false
is_keyword k (quoted bs) = false
is_keyword k (plain bs) = same bs k
