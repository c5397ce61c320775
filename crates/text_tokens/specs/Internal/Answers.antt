-- What each answer of the code says in the definitions' terms.
use Rattle.std.specs.Prelude.{◌≡◌, List, [], ◌∷◌, Bool, true, false, ℕ, suc, ◌+◌, ◌≤◌, ◌<◌, min, length}
use Rattle.text_tokens.specs.declared.token.Kind.{Kind}
use Rattle.text_tokens.specs.declared.token.Kind.TheVariants.{Opening, Closing, Quoted, Plain, Ending}
use Rattle.text_tokens.specs.declared.token.Span.{Span}
use Rattle.text_runs.specs.Runs.{part}
use Rattle.text_tokens.specs.Tokens.{Token, opening, closing, ending, quoted, plain, Lexeme, lexeme, first, lex_at, bytes_of, width_of}

-- a token by its kind and the bytes that it holds
unfoldable pub token_of : Kind → List ℕ → Token
token_of Opening bs = opening
token_of Closing bs = closing
token_of Quoted bs = quoted bs
token_of Plain bs = plain bs
token_of Ending bs = ending

unfoldable pub kind_of : Token → Kind
kind_of opening = Opening
kind_of closing = Closing
kind_of ending = Ending
kind_of (quoted bs) = Quoted
kind_of (plain bs) = Plain

unfoldable pub is_ending : Kind → Bool
is_ending Opening = false
is_ending Closing = false
is_ending Quoted = false
is_ending Plain = false
is_ending Ending = true

-- where a lexeme lies in a text of n bytes: an unended string ends with the text
unfoldable pub span_of : ℕ → Lexeme → Span
span_of n m = record { kind = kind_of m.token; start = m.offset; end = min (m.offset + width_of m.token) n; length = length (bytes_of m.token) }

-- the first token at or after an offset
unfoldable pub span_at : List ℕ → ℕ → Span
span_at text at = span_of (length text) (first (lex_at text at))

-- the bytes that a span's token holds: a string's stand after its quote
unfoldable pub held_bytes : List ℕ → Kind → ℕ → ℕ → ℕ → List ℕ
held_bytes text Opening start end n = []
held_bytes text Closing start end n = []
held_bytes text Quoted start end n = part text (suc start) (suc start + n)
held_bytes text Plain start end n = part text start end
held_bytes text Ending start end n = []

unfoldable pub lexeme_of : List ℕ → Span → Lexeme
lexeme_of text s = lexeme s.start (token_of s.kind (held_bytes text s.kind s.start s.end s.length))

-- the tokens from a span's end on: none after the last
unfoldable pub after : List ℕ → Span → List Lexeme
after text s = elim (is_ending s.kind) [ true ↦ [] | false ↦ lex_at text s.end ]

-- what the next token at or after an offset is
pub record Next (text : List ℕ) (at : ℕ) (r : Span) : Type 0 where
  pub is : r ≡ span_at text at
  pub tokens : lex_at text at ≡ lexeme_of text r ∷ after text r
  pub within : r.end ≤ length text
  pub moves : is_ending r.kind ≡ false → (at ≤ r.start) × (r.start < r.end)
