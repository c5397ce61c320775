-- Blanks and comments put directly after words of a text (document 02, (ix)), and where its words then stand.
use Rattle.std.specs.Prelude.{◌≡◌, List, [], ◌∷◌, ◌++◌, Bool, true, false, cond, ◌&&◌, ◌||◌, ℕ, suc, ◌+◌, ◌≤◌, eqb, ltb, length, take, drop, get_or}
use Rattle.text_bytes.specs.Bytes.{is_blank}
use Rattle.text_tokens.specs.Tokens.{Token, ending, Lexeme, lexeme, lex, width_of}
use Rattle.refusal.specs.Faults.{clear}
use Rattle.refusal.specs.FirstBad.{all}
use Rattle.text_check.specs.Faults.{Format, text_fault}

-- bytes of which the last is the first line feed
unfoldable pub is_line : List ℕ → Bool
is_line [] = false
is_line (b ∷ bs) = cond (eqb b 10) (eqb (length bs) 0) (is_line bs)

-- a comment with its line feed
unfoldable pub is_comment : List ℕ → Bool
is_comment [] = false
is_comment (b ∷ bs) = eqb b 59 && is_line bs

-- "any blanks, or a comment with its line feed"
unfoldable pub is_gap : List ℕ → Bool
is_gap bs = all is_blank bs || is_comment bs

-- the token of a number, counted from 0; the text's end is the last
unfoldable pub token_at : List Lexeme → ℕ → Lexeme
token_at ms i = get_or ms i (lexeme 0 ending)

-- where it ends
unfoldable pub end_of : List Lexeme → ℕ → ℕ
end_of ms i = (token_at ms i).offset + width_of (token_at ms i).token

-- the tokens without their offsets
unfoldable pub tokens_of : List Lexeme → List Token
tokens_of [] = []
tokens_of (m ∷ ms) = m.token ∷ tokens_of ms

-- bytes put into a text before the byte at an offset
unfoldable pub with_gap : List ℕ → ℕ → List ℕ → List ℕ
with_gap text at gap = take at text ++ (gap ++ drop at text)

-- a note: the number of the word that it stands after, and its bytes
abbrev pub Note : Type 0
Note = ℕ × List ℕ

-- after a word, which the text's end is not
unfoldable pub is_note : List Lexeme → Note → Bool
is_note ms (i, gap) = ltb (suc i) (length ms) && is_gap gap

unfoldable pub noted : Note → List ℕ → List ℕ
noted (i, gap) text = with_gap text (end_of (lex text) i) gap

-- one note after another
unfoldable pub annotated : List Note → List ℕ → List ℕ
annotated [] text = text
annotated (n ∷ ns) text = annotated ns (noted n text)

-- "Take a text that passes 1 to 4, and put directly after any word but the last any blanks, or a comment with its line feed. If both are at most 65,536 bytes": any number of times, and after the last word too
pub record Annotates (f : Format) (text after : List ℕ) : Type 0 where
  pub passes : text_fault f text ≡ clear
  pub notes : List Note
  pub sound : all (is_note (lex text)) notes ≡ true
  pub made : annotated notes text ≡ after
  pub most : length after ≤ 65536

-- ---- tokens whose offsets are moved

unfoldable pub moved : (ℕ → ℕ) → List Lexeme → List Lexeme
moved to [] = []
moved to (m ∷ ms) = lexeme (to m.offset) m.token ∷ moved to ms

-- from an offset on, so many bytes further
unfoldable pub shifted : ℕ → ℕ → ℕ → ℕ
shifted at k p = elim (ltb p at) [ true ↦ p | false ↦ p + k ]
