-- A list of keywords as one text, parted by single spaces, and the first of them that a token is.
use Rattle.std.specs.Prelude.{List, [], ◌∷◌, Bool, true, false, not, ◌&&◌, ℕ, suc, ltb, ℤ, pos}
use Rattle.text_bytes.specs.Bytes.{bytes, in_word}
use Rattle.text_runs.specs.Runs.{same}
use Rattle.text_tokens.specs.Tokens.{Token, is_keyword}
use Rattle.parse_spec.specs.Readers.{got, Reader, stop, token_of, rest}
use Rattle.text_kinds.specs.Internal.Kinds.{is_plain}
use Rattle.parse_spec.specs.Fields.{Kind}

-- a byte in front of the first word
unfoldable pub onto : ℕ → List (List ℕ) → List (List ℕ)
onto b [] = (b ∷ []) ∷ []
onto b (w ∷ ws) = (b ∷ w) ∷ ws

unfoldable pub words : List ℕ → List (List ℕ)
words [] = [] ∷ []
words (b ∷ bs) = elim (in_word b) [ true ↦ onto b (words bs) | false ↦ [] ∷ words bs ]

-- the row of the first word that a token is, or how many there are
unfoldable pub index_in : Token → List (List ℕ) → ℕ
index_in t [] = 0
index_in t (w ∷ ws) = elim (is_keyword w t) [ true ↦ 0 | false ↦ suc (index_in t ws) ]

-- the keywords of some kinds
unfoldable pub keys_of : {A : Type 0} → List (Kind A) → List (List ℕ)
keys_of [] = []
keys_of (k ∷ ks) = bytes k.key ∷ keys_of ks

-- no two words are the same
unfoldable pub differs : List ℕ → List (List ℕ) → Bool
differs w [] = true
differs w (v ∷ vs) = not (same w v) && differs w vs

unfoldable pub apart : List (List ℕ) → Bool
apart [] = true
apart (w ∷ ws) = differs w ws && apart ws

-- a plain word that is one of the first n of a list
unfoldable pub among : List ℕ → ℕ → Token → Bool
among list n t = is_plain t && ltb (index_in t (words list)) n

-- the row of that word
unfoldable pub word_in : List ℕ → ℕ → Reader ℤ
word_in list n ms = elim (among list n (token_of ms)) [ true ↦ got (pos (index_in (token_of ms) (words list))) (rest ms) | false ↦ stop 5 ms ]
