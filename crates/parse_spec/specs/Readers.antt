-- Readers of tokens: what each takes, and the first token that cannot continue the shape (refusal 5).
use Rattle.std.specs.Prelude.{List, [], ◌∷◌, ◌++◌, Bool, true, false, ◌&&◌, ℕ, zero, suc, length, ℤ, pos}
use Prim.Native.String.{String}
use Rattle.text_bytes.specs.Bytes.{bytes}
use Rattle.text_runs.specs.Runs.{same}
use Rattle.text_tokens.specs.Tokens.{Token, opening, closing, ending, quoted, plain, Lexeme, is_keyword}
use Rattle.text_numerals.specs.Numbers.{Number, value, beyond, wrong, Form, INT, number_of, refusal_of}
use Rattle.text_kinds.specs.Kinds.{is_closing, is_end, is_opening}

-- what was read and the tokens left, or a refusal's number and offset
pub data Got (A : Type 0) : Type 0 where
  got : A → List Lexeme → Got A
  refused : ℕ → ℕ → Got A

abbrev pub Reader : Type 0 → Type 0
Reader A = List Lexeme → Got A

infixl 10 ◌>>=◌ ◌>>◌
unfoldable pub after : {A B : Type 0} → Got A → (A → Reader B) → Got B
after (got a ms) f = f a ms
after (refused n p) f = refused n p

unfoldable pub ◌>>=◌ : {A B : Type 0} → Reader A → (A → Reader B) → Reader B
◌>>=◌ r f ms = after (r ms) f

unfoldable pub ◌>>◌ : {A B : Type 0} → Reader A → Reader B → Reader B
◌>>◌ r s ms = after (r ms) (λ _. s)

unfoldable pub pure : {A : Type 0} → A → Reader A
pure a ms = got a ms

-- a refusal at the next token
unfoldable pub stop : {A : Type 0} → ℕ → Reader A
stop n [] = refused n 0
stop n (m ∷ ms) = refused n m.offset

-- the next token, and the tokens after it
unfoldable pub token_of : List Lexeme → Token
token_of [] = ending
token_of (m ∷ ms) = m.token

unfoldable pub rest : List Lexeme → List Lexeme
rest [] = []
rest (m ∷ ms) = ms

-- the next token, where a test takes it
unfoldable pub take_if : (Token → Bool) → Reader (Unit {0})
take_if t ms = elim (t (token_of ms)) [ true ↦ got tt (rest ms) | false ↦ stop 5 ms ]

unfoldable pub open_bracket : Reader (Unit {0})
open_bracket = take_if is_opening

unfoldable pub close_bracket : Reader (Unit {0})
close_bracket = take_if is_closing

-- a keyword, by its bytes
unfoldable pub word_of : List ℕ → Reader (Unit {0})
word_of k = take_if (is_keyword k)

unfoldable pub keyword : String → Reader (Unit {0})
keyword k = word_of (bytes k)

-- nothing is left
unfoldable pub text_end : Reader (Unit {0})
text_end ms = elim (is_end (token_of ms)) [ true ↦ got tt ms | false ↦ stop 5 ms ]

-- ( k
unfoldable pub opened_of : List ℕ → Reader (Unit {0})
opened_of k = open_bracket >> word_of k

unfoldable pub opened : String → Reader (Unit {0})
opened k = opened_of (bytes k)

-- what a reader takes, and )
unfoldable pub closed : {A : Type 0} → Reader A → Reader A
closed r = r >>= λ a. close_bracket >> pure a

-- a number of a form
unfoldable pub number_in : Number → Reader ℤ
number_in (value z) ms = got z (rest ms)
number_in beyond ms = stop (refusal_of beyond) ms
number_in wrong ms = stop (refusal_of wrong) ms

unfoldable pub number_at : Form → Token → Reader ℤ
number_at f opening ms = stop 5 ms
number_at f closing ms = stop 5 ms
number_at f ending ms = stop 5 ms
number_at f (quoted bs) ms = stop 5 ms
number_at f (plain bs) ms = number_in (number_of f bs) ms

unfoldable pub number : Form → Reader ℤ
number f ms = number_at f (token_of ms) ms

unfoldable pub numbers : Form → ℕ → Reader (List ℤ)
numbers f zero = pure []
numbers f (suc n) = number f >>= λ z. numbers f n >>= λ zs. pure (z ∷ zs)

-- the version: 7 for another plain word, 5 for another token
unfoldable pub version_at : List ℕ → Token → Reader (Unit {0})
version_at v opening ms = stop 5 ms
version_at v closing ms = stop 5 ms
version_at v ending ms = stop 5 ms
version_at v (quoted bs) ms = stop 5 ms
version_at v (plain bs) ms = elim (same bs v) [ true ↦ got tt (rest ms) | false ↦ stop 7 ms ]

unfoldable pub version : List ℕ → Reader (Unit {0})
version v ms = version_at v (token_of ms) ms

-- a name: the offset of its first byte, and its bytes
pub record Name : Type 0 where
  pub at : ℕ
  pub bytes : List ℕ

unfoldable pub absent : Name
absent = record { at = 0; bytes = [] }

unfoldable pub name_at : Token → Reader Name
name_at opening ms = stop 5 ms
name_at closing ms = stop 5 ms
name_at ending ms = stop 5 ms
name_at (quoted bs) [] = refused 5 0
name_at (quoted bs) (m ∷ ms) = got (record { at = suc m.offset; bytes = bs }) ms
name_at (plain bs) ms = stop 5 ms

unfoldable pub string : Reader Name
string ms = name_at (token_of ms) ms

-- the row of the keyword that comes next, in a list of them
unfoldable pub one_from : ℕ → List String → Reader ℕ
one_from n [] ms = stop 5 ms
one_from n (k ∷ ks) ms = elim (is_keyword (bytes k) (token_of ms)) [ true ↦ got n (rest ms) | false ↦ one_from (suc n) ks ms ]

unfoldable pub one_of : List String → Reader ℕ
one_of ks = one_from 0 ks

-- the same, as a number of a table
unfoldable pub word : List String → Reader ℤ
word ks = one_of ks >>= λ n. pure (pos n)

-- false is 0 and true is 1
unfoldable pub truth : Reader ℤ
truth = word ("false" ∷ "true" ∷ [])

-- a chunk that may be left out, before one that may not
unfoldable pub starts : List ℕ → List Lexeme → Bool
starts k ms = is_opening (token_of ms) && is_keyword k (token_of (rest ms))

unfoldable pub optional : {A : Type 0} → String → A → Reader A → Reader A
optional k a r ms = elim (starts (bytes k) ms) [ true ↦ r (rest (rest ms)) | false ↦ got a ms ]

-- a chunk that may be left out, as the last
unfoldable pub trailing : {A : Type 0} → String → A → Reader A → Reader A
trailing k a r ms = elim (is_opening (token_of ms)) [ true ↦ (opened k >> r) ms | false ↦ got a ms ]

-- what a reader takes, again and again up to ), which is taken too; each takes at least one token, so there are turns enough
unfoldable pub many_in : {A : Type 0} → ℕ → Reader A → Reader (List A)
many_in zero r ms = stop 5 ms
many_in (suc n) r ms =
    elim (is_closing (token_of ms)) [
      | true ↦ got [] (rest ms)
      | false ↦ (r >>= λ a. many_in n r >>= λ l. pure (a ∷ l)) ms
    ]

unfoldable pub many : {A : Type 0} → Reader A → Reader (List A)
many r ms = many_in (length ms) r ms

unfoldable pub many⁺ : {A : Type 0} → Reader A → Reader (List A)
many⁺ r = r >>= λ a. many r >>= λ l. pure (a ∷ l)

-- the numbers of a row: first so many INT, then so many of a form
unfoldable pub cells : ℕ → Form → ℕ → Reader (List ℤ)
cells lead f n = numbers INT lead >>= λ a. numbers f n >>= λ b. pure (a ++ b)

-- ( k and a row's numbers )
unfoldable pub row_of : List ℕ → ℕ → Form → ℕ → Reader (List ℤ)
row_of k lead f n = opened_of k >> closed (cells lead f n)

-- all of one form
unfoldable pub row : String → Form → ℕ → Reader (List ℤ)
row k f n = row_of (bytes k) 0 f n

-- ( Head ( k v ) )
unfoldable pub head_of : List ℕ → List ℕ → Reader (Unit {0})
head_of k v = opened "Head" >> opened_of k >> closed (closed (version v))

unfoldable pub head : String → String → Reader (Unit {0})
head k v = head_of (bytes k) (bytes v)
