-- The choices that a shape leaves, each by the tokens that come next.
use Rattle.std.specs.Prelude.{List, Bool, true, false, ℕ}
use Rattle.parse_spec.specs.Readers.{got, Reader, ◌>>◌, pure, token_of, rest, open_bracket, opened_of, starts}
use Rattle.text_kinds.specs.Kinds.{is_opening, is_closing}

-- in a list: past the ) that ends it, or past the ( of its next item
unfoldable pub item_of : Reader Bool
item_of ms = elim (is_closing (token_of ms)) [ true ↦ got true (rest ms) | false ↦ (open_bracket >> pure false) ms ]

-- a chunk that may be left out, before one that may not: past its ( and keyword, where both stand
unfoldable pub start_of : List ℕ → Reader Bool
start_of k ms = elim (starts k ms) [ true ↦ got true (rest (rest ms)) | false ↦ got false ms ]

-- a chunk that may be left out, as the last: past its ( and keyword, where ( stands
unfoldable pub last_of : List ℕ → Reader Bool
last_of k ms = elim (is_opening (token_of ms)) [ true ↦ (opened_of k >> pure true) ms | false ↦ got false ms ]
