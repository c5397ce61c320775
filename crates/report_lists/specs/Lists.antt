-- Lists of rows as lines, one line a row (document 01, "Listing").
use Rattle.std.specs.Prelude.{List, [], ◌∷◌, ◌++◌, map, true, false, ℕ, zero, suc, ◌*◌, eqb, leb, ℤ, pos, negsuc, length, take, drop}
use Rattle.text_bytes.specs.Bytes.{bytes}
use Rattle.report_text.specs.Text.{line}
use Rattle.report_text.specs.Output.{Output, output, appended}
use Rattle.report_lists.specs.declared.list.Progress.{Progress}

-- lines put one after another, each whole or not at all
unfoldable pub appended_each : Output → List (List ℕ) → Output
appended_each o [] = o
appended_each o (l ∷ ls) = appended_each (appended o l) ls

-- lines as one text
unfoldable pub text_of : List (List ℕ) → List ℕ
text_of [] = []
text_of (l ∷ ls) = l ++ text_of ls

-- a list of a table: its word, how many numbers a row has, how many rows there are
pub data RowList : Type 0 where
  row_list : List ℕ → ℕ → ℕ → RowList

-- the lines of so many rows; a row that the numbers do not hold whole is left out, and so are those after it
unfoldable pub row_lines : List ℕ → ℕ → ℕ → List ℤ → List (List ℕ)
row_lines word width zero zs = []
row_lines word width (suc n) zs = elim (leb width (length zs)) [ true ↦ line word (take width zs) ∷ row_lines word width n (drop width zs) | false ↦ [] ]

-- the lines of lists that stand without gaps
unfoldable pub list_lines : List RowList → List ℤ → List (List ℕ)
list_lines [] zs = []
list_lines (row_list word width count ∷ ls) zs = row_lines word width count zs ++ list_lines ls (drop (count * width) zs)

-- a count as a number of a line; one of 2 ^ 63 or more, which no table has, is shown as -1
unfoldable pub shown : ℕ → ℤ
shown n = elim (leb n 9223372036854775807) [ true ↦ pos n | false ↦ negsuc 0 ]

-- ---- a whole listing

-- the total after a word; or a refusal's number and place
unfoldable pub first_line : List ℕ → ℕ → ℕ → ℕ → List ℕ
first_line word refusal place total = elim (eqb refusal 0) [ true ↦ line word (map shown (total ∷ [])) | false ↦ line (bytes "refused") (map shown (refusal ∷ place ∷ [])) ]

-- that, and the lists where nothing is refused
unfoldable pub listing_lines : List ℕ → ℕ → ℕ → ℕ → List RowList → List ℤ → List (List ℕ)
listing_lines word refusal place total ls zs = first_line word refusal place total ∷ elim (eqb refusal 0) [ true ↦ list_lines ls zs | false ↦ [] ]

-- ---- on the way through a table: what is put, and the numbers that are left

pub data Listing : Type 0 where
  listing : Output → List ℤ → Listing

unfoldable pub listed : Listing → RowList → Listing
listed (listing o zs) (row_list word width count) = listing (appended_each o (row_lines word width count zs)) (drop (count * width) zs)

-- what the code's struct says of its buffer and table
unfoldable pub reached : Progress → List ℕ → List ℤ → Listing
reached p buf table = listing (output p.filled buf) (drop p.at table)
