-- What is printed of loading a pair.
use Rattle.std.specs.Prelude.{true, false, List, [], ◌∷◌, map, ℕ, eqb}
use Rattle.text_bytes.specs.Bytes.{bytes}
use Rattle.report_text.specs.Text.{line}
use Rattle.report_lists.specs.Lists.{shown}

-- the totals of the figure and of the movement; or a refusal's number, place and file
unfoldable pub reply_line : ℕ → ℕ → ℕ → ℕ → ℕ → List ℕ
reply_line refusal place file figure movement = elim (eqb refusal 0) [ true ↦ line (bytes "pair") (map shown (figure ∷ movement ∷ [])) | false ↦ line (bytes "refused") (map shown (refusal ∷ place ∷ file ∷ [])) ]
