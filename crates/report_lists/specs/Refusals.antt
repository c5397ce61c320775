-- A refusal's line: its number and its place.
use Rattle.std.specs.Prelude.{List, [], ◌∷◌, ℕ}
use Rattle.text_bytes.specs.Bytes.{bytes}
use Rattle.report_text.specs.Text.{line}
use Rattle.report_lists.specs.Lists.{shown}

-- a refusal's number and its place
unfoldable pub refused_line : ℕ → ℕ → List ℕ
refused_line n p = line (bytes "refused") (shown n ∷ shown p ∷ [])
