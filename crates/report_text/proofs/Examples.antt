-- Lines of document 01's listing, computed from the definition.
use mathlib.Core.Path.{◌≡◌, refl}
use mathlib.Core.List.{[], ◌∷◌}
use lib.IntN.{pos, negsuc}
use Rattle.text_bytes.specs.Bytes.{bytes}
use Rattle.report_text.specs.Text.{digits_in, digits, numeral, fields, line}

pub listing-line : line (bytes "material") (pos 0 ∷ pos 10 ∷ negsuc 0 ∷ negsuc 9 ∷ pos 250000 ∷ []) ≡ bytes "material\t0\t10\t-1\t-10\t250000\n"
unfolding bytes digits_in digits numeral fields line
listing-line = refl
