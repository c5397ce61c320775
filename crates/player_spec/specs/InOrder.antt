-- What document 01 said of pattern lines before request (ii): their frames never fall, and a group's last line up to a frame counts.
use Rattle.std.specs.Prelude.{List, [], ◌∷◌, Bool, true, false, ◌&&◌, ℕ, leb}
use Rattle.tra4_text.specs.Movement.{Pattern}
use Rattle.player_spec.specs.Deciding.{line_frame, applies, flag_of}

-- after a frame no frame falls
unfoldable pub never_falls : ℕ → List Pattern → Bool
never_falls before [] = true
never_falls before (p ∷ ps) = leb before (line_frame p) && never_falls (line_frame p) ps

-- the flag of the last line that applies, or what it was before
unfoldable pub last_flag : ℕ → ℕ → Bool → List Pattern → Bool
last_flag g at shown [] = shown
last_flag g at shown (p ∷ ps) = elim (applies g at p) [ true ↦ last_flag g at (flag_of p) ps | false ↦ last_flag g at shown ps ]
