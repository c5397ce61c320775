-- A channel's keys in one pass: each is tested against the one before it, and the line that the frame falls on is kept.
use Rattle.std.specs.Prelude.{List, [], ◌∷◌, Bool, true, false, ◌&&◌, ℕ, ltb, ℤ}
use Rattle.std.proofs.Math.Option.{Option, none, some}
use Rattle.tra4_text.specs.Movement.{Key, frame_of}
use Rattle.tra4_text.specs.Rules.{key_fine}
use Rattle.player_spec.specs.Fractions.{Fraction, whole}
use Rattle.player_spec.specs.Samples.{key_frame, key_value, line, standing}
use Rattle.player_spec.specs.Lookups.{is_float}

-- a key that may follow another, if there is one
unfoldable pub may_follow : ℤ → Option Key → Key → Bool
may_follow total none n = key_fine total none n && is_float (key_value n)
may_follow total (some k) n = key_fine total (some (frame_of k)) n && is_float (key_value n)

-- the line that the frame falls on, once it is known
unfoldable pub decided : Option Fraction → Key → Key → ℕ → Option Fraction
decided (some r) k n at = some r
decided none k n at = elim (ltb at (key_frame n)) [ true ↦ some (line k n at) | false ↦ none ]

unfoldable pub or_last : Option Fraction → Key → Fraction
or_last (some r) k = r
or_last none k = whole (key_value k)

-- the keys after one, where so much is known
unfoldable pub pass_from : ℤ → ℕ → Key → Option Fraction → List Key → Option Fraction
pass_from total at k d [] = some (or_last d k)
pass_from total at k d (n ∷ ks) = elim (may_follow total (some k) n) [ true ↦ pass_from total at n (decided d k n at) ks | false ↦ none ]

-- all keys; where there are none, the standing pose
unfoldable pub pass_over : ℤ → ℕ → ℕ → List Key → Option Fraction
pass_over total channel at [] = some (whole (standing channel))
pass_over total channel at (k ∷ ks) = elim (may_follow total none k) [ true ↦ pass_from total at k none ks | false ↦ none ]
