-- The standing pose past its last channel, by induction on the list.
use mathlib.Core.Path.{◌≡◌, refl}
use mathlib.Core.List.{List, [], ◌∷◌}
use Prim.Native.Nat.{ℕ, zero, suc, ◌≤◌}
use native.Mathlib.Omega.{arith}
use lib.IntN.{pos}
use lib.ListN.{length, get_or}
use Rattle.player_spec.specs.Samples.{pose, standing}

beyond : {A : Type 0} (l : List A) (i : ℕ) (d : A) → length l ≤ i → d ≡ get_or l i d
beyond [] i d h = refl
beyond (a ∷ l) zero d h = absurd (omega arith)
beyond (a ∷ l) (suc i) d h = beyond l i d (omega arith)

pub no_channel : (channel : ℕ) → 10 ≤ channel → pos 0 ≡ standing channel
unfolding standing pose
no_channel channel h = beyond pose channel (pos 0) h
