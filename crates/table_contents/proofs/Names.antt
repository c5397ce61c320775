-- The names at places a step apart are those of a list, where each stands at its place; by induction on the list.
use mathlib.Core.Path.{◌≡◌, refl, ap, ap₂}
use mathlib.Core.List.{List, [], ◌∷◌, map}
use mathlib.Core.Option.{Option, none, some}
use Prim.Native.Nat.{ℕ, zero, suc, ◌+◌, ◌*◌, ◌<◌}
use native.Mathlib.Nat.{zero-mul, suc-mul}
use native.Mathlib.Omega.{arith}
use lib.IntN.{ℤ, pos}
use lib.ListN.{length, get_or}
use Rattle.text_runs.specs.Runs.{part}
use Rattle.table_columns.specs.Parts.{number_at}
use Rattle.table_contents.specs.Contents.{steps_from, name_from, name_in}

-- a name by where it begins and its bytes: none at 0
unfoldable pub name_of : ℕ → List ℕ → Option (List ℕ)
name_of zero bs = none
name_of (suc p) bs = some bs

-- a place and a length that say where bytes stand in the text are that name
pub name_there : (text : List ℕ) (table : List ℤ) (i at : ℕ) (bs : List ℕ) → part text at (at + length bs) ≡ bs → number_at table i ≡ pos at → number_at table (suc i) ≡ pos (length bs) → name_in text table i ≡ name_of at bs
unfolding name_in name_from name_of
name_there text table i zero bs s a l = rw a
name_there text table i (suc p) bs s a l = rw (a, l) (ap some s)

pub names_there : (read : ℕ → Option (List ℕ)) (at step : ℕ) (l : List (Option (List ℕ))) → ((k : ℕ) → k < length l → read (at + k * step) ≡ get_or l k none) → map read (steps_from at step (length l)) ≡ l
unfolding steps_from
names_there read at step [] h = refl
names_there read at step (n ∷ l) h =
    let first : at + 0 * step ≡ at = omega (arith, zero-mul step) in
    ap₂ ◌∷◌ (rw first at (h 0 (omega arith)))
    (names_there read (at + step) step l
    (λ k below. let next : at + suc k * step ≡ at + step + k * step = omega (arith, suc-mul k step) in rw next at (h (suc k) (omega arith))))
