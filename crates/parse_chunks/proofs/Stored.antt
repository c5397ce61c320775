-- Laws of flags that must be set, by the first of them.
use mathlib.Core.Path.{◌≡◌, refl}
use mathlib.Core.List.{List, [], ◌∷◌}
use mathlib.Core.Bool.{Bool, true, false}
use mathlib.Core.Logic.{◌⊎◌, inl, inr}
use Rattle.parse_spec.specs.Internal.Fields.{covers_all}

pub covers_end : (ns ss : List Bool) → (ns ≡ []) ⊎ (ss ≡ []) → covers_all ns ss ≡ true
unfolding covers_all
covers_end ns ss (inl e) = rw e
covers_end [] ss (inr e) = refl
covers_end (n ∷ ns) ss (inr e) = rw e

pub covers_missing : (n s : Bool) (ns ss : List Bool) → n ≡ true → s ≡ false → covers_all (n ∷ ns) (s ∷ ss) ≡ false
unfolding covers_all
covers_missing n s ns ss e f = rw (e, f)

pub covers_set : (n s : Bool) (ns ss : List Bool) → s ≡ true → covers_all (n ∷ ns) (s ∷ ss) ≡ covers_all ns ss
unfolding covers_all
covers_set true s ns ss f = rw f
covers_set false s ns ss f = refl

pub covers_free : (n s : Bool) (ns ss : List Bool) → n ≡ false → covers_all (n ∷ ns) (s ∷ ss) ≡ covers_all ns ss
unfolding covers_all
covers_free n s ns ss e = rw e
