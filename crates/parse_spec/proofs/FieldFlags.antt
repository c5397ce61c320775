-- Fields by their flags, which say what has been read: one law a step of a chunk.
use mathlib.Core.Path.{◌≡◌, refl, ap}
use mathlib.Core.List.{List, [], ◌∷◌, map}
use mathlib.Core.Bool.{Bool, true, false, false≢true, true≢false}
use mathlib.Core.Option.{Option, none, some}
use Prim.Native.Nat.{ℕ, zero, suc}
use lib.ListN.{length, get_or, set}
use Rattle.parse_spec.specs.Fields.{Kind, is_some, complete}
use Rattle.parse_spec.specs.Internal.Fields.{needed_of, covers_all}

pub flags_length : {A : Type 0} (fs : List (Option A)) → length (map is_some fs) ≡ length fs
flags_length [] = refl
flags_length (f ∷ fs) = ap suc (flags_length fs)

pub flag-unread : {A : Type 0} (fs : List (Option A)) (k : ℕ) → get_or (map is_some fs) k false ≡ false → get_or fs k none ≡ none
unfolding is_some
flag-unread [] k e = refl
flag-unread (none ∷ fs) zero e = refl
flag-unread (some a ∷ fs) zero e = absurd (true≢false e)
flag-unread (f ∷ fs) (suc k) e = flag-unread fs k e

pub flag-read : {A : Type 0} (fs : List (Option A)) (k : ℕ) → get_or (map is_some fs) k false ≡ true → (a : A) × (get_or fs k none ≡ some a)
unfolding is_some
flag-read [] k e = absurd (false≢true e)
flag-read (none ∷ fs) zero e = absurd (false≢true e)
flag-read (some a ∷ fs) zero e = (a, refl)
flag-read (f ∷ fs) (suc k) e = flag-read fs k e

-- one more
pub flags_set : {A : Type 0} (fs : List (Option A)) (k : ℕ) (a : A) → map is_some (set fs k (some a)) ≡ set (map is_some fs) k true
unfolding is_some
flags_set [] k a = refl
flags_set (f ∷ fs) zero a = refl
flags_set (f ∷ fs) (suc k) a = ap (λ (l : List Bool). is_some f ∷ l) (flags_set fs k a)

-- the kinds that must stand have, by the flags alone
pub complete_seen : {A : Type 0} (ks : List (Kind A)) (fs : List (Option A)) → complete ks fs ≡ covers_all (needed_of ks) (map is_some fs)
unfolding complete needed_of covers_all
complete_seen [] fs = refl
complete_seen (k ∷ ks) [] = refl
complete_seen (k ∷ ks) (f ∷ fs) = rw (complete_seen ks fs)
