-- A bone with its name exchanged is the bone of its fields with the name exchanged; by cases on what a field holds.
use mathlib.Core.Path.{◌≡◌, refl, sym}
use mathlib.Core.List.{List, [], ◌∷◌, map}
use mathlib.Core.Option
use mathlib.Core.Option.{Option, none, some}
use Prim.Native.Nat.{ℕ, zero, suc}
use lib.ListN.{get_or}
use Rattle.parse_spec.specs.Readers.{Name, absent}
use Rattle.bac6_text.specs.Grammar.{BoneField, named, flag, several, name_in, flag_in, numbers_in, bone_of}
use Rattle.bac6_alike.specs.Renamed.{renamed_bone}

unfoldable pub renamed_field : (Name → Name) → BoneField → BoneField
renamed_field h (named n) = named (h n)
renamed_field h (flag z) = flag z
renamed_field h (several zs) = several zs

module _ (h : Name → Name) (keeps : h absent ≡ absent) where
  get_or-fields : (fs : List (Option BoneField)) (k : ℕ) → get_or (map (Option.map (renamed_field h)) fs) k none ≡ Option.map (renamed_field h) (get_or fs k none)
  unfolding Option.map
  get_or-fields [] k = refl
  get_or-fields (f ∷ fs) zero = refl
  get_or-fields (f ∷ fs) (suc k) = get_or-fields fs k

  name-renamed : (o : Option BoneField) → name_in (Option.map (renamed_field h) o) ≡ h (name_in o)
  unfolding name_in Option.map renamed_field
  name-renamed none = sym keeps
  name-renamed (some (named n)) = refl
  name-renamed (some (flag z)) = sym keeps
  name-renamed (some (several zs)) = sym keeps

  flag-renamed : (o : Option BoneField) → flag_in (Option.map (renamed_field h) o) ≡ flag_in o
  unfolding flag_in Option.map renamed_field
  flag-renamed none = refl
  flag-renamed (some (named n)) = refl
  flag-renamed (some (flag z)) = refl
  flag-renamed (some (several zs)) = refl

  numbers-renamed : (o : Option BoneField) → numbers_in (Option.map (renamed_field h) o) ≡ numbers_in o
  unfolding numbers_in Option.map renamed_field
  numbers-renamed none = refl
  numbers-renamed (some (named n)) = refl
  numbers-renamed (some (flag z)) = refl
  numbers-renamed (some (several zs)) = refl

  pub bone-renamed : (fs : List (Option BoneField)) → bone_of (map (Option.map (renamed_field h)) fs) ≡ renamed_bone h (bone_of fs)
  unfolding bone_of renamed_bone
  bone-renamed fs =
      rw (get_or-fields fs 0, get_or-fields fs 1, get_or-fields fs 2, get_or-fields fs 3, get_or-fields fs 4, get_or-fields fs 5, get_or-fields fs 6, name-renamed (get_or fs 0 none), flag-renamed (get_or fs 1 none), flag-renamed (get_or fs 2 none), numbers-renamed (get_or fs 3 none), numbers-renamed (get_or fs 4 none), numbers-renamed (get_or fs 5 none), numbers-renamed (get_or fs 6 none))
