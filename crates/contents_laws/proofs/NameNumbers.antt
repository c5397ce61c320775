-- A name in a table: without its place its two numbers are the same, and a name that stands in its text is read back from them.
use mathlib.Core.Path.{◌≡◌, refl, ◌∙◌}
use mathlib.Core.List.{List, [], ◌∷◌, map}
use mathlib.Core.Bool.{true}
use mathlib.Core.Option.{Option, none}
use Prim.Native.Nat.{ℕ, zero, suc, ◌+◌, ◌*◌, ◌<◌}
use native.Mathlib.Omega.{arith}
use lib.IntN.{ℤ, pos}
use lib.ListN.{length, get_or, length-map}
use Rattle.text_bytes.specs.Internal.Every.{Every}
use Rattle.parse_spec.specs.Readers.{Name, absent}
use Rattle.parse_spec.specs.Places.{name_numbers}
use Rattle.parse_spec.specs.Internal.Names.{NameStands}
use Rattle.parse_alike.specs.Internal.Placeless.{presence_at, placeless_name}
use Rattle.table_columns.specs.Parts.{number_at}
use Rattle.table_contents.specs.Contents.{steps_from, is_place, presence, name_in}
use Rattle.table_contents.proofs.Numbers.{Same, same_place}
use Rattle.table_contents.proofs.Names.{name_of, name_there, names_there}

presence-same : (p : ℕ) → presence (pos (presence_at p)) ≡ presence (pos p)
unfolding presence presence_at
presence-same zero = refl
presence-same (suc p) = refl

pub name-same : (places : List ℕ) (i : ℕ) (n : Name) → is_place places i ≡ true → Same places i (name_numbers (placeless_name n)) (name_numbers n)
unfolding name_numbers placeless_name
name-same places i n h = same_place places i (pos (presence_at n.at)) (pos n.at) (pos (length n.bytes) ∷ []) h (presence-same n.at)

-- ---- a name: none where it is absent, else its bytes

unfoldable pub named : Name → Option (List ℕ)
named n = name_of n.at n.bytes

present_same : (p : ℕ) (bs : List ℕ) → name_of (presence_at p) bs ≡ name_of p bs
unfolding name_of presence_at
present_same zero bs = refl
present_same (suc p) bs = refl

pub named-placeless : (n : Name) → named (placeless_name n) ≡ named n
unfolding named placeless_name
named-placeless n = present_same n.at n.bytes

pub named_there : (text : List ℕ) (table : List ℤ) (i : ℕ) (n : Name) → NameStands text n → number_at table i ≡ pos n.at → number_at table (suc i) ≡ pos (length n.bytes) → name_in text table i ≡ named n
unfolding named
named_there text table i n s a l = name_there text table i n.at n.bytes s.is a l

-- ---- a list of them

module _ {A : Type 0} (name : A → Name) where
  named-at : (l : List A) (k : ℕ) → named (get_or (map name l) k absent) ≡ get_or (map (λ a. named (name a)) l) k none
  unfolding named absent name_of
  named-at [] k = refl
  named-at (a ∷ l) zero = refl
  named-at (a ∷ l) (suc k) = named-at l k

  stands_at : (text : List ℕ) (l : List A) → Every (λ a. NameStands text (name a)) l → (k : ℕ) → k < length l → NameStands text (get_or (map name l) k absent)
  stands_at text [] h k below = absurd (omega arith)
  stands_at text (a ∷ l) h zero below = h.0
  stands_at text (a ∷ l) h (suc k) below = stands_at text l h.1 k (omega arith)

  -- names that stand in their text, each with its two numbers in a table, are read back
  pub list_there : (text : List ℕ) (table : List ℤ) (at step : ℕ) (l : List A) → Every (λ a. NameStands text (name a)) l
      → ((k : ℕ) → k < length l → number_at table (at + k * step) ≡ pos (get_or (map name l) k absent).at)
      → ((k : ℕ) → k < length l → number_at table (suc (at + k * step)) ≡ pos (length (get_or (map name l) k absent).bytes))
      → map (name_in text table) (steps_from at step (length l)) ≡ map (λ a. named (name a)) l
  list_there text table at step l s place size =
      let e = length-map l (λ a. named (name a)) in
      rw (← e)
      (names_there (name_in text table) at step (map (λ a. named (name a)) l)
      (λ k below. let h : k < length l = omega arith in named_there text table (at + k * step) (get_or (map name l) k absent) (stands_at text l s k h) (place k h) (size k h) ∙ named-at l k))
