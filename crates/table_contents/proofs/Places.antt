-- Which numbers are places: each of a list of places, also with more of them before and after it; by induction on the list.
use mathlib.Core.Path.{◌≡◌, refl, ap, ◌∙◌}
use mathlib.Core.List.{List, [], ◌∷◌, ◌++◌}
use mathlib.Core.Bool.{Bool, true, false, ◌||◌, or-true}
use Prim.Native.Nat.{ℕ}
use borrow.Author.Tests.{eq-eqb}
use lib.Dec.{eqb}
use Rattle.text_bytes.specs.Internal.Every.{Every}
use Rattle.text_bytes.proofs.Every.{every_as}
use Rattle.table_contents.specs.Contents.{is_place}

-- all of some numbers are places
abbrev pub AllPlaces : List ℕ → List ℕ → Type 0
AllPlaces places l = Every (λ i. is_place places i ≡ true) l

or-first : (a b : Bool) → a ≡ true → (a || b) ≡ true
or-first a b h = ap (λ (x : Bool). x || b) h

or-last : (a b : Bool) → b ≡ true → (a || b) ≡ true
or-last a b h = ap (◌||◌ a) h ∙ or-true a

place-before : (ps qs : List ℕ) (i : ℕ) → is_place qs i ≡ true → is_place (ps ++ qs) i ≡ true
unfolding is_place
place-before [] qs i h = h
place-before (p ∷ ps) qs i h = or-last (eqb p i) (is_place (ps ++ qs) i) (place-before ps qs i h)

place_after : (ps qs : List ℕ) (i : ℕ) → is_place ps i ≡ true → is_place (ps ++ qs) i ≡ true
unfolding is_place
place_after [] qs i h = let z : false ≡ true = h in cc
place_after (p ∷ ps) qs i h = go (eqb p i) (place_after ps qs i) h
  where
    go : (v : Bool) → (is_place ps i ≡ true → is_place (ps ++ qs) i ≡ true) → (v || is_place ps i) ≡ true → (v || is_place (ps ++ qs) i) ≡ true
    go true later e = refl
    go false later e = later e

pub places_before : (ps qs l : List ℕ) → AllPlaces qs l → AllPlaces (ps ++ qs) l
places_before ps qs l h = every_as (place-before ps qs) l h

pub places_after : (ps qs l : List ℕ) → AllPlaces ps l → AllPlaces (ps ++ qs) l
places_after ps qs l h = every_as (place_after ps qs) l h

pub own_places : (ps : List ℕ) → AllPlaces ps ps
unfolding is_place
own_places [] = tt
own_places (p ∷ ps) = (or-first (eqb p p) (is_place ps p) (eq-eqb p p refl), places_before (p ∷ []) ps ps (own_places ps))
