-- The owners of a face's corners, from the last to the first: one a turn is tested, and the first without a bone is found among those from it on.
use mathlib.Core.Path.{◌≡◌, refl, ap, sym, ◌∙◌}
use mathlib.Core.List.{List, [], ◌∷◌, map}
use mathlib.Core.Bool.{Bool, true, false, ◌&&◌}
use mathlib.Core.Option.{none, some}
use Prim.Native.Nat.{ℕ, zero, suc, ◌≤◌, ◌<◌}
use native.Mathlib.Omega.{arith}
use lib.IntN.{ℤ, pos, nat_abs}
use lib.ListN.{length, get_or, take, drop, length-map, length-take}
use lib.Seq.{drop-cons, drop-length, get_or-take}
use Rattle.table_references.specs.References.{is_none}
use Rattle.table_references.specs.Index.{is_index}
use Rattle.table_counts.specs.declared.counts.FigureCounts.{FigureCounts}
use Rattle.player_spec.specs.Reasons.{first_unowned}
use Rattle.player_spec.proofs.Reasons.{first-here, first-after, map_at}
use Rattle.player_spec.specs.Lookups.{only_if, size_fine, corners_fine, owner_at, owners_fine, corner_owners}
use Rattle.std.specs.Prelude.{Option as Answer, Some, None}
use Rattle.player_why.specs.Internal.Rows.{corner_told, owned_in, row_owned}

-- ---- the first without a bone, from an index of the owners on

module _ (os : List ℤ) (i : ℕ) where
  none_left : length os ≡ i → first_unowned i (drop i os) ≡ none
  unfolding first_unowned
  none_left e = let z : drop i os ≡ [] = rw (← e) (drop-length os) in rw z

  unowned-here : i < length os → is_none (get_or os i (pos 0)) ≡ true → first_unowned i (drop i os) ≡ some i
  unowned-here h e = rw (drop-cons os i (pos 0) h) (first-here i _ _ e)

  owned_here : i < length os → is_none (get_or os i (pos 0)) ≡ false → first_unowned i (drop i os) ≡ first_unowned (suc i) (drop (suc i) os)
  owned_here h e = rw (drop-cons os i (pos 0) h) (first-after i _ _ e)

module _ (n : FigureCounts) (table : List ℤ) where
  -- ---- the tests of the owners, the last first

  swapped : (a b c : Bool) → (a && (b && c)) ≡ (b && (a && c))
  swapped true b c = refl
  swapped false true c = refl
  swapped false false c = refl

  last_tested : (vs : List ℤ) (i : ℕ) → i < length vs → owners_fine n table (suc i) vs ≡ (is_index n.bones (owner_at n table (get_or vs i (pos 0))) && owners_fine n table i vs)
  unfolding owners_fine
  last_tested [] i h = absurd (omega arith)
  last_tested (v ∷ vs) zero h = refl
  last_tested (v ∷ vs) (suc i) h = rw (last_tested vs i (omega arith)) (swapped (is_index n.bones (owner_at n table v)) (is_index n.bones (owner_at n table (get_or vs i (pos 0)))) (owners_fine n table i vs))

  owner_of_lem : (vs : List ℤ) (used i : ℕ) → i < used → i < length vs → get_or (map (owner_at n table) (take used vs)) i (pos 0) ≡ owner_at n table (get_or vs i (pos 0))
  owner_of_lem vs used i h l = map_at (owner_at n table) (take used vs) i (pos 0) (pos 0) (let t = length-take used vs in omega arith) ∙ ap (owner_at n table) (get_or-take used vs i (pos 0) h)

  -- ---- a turn

  module _ (vs : List ℤ) (used : ℕ) where
    abbrev owners : List ℤ
    owners = map (owner_at n table) (take used vs)

    -- the corners from i on are looked at: the owners of those before are still to be tested
    pub record Midway (first : Answer ℕ) (i : ℕ) : Type 0 where
      pub within : i ≤ used
      pub tested : owners_fine n table used vs ≡ owners_fine n table i vs
      pub first_is : corner_told first ≡ first_unowned i (drop i owners)

    module _ (room : used ≤ length vs) where
      owners_length : length owners ≡ used
      owners_length = let a = length-map (take used vs) (owner_at n table) in let b = length-take used vs in omega arith

      pub begins : Midway None used
      begins = record { within = omega arith; tested = refl; first_is = sym (none_left owners used owners_length) }

      module _ (first : Answer ℕ) (k i : ℕ) (next : k ≡ suc i) (mid : Midway first k) where
        abbrev owner : ℤ
        owner = owner_at n table (get_or vs i (pos 0))

        here : get_or owners i (pos 0) ≡ owner
        here = let w = mid.within in owner_of_lem vs used i (omega arith) (omega arith)

        last : owners_fine n table used vs ≡ (is_index n.bones owner && owners_fine n table i vs)
        last = let w = mid.within in mid.tested ∙ ap (λ (x : ℕ). owners_fine n table x vs) next ∙ last_tested vs i (omega arith)

        -- an owner that is no bone and not none
        pub turn_broken : is_index n.bones owner ≡ false → none ≡ owned_in n table vs used
        unfolding owned_in only_if
        turn_broken h = rw (last, h)

        -- a corner without a bone is now the first
        pub turn_none : is_index n.bones owner ≡ true → is_none owner ≡ true → Midway (Some i) i
        turn_none h e =
            let w = mid.within in
            let l = owners_length in
            record { within = omega arith; tested = last ∙ rw h; first_is = sym (unowned-here owners i (omega arith) (rw here e)) }

        pub turn_owned : is_index n.bones owner ≡ true → is_none owner ≡ false → Midway first i
        turn_owned h e =
            let w = mid.within in
            let l = owners_length in
            record { within = omega arith; tested = last ∙ rw h; first_is = mid.first_is ∙ ap (λ (x : ℕ). first_unowned x (drop x owners)) next ∙ sym (owned_here owners i (omega arith) (rw here e)) }

      -- all are looked at
      pub ends : (first : Answer ℕ) → Midway first 0 → some (corner_told first) ≡ owned_in n table vs used
      unfolding owned_in only_if owners_fine
      ends first mid = rw mid.tested (ap some mid.first_is)

  -- ---- by a face's row

  module _ (row : List ℤ) where
    abbrev size : ℤ
    size = get_or row 1 (pos 0)

    pub no_size : size_fine size ≡ false → none ≡ row_owned n table row
    unfolding row_owned only_if
    no_size h = rw h

    module _ (sized : size_fine size ≡ true) where
      pub no_vertices : corners_fine n.points (nat_abs size) (take 4 (drop 2 row)) ≡ false → none ≡ row_owned n table row
      unfolding row_owned only_if
      no_vertices h = rw (sized, h)

      pub by_owners : corners_fine n.points (nat_abs size) (take 4 (drop 2 row)) ≡ true → owned_in n table (take 4 (drop 2 row)) (nat_abs size) ≡ row_owned n table row
      unfolding row_owned owned_in corner_owners
      by_owners h = rw (sized, h)
