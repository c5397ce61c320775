-- A face's corners: the tests corner by corner, and the rows that a sound face refers to.
use mathlib.Core.Path.{◌≡◌, refl, ap, sym, ◌∙◌}
use mathlib.Core.List.{List, [], ◌∷◌}
use mathlib.Core.Bool.{Bool, true, false, false≢true, ◌&&◌, ◌||◌}
use Prim.Native.Nat.{ℕ, zero, suc, ◌+◌, ◌≤◌, ◌<◌}
use native.Mathlib.Omega.{arith}
use lib.IntN.{ℤ, pos, nat_abs}
use lib.ListN.{length, get_or, take, drop, length-take, length-drop}
use lib.Seq.{get_or-take, get_or-drop}
use Rattle.text_numerals.proofs.Numerals.{and_true}
use Rattle.table_references.specs.References.{is_row, is_none}
use Rattle.table_references.specs.Index.{is_index}
use Rattle.table_counts.specs.declared.counts.FigureCounts.{FigureCounts}
use Rattle.player_spec.specs.Lookups.{is_float, all_float, size_fine, corners_fine, all_none, face_sound}
use Rattle.player_face_tests.proofs.Corners.{size_is, used_row}

-- ---- corners

none_at : (l : List ℤ) (k : ℕ) → all_none l ≡ true → k < length l → is_none (get_or l k (pos 0)) ≡ true
unfolding all_none
none_at [] k h b = absurd (omega arith)
none_at (z ∷ l) zero h b = (and_true (is_none z) _ h).0
none_at (z ∷ l) (suc k) h b = none_at l k (and_true (is_none z) _ h).1 (omega arith)

-- a test, and nothing after it
pub and_last : (b : Bool) → (b && true) ≡ b
and_last true = refl
and_last false = refl

-- three floats and an owner, test by test
pub point_tests : (bones : ℕ) (x y z o : ℤ) → (all_float (x ∷ y ∷ z ∷ []) && is_index bones o) ≡ (is_float x && (is_float y && (is_float z && is_index bones o)))
unfolding all_float
point_tests bones x y z o = go (is_float x) (is_float y) (is_float z)
  where
    go : (a b c : Bool) → ((a && (b && (c && true))) && is_index bones o) ≡ (a && (b && (c && is_index bones o)))
    go true true true = refl
    go true true false = refl
    go true false c = refl
    go false b c = refl

-- ---- a face's row, test by test

module _ (n : FigureCounts) (row : List ℤ) where
  abbrev number : ℕ → ℤ
  number j = get_or row j (pos 0)

  abbrev vertices : List ℤ
  vertices = take 4 (drop 2 row)

  abbrev uvs : List ℤ
  uvs = take 4 (drop 6 row)

  pub no_material : is_row n.materials (number 0) ≡ false → false ≡ face_sound n row
  unfolding face_sound
  no_material h = rw h

  module _ (material : is_row n.materials (number 0) ≡ true) where
    pub no_size : size_fine (number 1) ≡ false → false ≡ face_sound n row
    unfolding face_sound
    no_size h = rw (material, h)

    module _ (size : size_fine (number 1) ≡ true) where
      pub no_vertices : corners_fine n.points (nat_abs (number 1)) vertices ≡ false → false ≡ face_sound n row
      unfolding face_sound
      no_vertices h = rw (material, size, h)

      module _ (known : corners_fine n.points (nat_abs (number 1)) vertices ≡ true) where
        pub no_uvs : (all_none uvs || corners_fine n.uvs (nat_abs (number 1)) uvs) ≡ false → false ≡ face_sound n row
        unfolding face_sound
        no_uvs h = rw (material, size, known, h)

        pub by_group : (all_none uvs || corners_fine n.uvs (nat_abs (number 1)) uvs) ≡ true → is_index n.groups (number 10) ≡ face_sound n row
        unfolding face_sound
        by_group h = rw (material, size, known, h)

  -- ---- what a sound row says

  module _ (fine : face_sound n row ≡ true) where
    sized : (size_fine (number 1) ≡ true) × (corners_fine n.points (nat_abs (number 1)) vertices ≡ true) × ((all_none uvs || corners_fine n.uvs (nat_abs (number 1)) uvs) ≡ true)
    unfolding face_sound
    sized =
        let t4 = and_true _ (is_index n.groups (number 10)) fine in
        let t3 = and_true _ _ t4.0 in
        let t2 = and_true _ _ t3.0 in
        let t1 = and_true (is_row n.materials (number 0)) _ t2.0 in
        (t1.1, t2.1, t3.1)

    pub face-size : (number 1 ≡ pos (nat_abs (number 1))) × (nat_abs (number 1) ≤ 4)
    face-size = size_is (number 1) sized.0

    module _ (whole : length row ≡ 11) (k : ℕ) (used : k < nat_abs (number 1)) where
      inner : (j : ℕ) → j ≤ 6 → (k < length (take 4 (drop j row))) × (get_or (take 4 (drop j row)) k (pos 0) ≡ number (j + k))
      inner j l =
          let m = face-size.1 in
          (rw (length-take 4 (drop j row), length-drop j row) (omega arith), get_or-take 4 (drop j row) k (pos 0) (omega arith) ∙ get_or-drop j row k (pos 0))

      pub face_vertex_lem : is_row n.points (number (2 + k)) ≡ true
      face_vertex_lem =
          let i = inner 2 (omega arith) in
          ap (is_row n.points) (sym i.1) ∙ used_row n.points (nat_abs (number 1)) vertices k sized.1 used i.0

      pub face-uv : is_none (number (6 + k)) ≡ false → is_row n.uvs (number (6 + k)) ≡ true
      face-uv h = go (all_none uvs) refl
        where
          i : (k < length (take 4 (drop 6 row))) × (get_or (take 4 (drop 6 row)) k (pos 0) ≡ number (6 + k))
          i = inner 6 (omega arith)

          go : (v : Bool) → all_none uvs ≡ v → is_row n.uvs (number (6 + k)) ≡ true
          go true e = absurd (false≢true (sym h ∙ ap is_none (sym i.1) ∙ none_at uvs k e i.0))
          go false e = ap (is_row n.uvs) (sym i.1) ∙ used_row n.uvs (nat_abs (number 1)) uvs k (rw e at sized.2) used i.0
