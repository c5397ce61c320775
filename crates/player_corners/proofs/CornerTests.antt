-- What each test of `row_corner` says of its definition: a failed one refuses, and past them all the corner is the answer.
use mathlib.Core.Path.{◌≡◌, refl, ap, sym, ◌∙◌}
use mathlib.Core.List.{List, [], ◌∷◌}
use mathlib.Core.Bool.{Bool, true, false, ◌&&◌}
use mathlib.Core.Option.{Option, none, some}
use Prim.Native.Nat.{ℕ, ◌+◌, ◌≤◌, ◌<◌}
use borrow.Author.Tests.{lt-ltb, le-ltb}
use lib.IntN.{ℤ, pos, nat_abs}
use lib.ListN.{get_or}
use Rattle.table_references.specs.References.{is_none}
use Rattle.table_references.specs.Index.{is_index}
use Rattle.table_counts.specs.declared.counts.FigureCounts.{FigureCounts}
use Rattle.player_spec.specs.Faces.{CornerOf}
use Rattle.table_figure.specs.Sections.{holds_figure}
use Rattle.player_spec.specs.Lookups.{only_if, all_float, face_sound, face_at, owner_at, point_at, uv_row, uv_fine, uv_in, can_corner, corner_in}
use Rattle.std.specs.Prelude.{Option as Answer, Some, None}
use Rattle.player_spec.specs.Answers.{numbered}
use Rattle.player_spec.proofs.OnlyIf.{only_some}
use Rattle.player_corners.specs.declared.corners.FaceCorner.{FaceCorner}
use Rattle.player_corners.specs.declared.point.Uv.{Uv}
use Rattle.player_corners.specs.Answers.{uv_told, corner_named, cornered}
use Rattle.player_corners.specs.Internal.CornerRow.{corner_told, point_of, uv_of, row_corner}

no_uv : (n : FigureCounts) (table : List ℤ) (u : ℤ) → is_none u ≡ true → uv_in n table u ≡ none
unfolding uv_in
no_uv n table u h = rw (h, uv_in)

some_uv : (n : FigureCounts) (table : List ℤ) (u : ℤ) → is_none u ≡ false → uv_in n table u ≡ some (uv_row n table u)
unfolding uv_in
some_uv n table u h = rw (h, uv_in)

refused_by : {A : Type 0} (v : Bool) (x : A) → none ≡ only_if v x → v ≡ false
unfolding only_if
refused_by true x e = cc
refused_by false x e = refl

module _ (n : FigureCounts) (table row : List ℤ) (k : ℕ) where
  abbrev answer : Option CornerOf
  answer = row_corner n table row k

  -- the corner's vertex and uv
  abbrev pub vertex : ℤ
  vertex = get_or row (2 + k) (pos 0)

  abbrev pub uv : ℤ
  uv = get_or row (6 + k) (pos 0)

  abbrev point_fine : Bool
  point_fine = all_float (point_at n table vertex) && is_index n.bones (owner_at n table vertex)

  pub row_broken : face_sound n row ≡ false → none ≡ answer
  unfolding row_corner only_if
  row_broken h = rw h

  module _ (fine : face_sound n row ≡ true) where
    pub no_corner : nat_abs (get_or row 1 (pos 0)) ≤ k → none ≡ answer
    unfolding row_corner only_if
    no_corner h = rw (fine, le-ltb _ _ h)

    module _ (used : k < nat_abs (get_or row 1 (pos 0))) where
      tests : answer ≡ only_if (point_fine && uv_fine n table uv) (record { position = point_at n table vertex; owner = owner_at n table vertex; uv = uv_in n table uv; material = get_or row 0 (pos 0) })
      unfolding row_corner
      tests = rw (fine, lt-ltb _ _ used)

      pub point_broken : none ≡ point_of n table vertex → none ≡ answer
      unfolding point_of
      point_broken e = sym (tests ∙ unfold only_if in (rw (refused_by point_fine (point_at n table vertex, owner_at n table vertex) e)))

      module _ (p : List ℤ × ℤ) (sound : some p ≡ point_of n table vertex) where
        told : (point_fine ≡ true) × ((point_at n table vertex, owner_at n table vertex) ≡ p)
        unfolding point_of
        told = (only_some point_fine (point_at n table vertex, owner_at n table vertex) p).0 (sym sound)

        -- the corner by its vertex, and what it has for a texture coordinate
        abbrev here : List ℤ × ℤ → Option (List ℤ) → CornerOf
        here q t = record { position = q.0; owner = q.1; uv = t; material = get_or row 0 (pos 0) }

        pub plain : is_none uv ≡ true → some (here p none) ≡ answer
        unfolding only_if uv_fine
        plain h = sym (tests ∙ rw (no_uv n table uv h, told.0, h) (ap (λ (q : List ℤ × ℤ). some (here q none)) told.1))

        module _ (some-coordinate : is_none uv ≡ false) where
          pub uv_broken : none ≡ uv_of n table uv → none ≡ answer
          unfolding only_if uv_fine uv_of
          uv_broken e = sym (tests ∙ rw (told.0, some-coordinate, refused_by (all_float (uv_row n table uv)) (uv_row n table uv) e))

          pub textured : (t : List ℤ) → some t ≡ uv_of n table uv → some (here p (some t)) ≡ answer
          unfolding only_if uv_fine uv_of
          textured t e =
              let o = (only_some (all_float (uv_row n table uv)) (uv_row n table uv) t).0 (sym e) in
              sym (tests ∙ rw (some_uv n table uv some-coordinate, told.0, some-coordinate, o.0) (ap (λ (q : List ℤ × ℤ). some (here q (some (uv_row n table uv)))) told.1 ∙ ap (λ (l : List ℤ). some (here p (some l))) o.1))

-- ---- by its table

module _ (n : FigureCounts) (table : List ℤ) (face k : ℕ) where
  pub not-held : holds_figure n table ≡ false → none ≡ corner_in n table face k
  unfolding corner_in can_corner only_if
  not-held h = rw h

  module _ (held : holds_figure n table ≡ true) where
    pub no_face_lem : n.faces ≤ face → none ≡ corner_in n table face k
    unfolding corner_in can_corner only_if
    no_face_lem h = rw (held, le-ltb _ _ h)

    pub by_row : face < n.faces → row_corner n table (face_at n table face) k ≡ corner_in n table face k
    unfolding corner_in can_corner row_corner
    by_row h = rw (held, lt-ltb _ _ h)

-- ---- by the code's answer

pub answered : (c : Answer FaceCorner) → cornered c ≡ numbered (corner_told c)
unfolding numbered
answered None = refl
answered (Some c) = refl

-- copied as it was answered
pub same_corner : (x y z o m : ℤ) {x' y' z' o' m' : ℤ} (t : Answer Uv) → x' ≡ x → y' ≡ y → z' ≡ z → o' ≡ o → m' ≡ m → ◌≡◌ {A = CornerOf} (corner_named (record { x = x'; y = y'; z = z'; owner = o'; material = m'; uv = t })) (record { position = x ∷ y ∷ z ∷ []; owner = o; uv = uv_told t; material = m })
same_corner x y z o m t a b c d e = rw (a, b, c, d, e)
