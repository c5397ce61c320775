-- Rule 13 of one row, corner by corner; and a face's row is fine where the face is.
use mathlib.Core.Path.{◌≡◌, refl, sym, ◌∙◌}
use mathlib.Core.List.{List, [], ◌∷◌, ◌++◌, append_assoc}
use mathlib.Core.Bool.{Bool, true, false, ◌&&◌, ◌||◌}
use mathlib.Core.Logic.{◌⊎◌, ⊎_elim}
use Prim.Native.Nat.{ℕ, zero, suc, ◌+◌, ◌-◌, ◌^◌, ◌≤◌, ◌<◌}
use native.Mathlib.Omega.{arith}
use borrow.Author.Tests.{eq-eqb, ne_eqb}
use lib.ListN.{length, take, drop, get_or, length-take, length-drop}
use lib.Seq.{drop-cons, drop_at, drop-drop, drop-nil, get_or-take, get_or-drop}
use lib.IntN.{ℤ, pos, negsuc}
use mir.Syntax.{w64}
use mir.Val.{SFits, of_z}
use Rattle.refusal.specs.FirstBad.{all}
use Rattle.table_references.specs.References.{is_row, is_none, same_number}
use Rattle.table_columns.specs.Columns.{face_material, face_size, corner_at}
use Rattle.table_columns.proofs.Corners.{corner-is}
use Rattle.bac6_text.specs.Figure.{Face}
use Rattle.bac6_text.specs.Layout.{corners, face_row}
use Rattle.bac6_text.proofs.Rows.{length-corners}
use Rattle.bac6_text.specs.Rules.{face_fine}
use Rattle.signed.proofs.Tests.{and3}
use Rattle.bac6_face_rules.specs.Internal.Rows.{corner_count, corners_known, face_row_fine}

-- ---- the corners of a row, one a turn

and_assoc : (a b c : Bool) → (a && (b && c)) ≡ ((a && b) && c)
and_assoc true b c = refl
and_assoc false b c = refl

drop_past : (k : ℕ) (l : List ℤ) → length l ≤ k → drop k l ≡ []
drop_past k [] h = drop-nil k
drop_past zero (x ∷ l) h = absurd (omega arith)
drop_past (suc k) (x ∷ l) h = drop_past k l (omega arith)

module _ (points uvs : ℕ) where
  -- the vertices and the texture coordinates left, where those before are all none, or all rows
  unfoldable pub left : Bool → Bool → List ℤ → List ℤ → Bool
  left none rows vs us = all (is_row points) vs && ((none && all is_none us) || (rows && all (is_row uvs) us))

  pub left-all : (used : ℕ) (f : List ℤ) → corners_known used points uvs f ≡ left true true (take used (drop 2 f)) (take used (drop 6 f))
  unfolding left corners_known
  left-all used f = refl

  pub left_end : (none rows : Bool) → left none rows [] [] ≡ (none || rows)
  unfolding left all
  left_end true rows = refl
  left_end false true = refl
  left_end false false = refl

  left_next : (none rows : Bool) (v u : ℤ) (vs us : List ℤ) → is_row points v ≡ true → left none rows (v ∷ vs) (u ∷ us) ≡ left (none && is_none u) (rows && is_row uvs u) vs us
  unfolding left all
  left_next none rows v u vs us h = rw (h, and_assoc none (is_none u) (all is_none us), and_assoc rows (is_row uvs u) (all (is_row uvs) us))

  left_broken : (none rows : Bool) (v u : ℤ) (vs us : List ℤ) → is_row points v ≡ false → left none rows (v ∷ vs) (u ∷ us) ≡ false
  unfolding left all
  left_broken none rows v u vs us h = rw h

  module _ (f : List ℤ) (whole : length f ≡ 11) (used : ℕ) (few : used ≤ 4) where
    -- what is left from a corner on
    abbrev pub from : Bool → Bool → ℕ → Bool
    from none rows k = left none rows (drop k (take used (drop 2 f))) (drop k (take used (drop 6 f)))

    sized : (j : ℕ) → j ≤ 6 → length (take used (drop j f)) ≡ used
    sized j h = rw (length-take used (drop j f), length-drop j f) (omega arith)

    number : (j k : ℕ) → k < used → get_or (take used (drop j f)) k (pos 0) ≡ corner_at j f k
    number j k h = get_or-take used (drop j f) k (pos 0) h ∙ get_or-drop j f k (pos 0) ∙ sym (corner-is j f k (omega arith))

    part : (j k : ℕ) → j ≤ 6 → k < used → drop k (take used (drop j f)) ≡ corner_at j f k ∷ drop (k + 1) (take used (drop j f))
    part j k l h =
        let e : k + 1 ≡ suc k = omega arith in
        drop-cons (take used (drop j f)) k (pos 0) (rw (sized j l) h) ∙ rw (number j k h, e)

    pub turn_broken : (none rows : Bool) (k : ℕ) → k < used → is_row points (corner_at 2 f k) ≡ false → from none rows k ≡ false
    turn_broken none rows k h e = rw (part 2 k (omega arith) h, part 6 k (omega arith) h) (left_broken none rows _ _ _ _ e)

    pub turn_on : (none rows : Bool) (k : ℕ) → k < used → is_row points (corner_at 2 f k) ≡ true → from none rows k ≡ from (none && is_none (corner_at 6 f k)) (rows && is_row uvs (corner_at 6 f k)) (k + 1)
    turn_on none rows k h e = rw (part 2 k (omega arith) h, part 6 k (omega arith) h) (left_next none rows _ _ _ _ e)

    pub turn_end : (none rows : Bool) (k : ℕ) → used ≤ k → from none rows k ≡ (none || rows)
    turn_end none rows k h =
        rw (drop_past k (take used (drop 2 f)) (rw (sized 2 (omega arith)) h), drop_past k (take used (drop 6 f)) (rw (sized 6 (omega arith)) h)) (left_end none rows)

-- the code's test of the size
not_four : (z : ℤ) → (of_z w64 z ≡ 4 → ⊥) → same_number z (pos 4) ≡ false
unfolding same_number
not_four (pos n) e = ne_eqb n 4 e
not_four (negsuc n) e = refl

is_four : (z : ℤ) → SFits w64 z → of_z w64 z ≡ 4 → same_number z (pos 4) ≡ true
unfolding same_number
is_four (pos n) s e = eq-eqb n 4 e
is_four (negsuc n) s e = let h : n < 2 ^ 63 = s.sfits in let g : 2 ^ 64 - suc n ≡ 4 = e in absurd (omega arith)

module _ (m p u : ℕ) (f : List ℤ) where
  pub no_material : is_row m (face_material f) ≡ false → face_row_fine m p u f ≡ false
  unfolding face_row_fine
  no_material h = rw h

  module _ (h : is_row m (face_material f) ≡ true) where
    by_count : (n : ℕ) → corner_count f ≡ n → face_row_fine m p u f ≡ corners_known n p u f
    unfolding face_row_fine
    by_count n e = rw (h, e)

    pub with_four : SFits w64 (face_size f) → of_z w64 (face_size f) ≡ 4 → face_row_fine m p u f ≡ corners_known 4 p u f
    with_four s e = by_count 4 (unfold corner_count in (rw (is_four (face_size f) s e, corner_count)))

    pub with_three : (of_z w64 (face_size f) ≡ 4 → ⊥) → face_row_fine m p u f ≡ corners_known 3 p u f
    with_three e = by_count 3 (unfold corner_count in (rw (not_four (face_size f) e, corner_count)))

-- ---- a face's own row

-- three or four numbers, and the corners that they fill
module _ (t : ℤ → Bool) where
  three-corners : (zs : List ℤ) → length zs ≡ 3 → (rest : List ℤ) → all t (take 3 (corners 4 zs ++ rest)) ≡ all t zs
  unfolding all corners
  three-corners [] h rest = absurd (omega arith)
  three-corners (a ∷ []) h rest = absurd (omega arith)
  three-corners (a ∷ b ∷ []) h rest = absurd (omega arith)
  three-corners (a ∷ b ∷ c ∷ []) h rest = refl
  three-corners (a ∷ b ∷ c ∷ d ∷ zs) h rest = absurd (omega arith)

  four_corners : (zs : List ℤ) → length zs ≡ 4 → (rest : List ℤ) → all t (take 4 (corners 4 zs ++ rest)) ≡ all t zs
  unfolding all corners
  four_corners [] h rest = absurd (omega arith)
  four_corners (a ∷ []) h rest = absurd (omega arith)
  four_corners (a ∷ b ∷ []) h rest = absurd (omega arith)
  four_corners (a ∷ b ∷ c ∷ []) h rest = absurd (omega arith)
  four_corners (a ∷ b ∷ c ∷ d ∷ []) h rest = refl
  four_corners (a ∷ b ∷ c ∷ d ∷ e ∷ zs) h rest = absurd (omega arith)

module _ (g : ℤ) (f : Face) where
  size-three : f.size ≡ 3 → corner_count (face_row g f) ≡ 3
  unfolding corner_count face_row same_number
  size-three e = rw e

  size_four : f.size ≡ 4 → corner_count (face_row g f) ≡ 4
  unfolding corner_count face_row same_number
  size_four e = rw e

  after-size : drop 2 (face_row g f) ≡ corners 4 f.vertices ++ (corners 4 f.uvs ++ (g ∷ []))
  unfolding face_row
  after-size = append_assoc (corners 4 f.vertices) (corners 4 f.uvs) (g ∷ [])

  after-vertices : drop 6 (face_row g f) ≡ corners 4 f.uvs ++ (g ∷ [])
  after-vertices = sym (drop-drop 4 2 (face_row g f)) ∙ rw after-size (drop_at (corners 4 f.vertices) _ 4 (length-corners 4 f.vertices))

  -- the numbers of a face's corners are those of its row
  module _ (t : ℤ → Bool) (s : (f.size ≡ 3) ⊎ (f.size ≡ 4)) where
    row-vertices : length f.vertices ≡ f.size → all t (take (corner_count (face_row g f)) (drop 2 (face_row g f))) ≡ all t f.vertices
    row-vertices h = ⊎_elim (λ e. rw (size-three e, after-size) (three-corners t f.vertices (h ∙ e) _)) (λ e. rw (size_four e, after-size) (four_corners t f.vertices (h ∙ e) _)) s

    row-uvs : length f.uvs ≡ f.size → all t (take (corner_count (face_row g f)) (drop 6 (face_row g f))) ≡ all t f.uvs
    row-uvs h = ⊎_elim (λ e. rw (size-three e, after-vertices) (three-corners t f.uvs (h ∙ e) _)) (λ e. rw (size_four e, after-vertices) (four_corners t f.uvs (h ∙ e) _)) s

-- the material of a face's row, and the tests after it
row-material : (m p u : ℕ) (g : ℤ) (f : Face) → face_fine m p u f ≡ (is_row m (face_material (face_row g f)) && (all (is_row p) f.vertices && (all is_none f.uvs || all (is_row u) f.uvs)))
unfolding face_fine face_row
row-material m p u g f = and3 (is_row m f.material) (all (is_row p) f.vertices) (all is_none f.uvs || all (is_row u) f.uvs)

pub face_row-fine : (m p u : ℕ) (g : ℤ) (f : Face) → (f.size ≡ 3) ⊎ (f.size ≡ 4) → length f.vertices ≡ f.size → length f.uvs ≡ f.size → face_row_fine m p u (face_row g f) ≡ face_fine m p u f
unfolding face_row_fine corners_known
face_row-fine m p u g f s hv hu =
    rw (row-vertices g f (is_row p) s hv, row-uvs g f is_none s hu, row-uvs g f (is_row u) s hu) (sym (row-material m p u g f))
