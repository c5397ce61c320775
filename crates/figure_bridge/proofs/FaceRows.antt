-- A face's row, column by column, and what its columns pass where the face does: the four columns of corners are the face's numbers and then -1.
use mathlib.Core.Path.{◌≡◌, refl, ap}
use mathlib.Core.List.{List, [], ◌∷◌, ◌++◌}
use mathlib.Core.Bool.{Bool, true, ◌&&◌, ◌||◌}
use mathlib.Core.Logic.{◌⊎◌, ⊎_elim}
use Prim.Native.Nat.{ℕ, zero, suc, ◌+◌, ◌<◌}
use native.Mathlib.Omega.{arith}
use lib.IntN.{ℤ, pos, negsuc}
use lib.ListN.{length, get_or, take, drop}
use Rattle.text_numerals.proofs.Numerals.{and_true}
use Rattle.bac6_text.specs.Figure.{Face}
use Rattle.bac6_text.specs.Rules as bac6
use Rattle.refusal.specs.FirstBad.{all}
use Rattle.table_references.specs.References.{is_row, is_none, same_number}
use Rattle.bac6_text.specs.Layout.{corners, face_row}
use Rattle.bac6_text.proofs.Whole.{WholeFace}
use Rattle.table_counts.specs.declared.counts.FigureCounts.{FigureCounts}
use Rattle.table_references.specs.Index.{is_index}
use Rattle.player_spec.specs.Lookups.{size_fine, corners_fine, all_none, face_sound}

-- a corner's number, -1 where there is none
abbrev pub corner_at : List ℤ → ℕ → ℤ
corner_at zs k = get_or zs k (negsuc 0)

corners_are : (zs : List ℤ) → corners 4 zs ≡ corner_at zs 0 ∷ corner_at zs 1 ∷ corner_at zs 2 ∷ corner_at zs 3 ∷ []
unfolding corners
corners_are [] = refl
corners_are (a ∷ []) = refl
corners_are (a ∷ b ∷ []) = refl
corners_are (a ∷ b ∷ c ∷ []) = refl
corners_are (a ∷ b ∷ c ∷ d ∷ zs) = refl

module _ (g : ℤ) (f : Face) where
  columns : face_row g f ≡ f.material ∷ pos f.size ∷ corner_at f.vertices 0 ∷ corner_at f.vertices 1 ∷ corner_at f.vertices 2 ∷ corner_at f.vertices 3 ∷ corner_at f.uvs 0 ∷ corner_at f.uvs 1 ∷ corner_at f.uvs 2 ∷ corner_at f.uvs 3 ∷ g ∷ []
  unfolding face_row
  columns = rw (corners_are f.vertices, corners_are f.uvs)

  pub row-material : get_or (face_row g f) 0 (pos 0) ≡ f.material
  row-material = rw columns

  pub row-size : get_or (face_row g f) 1 (pos 0) ≡ pos f.size
  row-size = rw columns

  pub row-group : get_or (face_row g f) 10 (pos 0) ≡ g
  row-group = rw columns

  pub row-vertices : take 4 (drop 2 (face_row g f)) ≡ corners 4 f.vertices
  row-vertices = rw (columns, corners_are f.vertices)

  pub row-uvs : take 4 (drop 6 (face_row g f)) ≡ corners 4 f.uvs
  row-uvs = rw (columns, corners_are f.uvs)

  pub row_vertex : (k : ℕ) → k < 4 → get_or (face_row g f) (2 + k) (pos 0) ≡ corner_at f.vertices k
  row_vertex zero h = rw columns
  row_vertex (suc zero) h = rw columns
  row_vertex (suc (suc zero)) h = rw columns
  row_vertex (suc (suc (suc zero))) h = rw columns
  row_vertex (suc (suc (suc (suc k)))) h = absurd (omega arith)

  pub row-uv : (k : ℕ) → k < 4 → get_or (face_row g f) (6 + k) (pos 0) ≡ corner_at f.uvs k
  row-uv zero h = rw columns
  row-uv (suc zero) h = rw columns
  row-uv (suc (suc zero)) h = rw columns
  row-uv (suc (suc (suc zero))) h = rw columns
  row-uv (suc (suc (suc (suc k)))) h = absurd (omega arith)

-- ---- tests of columns

-- three or four numbers fill so many columns
abbrev pub Corners : List ℤ → Type 0
Corners zs = (length zs ≡ 3) ⊎ (length zs ≡ 4)

-- and -1 the others
pub record Filled (zs : List ℤ) : Type 0 where
  pub unused : List ℤ
  pub here : corners 4 zs ≡ zs ++ unused
  pub fine : (n : ℕ) → corners_fine n 0 unused ≡ true
  pub empty : all_none unused ≡ true

pub filled : (zs : List ℤ) → Corners zs → Filled zs
filled zs s = ⊎_elim (three zs) (four zs) s
  where
    three : (zs : List ℤ) → length zs ≡ 3 → Filled zs
    three [] h = absurd (omega arith)
    three (a ∷ []) h = absurd (omega arith)
    three (a ∷ b ∷ []) h = absurd (omega arith)
    three (a ∷ b ∷ c ∷ []) h = record { unused = negsuc 0 ∷ []; here = unfold corners in refl; fine = λ n. unfold corners_fine is_none in refl; empty = unfold all_none is_none in refl }
    three (a ∷ b ∷ c ∷ d ∷ zs) h = absurd (omega arith)

    four : (zs : List ℤ) → length zs ≡ 4 → Filled zs
    four [] h = absurd (omega arith)
    four (a ∷ []) h = absurd (omega arith)
    four (a ∷ b ∷ []) h = absurd (omega arith)
    four (a ∷ b ∷ c ∷ []) h = absurd (omega arith)
    four (a ∷ b ∷ c ∷ d ∷ []) h = record { unused = []; here = unfold corners in refl; fine = λ n. unfold corners_fine in refl; empty = unfold all_none in refl }
    four (a ∷ b ∷ c ∷ d ∷ e ∷ zs) h = absurd (omega arith)

rows-fine : (n : ℕ) (zs unused : List ℤ) → corners_fine n 0 unused ≡ true → corners_fine n (length zs) (zs ++ unused) ≡ all (is_row n) zs
unfolding corners_fine all
rows-fine n [] [] h = refl
rows-fine n [] (z ∷ unused) h = h
rows-fine n (z ∷ zs) unused h = ap (λ (b : Bool). is_row n z && b) (rows-fine n zs unused h)

pub corners-fine : (n : ℕ) (zs : List ℤ) → Corners zs → corners_fine n (length zs) (corners 4 zs) ≡ all (is_row n) zs
corners-fine n zs s = let p = filled zs s in rw p.here (rows-fine n zs p.unused (p.fine n))

none_fine : (zs unused : List ℤ) → all_none unused ≡ true → all_none (zs ++ unused) ≡ all is_none zs
unfolding all_none all
none_fine [] unused h = h
none_fine (z ∷ zs) unused h = ap (λ (b : Bool). is_none z && b) (none_fine zs unused h)

pub none_used : (zs : List ℤ) → Corners zs → all_none (corners 4 zs) ≡ all is_none zs
none_used zs s = let p = filled zs s in rw p.here (none_fine zs p.unused p.empty)

-- ---- tests of a face's row

module _ (f : Face) (w : WholeFace f) where
  pub vertex_corners : Corners f.vertices
  vertex_corners = rw w.vertices w.sizes

  pub uv-corners : Corners f.uvs
  uv-corners = rw w.uvs w.sizes

  pub size-fine : size_fine (pos f.size) ≡ true
  unfolding size_fine same_number
  size-fine = ⊎_elim (λ (e : f.size ≡ 3). rw e) (λ (e : f.size ≡ 4). rw e) w.sizes

  pub below_four : (k : ℕ) → k < f.size → k < 4
  below_four k h = ⊎_elim (λ (e : f.size ≡ 3). omega arith) (λ (e : f.size ≡ 4). omega arith) w.sizes

  pub vertices-fine : (n : ℕ) → corners_fine n f.size (corners 4 f.vertices) ≡ all (is_row n) f.vertices
  vertices-fine n = rw (← w.vertices) (corners-fine n f.vertices vertex_corners)

  pub uvs-fine : (n : ℕ) → corners_fine n f.size (corners 4 f.uvs) ≡ all (is_row n) f.uvs
  uvs-fine n = rw (← w.uvs) (corners-fine n f.uvs uv-corners)

-- ---- what rule 13 says of a face

module _ (m p u : ℕ) (f : Face) (h : bac6.face_fine m p u f ≡ true) where
  front_sound : ((is_row m f.material && all (is_row p) f.vertices) ≡ true) × ((all is_none f.uvs || all (is_row u) f.uvs) ≡ true)
  unfolding bac6.face_fine
  front_sound = and_true (is_row m f.material && all (is_row p) f.vertices) (all is_none f.uvs || all (is_row u) f.uvs) h

  pub material-sound : is_row m f.material ≡ true
  material-sound = (and_true (is_row m f.material) (all (is_row p) f.vertices) front_sound.0).0

  pub vertices-sound : all (is_row p) f.vertices ≡ true
  vertices-sound = (and_true (is_row m f.material) (all (is_row p) f.vertices) front_sound.0).1

  pub uvs-sound : (all is_none f.uvs || all (is_row u) f.uvs) ≡ true
  uvs-sound = front_sound.1

-- the row passes the lookup's test
pub face-fine : (n : FigureCounts) (g : ℤ) (f : Face) → WholeFace f → bac6.face_fine n.materials n.points n.uvs f ≡ true → is_index n.groups g ≡ true → face_sound n (face_row g f) ≡ true
unfolding face_sound
face-fine n g f w h k =
    rw (row-material g f, row-size g f, row-vertices g f, row-uvs g f, row-group g f, k, size-fine f w, vertices-fine f w n.points, uvs-fine f w n.uvs, none_used f.uvs (uv-corners f w), material-sound n.materials n.points n.uvs f h, vertices-sound n.materials n.points n.uvs f h, uvs-sound n.materials n.points n.uvs f h)
