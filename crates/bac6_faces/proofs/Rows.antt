-- The tables that faces and groups leave, by the lists of their rows.
use mathlib.Core.Path.{◌≡◌, refl, ap, sym, ◌∙◌}
use mathlib.Core.List.{List, [], ◌∷◌, ◌++◌, map}
use Prim.Native.Nat.{ℕ, zero, suc, ◌+◌, ◌*◌}
use native.Mathlib.Nat.{zero-add}
use native.Mathlib.Numerals.{add-one}
use native.Mathlib.Omega.{arith}
use lib.IntN.{ℤ, pos, negsuc}
use lib.ListN.{length, length-append}
use Rattle.table_rows.specs.Internal.Overlay.{overlay_at}
use Rattle.table_rows.specs.Flat.{flat}
use Rattle.parse_rows.specs.Internal.Folds.{fold, row_step}
use Rattle.parse_rows.proofs.Folds.{fold-rows}
use Rattle.parse_rows.proofs.Widths.{Wide, wide_append}
use Rattle.bac6_text.specs.Figure.{Face, Group}
use Rattle.bac6_text.specs.Layout.{corners, face_row, group_rows, group_names, name_numbers}
use Rattle.bac6_faces.specs.Internal.Into.{face_step, group_step, all_rows, tables_of}

-- ---- rows of one width

corners-length : (n : ℕ) (zs : List ℤ) → length (corners n zs) ≡ n
unfolding corners
corners-length zero zs = refl
corners-length (suc n) [] = ap suc (corners-length n [])
corners-length (suc n) (z ∷ zs) = ap suc (corners-length n zs)

face-length : (g : ℤ) (f : Face) → length (face_row g f) ≡ 11
unfolding face_row
face-length g f = simp (length-append, corners-length)

faces_wide : (g : ℤ) (fs : List Face) → Wide 11 (map (face_row g) fs)
faces_wide g [] = tt
faces_wide g (f ∷ fs) = (face-length g f, faces_wide g fs)

groups_wide : (i : ℕ) (gs : List Group) → Wide 11 (group_rows i gs)
unfolding group_rows
groups_wide i [] = tt
groups_wide i (g ∷ gs) = wide_append 11 (map (face_row (pos i)) g.faces) (group_rows (suc i) gs) (faces_wide (pos i) g.faces) (groups_wide (suc i) gs)

names_wide : (gs : List Group) → Wide 2 (group_names gs)
unfolding group_names name_numbers
names_wide [] = tt
names_wide (g ∷ gs) = (refl, names_wide gs)

names-length : (gs : List Group) → length (group_names gs) ≡ length gs
unfolding group_names
names-length [] = refl
names-length (g ∷ gs) = ap suc (names-length gs)

-- ---- rows one after the other

next_row : (n w : ℕ) → n * w + w ≡ (n + 1) * w
next_row n w = omega arith

fold-append : {A S : Type 0} (step : S → A → S) (s : S) (l m : List A) → fold step s (l ++ m) ≡ fold step (fold step s l) m
unfolding fold
fold-append step s [] m = refl
fold-append step s (a ∷ l) m = fold-append step (step s a) l m

face-fold : (g : ℤ) (s : ℕ × List ℤ) (fs : List Face) → fold (face_step g) s fs ≡ fold (row_step 11) s (map (face_row g) fs)
unfolding fold face_step
face-fold g s [] = refl
face-fold g s (f ∷ fs) = face-fold g (row_step 11 s (face_row g f)) fs

group-fold : (i : ℕ) (ns : List ℤ) (s : ℕ × List ℤ) (gs : List Group) → fold group_step ((i, ns), s) gs ≡ (fold (row_step 2) (i, ns) (group_names gs), fold (row_step 11) s (group_rows i gs))
unfolding fold group_step row_step group_names group_rows
group-fold i ns s [] = refl
group-fold i ns s (g ∷ gs) =
    group-fold (i + 1) (overlay_at (i * 2) (name_numbers g.name) ns) (fold (face_step (pos i)) s g.faces) gs
    ∙ ap (λ (x : ℕ × List ℤ). (fold (row_step 2) (i + 1, overlay_at (i * 2) (name_numbers g.name) ns) (group_names gs), x)) (last (suc i) (add-one i))
  where
    last : (j : ℕ) → i + 1 ≡ j → fold (row_step 11) (fold (face_step (pos i)) s g.faces) (group_rows (i + 1) gs) ≡ fold (row_step 11) s (map (face_row (pos i)) g.faces ++ group_rows j gs)
    last j e = rw (e, face-fold (pos i) s g.faces) (sym (fold-append (row_step 11) s (map (face_row (pos i)) g.faces) (group_rows j gs)))

-- ---- all of them

both_closed : (faces names : List ℤ) (ps : List Face) (gs : List Group) → fold group_step ((0, names), fold (face_step (negsuc 0)) (0, faces) ps) gs ≡ ((length gs, overlay_at 0 (flat (group_names gs)) names), (length (all_rows ps gs), overlay_at 0 (flat (all_rows ps gs)) faces))
unfolding all_rows
both_closed faces names ps gs =
    group-fold 0 names (fold (face_step (negsuc 0)) (0, faces) ps) gs
    ∙ rw (face-fold (negsuc 0) (0, faces) ps, ← fold-append (row_step 11) (0, faces) (map (face_row (negsuc 0)) ps) (group_rows 0 gs), fold-rows 2 0 names (group_names gs) (names_wide gs), fold-rows 11 0 faces (map (face_row (negsuc 0)) ps ++ group_rows 0 gs) (wide_append 11 (map (face_row (negsuc 0)) ps) (group_rows 0 gs) (faces_wide (negsuc 0) ps) (groups_wide 0 gs)), names-length gs)
    (rw (zero-add (length gs), zero-add (length (map (face_row (negsuc 0)) ps ++ group_rows 0 gs))))

-- the faces first
unfoldable pub arrange : (ℕ × List ℤ) × (ℕ × List ℤ) → ℕ × List ℤ × ℕ × List ℤ
arrange x = (x.1.0, x.1.1, x.0.0, x.0.1)

pub tables_closed : (faces names : List ℤ) (ps : List Face) (gs : List Group) → arrange (fold group_step ((0, names), fold (face_step (negsuc 0)) (0, faces) ps) gs) ≡ tables_of faces names ps gs
unfolding arrange tables_of
tables_closed faces names ps gs = ap arrange (both_closed faces names ps gs)
