-- Tables as the layout lays them: their rows are the figure's, so that the rules on rows are the rules on lists.
-- Each table may have more after it.
use mathlib.Core.Path.{◌≡◌, refl, ap, ap₂, sym, ◌∙◌}
use mathlib.Core.List.{List, [], ◌∷◌, ◌++◌, map, append_assoc}
use mathlib.Core.Bool.{Bool, true, false}
use Prim.Native.Nat.{ℕ, suc, ◌+◌, ◌*◌}
use native.Mathlib.Nat.{zero-add, suc-add}
use native.Mathlib.Omega.{arith}
use lib.ListN.{length, get_or, set, length-append}
use lib.Seq.{take_at, drop_at, get_or_at, get_or-append-add, set_at, set-append_left}
use lib.IntN.{ℤ, pos, negsuc}
use Rattle.refusal.specs.Faults.{clear}
use Rattle.bac6_text.specs.Figure.{Bone, Face, Group, Figure}
use Rattle.parse_rows.proofs.Widths.{Wide}
use Rattle.table_rows.specs.Flat.{flat}
use Rattle.bac6_text.specs.Layout.{name_numbers, bone_row, bone_rows, face_row, group_rows, face_rows}
use Rattle.bac6_text.specs.Rules.{group_faces, faces_of, flags_of, face_fine, parents_in, whole_list, bones_fault}
use Rattle.refusal.specs.FirstBad.{first_bad}
use Rattle.bac6_text.proofs.Whole.{WholeFaces, WholeBone, WholeBones}
use Rattle.bac6_text.proofs.Rows.{nine, nine_length, bone_wide, bones_wide, bones_count, flags_count, face_rows_wide, face_rows-length}
use Rattle.bac6_text.proofs.Parents.{whole_length}
use Rattle.bac6_face_rules.specs.Internal.Rows.{face_row_fine}
use Rattle.table_columns.specs.Parts.{rows_of}
use Rattle.bac6_bone_rules.specs.Internal.Bones.{row_flags, flags_in, parents_from, with_parents, Settled}
use Rattle.table_columns.proofs.FirstBad.{bad_passed, bad_found}
use Rattle.table_columns.proofs.Rows.{rows_more}
use Rattle.bac6_face_rules.proofs.Faces.{face_row-fine}
use Rattle.bac6_bone_rules.proofs.Whole.{settled_clear}

-- ---- rows of one width

flat-apart : (r : List ℤ) (rs : List (List ℤ)) (rest : List ℤ) → flat (r ∷ rs) ++ rest ≡ r ++ (flat rs ++ rest)
unfolding flat
flat-apart r rs rest = append_assoc r (flat rs) rest

pub rows-laid : (w : ℕ) (rs : List (List ℤ)) (rest : List ℤ) → Wide w rs → rows_of w (length rs) (flat rs ++ rest) ≡ rs
rows-laid w [] rest h = unfold rows_of in refl
rows-laid w (r ∷ rs) rest h =
    let e = h.0 in
    rw (flat-apart r rs rest)
    (rows_more w (length rs) (r ++ (flat rs ++ rest)) (rw length-append (omega arith))
    ∙ rw (take_at r (flat rs ++ rest) w e, drop_at r (flat rs ++ rest) w e, rows-laid w rs rest h.1))

-- ---- faces

whole-left : (a b : List Face) → WholeFaces (a ++ b) → WholeFaces a
whole-left [] b h = tt
whole-left (f ∷ a) b h = (h.0, whole-left a b h.1)

whole_right : (a b : List Face) → WholeFaces (a ++ b) → WholeFaces b
whole_right [] b h = h
whole_right (f ∷ a) b h = whole_right a b h.1

module _ (m p u : ℕ) where
  -- faces, and whatever follows them
  bad_faces : (g : ℤ) (i : ℕ) (fs : List Face) (rows : List (List ℤ)) (more : List Face) → WholeFaces fs → ((j : ℕ) → first_bad 13 (face_row_fine m p u) j rows ≡ first_bad 13 (face_fine m p u) j more) → first_bad 13 (face_row_fine m p u) i (map (face_row g) fs ++ rows) ≡ first_bad 13 (face_fine m p u) i (fs ++ more)
  bad_faces g i [] rows more h k = k i
  bad_faces g i (f ∷ fs) rows more h k = go (face_fine m p u f) refl (bad_faces g (suc i) fs rows more h.1 k)
    where
      row : face_row_fine m p u (face_row g f) ≡ face_fine m p u f
      row = face_row-fine m p u g f h.0.sizes h.0.vertices h.0.uvs

      go : (v : Bool) → face_fine m p u f ≡ v → first_bad 13 (face_row_fine m p u) (suc i) (map (face_row g) fs ++ rows) ≡ first_bad 13 (face_fine m p u) (suc i) (fs ++ more) → first_bad 13 (face_row_fine m p u) i (map (face_row g) (f ∷ fs) ++ rows) ≡ first_bad 13 (face_fine m p u) i ((f ∷ fs) ++ more)
      go true e ih = bad_passed 13 (face_row_fine m p u) i (face_row g f) _ (row ∙ e) ∙ ih ∙ sym (bad_passed 13 (face_fine m p u) i f _ e)
      go false e ih = bad_found 13 (face_row_fine m p u) i (face_row g f) _ (row ∙ e) ∙ sym (bad_found 13 (face_fine m p u) i f _ e)

  bad_groups : (i : ℕ) (gs : List Group) → WholeFaces (group_faces gs) → (j : ℕ) → first_bad 13 (face_row_fine m p u) j (group_rows i gs) ≡ first_bad 13 (face_fine m p u) j (group_faces gs)
  unfolding group_rows group_faces first_bad
  bad_groups i [] h j = refl
  bad_groups i (g ∷ gs) h j = bad_faces (pos i) j g.faces (group_rows (suc i) gs) (group_faces gs) (whole-left g.faces (group_faces gs) h) (bad_groups (suc i) gs (whole_right g.faces (group_faces gs) h))

  -- rule 13 of the table is that of the figure
  pub faces-laid : (f : Figure) (rest : List ℤ) → WholeFaces (faces_of f) → first_bad 13 (face_row_fine m p u) 0 (rows_of 11 (length (faces_of f)) (flat (face_rows f) ++ rest)) ≡ first_bad 13 (face_fine m p u) 0 (faces_of f)
  faces-laid f rest h = rw (← face_rows-length f, rows-laid 11 (face_rows f) rest (face_rows_wide f)) (unfold face_rows faces_of in all-faces)
    where
      all-faces : first_bad 13 (face_row_fine m p u) 0 (map (face_row (negsuc 0)) f.polygons ++ group_rows 0 f.groups) ≡ first_bad 13 (face_fine m p u) 0 (f.polygons ++ group_faces f.groups)
      all-faces = unfold faces_of in bad_faces (negsuc 0) 0 f.polygons (group_rows 0 f.groups) (group_faces f.groups) (whole-left f.polygons (group_faces f.groups) h) (bad_groups 0 f.groups (whole_right f.polygons (group_faces f.groups) h))

-- ---- bones

-- a row: nine numbers, two flags, the parent, the name
module _ (b : Bone) (w : WholeBone b) where
  bone_flags : (p : ℤ) → row_flags (bone_row b p) ≡ (b.child, b.brother)
  unfolding row_flags bone_row
  bone_flags p = ap₂ (λ (x y : ℤ). (x, y)) (get_or_at (nine b) b.child _ (pos 0) 9 (nine_length b w)) (at 1 10 (rw (nine_length b w)))
    where
      at : (i k : ℕ) → length (nine b) + i ≡ k → get_or (nine b ++ (b.child ∷ b.brother ∷ p ∷ name_numbers b.name)) k (pos 0) ≡ get_or (b.child ∷ b.brother ∷ p ∷ name_numbers b.name) i (pos 0)
      at i k e = rw (← e) (get_or-append-add (nine b) _ i (pos 0))

  bone-set : (p q : ℤ) → set (bone_row b p) 11 q ≡ bone_row b q
  bone-set p q = ap (λ (l : List ℤ). set l 11 q) (apart p) ∙ set_at (nine b ++ (b.child ∷ b.brother ∷ [])) p (name_numbers b.name) q 11 eleven ∙ sym (apart q)
    where
      apart : (p : ℤ) → bone_row b p ≡ (nine b ++ (b.child ∷ b.brother ∷ [])) ++ (p ∷ name_numbers b.name)
      apart p = unfold bone_row in sym (append_assoc (nine b) (b.child ∷ b.brother ∷ []) (p ∷ name_numbers b.name))

      eleven : length (nine b ++ (b.child ∷ b.brother ∷ [])) ≡ 11
      eleven = rw (length-append (nine b) (b.child ∷ b.brother ∷ []), nine_length b w)

bones_flags : (bs : List Bone) (ps : List ℤ) → WholeBones bs → length ps ≡ length bs → map row_flags (bone_rows bs ps) ≡ flags_of bs
unfolding bone_rows flags_of
bones_flags [] ps w e = refl
bones_flags (b ∷ bs) [] w e = absurd (omega arith)
bones_flags (b ∷ bs) (p ∷ ps) w e = rw (bone_flags b w.0 p, bones_flags bs ps w.1 (omega arith))

-- the table's flags are the bones'
pub flags_laid : (bs : List Bone) (ps rest : List ℤ) → WholeBones bs → length ps ≡ length bs → flags_in (length bs) (flat (bone_rows bs ps) ++ rest) ≡ flags_of bs
unfolding flags_in
flags_laid bs ps rest w e = rw (← bones_count bs ps e, rows-laid 14 (bone_rows bs ps) rest (bones_wide bs ps w)) (bones_flags bs ps w e)

set_after : (xs ys : List ℤ) (i : ℕ) (a : ℤ) → set (xs ++ ys) (length xs + i) a ≡ xs ++ set ys i a
set_after [] ys i a = rw (zero-add i)
set_after (x ∷ xs) ys i a = rw (suc-add (length xs) i) (ap (λ (l : List ℤ). x ∷ l) (set_after xs ys i a))

-- parents of the rows after the first
parents-after : (row : ℕ) (r qs t : List ℤ) → length r ≡ 14 → parents_from (suc row) qs (r ++ t) ≡ r ++ parents_from row qs t
unfolding parents_from
parents-after row r [] t e = refl
parents-after row r (q ∷ qs) t e =
    let i : suc row * 14 + 11 ≡ length r + (row * 14 + 11) = omega arith in
    rw (i, set_after r t (row * 14 + 11) q) (parents-after (suc row) r qs (set t (row * 14 + 11) q) e)

parents-rows : (bs : List Bone) (ps qs rest : List ℤ) → WholeBones bs → length ps ≡ length bs → length qs ≡ length bs → parents_from 0 qs (flat (bone_rows bs ps) ++ rest) ≡ flat (bone_rows bs qs) ++ rest
unfolding bone_rows parents_from
parents-rows [] ps [] rest w e f = refl
parents-rows [] ps (q ∷ qs) rest w e f = absurd (omega arith)
parents-rows (b ∷ bs) [] qs rest w e f = absurd (omega arith)
parents-rows (b ∷ bs) (p ∷ ps) [] rest w e f = absurd (omega arith)
parents-rows (b ∷ bs) (p ∷ ps) (q ∷ qs) rest w e f =
    let h = bone_wide b w.0 p in
    ap (λ (l : List ℤ). parents_from 1 qs (set l 11 q)) (flat-apart (bone_row b p) (bone_rows bs ps) rest)
    ∙ ap (parents_from 1 qs) (set-append_left (bone_row b p) (flat (bone_rows bs ps) ++ rest) 11 q (omega arith) ∙ ap (λ (l : List ℤ). l ++ (flat (bone_rows bs ps) ++ rest)) (bone-set b w.0 p q))
    ∙ parents-after 0 (bone_row b q) qs (flat (bone_rows bs ps) ++ rest) (bone_wide b w.0 q)
    ∙ ap (λ (l : List ℤ). bone_row b q ++ l) (parents-rows bs ps qs rest w.1 (omega arith) (omega arith))
    ∙ sym (flat-apart (bone_row b q) (bone_rows bs qs) rest)

-- the parents set into rows are those of the rows
pub parents-laid : (bs : List Bone) (ps qs rest : List ℤ) → WholeBones bs → length ps ≡ length bs → length qs ≡ length bs → with_parents qs (flat (bone_rows bs ps) ++ rest) ≡ flat (bone_rows bs qs) ++ rest
unfolding with_parents
parents-laid bs ps qs rest w e f = parents-rows bs ps qs rest w e f

-- what `place_bones` leaves of rows that were laid with any parents, where no bone is at fault
pub bones-laid : (count : ℕ) (bs : List Bone) (ps rest exit : List ℤ) → WholeBones bs → length ps ≡ length bs → bones_fault (flags_of bs) ≡ clear → Settled count (flat (bone_rows bs ps) ++ rest) exit (whole_list (flags_of bs)) → exit ≡ flat (bone_rows bs (parents_in (whole_list (flags_of bs)))) ++ rest
bones-laid count bs ps rest exit w e c h =
    settled_clear count _ exit (flags_of bs) c h
    ∙ parents-laid bs ps (parents_in (whole_list (flags_of bs))) rest w e (whole_length (flags_of bs) c ∙ flags_count bs)
