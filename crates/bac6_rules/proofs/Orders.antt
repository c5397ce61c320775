-- The rules in order, by their steps: the first fault of tables that a figure's rows stand in is the figure's.
use mathlib.Core.Path.{◌≡◌, refl, sym, ◌∙◌}
use mathlib.Core.List.{List, [], ◌++◌}
use Prim.Native.Nat.{ℕ}
use lib.ListN.{length}
use lib.IntN.{ℤ}
use Rattle.refusal.specs.Faults.{Fault, clear, fault}
use Rattle.table_rows.specs.Flat.{flat}
use Rattle.bac6_text.specs.Figure.{Figure}
use Rattle.bac6_text.specs.Layout.{bone_rows, face_rows}
use Rattle.refusal.specs.Rules.{or_else, too_many}
use Rattle.bac6_text.specs.Rules.{faces_of, counts_of, figure_counts, normals_fault, flags_of, bones_fault, whole_list, parents_in, vertices_fault, material_fine, face_fine, figure_fault}
use Rattle.refusal.specs.FirstBad.{first_bad}
use Rattle.refusal.proofs.Rules.{or-fault, or_assoc, or-first, or_second}
use Rattle.bac6_bone_rules.specs.Internal.Bones.{flags_in, Settled}
use Rattle.bac6_rules.specs.Internal.Order.{counts_fault, later_fault, tables_fault}
use Rattle.parse_rows.proofs.Widths.{Wide}
use Rattle.bac6_text.proofs.Whole.{WholeBones, WholeFaces}
use Rattle.bac6_rules.proofs.Laid.{rows-laid, flags_laid, faces-laid, bones-laid}
use Rattle.table_counts.specs.Counts.{figure_mosts}
use Rattle.table_counts.specs.Counts.{figure_lists}

-- ---- a figure's tables

module _ (f : Figure) where
  figure-counts : figure_lists (figure_counts f) ≡ counts_of f
  unfolding figure_lists figure_counts counts_of
  figure-counts = refl

  abbrev rest-fault : Fault
  rest-fault =
      or_else (bones_fault (flags_of f.bones))
      (or_else (vertices_fault (length f.points) [] 0 f.bones)
      (or_else (first_bad 12 (material_fine (length f.textures) (length f.colours)) 0 f.materials)
      (first_bad 13 (face_fine (length f.materials) (length f.points) (length f.uvs)) 0 (faces_of f))))

  figure_parts : figure_fault f ≡ or_else (counts_fault (figure_counts f)) rest-fault
  unfolding figure_fault counts_fault figure_counts figure_lists counts_of
  figure_parts = sym (or_assoc (too_many 0 (counts_of f) figure_mosts) (normals_fault (length f.points) (length f.normals)) rest-fault)

  -- where a list has too many rows, whatever the tables hold
  pub tables_over : {k p : ℕ} → too_many 0 (counts_of f) figure_mosts ≡ fault k p → (claims : Fault) (ms bs fs : List ℤ) → tables_fault (figure_counts f) claims ms bs fs ≡ figure_fault f
  unfolding tables_fault counts_fault figure_fault
  tables_over e claims ms bs fs = or-fault _ (or-fault _ (rw figure-counts e)) ∙ sym (or-fault _ e)

  -- so the tables need hold the figure only where none has
  pub tables_within : (claims : Fault) (ms bs fs : List ℤ) → (too_many 0 (counts_of f) figure_mosts ≡ clear → tables_fault (figure_counts f) claims ms bs fs ≡ figure_fault f) → tables_fault (figure_counts f) claims ms bs fs ≡ figure_fault f
  tables_within claims ms bs fs h = go (too_many 0 (counts_of f) figure_mosts) refl
    where
      go : (v : Fault) → too_many 0 (counts_of f) figure_mosts ≡ v → tables_fault (figure_counts f) claims ms bs fs ≡ figure_fault f
      go clear e = h e
      go (fault k p) e = tables_over e claims ms bs fs

  module _ (ps rm rb rf : List ℤ) (wm : Wide 9 f.materials) (wb : WholeBones f.bones) (wf : WholeFaces (faces_of f)) (e : length ps ≡ length f.bones) where
    -- the first fault of the tables is the figure's
    pub tables_laid : tables_fault (figure_counts f) (vertices_fault (length f.points) [] 0 f.bones) (flat f.materials ++ rm) (flat (bone_rows f.bones ps) ++ rb) (flat (face_rows f) ++ rf) ≡ figure_fault f
    unfolding tables_fault later_fault figure_counts
    tables_laid =
        rw (flags_laid f.bones ps rb wb e, rows-laid 9 f.materials rm wm, faces-laid (length f.materials) (length f.points) (length f.uvs) f rf wf)
        (sym figure_parts)

    -- and where there is none, the bones have their parents
    pub bones-left : (exit : List ℤ) → figure_fault f ≡ clear → Settled (length f.bones) (flat (bone_rows f.bones ps) ++ rb) exit (whole_list (flags_in (length f.bones) (flat (bone_rows f.bones ps) ++ rb))) → exit ≡ flat (bone_rows f.bones (parents_in (whole_list (flags_of f.bones)))) ++ rb
    bones-left exit h left = bones-laid (length f.bones) f.bones ps rb exit wb e (or-first _ _ (or_second _ _ (sym figure_parts ∙ h))) (rw (flags_laid f.bones ps rb wb e) at left)
