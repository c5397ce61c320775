-- Where the name of a bone stands in a figure's table: columns 12 and 13 of the bone's row hold its place and its length, by induction on the bones.
use mathlib.Core.Path.{◌≡◌, refl, ap, ◌∙◌}
use mathlib.Core.List.{List, [], ◌∷◌, ◌++◌, map}
use Prim.Native.Nat.{ℕ, zero, suc, ◌+◌, ◌*◌, ◌<◌}
use native.Mathlib.Omega.{arith}
use lib.IntN.{ℤ, pos}
use lib.ListN.{length, get_or}
use lib.Seq.{get_or-append-add}
use Rattle.refusal.specs.Faults.{clear}
use Rattle.parse_spec.specs.Readers.{Name, absent}
use Rattle.bac6_text.specs.Figure.{Bone, Figure}
use Rattle.bac6_text.specs.Rules.{figure_fault, flags_of, whole_list, parents_in}
use Rattle.bac6_text.specs.Layout.{name_numbers, bone_row, bone_rows, layout_of}
use Rattle.bac6_text.proofs.Whole.{WholeBone, WholeBones, WholeFigure}
use Rattle.bac6_text.proofs.Rows.{nine, nine_length, bones_wide, bones_count}
use Rattle.table_figure.specs.Sections.{bones_begin}
use Rattle.table_columns.specs.Parts.{number_at}
use Rattle.movement_bridge.proofs.Laid.{number-laid}
use Rattle.figure_bridge.proofs.Sound.{parents-sound}
use Rattle.figure_bridge.proofs.Parts.{counts, bones_stand}

-- the name of a bone's row
abbrev pub bone_name : List Bone → ℕ → Name
bone_name bs i = get_or (map (λ (b : Bone). b.name) bs) i absent

after_nine : (b : Bone) → WholeBone b → (p : ℤ) (j k : ℕ) → j ≡ 9 + k → get_or (bone_row b p) j (pos 0) ≡ get_or (b.child ∷ b.brother ∷ p ∷ name_numbers b.name) k (pos 0)
unfolding bone_row
after_nine b w p j k e = ap (λ (n : ℕ). get_or (bone_row b p) n (pos 0)) (let l = nine_length b w in let q : j ≡ length (nine b) + k = omega arith in q) ∙ get_or-append-add (nine b) _ k (pos 0)

names-placed : (bs : List Bone) (ps : List ℤ) → WholeBones bs → length ps ≡ length bs → (i : ℕ) → i < length bs → (get_or (get_or (bone_rows bs ps) i []) 12 (pos 0) ≡ pos (bone_name bs i).at) × (get_or (get_or (bone_rows bs ps) i []) 13 (pos 0) ≡ pos (length (bone_name bs i).bytes))
unfolding bone_rows name_numbers
names-placed [] ps w e i h = absurd (omega arith)
names-placed (b ∷ bs) [] w e i h = absurd (omega arith)
names-placed (b ∷ bs) (p ∷ ps) w e zero h = (after_nine b w.0 p 12 3 refl, after_nine b w.0 p 13 4 refl)
names-placed (b ∷ bs) (p ∷ ps) w e (suc i) h = names-placed bs ps w.1 (omega arith) i (omega arith)

module _ (f : Figure) (w : WholeFigure f) (c : figure_fault f ≡ clear) (rest : List ℤ) (bone : ℕ) (h : bone < length f.bones) where
  abbrev parents : List ℤ
  parents = parents_in (whole_list (flags_of f.bones))

  column : (j : ℕ) → j < 14 → number_at (layout_of f ++ rest) (bones_begin (counts f) + bone * 14 + j) ≡ get_or (get_or (bone_rows f.bones parents) bone []) j (pos 0)
  column j l =
      let n = bones_count f.bones parents (parents-sound f c) in
      number-laid 14 (bone_rows f.bones parents) (bones_wide f.bones parents w.bones) (bones_stand f w (parents-sound f c) rest) bone j (omega arith) l

  pub name-place : number_at (layout_of f ++ rest) (bones_begin (counts f) + bone * 14 + 12) ≡ pos (bone_name f.bones bone).at
  name-place = column 12 (omega arith) ∙ (names-placed f.bones parents w.bones (parents-sound f c) bone h).0

  pub name-size : number_at (layout_of f ++ rest) (bones_begin (counts f) + bone * 14 + 13) ≡ pos (length (bone_name f.bones bone).bytes)
  name-size = column 13 (omega arith) ∙ (names-placed f.bones parents w.bones (parents-sound f c) bone h).1
