-- Where the name of a bone stands in a movement's table: columns 0 and 1 of the bone's row hold its place and its length, by induction on the bones.
use mathlib.Core.Path.{◌≡◌, refl, ◌∙◌}
use mathlib.Core.List.{List, [], ◌∷◌, ◌++◌, map}
use Prim.Native.Nat.{ℕ, zero, suc, ◌+◌, ◌*◌, ◌<◌}
use native.Mathlib.Omega.{arith}
use lib.IntN.{ℤ, pos}
use lib.ListN.{length, get_or}
use Rattle.parse_spec.specs.Readers.{Name, absent}
use Rattle.tra4_text.specs.Movement.{Bone, Movement}
use Rattle.tra4_text.specs.Rules.{all_keys}
use Rattle.tra4_text.specs.Layout.{name_numbers, bone_row, bone_rows, layout_of}
use Rattle.tra4_text.proofs.Whole.{WholeMovement}
use Rattle.table_columns.specs.Parts.{number_at}
use Rattle.movement_bridge.proofs.Tables.{bone-number}

-- the name of a bone's row
abbrev pub bone_name : List Bone → ℕ → Name
bone_name bs i = get_or (map (λ (b : Bone). b.name) bs) i absent

names-placed : (row : ℕ) (bs : List Bone) (i : ℕ) → i < length bs → (get_or (get_or (bone_rows row bs) i []) 0 (pos 0) ≡ pos (bone_name bs i).at) × (get_or (get_or (bone_rows row bs) i []) 1 (pos 0) ≡ pos (length (bone_name bs i).bytes))
unfolding bone_rows bone_row name_numbers
names-placed row [] i h = absurd (omega arith)
names-placed row (b ∷ bs) zero h = (refl, refl)
names-placed row (b ∷ bs) (suc i) h = names-placed (row + length (all_keys b.channels)) bs i (omega arith)

module _ (m : Movement) (w : WholeMovement m) (t rest : List ℤ) (e : t ≡ layout_of m ++ rest) (bone : ℕ) (h : bone < length m.bones) where
  pub name-place : number_at t (3 + bone * 22) ≡ pos (bone_name m.bones bone).at
  name-place = bone-number m w t rest e bone 0 (3 + bone * 22) h (omega arith) (omega arith) ∙ (names-placed 0 m.bones bone h).0

  pub name-size : number_at t (3 + bone * 22 + 1) ≡ pos (length (bone_name m.bones bone).bytes)
  name-size = bone-number m w t rest e bone 1 (3 + bone * 22 + 1) h (omega arith) (omega arith) ∙ (names-placed 0 m.bones bone h).1
