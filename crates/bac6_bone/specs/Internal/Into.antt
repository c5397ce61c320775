-- A bone read, and what the code keeps of it: its row and the claims of its entries.
use Rattle.std.specs.Prelude.{List, [], ◌∷◌, ◌++◌, Bool, ℕ, zero, suc, ℤ, pos, get_or, set}
use Rattle.std.proofs.Math.Option.{Option, none, some}
use Rattle.parse_spec.specs.Readers.{Reader, ◌>>=◌, ◌>>◌, pure, keyword}
use Rattle.table_rows.specs.Internal.Overlay.{overlay_at}
use Rattle.parse_spec.specs.Fields.{fields}
use Rattle.bac6_text.specs.Figure.{Bone}
use Rattle.bac6_text.specs.Grammar.{BoneField, name_in, flag_in, numbers_in, bone_of, bone_kinds, bone}
use Rattle.bac6_text.specs.Layout.{name_numbers, bone_row}
use Rattle.bac6_owners.specs.Internal.Claims.{claimed}

-- what a reader gives, as the code keeps it
abbrev pub kept : {A S : Type 0} → Reader A → (A → S) → Reader S
kept r f = r >>= λ a. pure (f a)

-- three numbers, each 0 where it has not been read
unfoldable pub three : List ℤ → List ℤ
three zs = get_or zs 0 (pos 0) ∷ get_or zs 1 (pos 0) ∷ get_or zs 2 (pos 0) ∷ []

-- a bone's row from the fields that have been read, its parent 0
unfoldable pub bone_numbers : List (Option BoneField) → List ℤ
bone_numbers fs =
    three (numbers_in (get_or fs 3 none))
    ++ three (numbers_in (get_or fs 4 none))
    ++ three (numbers_in (get_or fs 5 none))
    ++ (flag_in (get_or fs 1 none) ∷ flag_in (get_or fs 2 none) ∷ pos 0 ∷ name_numbers (name_in (get_or fs 0 none)))

-- what the code keeps of fields: the row, and the claims after those before the bone
unfoldable pub bone_state : ℕ → ℤ → Bool × List ℤ → List (Option BoneField) → List ℤ × (Bool × List ℤ)
bone_state n bone s fs = (bone_numbers fs, claimed n bone s (numbers_in (get_or fs 6 none)))

-- what the field of a kind does to the row
unfoldable pub put_row : ℕ → List ℤ → BoneField → List ℤ
put_row zero row f = overlay_at 12 (name_numbers (name_in (some f))) row
put_row (suc zero) row f = set row 9 (flag_in (some f))
put_row (suc (suc zero)) row f = set row 10 (flag_in (some f))
put_row (suc (suc (suc zero))) row f = overlay_at 0 (three (numbers_in (some f))) row
put_row (suc (suc (suc (suc zero)))) row f = overlay_at 3 (three (numbers_in (some f))) row
put_row (suc (suc (suc (suc (suc zero))))) row f = overlay_at 6 (three (numbers_in (some f))) row
put_row (suc (suc (suc (suc (suc (suc k)))))) row f = row

-- and to the claims
unfoldable pub put_claims : ℕ → ℤ → ℕ → Bool × List ℤ → BoneField → Bool × List ℤ
put_claims n bone zero s f = s
put_claims n bone (suc zero) s f = s
put_claims n bone (suc (suc zero)) s f = s
put_claims n bone (suc (suc (suc zero))) s f = s
put_claims n bone (suc (suc (suc (suc zero)))) s f = s
put_claims n bone (suc (suc (suc (suc (suc zero))))) s f = s
put_claims n bone (suc (suc (suc (suc (suc (suc k)))))) s f = claimed n bone s (numbers_in (some f))

-- and so to what the code keeps
abbrev pub put_field : ℕ → ℤ → ℕ → List ℤ × (Bool × List ℤ) → BoneField → List ℤ × (Bool × List ℤ)
put_field n bone k s f = (put_row k s.0 f, put_claims n bone k s.1 f)

-- what stands in a bone after its (
unfoldable pub bone_tail : Reader Bone
bone_tail = keyword "bone" >> fields bone_kinds >>= λ fs. pure (bone_of fs)

-- its row, to a table from an index on, and its claims
unfoldable pub bone_into : ℕ → ℤ → ℕ → List ℤ → Bool × List ℤ → Reader (List ℤ × (Bool × List ℤ))
bone_into n bone i table s = bone_tail >>= λ b. pure (overlay_at i (bone_row b (pos 0)) table, claimed n bone s b.vertices)
