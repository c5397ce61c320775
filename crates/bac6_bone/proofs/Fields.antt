-- The fields of a bone: their keywords, and what each kind's field does to what the code keeps.
use mathlib.Core.Path.{◌≡◌, refl}
use mathlib.Core.List.{List, [], ◌∷◌}
use mathlib.Core.Bool.{Bool, true, false}
use mathlib.Core.Option.{Option, none, some}
use Prim.Native.Nat.{ℕ, zero, suc, ◌<◌}
use native.Mathlib.Omega.{arith}
use lib.IntN.{ℤ, pos}
use lib.ListN.{length, get_or, set, replicate}
use Rattle.text_bytes.specs.Bytes.{bytes, in_word}
use Rattle.text_runs.specs.Runs.{same}
use Rattle.table_rows.specs.Internal.Overlay.{overlay_at, overlay}
use Rattle.parse_spec.specs.Readers.{absent}
use Rattle.parse_spec.specs.Fields.{kind, unread}
use Rattle.parse_spec.specs.Internal.Fields.{needed_of}
use Rattle.parse_words.specs.Internal.Words.{words, onto, keys_of, apart, differs}
use Rattle.parse_chunks.proofs.Turns.{Listed}
use Rattle.bac6_text.specs.Grammar.{BoneField, name_in, flag_in, numbers_in, bone_kinds}
use Rattle.bac6_text.specs.Layout.{name_numbers}
use Rattle.bac6_owners.specs.Internal.Claims.{claimed}
use Rattle.bac6_bone.specs.Internal.Into.{three, bone_numbers, bone_state, put_row, put_claims, put_field}

-- the keywords as one text, no two of them the same, and which chunks must stand
abbrev pub list : List ℕ
list = bytes "name hasChild hasBrother translate rotate handle vertexIndices"

abbrev pub must : List Bool
must = false ∷ true ∷ true ∷ true ∷ true ∷ true ∷ false ∷ []

pub bone-listed : Listed bone_kinds list must
unfolding bone_kinds kind keys_of words onto in_word bytes apart differs same needed_of
bone-listed = record { keys = refl; differ = refl; must = refl }

pub bone_count : length bone_kinds ≡ 7
unfolding bone_kinds
bone_count = refl

pub unread-state : (n : ℕ) (b : ℤ) (s : Bool × List ℤ) → bone_state n b s (unread bone_kinds) ≡ (replicate 14 (pos 0), s)
unfolding bone_state bone_numbers unread bone_kinds three numbers_in flag_in name_in name_numbers absent claimed
unread-state n b s = refl

-- ---- a field more

module _ (n : ℕ) (b : ℤ) (s : Bool × List ℤ) (f : BoneField) where
  pub state_put : (k : ℕ) (fs : List (Option BoneField)) → length fs ≡ 7 → k < 7 → get_or fs k none ≡ none → bone_state n b s (set fs k (some f)) ≡ put_field n b k (bone_state n b s fs) f
  unfolding bone_state bone_numbers put_row put_claims overlay_at overlay three name_numbers
  state_put k [] l h e = absurd (omega arith)
  state_put k (f0 ∷ []) l h e = absurd (omega arith)
  state_put k (f0 ∷ f1 ∷ []) l h e = absurd (omega arith)
  state_put k (f0 ∷ f1 ∷ f2 ∷ []) l h e = absurd (omega arith)
  state_put k (f0 ∷ f1 ∷ f2 ∷ f3 ∷ []) l h e = absurd (omega arith)
  state_put k (f0 ∷ f1 ∷ f2 ∷ f3 ∷ f4 ∷ []) l h e = absurd (omega arith)
  state_put k (f0 ∷ f1 ∷ f2 ∷ f3 ∷ f4 ∷ f5 ∷ []) l h e = absurd (omega arith)
  state_put zero (f0 ∷ f1 ∷ f2 ∷ f3 ∷ f4 ∷ f5 ∷ f6 ∷ []) l h e = refl
  state_put (suc zero) (f0 ∷ f1 ∷ f2 ∷ f3 ∷ f4 ∷ f5 ∷ f6 ∷ []) l h e = refl
  state_put (suc (suc zero)) (f0 ∷ f1 ∷ f2 ∷ f3 ∷ f4 ∷ f5 ∷ f6 ∷ []) l h e = refl
  state_put (suc (suc (suc zero))) (f0 ∷ f1 ∷ f2 ∷ f3 ∷ f4 ∷ f5 ∷ f6 ∷ []) l h e = refl
  state_put (suc (suc (suc (suc zero)))) (f0 ∷ f1 ∷ f2 ∷ f3 ∷ f4 ∷ f5 ∷ f6 ∷ []) l h e = refl
  state_put (suc (suc (suc (suc (suc zero))))) (f0 ∷ f1 ∷ f2 ∷ f3 ∷ f4 ∷ f5 ∷ f6 ∷ []) l h e = refl
  state_put (suc (suc (suc (suc (suc (suc zero)))))) (f0 ∷ f1 ∷ f2 ∷ f3 ∷ f4 ∷ f5 ∷ f6 ∷ []) l h e = let none_yet : f6 ≡ none = e in rw none_yet (unfold numbers_in claimed in refl)
  state_put (suc (suc (suc (suc (suc (suc (suc k))))))) (f0 ∷ f1 ∷ f2 ∷ f3 ∷ f4 ∷ f5 ∷ f6 ∷ []) l h e = absurd (omega arith)
  state_put k (f0 ∷ f1 ∷ f2 ∷ f3 ∷ f4 ∷ f5 ∷ f6 ∷ f7 ∷ fs) l h e = absurd (omega arith)
