-- Bones one after another leave their rows and keys at the tables' start, or there are too many keys.
use mathlib.Core.Path.{◌≡◌, refl, ap, sym, ◌∙◌}
use mathlib.Core.List.{List, [], ◌∷◌}
use mathlib.Core.Bool.{Bool, true, false}
use mathlib.Core.Option.{none, some}
use Prim.Native.Nat.{ℕ, suc, ◌+◌, ◌*◌, ◌≤◌, ◌<◌}
use native.Mathlib.Omega.{arith}
use borrow.Author.Tests.{le-leb, lt-leb, leb-true, leb-false}
use lib.Dec.{leb}
use lib.IntN.{ℤ}
use lib.ListN.{length, length-append}
use Rattle.table_rows.specs.Flat.{flat}
use Rattle.table_rows.specs.Internal.Overlay.{overlay_at}
use Rattle.parse_rows.specs.Internal.Folds.{fold}
use Rattle.parse_spec.proofs.Given.{Every}
use Rattle.table_rows.proofs.Tables.{overlay_at_none, overlay_at-append}
use Rattle.tra4_text.specs.Movement.{Bone}
use Rattle.tra4_text.specs.Rules.{all_keys, channels_of}
use Rattle.tra4_text.specs.Layout.{bone_row, bone_rows}
use Rattle.tra4_bones.specs.Internal.Into.{bone_step}
use Rattle.tra4_bone.specs.Internal.Into.{Kept, key_count, bone_kept}
use Rattle.parse_rows.proofs.Widths.{Wide, flat_append, flat-length}
use Rattle.tra4_text.proofs.Whole.{WholeBone}
use Rattle.tra4_text.proofs.Layouts.{keys-append, keys_wide, row-length}

-- those of a bone and those of the bones after it
pub keys_count : (b : Bone) (bs : List Bone) → length (all_keys (channels_of (b ∷ bs))) ≡ key_count b + length (all_keys (channels_of bs))
unfolding channels_of key_count
keys_count b bs = ap length (keys-append b.channels (channels_of bs)) ∙ length-append (all_keys b.channels) (all_keys (channels_of bs))

-- ---- one bone

kept-within : (i n : ℕ) (rows keys : List ℤ) (b : Bone) → n + key_count b ≤ 4096 → bone_kept i (some (rows, n, keys)) b ≡ some (overlay_at i (bone_row n b) rows, n + key_count b, overlay_at (n * 2) (flat (all_keys b.channels)) keys)
unfolding bone_kept
kept-within i n rows keys b h = rw (le-leb (n + key_count b) 4096 h, bone_kept)

kept-over : (i n : ℕ) (rows keys : List ℤ) (b : Bone) → 4096 < n + key_count b → bone_kept i (some (rows, n, keys)) b ≡ none
unfolding bone_kept
kept-over i n rows keys b h = rw (lt-leb (n + key_count b) 4096 h, bone_kept)

-- ---- all of them

abbrev laid_bones : ℕ → ℕ → List ℤ → List ℤ → List Bone → ℕ × Kept
laid_bones i n rows keys bs =
    (i + length bs, some (overlay_at (i * 22) (flat (bone_rows n bs)) rows, n + length (all_keys (channels_of bs)), overlay_at (n * 2) (flat (all_keys (channels_of bs))) keys))

no_bones : (i n : ℕ) (rows keys : List ℤ) → ◌≡◌ {A = ℕ × Kept} (i, some (rows, n, keys)) (laid_bones i n rows keys [])
unfolding bone_rows channels_of all_keys flat
no_bones i n rows keys = let a : i + 0 ≡ i = omega arith in let b : n + 0 ≡ n = omega arith in rw (a, b, overlay_at_none (i * 22) rows, overlay_at_none (n * 2) keys)

module _ (i n : ℕ) (rows keys : List ℤ) (b : Bone) (bs : List Bone) (w : WholeBone b) (k : Every (Wide 2) b.channels) where
  rows_more : overlay_at ((i + 1) * 22) (flat (bone_rows (n + key_count b) bs)) (overlay_at (i * 22) (bone_row n b) rows) ≡ overlay_at (i * 22) (flat (bone_rows n (b ∷ bs))) rows
  unfolding bone_rows flat key_count
  rows_more = let e : i * 22 + length (bone_row n b) ≡ (i + 1) * 22 = omega (arith, row-length n b w) in sym (overlay_at-append (i * 22) (bone_row n b) (flat (bone_rows (n + length (all_keys b.channels)) bs)) rows ∙ ap (λ (j : ℕ). overlay_at j (flat (bone_rows (n + length (all_keys b.channels)) bs)) (overlay_at (i * 22) (bone_row n b) rows)) e)

  keys_more : overlay_at ((n + key_count b) * 2) (flat (all_keys (channels_of bs))) (overlay_at (n * 2) (flat (all_keys b.channels)) keys) ≡ overlay_at (n * 2) (flat (all_keys (channels_of (b ∷ bs)))) keys
  unfolding channels_of key_count
  keys_more =
      let own = flat (all_keys b.channels) in
      let e : n * 2 + length own ≡ (n + length (all_keys b.channels)) * 2 = omega (arith, flat-length 2 (all_keys b.channels) (keys_wide b.channels k)) in
      sym (ap (λ (l : List ℤ). overlay_at (n * 2) l keys) (ap flat (keys-append b.channels (channels_of bs)) ∙ flat_append (all_keys b.channels) (all_keys (channels_of bs)))
      ∙ overlay_at-append (n * 2) own (flat (all_keys (channels_of bs))) keys
      ∙ ap (λ (j : ℕ). overlay_at j (flat (all_keys (channels_of bs))) (overlay_at (n * 2) own keys)) e)

  one_more : laid_bones (i + 1) (n + key_count b) (overlay_at (i * 22) (bone_row n b) rows) (overlay_at (n * 2) (flat (all_keys b.channels)) keys) bs ≡ laid_bones i n rows keys (b ∷ bs)
  one_more =
      let c : i + 1 + length bs ≡ i + length (b ∷ bs) = omega arith in
      let d : n + key_count b + length (all_keys (channels_of bs)) ≡ n + length (all_keys (channels_of (b ∷ bs))) = omega (arith, keys_count b bs) in
      rw (c, d, rows_more, keys_more)

pub fold-bones : (i n : ℕ) (rows keys : List ℤ) (bs : List Bone) → Every WholeBone bs → n + length (all_keys (channels_of bs)) ≤ 4096 → fold bone_step (i, some (rows, n, keys)) bs ≡ laid_bones i n rows keys bs
unfolding fold bone_step
fold-bones i n rows keys [] h m = no_bones i n rows keys
fold-bones i n rows keys (b ∷ bs) h m =
    let c = keys_count b bs in
    rw (kept-within (i * 22) n rows keys b (omega arith))
    (fold-bones (i + 1) (n + key_count b) (overlay_at (i * 22) (bone_row n b) rows) (overlay_at (n * 2) (flat (all_keys b.channels)) keys) bs h.1 (omega arith))
    ∙ one_more i n rows keys b bs h.0 h.0.keys

fold_none : (i : ℕ) (bs : List Bone) → fold bone_step (i, none) bs ≡ (i + length bs, none)
unfolding fold bone_step bone_kept
fold_none i [] = let a : i + 0 ≡ i = omega arith in rw a
fold_none i (b ∷ bs) = let a : i + 1 + length bs ≡ i + suc (length bs) = omega arith in fold_none (i + 1) bs ∙ rw a

pub fold_over : (i n : ℕ) (rows keys : List ℤ) (bs : List Bone) → n ≤ 4096 → 4096 < n + length (all_keys (channels_of bs)) → fold bone_step (i, some (rows, n, keys)) bs ≡ (i + length bs, none)
unfolding fold bone_step
fold_over i n rows keys [] h m = let z : length (all_keys (channels_of [])) ≡ 0 = unfold channels_of all_keys in refl in absurd (omega arith)
fold_over i n rows keys (b ∷ bs) h m = go (leb (n + key_count b) 4096) refl (λ q. fold_over (i + 1) (n + key_count b) (overlay_at (i * 22) (bone_row n b) rows) (overlay_at (n * 2) (flat (all_keys b.channels)) keys) bs q (omega (arith, keys_count b bs)))
  where
    counted : i + 1 + length bs ≡ i + suc (length bs)
    counted = omega arith

    go : (v : Bool) → leb (n + key_count b) 4096 ≡ v → (n + key_count b ≤ 4096 → fold bone_step (i + 1, some (overlay_at (i * 22) (bone_row n b) rows, n + key_count b, overlay_at (n * 2) (flat (all_keys b.channels)) keys)) bs ≡ (i + 1 + length bs, none)) → fold bone_step (i + 1, bone_kept (i * 22) (some (rows, n, keys)) b) bs ≡ (i + suc (length bs), none)
    go true o ih = rw (kept-within (i * 22) n rows keys b (leb-true _ _ o), ← counted) (ih (leb-true _ _ o))
    go false o ih = rw (kept-over (i * 22) n rows keys b (leb-false _ _ o), ← counted) (fold_none (i + 1) bs)
