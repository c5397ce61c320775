-- Bones one after another: each is a step of the count and of what is kept.
use mathlib.Core.Path.{◌≡◌, refl, ap, sym, ◌∙◌}
use mathlib.Core.List.{List, [], ◌∷◌, map}
use mathlib.Core.Bool.{Bool, true, false}
use Prim.Native.Nat.{ℕ, ◌+◌, ◌*◌, min}
use Prim.Native.String.{String}
use mathlib.Core.Option.{some}
use lib.Dec.{leb}
use lib.IntN.{ℤ}
use lib.ListN.{length}
use Rattle.text_bytes.specs.Bytes.{bytes}
use Rattle.text_numerals.specs.Numbers.{FLOAT}
use Rattle.text_tokens.specs.Tokens.{Lexeme}
use Rattle.std.proofs.Common.{Option as Count, Some, None}
use Rattle.parse_spec.specs.Readers.{Got, got, refused, Reader, after, ◌>>=◌, ◌>>◌, pure, opened, opened_of, absent}
use Rattle.parse_cursor.specs.Internal.Cursors.{Cursor, from, reads}
use Rattle.parse_rows.specs.Internal.Folds.{fold, stepped}
use Rattle.parse_spec.specs.Fields.{kind}
use Rattle.parse_cursor.proofs.Steps.{join, seq, from-same, onto_then, halt}
use Rattle.parse_spec.proofs.Binds.{after-after, after_same}
use Rattle.table_rows.proofs.Tables.{overlay_at-same}
use Rattle.parse_spec.proofs.Many.{Keeps, takes_keeps, pure_keeps, bind_keeps, closed_keeps, string_takes, optional_keeps, many⁺_takes, row_of_takes}
use Rattle.parse_spec.proofs.FieldKeeps.{AllKeep, fields_keeps}
use Rattle.tra4_text.specs.Movement.{Bone}
use Rattle.tra4_text.specs.Grammar.{key, channel, channel_names, channel_kinds, keys_in, bone, repeated, repeated⁺}
use Rattle.tra4_text.specs.Layout.{bone_row}
use Rattle.tra4_bones.specs.Internal.Into.{bone_step, more_into, bones_into}
use Rattle.tra4_bone.specs.Internal.Into.{Kept, kept, key_count, bone_kept, bone_into}

-- ---- a bone takes no token back

all_keep : (ns : List String) → AllKeep (map channel ns)
unfolding channel kind key
all_keep [] = tt
all_keep (n ∷ ns) = (takes_keeps (many⁺_takes (row_of_takes (bytes "kf") 1 FLOAT 1)), all_keep ns)

pub bone_keeps : Keeps bone
unfolding bone channel_kinds
bone_keeps = bind_keeps (optional_keeps "name" absent (closed_keeps (takes_keeps string_takes))) (λ n. bind_keeps (fields_keeps channel_kinds (all_keep channel_names)) (λ cs. pure_keeps (record { name = n; channels = map keys_in cs })))

-- ---- steps

-- an index that is as good as another
pub kept_same : (i j : ℕ) (o : Count ℕ) (rows keys : List ℤ) (b : Bone) → min i (length rows) ≡ min j (length rows) → bone_kept i (kept o rows keys) b ≡ bone_kept j (kept o rows keys) b
unfolding kept bone_kept
kept_same i j None rows keys b h = refl
kept_same i j (Some n) rows keys b h = go (leb (n + key_count b) 4096) refl
  where
    go : (v : Bool) → leb (n + key_count b) 4096 ≡ v → bone_kept i (some (rows, n, keys)) b ≡ bone_kept j (some (rows, n, keys)) b
    go true e = rw (e, bone_kept) (rw (overlay_at-same i j (bone_row n b) rows h))
    go false e = rw (e, bone_kept)

module _ (text : List ℕ) (c : Cursor) (row to : ℕ) (o : Count ℕ) (rows keys : List ℤ) (m : min to (length rows) ≡ min (row * 22) (length rows)) where
  numbered : Kept → Reader (ℕ × Kept)
  numbered y = pure (row + 1, y)

  numbered-same : (ms : List Lexeme) → (bone_into to (kept o rows keys) >>= numbered) ms ≡ stepped bone_step bone (row, kept o rows keys) ms
  unfolding numbered bone_into stepped bone_step ◌>>=◌ pure after
  numbered-same ms = after-after (bone ms) _ _ ∙ after_same (bone ms) _ _ (λ b l. ap (λ (y : Kept). got (row + 1, y) l) (kept_same to (row * 22) o rows keys b m))

  pub next_step : (r : Cursor) (x : Kept) → reads text r x ≡ from text c (bone_into to (kept o rows keys)) → reads text r (row + 1, x) ≡ from text c (stepped bone_step bone (row, kept o rows keys))
  unfolding numbered
  next_step r x p = join text c r x (bone_into to (kept o rows keys)) numbered p refl ∙ from-same text c _ _ numbered-same

  pub next_off : {n q : ℕ} → from text c (bone_into to (kept o rows keys)) ≡ refused n q → from text c (stepped bone_step bone (row, kept o rows keys)) ≡ refused n q
  next_off h = sym (from-same text c _ _ numbered-same) ∙ halt text c (bone_into to (kept o rows keys)) h numbered

-- the first bone, and those after it
module _ (rows keys : List ℤ) where
  abbrev none_yet : ℕ × Kept
  none_yet = (0, kept (Some 0) rows keys)

  first_then : (ms : List Lexeme) → (opened_of (bytes "bone") >> stepped bone_step bone none_yet >>= λ x. more_into x) ms ≡ bones_into rows keys ms
  unfolding bones_into repeated⁺ opened stepped more_into kept fold ◌>>=◌ ◌>>◌ pure after
  first_then ms =
      after-after (opened_of (bytes "bone") ms) _ _
      ∙ after_same (opened_of (bytes "bone") ms) _ _ (λ _ l. after-after (bone l) _ _ ∙ after_same (bone l) _ _ (λ b k. sym (after-after (repeated "bone" bone k) _ _)) ∙ sym (after-after (bone l) _ _))
      ∙ sym (ap (λ (g : Got (List Bone)). after g (λ bs. pure (fold bone_step none_yet bs))) (after-after (opened_of (bytes "bone") ms) _ _) ∙ after-after (opened_of (bytes "bone") ms) _ _)

  module _ (text : List ℕ) (c d : Cursor) (p : reads text d tt ≡ from text c (opened_of (bytes "bone"))) where
    pub bones-from : (e : Cursor) (s : ℕ × Kept) {g : Got (ℕ × Kept)} → reads text e s ≡ from text d (stepped bone_step bone none_yet) → g ≡ from text e (more_into s) → g ≡ from text c (bones_into rows keys)
    bones-from e s q u =
        join text c e s (opened_of (bytes "bone") >> stepped bone_step bone none_yet) (λ x. more_into x)
        (seq text c d tt (opened_of (bytes "bone")) (stepped bone_step bone none_yet) p q) u
        ∙ from-same text c _ _ first_then

    -- no first bone
    pub bones-off : {n q : ℕ} → from text d (stepped bone_step bone none_yet) ≡ refused n q → from text c (bones_into rows keys) ≡ refused n q
    bones-off h =
        sym (from-same text c _ _ first_then)
        ∙ halt text c (opened_of (bytes "bone") >> stepped bone_step bone none_yet) (onto_then text c d tt (opened_of (bytes "bone")) (stepped bone_step bone none_yet) p ∙ h) (λ x. more_into x)
