-- What the code keeps of bones: their rows, how many keys they have, and those by bone and channel number.
use Rattle.std.specs.Prelude.{List, ◌∷◌, true, false, ℕ, ◌+◌, ◌*◌, leb, ℤ, pos, length}
use Rattle.std.specs.Prelude.{Option as Count, Some, None}
use Rattle.std.proofs.Math.Option.{Option, none, some}
use Rattle.parse_spec.specs.Readers.{Reader, ◌>>=◌, pure}
use Rattle.table_rows.specs.Internal.Overlay.{overlay_at}
use Rattle.table_rows.specs.Flat.{flat}
use Rattle.tra4_text.specs.Movement.{Channel, Bone}
use Rattle.tra4_text.specs.Grammar.{bone}
use Rattle.tra4_text.specs.Rules.{all_keys}
use Rattle.tra4_text.specs.Layout.{key_ranges, bone_row}

-- the rows of bones in their table, how many keys they have, and those in theirs; none where there are more keys than 4,096, and then the tables are free
abbrev pub Kept : Type 0
Kept = Option (List ℤ × ℕ × List ℤ)

-- the same as the code holds it
unfoldable pub kept : Count ℕ → List ℤ → List ℤ → Kept
kept None rows keys = none
kept (Some n) rows keys = some (rows, n, keys)

unfoldable pub key_count : Bone → ℕ
key_count b = length (all_keys b.channels)

-- a bone more, its row from index i on
unfoldable pub bone_kept : ℕ → Kept → Bone → Kept
bone_kept i none b = none
bone_kept i (some s) b =
    elim (leb (s.1 + key_count b) 4096) [
      | true ↦ some (overlay_at i (bone_row s.1 b) s.0, s.1 + key_count b, overlay_at (s.1 * 2) (flat (all_keys b.channels)) s.2)
      | false ↦ none
    ]

-- the same of a bone by its name's place and length and its channels
unfoldable pub kept_by : ℕ → Kept → ℕ × ℕ → List Channel → Kept
kept_by i none name cs = none
kept_by i (some s) name cs =
    elim (leb (s.1 + length (all_keys cs)) 4096) [
      | true ↦ some (overlay_at i (pos name.0 ∷ pos name.1 ∷ key_ranges s.1 cs) s.0, s.1 + length (all_keys cs), overlay_at (s.1 * 2) (flat (all_keys cs)) s.2)
      | false ↦ none
    ]

-- a table whose numbers are free: nothing is said of them
abbrev pub Free : List ℤ → Type 0
Free numbers = Unit {0}

-- one bone after its keyword
unfoldable pub bone_into : ℕ → Kept → Reader Kept
bone_into i s = bone >>= λ b. pure (bone_kept i s b)
