-- What the code holds of a bone's channels while it reads them: their keys in text order, and where each channel's stand.
use Rattle.std.specs.Prelude.{◌≡◌, List, map, Bool, true, false, ℕ, ◌+◌, ◌*◌, ◌≤◌, ◌<◌, ℤ, pos, length, get_or, set, take, drop, Result, Ok, unwrap_or, is_none}
use Rattle.std.specs.Prelude.{Option as Count}
use Rattle.std.proofs.Math.Option.{Option, none, some}
use Rattle.refusal.specs.declared.checked.Refusal.{Refusal}
use Rattle.parse_cursor.specs.Internal.Cursors.{from}
use Rattle.parse_spec.specs.Internal.Fields.{inside_at}
use Rattle.parse_chunks.specs.Internal.Heads.{ReachedBy}
use Rattle.table_rows.specs.Flat.{flat}
use Rattle.tra4_text.specs.Movement.{Channel}
use Rattle.tra4_text.specs.Grammar.{channel_kinds, keys_in}
use Rattle.tra4_text.specs.Rules.{all_keys}

-- how many keys the channels have that have been read
unfoldable pub keys_read : List (Option Channel) → ℕ
keys_read fs = length (all_keys (map keys_in fs))

-- a channel's keys stand among the first n rows of a table, from a first row on, as a pair of numbers says
pub record Stored (keys : List ℤ) (n : ℕ) (first count : ℤ) (c : Channel) : Type 0 where
  pub row : ℕ
  pub first_is : first ≡ pos row
  pub count_is : count ≡ pos (length c)
  pub below : row + length c ≤ n
  pub content : take (length c * 2) (drop (row * 2) keys) ≡ flat c

-- the channels that have been read: how many keys they have, and each channel's, none of one that has not been read, standing in the table; or there are too many.
-- The pair of one that has not been read is 0 and 0.
pub record Held (fs : List (Option Channel)) (ranges keys : List ℤ) (n : ℕ) (over : Bool) : Type 0 where
  pub ten : length fs ≡ 10
  pub width : length ranges ≡ 20
  pub room : length keys ≡ 8192
  pub most : n ≤ 4096
  pub counted : over ≡ false → keys_read fs ≡ n
  pub many : over ≡ true → 4096 < keys_read fs
  pub stored : over ≡ false → (k : ℕ) → k < 10 → Stored keys n (get_or ranges (k * 2) (pos 0)) (get_or ranges (k * 2 + 1) (pos 0)) (keys_in (get_or fs k none))
  pub zeros : (k : ℕ) → k < 10 → get_or fs k none ≡ none → (get_or ranges (k * 2) (pos 0) ≡ pos 0) × (get_or ranges (k * 2 + 1) (pos 0) ≡ pos 0)

-- the same where the code gives the count, or none where there are too many
abbrev pub HeldBy : List (Option Channel) → List ℤ → List ℤ → Count ℕ → Type 0
HeldBy fs ranges keys o = Held fs ranges keys (unwrap_or o 0) (is_none o)

-- the keys of channel k, which has not been read, whatever other channels the code's state stands for
abbrev pub KeysRead : List ℕ → ℕ → ℕ → List ℤ × List ℤ × Count ℕ → Result (Count ℕ × ℕ) Refusal → List ℤ × List ℤ → Type 0
KeysRead text at k s r t =
    (fs : List (Option Channel)) → get_or fs k none ≡ none → HeldBy fs s.0 s.1 s.2 → ReachedBy text r (from text (Ok at) (inside_at channel_kinds k)) (λ o a. HeldBy (set fs k (some a)) t.0 t.1 o)
