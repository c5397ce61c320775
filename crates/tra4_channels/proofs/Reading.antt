-- The keys of a channel: what they make of what the code holds.
use mathlib.Core.Path.{◌≡◌, ap, sym, ◌∙◌}
use mathlib.Core.List.{List, [], ◌∷◌}
use mathlib.Core.Bool.{true, false}
use Prim.Native.Nat.{ℕ, suc, ◌+◌, ◌*◌, ◌-◌, ◌≤◌, ◌<◌}
use native.Mathlib.Numerals.{add-one}
use lib.IntN.{ℤ, pos}
use lib.ListN.{length, set}
use Rattle.text_bytes.specs.Bytes.{bytes}
use Rattle.text_numerals.specs.Numbers.{FLOAT}
use Rattle.text_tokens.specs.Tokens.{lex_at}
use Rattle.std.proofs.Common.{Option as Count, Some, None, Ok, Err, unwrap_or, is_none}
use Rattle.refusal.specs.declared.checked.Refusal.{Refusal}
use Rattle.parse_spec.specs.Readers.{refused, ◌>>=◌, many⁺}
use Rattle.parse_cursor.specs.Internal.Cursors.{reads, from}
use Rattle.table_rows.specs.Internal.Overlay.{overlay_at}
use Rattle.parse_spec.specs.Internal.Fields.{inside_at}
use Rattle.parse_lists.specs.Internal.ListsInto.{some_into}
use Rattle.table_rows.specs.Flat.{flat}
use Rattle.parse_cursor.proofs.Steps.{from-bind}
use Rattle.parse_cursor.proofs.Behind.{Behind, behind, behind_off, given}
use Rattle.table_rows.proofs.Tables.{overlay_at-cons, overlay_at_none}
use Rattle.tra4_text.specs.Movement.{Channel}
use Rattle.tra4_text.specs.Grammar.{key, channel_kinds}
use Rattle.tra4_text.proofs.LeftOut.{inside_is}
use Rattle.tra4_channels.specs.Internal.Held.{KeysRead}
use Rattle.tra4_channels.proofs.Counts.{Pairs, keys_give}
use Rattle.tra4_channels.proofs.Holding.{held-over, held-many, held_more, uncounted}

overlay_at-pair : (i : ℕ) (x y : ℤ) (t : List ℤ) → overlay_at i (x ∷ y ∷ []) t ≡ set (set t i x) (i + 1) y
overlay_at-pair i x y t = overlay_at-cons i x (y ∷ []) t ∙ overlay_at-cons (suc i) y [] (set t i x) ∙ overlay_at_none (suc (suc i)) _ ∙ rw (add-one i)

abbrev written : ℕ → List ℤ → Channel → ℕ × List ℤ
written n keys x = (length x, overlay_at (n * 2) (flat x) keys)

module _ (text : List ℕ) (at k : ℕ) (ranges keys : List ℤ) (o : Count ℕ) (b : k < 10) where
  abbrev n : ℕ
  n = unwrap_or o 0

  -- no keys
  pub keys-refused : (e : Refusal) → from text (Ok at) (some_into (bytes "kf") 1 FLOAT 1 (n * 2) keys) ≡ refused e.number e.place → (t : List ℤ × List ℤ) → KeysRead text at k (ranges, keys, o) (Err e) t
  unfolding some_into ◌>>=◌ key
  keys-refused e h t fs u g = rw (inside_is k b) (behind_off (written n keys) (from text (Ok at) (many⁺ key)) (sym (from-bind text _ (Ok at) (many⁺ key)) ∙ h))

  module _ (r m : ℕ) (keys' : List ℤ) (p : reads text (Ok r) (m, keys') ≡ from text (Ok at) (some_into (bytes "kf") 1 FLOAT 1 (n * 2) keys)) where
    found : Behind {A = Channel} {B = ℕ × List ℤ} text r (from text (Ok at) (many⁺ key)) (written n keys) (m, keys')
    unfolding some_into ◌>>=◌ key
    found = behind {A = Channel} {B = ℕ × List ℤ} (written n keys) text r (m, keys') (from text (Ok at) (many⁺ key)) (p ∙ from-bind text _ (Ok at) (many⁺ key))

    read-inside : reads text (Ok r) found.value ≡ from text (Ok at) (inside_at channel_kinds k)
    read-inside = rw (inside_is k b) found.read

    count_is : length found.value ≡ m
    count_is = ap (λ (v : ℕ × List ℤ). v.0) found.kept

    table_is : overlay_at (n * 2) (flat found.value) keys ≡ keys'
    table_is = ap (λ (v : ℕ × List ℤ). v.1) found.kept

    wide : Pairs found.value
    unfolding from
    wide = given keys_give text r (lex_at text at) found.value found.read

    pub keys-over : is_none o ≡ true → KeysRead text at k (ranges, keys, o) (Ok (None, r)) (ranges, keys')
    keys-over e fs u h = record { value = found.value; read = read-inside; kept = uncounted (rw e at (held-over fs ranges keys n (is_none o) k b u h found.value keys' m table_is count_is e)) }

    pub keys-many : is_none o ≡ false → 4096 - n < m → KeysRead text at k (ranges, keys, o) (Ok (None, r)) (ranges, keys')
    keys-many e f fs u h = record { value = found.value; read = read-inside; kept = uncounted (held-many fs ranges keys n (is_none o) k b u h found.value keys' m table_is count_is e f) }

    pub keys_more : (ranges' : List ℤ) → is_none o ≡ false → m ≤ 4096 - n → ranges' ≡ overlay_at (k * 2) (pos n ∷ pos m ∷ []) ranges → KeysRead text at k (ranges, keys, o) (Ok (Some (n + m), r)) (ranges', keys')
    keys_more ranges' e f g fs u h = record { value = found.value; read = read-inside; kept = rw (g, overlay_at-pair (k * 2) (pos n) (pos m) ranges) (rw e at (held_more fs ranges keys n (is_none o) k b u h found.value keys' m table_is count_is wide e f)) }
