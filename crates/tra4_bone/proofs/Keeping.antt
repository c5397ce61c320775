-- What is kept of a bone: its name's place and its channels decide it; too many keys leave nothing.
use mathlib.Core.Path.{◌≡◌, refl, ap, sym, ◌∙◌}
use mathlib.Core.List.{List, [], ◌∷◌, map}
use mathlib.Core.Bool.{true, false}
use mathlib.Core.Option.{Option, none, some}
use Prim.Native.Nat.{ℕ, ◌+◌, ◌*◌, ◌-◌, ◌≤◌, ◌<◌, min}
use native.Mathlib.Omega.{arith}
use borrow.Author.Tests.{le-leb, lt-leb}
use lib.IntN.{ℤ, pos}
use lib.ListN.{length}
use Rattle.text_tokens.specs.Tokens.{Lexeme, lex_at}
use Rattle.std.proofs.Common.{Option as Count, Some, None, Ok}
use Rattle.parse_spec.specs.Readers.{got, refused, Reader, after, ◌>>=◌, pure, absent, closed, string, optional}
use Rattle.parse_spec.specs.Internal.Places.{place_of, optional_name}
use Rattle.parse_spec.specs.Fields.{fields}
use Rattle.parse_cursor.specs.Internal.Cursors.{Cursor, from, reads}
use Rattle.table_rows.specs.Internal.Overlay.{overlay_at}
use Rattle.table_rows.specs.Flat.{flat}
use Rattle.parse_cursor.proofs.Steps.{join, from-same, onto, halt}
use Rattle.parse_spec.proofs.Binds.{after-after, after_same}
use Rattle.table_rows.proofs.Tables.{overlay_at-append, overlay_at-same}
use Rattle.tra4_text.specs.Movement.{Channel, Bone}
use Rattle.tra4_text.specs.Grammar.{channel_kinds, keys_in, bone}
use Rattle.tra4_text.specs.Rules.{all_keys}
use Rattle.tra4_text.specs.Layout.{name_numbers, key_ranges, bone_row}
use Rattle.tra4_channels.specs.Internal.Held.{Held}
use Rattle.tra4_bone.specs.Internal.Laying.{gathered, renumbered}
use Rattle.tra4_bone.specs.Internal.Into.{Kept, kept, key_count, bone_kept, kept_by, bone_into}
use Rattle.tra4_bone.proofs.Gathered.{held_ranged, held_count, held-over}

-- ---- a bone by its parts

kept_parts : (i : ℕ) (s : Kept) (b : Bone) → bone_kept i s b ≡ kept_by i s (place_of b.name) b.channels
unfolding bone_kept kept_by key_count bone_row name_numbers place_of
kept_parts i none b = refl
kept_parts i (some s) b = refl

module _ (i : ℕ) (s : Kept) where
  channels_then : ℕ × ℕ → Reader Kept
  channels_then name = fields channel_kinds >>= λ gs. pure (kept_by i s name (map keys_in gs))

  bone_parts : (ms : List Lexeme) → bone_into i s ms ≡ (optional_name >>= λ name. channels_then name) ms
  unfolding bone_into bone optional_name channels_then ◌>>=◌ pure after
  bone_parts ms =
      after-after (optional "name" absent (closed string) ms) _ _
      ∙ after_same (optional "name" absent (closed string) ms) _ _ (λ n l. after-after (fields channel_kinds l) _ _ ∙ after_same (fields channel_kinds l) _ _ (λ gs k. ap (λ (x : Kept). got x k) (kept_parts i s (record { name = n; channels = map keys_in gs }))))
      ∙ sym (after-after (optional "name" absent (closed string) ms) _ _)

  module _ (text : List ℕ) (c : Cursor) where
    -- the name is refused
    pub name-refused : {n q : ℕ} → from text c optional_name ≡ refused n q → from text c (bone_into i s) ≡ refused n q
    name-refused h = from-same text c _ _ bone_parts ∙ halt text c optional_name h (λ n. channels_then n)

    module _ (d : ℕ) (name : ℕ × ℕ) (p : reads text (Ok d) name ≡ from text c optional_name) where
      at-offset : from text (Ok d) (fields channel_kinds) ≡ fields channel_kinds (lex_at text d)
      unfolding from
      at-offset = refl

      -- the channels are
      pub channels-refused : {n q : ℕ} → fields channel_kinds (lex_at text d) ≡ refused n q → from text c (bone_into i s) ≡ refused n q
      unfolding channels_then
      channels-refused h =
          from-same text c _ _ bone_parts
          ∙ onto text c (Ok d) name optional_name (λ n. channels_then n) p
          ∙ halt text (Ok d) (fields channel_kinds) (at-offset ∙ h) (λ hs. pure (kept_by i s name (map keys_in hs)))

      -- neither is
      pub bone-read : (e : ℕ) (gs : List (Option Channel)) → reads text (Ok e) gs ≡ fields channel_kinds (lex_at text d) → (x : Kept) → x ≡ kept_by i s name (map keys_in gs) → reads text (Ok e) x ≡ from text c (bone_into i s)
      unfolding channels_then
      bone-read e gs q x h =
          join text c (Ok d) name optional_name (λ n. channels_then n) p
          (join text (Ok d) (Ok e) gs (fields channel_kinds) (λ hs. pure (kept_by i s name (map keys_in hs))) (q ∙ sym at-offset) (ap (λ (y : Kept). from text (Ok e) (pure y)) h))
          ∙ sym (from-same text c _ _ bone_parts)

-- ---- set down, or too many

pub over-kept : (i : ℕ) (o : Count ℕ) (rows keys rows' keys' : List ℤ) (name : ℕ × ℕ) (cs : List Channel) → o ≡ None → kept None rows' keys' ≡ kept_by i (kept o rows keys) name cs
unfolding kept kept_by
over-kept i o rows keys rows' keys' name cs e = rw e

module _ (i : ℕ) (rows keys : List ℤ) (count : ℕ) (name : ℕ × ℕ) (cs : List Channel) where
  pub by_over : 4096 < count + length (all_keys cs) → (rows' keys' : List ℤ) → kept None rows' keys' ≡ kept_by i (kept (Some count) rows keys) name cs
  unfolding kept kept_by
  by_over h rows' keys' = rw (lt-leb (count + length (all_keys cs)) 4096 h, kept_by)

  pub by_fit : count + length (all_keys cs) ≤ 4096 → kept (Some (count + length (all_keys cs))) (overlay_at i (pos name.0 ∷ pos name.1 ∷ key_ranges count cs) rows) (overlay_at (count * 2) (flat (all_keys cs)) keys) ≡ kept_by i (kept (Some count) rows keys) name cs
  unfolding kept kept_by
  by_fit h = rw (le-leb (count + length (all_keys cs)) 4096 h, kept_by)

-- the same by what the code holds
module _ (i : ℕ) (rows keys : List ℤ) (count p s : ℕ) (fs : List (Option Channel)) (ranges scratch : List ℤ) (n : ℕ) where
  abbrev cs : List Channel
  cs = map keys_in fs

  pub set-over : Held fs ranges scratch n true → (rows' keys' : List ℤ) → kept None rows' keys' ≡ kept_by i (kept (Some count) rows keys) (p, s) cs
  set-over h rows' keys' = by_over i rows keys count (p, s) cs (omega (arith, held-over fs ranges scratch n h)) rows' keys'

  module _ (h : Held fs ranges scratch n false) where
    pub set_beyond : 4096 - n < count → (rows' keys' : List ℤ) → kept None rows' keys' ≡ kept_by i (kept (Some count) rows keys) (p, s) cs
    set_beyond l rows' keys' = by_over i rows keys count (p, s) cs (omega (arith, held_count fs ranges scratch n h, h.most, l)) rows' keys'

    pub set_fit : count ≤ 4096 - n → (j : ℕ) → min j (length (overlay_at i (pos p ∷ pos s ∷ []) rows)) ≡ min (i + 2) (length (overlay_at i (pos p ∷ pos s ∷ []) rows)) → kept (Some (count + n)) (overlay_at j (renumbered count ranges) (overlay_at i (pos p ∷ pos s ∷ []) rows)) (overlay_at (count * 2) (gathered ranges scratch) keys) ≡ kept_by i (kept (Some count) rows keys) (p, s) cs
    set_fit l j e =
        let r = held_ranged fs ranges scratch n h in
        rw (← held_count fs ranges scratch n h, r.numbers count, r.content, overlay_at-same j (i + 2) (key_ranges count cs) (overlay_at i (pos p ∷ pos s ∷ []) rows) e, ← overlay_at-append i (pos p ∷ pos s ∷ []) (key_ranges count cs) rows)
        (by_fit i rows keys count (p, s) cs (omega (arith, held_count fs ranges scratch n h, h.most, l)))

    -- by the tables that the code leaves
    pub set-laid : count ≤ 4096 - n → (j : ℕ) (a b : ℤ) (row' rows' rows'' keys' : List ℤ) → a ≡ pos p → b ≡ pos s → rows' ≡ overlay_at i (a ∷ b ∷ []) rows → min j (length rows') ≡ min (i + 2) (length rows') → row' ≡ renumbered count ranges → rows'' ≡ overlay_at j row' rows' → keys' ≡ overlay_at (count * 2) (gathered ranges scratch) keys → kept (Some (count + n)) rows'' keys' ≡ kept_by i (kept (Some count) rows keys) (p, s) cs
    set-laid l j a b row' rows' rows'' keys' ea eb er ej en e'' ek = rw (e'', ek, en) (rw (er, ea, eb) (set_fit l j (rw (er, ea, eb) at ej)))
