-- The chunks of a bone's channels, turn by turn: between two, the code holds the channels that have been read, and from them the rest is read.
use mathlib.Core.Path.{◌≡◌, refl, ap, sym, ◌∙◌}
use mathlib.Core.List.{List, map}
use mathlib.Core.Bool.{Bool, true, false, false≢true}
use mathlib.Core.Option.{Option, none}
use Prim.Native.Nat.{ℕ, ◌+◌, ◌*◌, ◌-◌, ◌≤◌, ◌<◌}
use native.Mathlib.Omega.{arith}
use lib.IntN.{ℤ, pos}
use lib.ListN.{length, get_or, set, replicate, get_or-replicate}
use Rattle.text_bytes.specs.Bytes.{bytes, in_word}
use Rattle.text_runs.specs.Runs.{same}
use Rattle.text_tokens.specs.Tokens.{lex_at}
use Rattle.std.proofs.Common.{Option as Count, Some, None, Ok, Err, unwrap_or}
use Rattle.refusal.specs.declared.checked.Refusal.{Refusal}
use Rattle.parse_cursor.specs.Internal.Cursors.{reads, from}
use Rattle.parse_spec.specs.Readers.{refused}
use Rattle.parse_spec.specs.Fields.{kind, is_some, fields_in, fields, unread}
use Rattle.parse_spec.specs.Internal.Fields.{needed_of}
use Rattle.parse_spec.proofs.FieldFlags.{flags_length}
use Rattle.parse_words.specs.Internal.Words.{words, onto, keys_of, apart, differs}
use Rattle.parse_chunks.specs.Internal.Heads.{head_in, ReachedAt}
use Rattle.parse_chunks.proofs.Turns.{Listed, Midway, turn_off, turn_ends, turn_row, turn_left, turn_unread, turn_stop, turn_on}
use Rattle.tra4_text.specs.Movement.{Channel}
use Rattle.tra4_text.specs.Grammar.{channel, channel_names, channel_kinds, keys_in}
use Rattle.tra4_text.specs.Rules.{all_keys}
use Rattle.table_rows.specs.Flat.{flat}
use Rattle.tra4_channels.specs.Internal.Held.{keys_read, Stored, Held, HeldBy, KeysRead}

-- the keywords as one text, no two of them the same, and none must stand
abbrev list : List ℕ
list = bytes "translate.x translate.y translate.z scale.x scale.y scale.z rotate.x rotate.y rotate.z roll"

abbrev needed : List Bool
needed = replicate 10 false

channel-listed : Listed channel_kinds list needed
unfolding channel_kinds channel_names channel kind keys_of words onto in_word bytes apart differs same needed_of
channel-listed = record { keys = refl; differ = refl; must = refl }

channel_count : length channel_kinds ≡ 10
unfolding channel_kinds channel_names
channel_count = refl

-- ---- no channel yet

unread-is : unread channel_kinds ≡ replicate 10 none
unfolding unread channel_kinds channel_names
unread-is = refl

none_read : keys_read (replicate 10 none) ≡ 0
unfolding keys_read all_keys keys_in
none_read = refl

none_seen : map (is_some {A = Channel}) (replicate 10 none) ≡ replicate 10 false
unfolding is_some
none_seen = refl

none_stored : (keys : List ℤ) (f : Option Channel) (first count : ℤ) → f ≡ none → first ≡ pos 0 → count ≡ pos 0 → Stored keys 0 first count (keys_in f)
unfolding keys_in flat
none_stored keys f first count e p q = rw e (record { row = 0; first_is = p; count_is = q; below = omega arith; content = refl })

held_none : (ranges keys : List ℤ) → ranges ≡ replicate 20 (pos 0) → length keys ≡ 8192 → Held (replicate 10 none) ranges keys 0 false
held_none ranges keys z r =
    record {
      ten = refl;
      width = ap length z;
      room = r;
      most = omega arith;
      counted = λ _. none_read;
      many = λ x. absurd (false≢true x);
      stored = λ _ k l. none_stored keys (get_or (replicate 10 none) k none) _ _ (get_or-replicate 10 k none none l) (zero-pair k l).0 (zero-pair k l).1;
      zeros = λ k l _. zero-pair k l;
    }
  where
    zero-pair : (k : ℕ) → k < 10 → (get_or ranges (k * 2) (pos 0) ≡ pos 0) × (get_or ranges (k * 2 + 1) (pos 0) ≡ pos 0)
    zero-pair k l = rw z (get_or-replicate 20 (k * 2) (pos 0) (pos 0) (omega arith), get_or-replicate 20 (k * 2 + 1) (pos 0) (pos 0) (omega arith))

-- ---- between two chunks

abbrev pub Between : List ℕ → ℕ → ℕ → ℕ → List Bool → List ℤ → List ℤ → Count ℕ → Type 0
Between text at left d seen ranges keys o = Midway text channel_kinds (fields channel_kinds (lex_at text at)) left d seen (λ fs. HeldBy fs ranges keys o)

pub between_start : (text : List ℕ) (at : ℕ) (seen : List Bool) (ranges keys : List ℤ) → seen ≡ replicate 10 false → ranges ≡ replicate 20 (pos 0) → length keys ≡ 8192 → Between text at 10 at seen ranges keys (Some 0)
unfolding fields channel_kinds channel_names from
between_start text at seen ranges keys e w r =
    record {
      fs = replicate 10 none;
      size = refl;
      flags = none_seen ∙ sym e;
      holds = held_none ranges keys w r;
      on = ap (λ (gs : List (Option Channel)). fields_in 10 channel_kinds gs (lex_at text at)) unread-is;
    }

-- a chunk of a channel: after its head, its keys
module _ (text : List ℕ) (at left d : ℕ) (seen : List Bool) (ranges keys : List ℤ) (o : Count ℕ) (m : Between text at left d seen ranges keys o) where
  pub channels_off : {n p : ℕ} → from text (Ok d) (head_in (words list) needed seen left) ≡ refused n p → fields channel_kinds (lex_at text at) ≡ refused n p
  channels_off h = turn_off channel-listed m h

  module _ (c : ℕ) (x : Count ℕ) (h : reads text (Ok c) x ≡ from text (Ok d) (head_in (words list) needed seen left)) where
    wide : length seen ≡ 10
    wide = ap length (sym m.flags) ∙ flags_length m.fs ∙ m.size ∙ channel_count

    pub channels_end : x ≡ None → ReachedAt text c (fields channel_kinds (lex_at text at)) (λ gs. HeldBy gs ranges keys o)
    channels_end e = turn_ends channel-listed m c x h e

    module _ (k : ℕ) (e : x ≡ Some k) where
      pub channel-left : left ≡ 0 → ⊥
      channel-left = turn_left channel-listed m c x h k e

      -- what reading its keys asks
      pub channel-sizes : (k < 10) × (length ranges ≡ 20) × (length keys ≡ 8192) × (unwrap_or o 0 ≤ 4096)
      channel-sizes = let g = m.holds in (rw wide at (turn_row channel-listed m c x h k e), g.width, g.room, g.most)

      pub channel_stop : (f : Refusal) (t : List ℤ × List ℤ) → KeysRead text c k (ranges, keys, o) (Err f) t → fields channel_kinds (lex_at text at) ≡ refused f.number f.place
      channel_stop f t y = turn_stop channel-listed m c x h k e (y m.fs (turn_unread channel-listed m c x h k e) m.holds)

      pub channel_on : (q : Count ℕ) (r : ℕ) (ranges' keys' : List ℤ) → KeysRead text c k (ranges, keys, o) (Ok (q, r)) (ranges', keys') → (seen' : List Bool) → seen' ≡ set seen k true → Between text at (left - 1) r seen' ranges' keys' q
      channel_on q r ranges' keys' y seen' f =
          let z = y m.fs (turn_unread channel-listed m c x h k e) m.holds in
          turn_on channel-listed m c x h k e r z.value z.read seen' f (λ fs. HeldBy fs ranges' keys' q) z.kept
