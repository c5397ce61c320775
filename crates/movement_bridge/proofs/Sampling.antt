-- Sample from a movement's text: on the table that reading leaves it is the sample of the channel as the text writes it, never 21; the channel's keys are a part of all key rows.
use mathlib.Core.Path.{◌≡◌, refl, ap, subst, ◌∙◌}
use mathlib.Core.Logic.{◌↔◌}
use mathlib.Core.List.{List, [], ◌∷◌, ◌++◌}
use mathlib.Core.Bool.{true}
use mathlib.Core.Option.{none, some}
use Prim.Native.Nat.{ℕ, suc, ◌+◌, ◌*◌, ◌≤◌, ◌<◌}
use native.Mathlib.Omega.{arith}
use borrow.Author.Tests.{lt-ltb}
use lib.IntN.{ℤ, pos, nat_abs}
use lib.ListN.{length, drop, length-append}
use Rattle.refusal.specs.Faults.{clear, is_clear}
use Rattle.text_bytes.proofs.Every.{every_append, every_first, every_last}
use Rattle.refusal.specs.Outcomes.{accepted}
use Rattle.parse_spec.proofs.Given.{Every}
use Rattle.tra4_text.specs.Movement.{Key, Channel, Bone, Movement}
use Rattle.tra4_text.specs.Rules.{all_keys, channels_of, key_rows, channel_fault, keys_fault, movement_fault, movement_counts}
use Rattle.tra4_text.specs.Layout.{first_row, layout_of}
use Rattle.tra4_text.specs.Answer.{movement_answer, movement_table}
use Rattle.tra4_text.proofs.Whole.{WholeChannel, WholeBone, WholeMovement, wide_keys}
use Rattle.tra4_text.proofs.Layouts.{keys-append, keys_wide}
use Rattle.table_counts.specs.declared.counts.MovementCounts.{MovementCounts}
use Rattle.player_spec.specs.Fractions.{whole}
use Rattle.player_spec.specs.Samples.{standing, sample_of}
use Rattle.table_movement.specs.Sections.{keys_begin, holds_movement}
use Rattle.table_columns.specs.Parts.{number_at, rows_at}
use Rattle.player_spec.specs.Lookups.{only_if, is_asked, is_range, values_fine, pair_at, channel_keys, can_sample, sample_in}
use Rattle.movement_bridge.specs.Counts.{channel_of}
use Rattle.movement_bridge.proofs.Laid.{Laid, laid-part, rows-laid}
use Rattle.movement_bridge.proofs.Channels.{Found, found_none, none_found, in_rows}
use Rattle.movement_bridge.proofs.Faultless.{one-clear, range-within, values_fine_lem}
use Rattle.movement_bridge.proofs.Tables.{counts_read, bone-number, keys-laid, keys-clear, whole-read, clean_read, table-read, movement_holds, total_stands, frame_asked}

-- ---- what holds of each channel

channels-whole : (bs : List Bone) → Every WholeBone bs → Every WholeChannel (channels_of bs)
unfolding channels_of
channels-whole [] h = tt
channels-whole (b ∷ bs) h = every_append WholeChannel b.channels (channels_of bs) h.0.whole (channels-whole bs h.1)

-- ---- a channel that is found stands among the key rows

module _ (a : List Channel) (c : Channel) (b : List Channel) where
  keys-part : all_keys (a ++ (c ∷ b)) ≡ all_keys a ++ (c ++ all_keys b)
  unfolding all_keys
  keys-part = keys-append a (c ∷ b)

  keys-within : length (all_keys a) + length c ≤ length (all_keys (a ++ (c ∷ b)))
  keys-within = let l = length-append (all_keys a) (c ++ all_keys b) in let k = length-append c (all_keys b) in rw keys-part (omega arith)

-- ---- Sample, from what its tests say

sample-is : (n : MovementCounts) (t : List ℤ) (bone channel at first : ℕ) (total : ℤ) (c : Channel) → holds_movement n t ≡ true → bone < n.bones → channel < 10 → number_at t 0 ≡ total → is_asked total at ≡ true → number_at t (pair_at n t bone channel) ≡ pos first → number_at t (pair_at n t bone channel + 1) ≡ pos (length c) → is_range n.keys (pos first) (pos (length c)) ≡ true → rows_at 2 t (keys_begin n + first * 2) (length c) ≡ c → channel_fault total none 0 c ≡ clear → values_fine c ≡ true → sample_in n t bone channel at ≡ some (sample_of channel c at)
unfolding sample_in can_sample channel_keys only_if is_clear
sample-is n t bone channel at first total c held row known is asked f l range rows frames values = rw (held, lt-ltb _ _ row, lt-ltb _ _ known, is, asked, f, l, range, rows, frames, values)

-- where a channel has no keys, any row is as good as another to find them at
rows-from-first : (t : List ℤ) (b r : ℕ) (c : Channel) → rows_at 2 t (b + r * 2) (length c) ≡ c → rows_at 2 t (b + first_row r (length c) * 2) (length c) ≡ c
unfolding rows_at first_row
rows-from-first t b r [] e = refl
rows-from-first t b r (k ∷ c) e = e

-- ---- a channel whose pair is found in the table

module _ (m : Movement) (w : WholeMovement m) (clean : movement_fault m ≡ clear) (t rest : List ℤ) (e : t ≡ layout_of m ++ rest) (c : Channel) (f n : ℤ) (s : Found (channels_of m.bones) 0 c f n) where
  rows_split : key_rows m ≡ all_keys s.before ++ (c ++ all_keys s.behind)
  unfolding key_rows
  rows_split = ap all_keys s.splits ∙ keys-part s.before c s.behind

  whole_split : Every WholeChannel (s.before ++ (c ∷ s.behind))
  whole_split = subst (λ (cs : List Channel). Every WholeChannel cs) s.splits (channels-whole m.bones w.bones)

  whole-one : WholeChannel c
  whole-one = (every_last WholeChannel s.before (c ∷ s.behind) whole_split).0

  -- its first row
  abbrev first : ℕ
  first = first_row (length (all_keys s.before)) (length c)

  keys_stand : rows_at 2 t (keys_begin (counts_read m) + first * 2) (length c) ≡ c
  keys_stand =
      let all : Laid (all_keys s.before ++ (c ++ all_keys s.behind)) (keys_begin (counts_read m)) t = subst (λ (ks : List Key). Laid ks (keys_begin (counts_read m)) t) rows_split (keys-laid m w t rest e) in
      rows-from-first t (keys_begin (counts_read m)) (length (all_keys s.before)) c
      (rows-laid 2 c whole-one.wide (laid-part 2 (all_keys s.before) c (all_keys s.behind) (keys_wide s.before (wide_keys s.before (every_first WholeChannel s.before (c ∷ s.behind) whole_split))) all))

  keys-range : is_range (counts_read m).keys (pos first) (pos (length c)) ≡ true
  unfolding movement_counts key_rows
  keys-range =
      let a = keys-within s.before c s.behind in
      let b : length (all_keys (channels_of m.bones)) ≡ length (all_keys (s.before ++ (c ∷ s.behind))) = ap (λ (cs : List Channel). length (all_keys cs)) s.splits in
      range-within (length (all_keys (channels_of m.bones))) (length (all_keys s.before)) (length c) (omega arith)

  keys-sound : channel_fault m.total_frames none 0 c ≡ clear
  keys-sound = one-clear m.total_frames 0 s.before c s.behind (subst (λ (cs : List Channel). keys_fault m.total_frames 0 cs ≡ clear) s.splits (keys-clear m clean))

  keys_values : values_fine c ≡ true
  keys_values = values_fine_lem c whole-one.values

  first-row : f ≡ pos first
  first-row = let z : 0 + length (all_keys s.before) ≡ length (all_keys s.before) = omega arith in s.first_is ∙ ap (λ (r : ℕ). pos (first_row r (length c))) z

  found-sampled : (bone channel at : ℕ) → holds_movement (counts_read m) t ≡ true → bone < (counts_read m).bones → channel < 10 → number_at t 0 ≡ m.total_frames → is_asked m.total_frames at ≡ true → number_at t (pair_at (counts_read m) t bone channel) ≡ f → number_at t (pair_at (counts_read m) t bone channel + 1) ≡ n → sample_in (counts_read m) t bone channel at ≡ some (sample_of channel c at)
  found-sampled bone channel at held row known is asked p q =
      sample-is (counts_read m) t bone channel at first m.total_frames c held row known is asked (p ∙ first-row) (q ∙ s.count_is) keys-range keys_stand keys-sound keys_values

-- ---- a channel of a text that is taken

module _ (text : List ℕ) (table : List ℤ) (m : Movement) (e : movement_answer text (length table) ≡ accepted m) (bone channel : ℕ) (h : bone < length m.bones) (k : channel < 10) where
  abbrev left : List ℤ
  left = movement_table text table

  -- the index of its pair
  abbrev pair : ℕ
  pair = pair_at (movement_counts m) left bone channel

  found : Found (channels_of m.bones) 0 (channel_of m bone channel) (number_at left pair) (number_at left (pair + 1))
  unfolding channel_of pair_at
  found =
      let w = whole-read text table m e in
      let r = drop (length (layout_of m)) table in
      let g = table-read text table m e in
      rw (bone-number m w left r g bone (suc (suc (channel * 2))) (5 + bone * 22 + channel * 2) h (omega arith) (omega arith), bone-number m w left r g bone (suc (suc (suc (channel * 2)))) (5 + bone * 22 + channel * 2 + 1) h (omega arith) (omega arith))
      (in_rows 0 m.bones bone channel (channel * 2) w.bones h k refl)

  -- its frames are sound, and its values floats
  pub channel-sound : channel_fault m.total_frames none 0 (channel_of m bone channel) ≡ clear
  channel-sound = keys-sound m (whole-read text table m e) (clean_read text table m e) _ _ (table-read text table m e) _ _ _ found

  pub channel_values : values_fine (channel_of m bone channel) ≡ true
  channel_values = keys_values m (whole-read text table m e) (clean_read text table m e) _ _ (table-read text table m e) _ _ _ found

  -- its pair is 0 and 0 exactly where it is left out
  pub pair_none : channel_of m bone channel ≡ [] ↔ ((number_at left pair ≡ pos 0) × (number_at left (pair + 1) ≡ pos 0))
  pair_none = (found_none _ found, λ z. none_found _ found z.1)

-- ---- the theorem

pub sample_from-text : (text : List ℕ) (table : List ℤ) (m : Movement) → movement_answer text (length table) ≡ accepted m → (bone channel at : ℕ) → bone < length m.bones → channel < 10 → at < nat_abs m.total_frames → sample_in (movement_counts m) (movement_table text table) bone channel at ≡ some (sample_of channel (channel_of m bone channel) at)
unfolding movement_counts
sample_from-text text table m e bone channel at h k l =
    found-sampled m (whole-read text table m e) (clean_read text table m e) _ _ (table-read text table m e) _ _ _ (found text table m e bone channel h k) bone channel at
    (movement_holds text table m e) h k (total_stands text table m e) (frame_asked text table m e at l) refl refl

-- so of a channel that is left out it is the standing pose
pub sample_left_out : (text : List ℕ) (table : List ℤ) (m : Movement) → movement_answer text (length table) ≡ accepted m → (bone channel at : ℕ) → bone < length m.bones → channel < 10 → at < nat_abs m.total_frames → channel_of m bone channel ≡ [] → sample_in (movement_counts m) (movement_table text table) bone channel at ≡ some (whole (standing channel))
unfolding sample_of
sample_left_out text table m e bone channel at h k l z = sample_from-text text table m e bone channel at h k l ∙ rw z
