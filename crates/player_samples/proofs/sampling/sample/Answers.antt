-- `sample` is its definition: each failed test refuses, and past them the sample by the part of the table that holds the channel's keys is the answer.
use Rattle.std.proofs.Common.{◌≡◌, refl, sym, ap, ◌∙◌, ℕ, ◌+◌, ◌*◌, ◌≤◌, ◌<◌, Bool, true, false, List, ℤ, pos, length, get_or, SFits, w64, arith, rules}
use Rattle.std.specs.Prelude.{nat_abs}
use Rattle.std.proofs.lemmas.Int.{to_z-of_z}
use Rattle.table_counts.specs.declared.counts.MovementCounts.{MovementCounts}
use Rattle.table_columns.specs.Parts.{number_at, rows_at}
use Rattle.table_columns.proofs.Casts.{natural_cast}
use Rattle.table_columns.proofs.SmallIndices.{small_fits, byte_fits, index_below}
use Rattle.table_movement.specs.declared.sections.MovementSections.{MovementSections}
use Rattle.table_movement.specs.Sections.{keys_begin, movement_sections, holds_movement}
use Rattle.table_movement.proofs.Mosts.{movement-room, movement_none, movement-held, movement-found}
use Rattle.player_spec.specs.Lookups.{is_range, pair_at, channel_keys, sample_in}
use Rattle.player_spec.specs.Answers.{numbered}
use Rattle.player_channel.specs.Internal.Answers.{sample_by}
use Rattle.player_samples.proofs.Sampled.{keys-part, range_facts, not-held, no_bone, no_channel, no_range, played}
use Rattle.player_samples.proofs.sampling.sample.Goals as goal
use Rattle.player_samples.proofs.sampling.sample.Goals.{Else-channel-ge-CHANNELS, After-is_range, Else-not-is_range, then-s-eq0-via-then-s-eq0, then-s-eq0-via-else-s-eq0+then-n-bone, then-s-eq0-via-else-s-eq0+else-n-bone+then-channel-ge-CHANNELS}

pub returns-then-s-eq0 : goal.returns-then-s-eq0
unfolding numbered
returns-then-s-eq0 c =
    elim c.then-s-eq0.branch [
      | then-s-eq0-via-then-s-eq0 w ↦ ap numbered (not-held _ _ _ _ _ (movement_none _ _ _ c.movement_in-s.ensures w.if-s-eq0.true))
      | then-s-eq0-via-else-s-eq0+then-n-bone w ↦ ap numbered (no_bone _ _ _ _ _ (movement-held _ _ _ c.movement_in-s.ensures w.if-s-eq0.false) w.if-n-bone.true)
      | then-s-eq0-via-else-s-eq0+else-n-bone+then-channel-ge-CHANNELS w ↦
          ap numbered (no_channel _ _ _ _ _ (movement-held _ _ _ c.movement_in-s.ensures w.if-s-eq0.false) (let h = w.if-n-bone.false in omega arith) w.if-channel-ge-CHANNELS.true)
    ]

-- ---- the channel's pair, and the keys that it names

module _ (e : Else-channel-ge-CHANNELS) where
  abbrev T : List ℤ
  T = e.args.table.now

  abbrev n : MovementCounts
  n = e.args.n

  abbrev bone : ℕ
  bone = e.args.bone

  abbrev channel : ℕ
  channel = e.args.channel

  abbrev begin : ℕ
  begin = e.movement_in-s.result.keys

  abbrev pair : ℕ
  pair = e.movement_in-s.result.bones + bone * 22 + 2 + channel * 2

  abbrev first : ℤ
  first = get_or T pair (pos 0)

  abbrev count : ℤ
  count = get_or T (pair + 1) (pos 0)

  held : holds_movement n T ≡ true
  held = movement-held _ _ _ e.movement_in-s.ensures e.if-s-eq0.false

  found : e.movement_in-s.result ≡ movement_sections n
  found = movement-found _ _ _ e.movement_in-s.ensures e.if-s-eq0.false

  bones_are : e.movement_in-s.result.bones ≡ 3
  unfolding movement_sections
  bones_are = ap (λ (s : MovementSections). s.bones) found

  keys-are : begin ≡ 3 + n.bones * 22
  unfolding movement_sections keys_begin
  keys-are = ap (λ (s : MovementSections). s.keys) found

  row : bone < n.bones
  row = let h = e.if-n-bone.false in omega arith

  known : channel < 10
  known = let h = e.if-channel-ge-CHANNELS.false in omega arith

  room : (n.bones ≤ 128) × (n.keys ≤ 4096) × (n.patterns ≤ 256) × (3 + n.bones * 22 + n.keys * 2 + n.patterns * 3 ≤ length T)
  room = movement-room _ _ held

  -- where the pair stands, within the table
  pair-at : pair ≡ 5 + bone * 22 + channel * 2
  pair-at = let b = bones_are in omega arith

  pair-room : (pair + 1 < length T) × (pair + 1 ≤ 40000)
  pair-room = let h = room in let r = row in let k = known in let b = bones_are in (omega arith, omega arith)

  -- the range by the definition's index
  by-pair : (b : Bool) → is_range n.keys first count ≡ b → is_range n.keys (number_at T (pair_at n T bone channel)) (number_at T (pair_at n T bone channel + 1)) ≡ b
  unfolding number_at pair_at
  by-pair b h = ap (λ (i : ℕ). is_range n.keys (get_or T i (pos 0)) (get_or T (i + 1) (pos 0))) (sym pair-at) ∙ h

  module _ (ranged : is_range n.keys first count ≡ true) where
    keys-room : (begin + nat_abs first * 2 + nat_abs count * 2 ≤ length T) × (begin + nat_abs first * 2 + nat_abs count * 2 ≤ 40000)
    keys-room = let h = room in let g = range_facts _ _ _ ranged in let b = keys-are in (omega arith, omega arith)

    same_keys : rows_at 2 T (begin + nat_abs first * 2) (nat_abs count) ≡ channel_keys n T bone channel
    unfolding channel_keys keys_begin number_at pair_at
    same_keys =
        ap (λ (k : ℕ). rows_at 2 T (k + nat_abs first * 2) (nat_abs count)) keys-are
        ∙ ap (λ (i : ℕ). rows_at 2 T (3 + n.bones * 22 + nat_abs (get_or T i (pos 0)) * 2) (nat_abs (get_or T (i + 1) (pos 0)))) pair-at

    answered : sample_by (number_at T 0) channel e.args.at (rows_at 2 T (begin + nat_abs first * 2) (nat_abs count)) ≡ sample_in n T bone channel e.args.at
    answered = ap (sample_by (number_at T 0) channel e.args.at) same_keys ∙ played n T bone channel _ held row known (by-pair true ranged)

pub overflow_mul-pair : goal.overflow_mul-pair
overflow_mul-pair c = let e = (goal.at.overflow_mul-pair c).Else-channel-ge-CHANNELS in let h = (pair-room e).1 in small_fits _ (bone e * 22) refl (omega arith)

pub overflow_add-pair : goal.overflow_add-pair
overflow_add-pair c = let e = (goal.at.overflow_add-pair c).Else-channel-ge-CHANNELS in let h = (pair-room e).1 in small_fits _ (e.movement_in-s.result.bones + bone e * 22) refl (omega arith)

pub overflow_add-pair-2 : goal.overflow_add-pair-2
overflow_add-pair-2 c = let e = (goal.at.overflow_add-pair-2 c).Else-channel-ge-CHANNELS in let h = (pair-room e).1 in small_fits _ (e.movement_in-s.result.bones + bone e * 22 + 2) refl (omega arith)

pub overflow_mul-pair-2 : goal.overflow_mul-pair-2
overflow_mul-pair-2 c = let e = (goal.at.overflow_mul-pair-2 c).Else-channel-ge-CHANNELS in let h = (pair-room e).1 in small_fits _ (channel e * 2) refl (omega arith)

pub overflow_add-pair-3 : goal.overflow_add-pair-3
overflow_add-pair-3 c = let e = (goal.at.overflow_add-pair-3 c).Else-channel-ge-CHANNELS in let h = (pair-room e).1 in small_fits _ (pair e) refl (omega arith)

pub offset_bounds-table-pair : goal.offset_bounds-table-pair
offset_bounds-table-pair c = let e = (goal.at.offset_bounds-table-pair c).Else-channel-ge-CHANNELS in let h = (pair-room e).1 in byte_fits _ (pair e) refl (omega arith)

pub bounds-table-pair : goal.bounds-table-pair
bounds-table-pair c = let e = (goal.at.bounds-table-pair c).Else-channel-ge-CHANNELS in let h = (pair-room e).0 in index_below _ (pair e) (T e) refl (omega arith)

pub overflow_add-count : goal.overflow_add-count
overflow_add-count c = small_fits _ _ refl (pair-room (goal.at.overflow_add-count c).Else-channel-ge-CHANNELS).1

pub offset_bounds-table-pair-2 : goal.offset_bounds-table-pair-2
offset_bounds-table-pair-2 c = byte_fits _ _ refl (pair-room (goal.at.offset_bounds-table-pair-2 c).Else-channel-ge-CHANNELS).1

pub bounds-table-pair-2 : goal.bounds-table-pair-2
bounds-table-pair-2 c = (pair-room (goal.at.bounds-table-pair-2 c).Else-channel-ge-CHANNELS).0

-- ---- the pair as it was read

first_fits : (c : After-is_range) → let p = c.movement_in-s.result.bones + c.args.bone * 22 + 2 + c.args.channel * 2 in SFits w64 (get_or c.args.table.now p (pos 0))
first_fits c = search rules

count_fits : (c : After-is_range) → let p = c.movement_in-s.result.bones + c.args.bone * 22 + 2 + c.args.channel * 2 in SFits w64 (get_or c.args.table.now (p + 1) (pos 0))
count_fits c = search rules

told : (c : After-is_range) → let p = c.movement_in-s.result.bones + c.args.bone * 22 + 2 + c.args.channel * 2 in c.is_range.result ≡ is_range c.args.n.keys (get_or c.args.table.now p (pos 0)) (get_or c.args.table.now (p + 1) (pos 0))
told c = rw (to_z-of_z _ _ (first_fits c), to_z-of_z _ _ (count_fits c)) at c.is_range.ensures

pub returns-then-not-is_range : goal.returns-then-not-is_range
unfolding numbered
returns-then-not-is_range c =
    let g = goal.at.returns-then-not-is_range c in
    let e = g.Else-channel-ge-CHANNELS in
    ap numbered (no_range _ _ _ _ _ (held e) (row e) (known e) (by-pair e false (sym (told g.After-is_range) ∙ c.if-not-is_range.true)))

ranged : (c : Else-not-is_range) → let p = c.movement_in-s.result.bones + c.args.bone * 22 + 2 + c.args.channel * 2 in is_range c.args.n.keys (get_or c.args.table.now p (pos 0)) (get_or c.args.table.now (p + 1) (pos 0)) ≡ true
ranged c = sym (told c.before) ∙ c.if-not-is_range.false

pub overflow_cast-from : goal.overflow_cast-from
overflow_cast-from c = let g = goal.at.overflow_cast-from c in natural_cast _ (first_fits g.After-is_range) (range_facts _ _ _ (ranged g.Else-not-is_range)).0

pub overflow_mul-from : goal.overflow_mul-from
overflow_mul-from c =
    let g = goal.at.overflow_mul-from c in
    let e = g.Else-channel-ge-CHANNELS in
    let h = (keys-room e (ranged g.Else-not-is_range)).1 in
    rw (to_z-of_z _ _ (first_fits g.After-is_range)) (small_fits _ (nat_abs (first e) * 2) refl (omega arith))

pub overflow_add-from : goal.overflow_add-from
overflow_add-from c =
    let g = goal.at.overflow_add-from c in
    let e = g.Else-channel-ge-CHANNELS in
    let h = (keys-room e (ranged g.Else-not-is_range)).1 in
    rw (to_z-of_z _ _ (first_fits g.After-is_range)) (small_fits _ (begin e + nat_abs (first e) * 2) refl (omega arith))

pub overflow_cast-end : goal.overflow_cast-end
overflow_cast-end c = let g = goal.at.overflow_cast-end c in natural_cast _ (count_fits g.After-is_range) (range_facts _ _ _ (ranged g.Else-not-is_range)).1

pub overflow_mul-end : goal.overflow_mul-end
overflow_mul-end c =
    let g = goal.at.overflow_mul-end c in
    let e = g.Else-channel-ge-CHANNELS in
    let h = (keys-room e (ranged g.Else-not-is_range)).1 in
    rw (to_z-of_z _ _ (count_fits g.After-is_range)) (small_fits _ (nat_abs (count e) * 2) refl (omega arith))

pub overflow_add-end : goal.overflow_add-end
overflow_add-end c =
    let g = goal.at.overflow_add-end c in
    let e = g.Else-channel-ge-CHANNELS in
    rw (to_z-of_z _ _ (first_fits g.After-is_range), to_z-of_z _ _ (count_fits g.After-is_range)) (small_fits _ (begin e + nat_abs (first e) * 2 + nat_abs (count e) * 2) refl (keys-room e (ranged g.Else-not-is_range)).1)

pub offset_bounds-table-from : goal.offset_bounds-table-from
offset_bounds-table-from c =
    let g = goal.at.offset_bounds-table-from c in
    let e = g.Else-channel-ge-CHANNELS in
    let h = (keys-room e (ranged g.Else-not-is_range)).1 in
    rw (to_z-of_z _ _ (first_fits g.After-is_range)) (byte_fits _ (begin e + nat_abs (first e) * 2) refl (omega arith))

pub slice_bounds-channel_sample-end : goal.slice_bounds-channel_sample-end
slice_bounds-channel_sample-end c =
    let g = goal.at.slice_bounds-channel_sample-end c in
    rw (to_z-of_z _ _ (first_fits g.After-is_range), to_z-of_z _ _ (count_fits g.After-is_range)) (keys-room g.Else-channel-ge-CHANNELS (ranged g.Else-not-is_range)).0

pub bounds-table-0 : goal.bounds-table-0
bounds-table-0 c = let h = room (goal.at.bounds-table-0 c).Else-channel-ge-CHANNELS in omega arith

pub returns : goal.returns
unfolding number_at
returns c =
    let g = goal.at.returns c in
    let e = g.Else-channel-ge-CHANNELS in
    let m = g.After-is_range in
    let r = ranged g.Else-not-is_range in
    let t : SFits w64 (get_or (T e) 0 (pos 0)) = search rules in
    (rw (to_z-of_z _ _ (first_fits m), to_z-of_z _ _ (count_fits m), to_z-of_z _ _ t) at c.channel_sample.ensures)
    ∙ ap numbered (ap (sample_by (get_or (T e) 0 (pos 0)) (channel e) _) (keys-part (T e) (begin e) (first e) (count e) (keys-room e r).0) ∙ answered e r)
