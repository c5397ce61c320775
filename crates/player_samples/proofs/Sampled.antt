-- What each test of `sample` says of its definition: a failed one refuses, and past them all the sample by the channel's keys is the answer.
use mathlib.Core.Path.{◌≡◌, refl, ap, ◌∙◌}
use mathlib.Core.List.{List}
use mathlib.Core.Bool.{true, false, false≢true, and-true, and-false}
use mathlib.Core.Option.{Option, none}
use Prim.Native.Nat.{ℕ, zero, suc, ◌+◌, ◌*◌, ◌-◌, ◌/◌, ◌≤◌, ◌<◌}
use native.Mathlib.Omega.{arith}
use borrow.Author.Tests.{lt-ltb, le-ltb, leb-true, eqb-true}
use lib.IntN.{ℤ, pos, negsuc, nat_abs}
use lib.ListN.{length, take, drop, length-take, length-drop}
use Rattle.table_counts.specs.declared.counts.MovementCounts.{MovementCounts}
use Rattle.player_spec.specs.Fractions.{Fraction}
use Rattle.table_movement.specs.Sections.{holds_movement}
use Rattle.table_columns.specs.Parts.{number_at, rows_at}
use Rattle.player_spec.specs.Lookups.{only_if, is_asked, is_range, pair_at, channel_keys, can_sample, sample_in}
use Rattle.player_channel.specs.Internal.Answers.{sample_by}
use Rattle.table_columns.proofs.Parts.{part-rows}

-- ---- a range that lies among n rows

pub range_facts : (n : ℕ) (f c : ℤ) → is_range n f c ≡ true → (f ≡ pos (nat_abs f)) × (c ≡ pos (nat_abs c)) × (nat_abs f + nat_abs c ≤ n)
unfolding is_range
range_facts n (pos f) (pos zero) h = (refl, refl, let z = eqb-true f 0 h in omega arith)
range_facts n (pos f) (pos (suc c)) h = (refl, refl, leb-true (f + suc c) n h)
range_facts n (pos f) (negsuc c) h = absurd (false≢true h)
range_facts n (negsuc f) c h = absurd (false≢true h)

-- ---- the part that holds a channel's keys

pub keys-part : (table : List ℤ) (b : ℕ) (f c : ℤ) → b + nat_abs f * 2 + nat_abs c * 2 ≤ length table → let part = take (b + nat_abs f * 2 + nat_abs c * 2 - (b + nat_abs f * 2)) (drop (b + nat_abs f * 2) table) in rows_at 2 part 0 (length part / 2) ≡ rows_at 2 table (b + nat_abs f * 2) (nat_abs c)
keys-part table b f c h =
    let from = b + nat_abs f * 2 in
    let n = from + nat_abs c * 2 - from in
    let z : from + 0 ≡ from = omega arith in
    let l : length (take n (drop from table)) / 2 ≡ nat_abs c = rw (length-take n (drop from table), length-drop from table) (omega arith) in
    ap (λ (k : ℕ). rows_at 2 (take n (drop from table)) 0 k) l
    ∙ part-rows 2 from 0 n (nat_abs c) table (omega arith)
    ∙ ap (λ (k : ℕ). rows_at 2 table k (nat_abs c)) z

-- ---- the tests

module _ (n : MovementCounts) (table : List ℤ) (bone channel at : ℕ) where
  abbrev answer : Option Fraction
  answer = sample_in n table bone channel at

  pub not-held : holds_movement n table ≡ false → none ≡ answer
  unfolding sample_in can_sample only_if
  not-held h = rw h

  module _ (held : holds_movement n table ≡ true) where
    pub no_bone : n.bones ≤ bone → none ≡ answer
    unfolding sample_in can_sample only_if
    no_bone h = rw (held, le-ltb _ _ h)

    module _ (row : bone < n.bones) where
      pub no_channel : 10 ≤ channel → none ≡ answer
      unfolding sample_in can_sample only_if
      no_channel h = rw (held, lt-ltb _ _ row, le-ltb _ _ h)

      module _ (known : channel < 10) where
        pub not_asked : is_asked (number_at table 0) at ≡ false → none ≡ answer
        unfolding sample_in can_sample only_if
        not_asked h = rw (held, lt-ltb _ _ row, lt-ltb _ _ known, h)

        pub no_range : is_range n.keys (number_at table (pair_at n table bone channel)) (number_at table (pair_at n table bone channel + 1)) ≡ false → none ≡ answer
        unfolding sample_in can_sample only_if
        no_range h = rw (held, lt-ltb _ _ row, lt-ltb _ _ known, h, and-false (is_asked (number_at table 0) at))

        pub played : is_range n.keys (number_at table (pair_at n table bone channel)) (number_at table (pair_at n table bone channel + 1)) ≡ true → sample_by (number_at table 0) channel at (channel_keys n table bone channel) ≡ answer
        unfolding sample_in can_sample sample_by
        played h = rw (held, lt-ltb _ _ row, lt-ltb _ _ known, h, and-true (is_asked (number_at table 0) at))
