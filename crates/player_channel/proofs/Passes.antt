-- One pass answers as the definition: none where a key is at fault, else the sample; by induction on the keys left.
use mathlib.Core.Path.{◌≡◌, refl, ap, ◌∙◌}
use mathlib.Core.List.{List, [], ◌∷◌}
use mathlib.Core.Bool.{Bool, true, false, ◌&&◌, and-false}
use mathlib.Core.Option.{Option, none, some}
use Prim.Native.Nat.{ℕ, suc}
use borrow.Author.Tests.{ltb-true, ltb-false, le-leb, lt-leb}
use lib.Dec.{ltb}
use lib.IntN.{ℤ}
use Rattle.tra4_text.specs.Movement.{Key, frame_of}
use Rattle.tra4_text.specs.Rules.{channel_fault, key_fine}
use Rattle.player_spec.specs.Fractions.{Fraction}
use Rattle.player_spec.specs.Samples.{key_frame, key_value, sample_from, sample_of}
use Rattle.refusal.specs.Faults.{is_clear}
use Rattle.player_spec.specs.Lookups.{only_if, is_float, values_fine}
use Rattle.player_channel.specs.Internal.Pass.{may_follow, decided, or_last, pass_from, pass_over}

-- keys without a fault
abbrev sound : ℤ → Option ℤ → ℕ → List Key → Bool
sound total before row ks = is_clear (channel_fault total before row ks) && values_fine ks

-- the first is tested, and then the others
sound_more : (total : ℤ) (before : Option ℤ) (row : ℕ) (n : Key) (ks : List Key) → key_fine total before n ≡ true → is_float (key_value n) ≡ true → sound total before row (n ∷ ks) ≡ sound total (some (frame_of n)) (suc row) ks
unfolding channel_fault values_fine key_value
sound_more total before row n ks e f = rw (e, f, channel_fault)

sound_late : (total : ℤ) (before : Option ℤ) (row : ℕ) (n : Key) (ks : List Key) → key_fine total before n ≡ false → sound total before row (n ∷ ks) ≡ false
unfolding channel_fault is_clear
sound_late total before row n ks e = rw (e, channel_fault)

sound_wide : (total : ℤ) (before : Option ℤ) (row : ℕ) (n : Key) (ks : List Key) → is_float (key_value n) ≡ false → sound total before row (n ∷ ks) ≡ false
unfolding values_fine key_value
sound_wide total before row n ks e = rw e (and-false (is_clear (channel_fault total before row (n ∷ ks))))

-- what is known, as a sample
known : Option Fraction → Key → List Key → ℕ → Fraction
known (some r) k ks at = r
known none k ks at = sample_from k ks at

known_last : (d : Option Fraction) (k : Key) (at : ℕ) → or_last d k ≡ known d k [] at
unfolding or_last known sample_from
known_last none k at = refl
known_last (some r) k at = refl

known_more : (d : Option Fraction) (k n : Key) (ks : List Key) (at : ℕ) → known (decided d k n at) n ks at ≡ known d k (n ∷ ks) at
unfolding known decided sample_from
known_more (some r) k n ks at = refl
known_more none k n ks at = go (ltb at (key_frame n)) refl
  where
    go : (v : Bool) → ltb at (key_frame n) ≡ v → known (decided none k n at) n ks at ≡ sample_from k (n ∷ ks) at
    go true e = rw (e, decided, lt-leb (key_frame n) at (ltb-true at (key_frame n) e), sample_from)
    go false e = rw (e, decided, le-leb (key_frame n) at (ltb-false at (key_frame n) e), sample_from)

pass_sound : (total : ℤ) (at row : ℕ) (k : Key) (d : Option Fraction) (ks : List Key) → pass_from total at k d ks ≡ only_if (sound total (some (frame_of k)) row ks) (known d k ks at)
unfolding pass_from only_if channel_fault is_clear values_fine
pass_sound total at row k d [] = ap some (known_last d k at)
pass_sound total at row k d (n ∷ ks) = go (key_fine total (some (frame_of k)) n) (is_float (key_value n)) refl refl (pass_sound total at (suc row) n (decided d k n at) ks)
  where
    go : (u v : Bool) → key_fine total (some (frame_of k)) n ≡ u → is_float (key_value n) ≡ v → pass_from total at n (decided d k n at) ks ≡ only_if (sound total (some (frame_of n)) (suc row) ks) (known (decided d k n at) n ks at) → pass_from total at k d (n ∷ ks) ≡ only_if (sound total (some (frame_of k)) row (n ∷ ks)) (known d k (n ∷ ks) at)
    go true true e f ih = unfold may_follow in (rw (e, f, pass_from, sound_more total (some (frame_of k)) row n ks e f) (ih ∙ ap (only_if (sound total (some (frame_of n)) (suc row) ks)) (known_more d k n ks at)))
    go true false e f ih = unfold may_follow in (rw (e, f, pass_from, sound_wide total (some (frame_of k)) row n ks f))
    go false v e f ih = unfold may_follow in (rw (e, pass_from, sound_late total (some (frame_of k)) row n ks e))

pub pass_is : (total : ℤ) (channel at : ℕ) (ks : List Key) → pass_over total channel at ks ≡ only_if (is_clear (channel_fault total none 0 ks) && values_fine ks) (sample_of channel ks at)
unfolding pass_over sample_of only_if channel_fault is_clear values_fine
pass_is total channel at [] = refl
pass_is total channel at (k ∷ ks) = go (key_fine total none k) (is_float (key_value k)) refl refl
  where
    go : (u v : Bool) → key_fine total none k ≡ u → is_float (key_value k) ≡ v → pass_over total channel at (k ∷ ks) ≡ only_if (sound total none 0 (k ∷ ks)) (sample_from k ks at)
    go true true e f = unfold may_follow in (rw (e, f, pass_over, sound_more total none 0 k ks e f) (unfold known in (pass_sound total at 1 k none ks)))
    go true false e f = unfold may_follow in (rw (e, f, pass_over, sound_wide total none 0 k ks f))
    go false v e f = unfold may_follow in (rw (e, pass_over, sound_late total none 0 k ks e))
