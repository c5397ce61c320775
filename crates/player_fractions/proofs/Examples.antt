-- Steps of single fractions, by computation.
use mathlib.Core.Path.{◌≡◌, refl}
use mathlib.Core.List.{List, [], ◌∷◌, map}
use mathlib.Core.Option.{Option, none, some}
use Prim.Native.Nat.{ℕ, suc}
use lib.IntN.{pos, negsuc}
use lib.ListN.{replicate}
use Rattle.tra4_text.specs.Movement.{Channel, frame_of}
use Rattle.player_spec.specs.Samples.{key_frame, key_value, pose, standing}
use Rattle.player_fractions.specs.Halving.{is_even, both_even, odd_left, common_left, terms_left, kept, over, unreduced_from, unreduced_of, steps_left}

-- a over d with n steps, and with one more: it takes n + 1 where n are not enough and of n + 1 none is left
abbrev steps : ℕ × ℕ × ℕ → List (Option ℕ)
steps (n, a, d) = terms_left n a d ∷ terms_left (suc n) a d ∷ []

-- 1 over 1 takes 1: a subtraction. 6 over 4 takes 6: both are halved, 2 is halved, 3 less 1, 2 is halved, 1 less 1. 0 over 16,384 takes 28: both are halved 14 times
pub steps_example : map steps ((0, 1, 1) ∷ (5, 6, 4) ∷ (27, 0, 16384) ∷ []) ≡ replicate 3 (none ∷ some 0 ∷ [])
unfolding is_even both_even odd_left common_left terms_left
steps_example = refl

-- and 0 over 1 takes none
pub none_example : map (λ (n : ℕ). terms_left n 0 1) (0 ∷ 7 ∷ []) ≡ some 0 ∷ some 7 ∷ []
unfolding is_even both_even odd_left common_left terms_left
none_example = refl

-- 2 ^ 58 - 1 and 2 ^ 59 - 1 over 2 ^ 14 take 129 and 131: 14 halvings, and then 58 or 59 subtractions with a halving between each two
pub long_example : map steps ((128, 288230376151711743, 16384) ∷ (130, 576460752303423487, 16384) ∷ []) ≡ replicate 2 (none ∷ some 0 ∷ [])
unfolding is_even both_even odd_left common_left terms_left
long_example = refl

-- 01's keys 0: 0 and 3: -0.000001: on the first, between the two, on the last and past it; and scale.x left out
abbrev keys : Channel
keys = (pos 0 ∷ pos 0 ∷ []) ∷ (pos 3 ∷ negsuc 0 ∷ []) ∷ []

pub unreduced-example :
    (map (unreduced_of 9 keys) (0 ∷ 1 ∷ 2 ∷ 3 ∷ 4 ∷ []) ≡ over (pos 0) 3 ∷ over (negsuc 0) 3 ∷ over (negsuc 1) 3 ∷ kept (negsuc 0) ∷ kept (negsuc 0) ∷ [])
    × (unreduced_of 3 [] 0 ≡ kept (pos 100000000))
unfolding key_frame frame_of key_value pose standing unreduced_from unreduced_of
unreduced-example = (refl, refl)

-- no sample takes more than 128 steps, as the independent player finds; one that does: keys 0: 8796629.942276 and 32766: 0.000013, at frame 1
abbrev far_keys : Channel
far_keys = (pos 0 ∷ pos 8796629942276 ∷ []) ∷ (pos 32766 ∷ pos 13 ∷ []) ∷ []

pub most_example :
    (unreduced_of 9 far_keys 1 ≡ over (pos 288221580058673153) 32766)
    × (map (λ (n : ℕ). steps_left n (unreduced_of 9 far_keys 1)) (127 ∷ 128 ∷ 200 ∷ []) ≡ none ∷ some 0 ∷ some 72 ∷ [])
    × (map (λ (n : ℕ). steps_left n (unreduced_of 9 far_keys 32766)) (0 ∷ 200 ∷ []) ≡ some 0 ∷ some 200 ∷ [])
unfolding key_frame frame_of key_value unreduced_from unreduced_of is_even both_even odd_left common_left terms_left steps_left
most_example = (refl, refl, refl)
