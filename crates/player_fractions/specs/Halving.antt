-- How a sample is brought to lowest terms without a divider (document 02, (v)), and how many steps that takes: a step is one halving of one number, or one subtraction.
use Rattle.std.specs.Prelude.{◌≡◌, List, [], ◌∷◌, Bool, true, false, cond, ◌&&◌, ℕ, zero, suc, ◌-◌, ◌/◌, ◌%◌, eqb, leb, ltb, ℤ, pos, nat_abs, ◌+ℤ◌, ◌*ℤ◌}
use Rattle.std.proofs.Math.Option.{Option, none, some}
use Rattle.tra4_text.specs.Movement.{Key, Channel}
use Rattle.player_spec.specs.Fractions.{Fraction, lowest, whole}
use Rattle.player_spec.specs.Samples.{key_frame, key_value, standing}

unfoldable pub is_even : ℕ → Bool
is_even a = eqb (a % 2) 0

unfoldable pub both_even : ℕ → ℕ → Bool
both_even a d = is_even a && is_even d

-- ---- what is left of n steps, or none where they are not enough

-- from a and an odd b, to 0 and the common factor: an even a is halved; of an odd a and b the smaller is subtracted from the larger
unfoldable pub odd_left : ℕ → ℕ → ℕ → Option ℕ
odd_left zero a b = elim (eqb a 0) [ true ↦ some zero | false ↦ none ]
odd_left (suc n) a b =
    elim (eqb a 0) [
      | true ↦ some (suc n)
      | false ↦ elim (is_even a) [
        | true ↦ odd_left n (a / 2) b
        | false ↦ elim (ltb a b) [ true ↦ odd_left n (b - a) a | false ↦ odd_left n (a - b) b ]
      ]
    ]

-- from two numbers that are not both even: the odd one is the second
unfoldable pub common_left : ℕ → ℕ → ℕ → Option ℕ
common_left n a d = elim (is_even a) [ true ↦ odd_left n a d | false ↦ odd_left n d a ]

-- from a over d to lowest terms: while both are even both are halved, which is two steps, and then their common factor is found
unfoldable pub terms_left : ℕ → ℕ → ℕ → Option ℕ
terms_left zero a d = cond (both_even a d) none (common_left 0 a d)
terms_left (suc zero) a d = cond (both_even a d) none (common_left 1 a d)
terms_left (suc (suc n)) a d = cond (both_even a d) (terms_left n (a / 2) (d / 2)) (common_left (suc (suc n)) a d)

-- ---- of a sample

-- a sample before it is brought to lowest terms: a value that is kept as it is, or a number over a denominator
pub data Unreduced : Type 0 where
  kept : ℤ → Unreduced
  over : ℤ → ℕ → Unreduced

-- along `sample_from`: the line's two numbers, and from the last key on that key's value
unfoldable pub unreduced_from : Key → List Key → ℕ → Unreduced
unreduced_from k [] at = kept (key_value k)
unreduced_from k (n ∷ ks) at =
    elim (leb (key_frame n) at) [
      | true ↦ unreduced_from n ks at
      | false ↦ over (key_value k *ℤ pos (key_frame n - at) +ℤ key_value n *ℤ pos (at - key_frame k)) (key_frame n - key_frame k)
    ]

-- along `sample_of`
unfoldable pub unreduced_of : ℕ → Channel → ℕ → Unreduced
unreduced_of channel [] at = kept (standing channel)
unreduced_of channel (k ∷ ks) at = unreduced_from k ks at

unfoldable pub reduced : Unreduced → Fraction
reduced (kept v) = whole v
reduced (over z d) = lowest z d

-- what is left of n steps once it is in lowest terms; a value that is kept takes none
unfoldable pub steps_left : ℕ → Unreduced → Option ℕ
steps_left n (kept v) = some n
steps_left n (over z d) = terms_left n (nat_abs z) d

-- the steps were enough
abbrev pub Enough : Option ℕ → Type 0
Enough left = (k : ℕ) × (left ≡ some k)
