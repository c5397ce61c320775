-- Steps enough: at most twice the two numbers' digits in base 2, and one more where the first is odd, by induction on the steps: a halving takes a digit away, and a subtraction of odd numbers makes the next step a halving.
use mathlib.Core.Path.{◌≡◌, refl, ap, sym, ◌∙◌}
use mathlib.Core.Bool.{Bool, true, false, false≢true, ◌&&◌}
use mathlib.Core.Option.{Option, none, some, some-ne-none, some-injective}
use Prim.Native.Nat.{ℕ, zero, suc, ◌+◌, ◌-◌, ◌*◌, ◌/◌, ◌%◌, ◌^◌, ◌≤◌, ◌<◌}
use native.Mathlib.Nat.{two-pow-succ, pow-zero, mod-lt}
use native.Mathlib.Omega.{arith}
use borrow.Author.Tests.{eqb-true, eqb-false, ne_eqb, ltb-true, ltb-false, lt-ltb, le-ltb}
use lib.Dec.{eqb, ltb}
use Rattle.text_numerals.proofs.Numerals.{and_true}
use Rattle.player_fractions.specs.Halving.{is_even, both_even, odd_left, common_left, terms_left, Enough}

-- ---- a step

-- where there is none to do, all are left
pub none_done : (n a b : ℕ) → a ≡ 0 → odd_left n a b ≡ some n
unfolding odd_left
none_done zero a b e = rw e
none_done (suc n) a b e = rw e

odd_none : (a b : ℕ) → (a ≡ 0 → ⊥) → odd_left 0 a b ≡ none
unfolding odd_left
odd_none a b d = rw (ne_eqb a 0 d, odd_left)

odd_even : (n a b : ℕ) → (a ≡ 0 → ⊥) → is_even a ≡ true → odd_left (suc n) a b ≡ odd_left n (a / 2) b
unfolding odd_left
odd_even n a b d e = rw (ne_eqb a 0 d, e, odd_left)

odd_less : (n a b : ℕ) → (a ≡ 0 → ⊥) → is_even a ≡ false → a < b → odd_left (suc n) a b ≡ odd_left n (b - a) a
unfolding odd_left
odd_less n a b d e h = rw (ne_eqb a 0 d, e, lt-ltb a b h, odd_left)

odd_more : (n a b : ℕ) → (a ≡ 0 → ⊥) → is_even a ≡ false → b ≤ a → odd_left (suc n) a b ≡ odd_left n (a - b) b
unfolding odd_left
odd_more n a b d e h = rw (ne_eqb a 0 d, e, le-ltb a b h, odd_left)

pub even_is : (a : ℕ) → is_even a ≡ true → a % 2 ≡ 0
unfolding is_even
even_is a e = eqb-true (a % 2) 0 e

pub odd_is : (a : ℕ) → is_even a ≡ false → a % 2 ≡ 1
unfolding is_even
odd_is a e = let d = eqb-false (a % 2) 0 e in let l : a % 2 < 2 = mod-lt a (omega arith) in omega arith

-- ---- enough steps

half_below : (x a : ℕ) → a < 2 ^ suc x → a / 2 < 2 ^ x
half_below x a h = let e = two-pow-succ x in omega arith

none_below : (a : ℕ) → a < 2 ^ 0 → a ≡ 0
none_below a h = let e = pow-zero 2 in omega arith

pub enough_by : (x y : Option ℕ) → x ≡ y → Enough y → Enough x
enough_by x y e h = (h.0, e ∙ h.1)

abbrev OddEnough : ℕ → Type 0
OddEnough n = (x y a b : ℕ) → a < 2 ^ x → b < 2 ^ y → b % 2 ≡ 1 → (x + y) * 2 + a % 2 ≤ n → Enough (odd_left n a b)

halved : (n : ℕ) → OddEnough n → (x y a b : ℕ) → (a ≡ 0 → ⊥) → is_even a ≡ true → a < 2 ^ x → b < 2 ^ y → b % 2 ≡ 1 → (x + y) * 2 + a % 2 ≤ suc n → Enough (odd_left (suc n) a b)
halved n ih zero y a b d e p q o h = absurd (d (none_below a p))
halved n ih (suc x) y a b d e p q o h =
    let l : a / 2 % 2 < 2 = mod-lt (a / 2) (omega arith) in
    enough_by _ _ (odd_even n a b d e) (ih x y (a / 2) b (half_below x a p) q o (omega arith))

subtracted : (n : ℕ) → OddEnough n → (x y a b : ℕ) → (a ≡ 0 → ⊥) → is_even a ≡ false → (v : Bool) → ltb a b ≡ v → a < 2 ^ x → b < 2 ^ y → b % 2 ≡ 1 → (x + y) * 2 + a % 2 ≤ suc n → Enough (odd_left (suc n) a b)
subtracted n ih x y a b d e true t p q o h =
    let l = ltb-true a b t in
    let r = odd_is a e in
    let even : (b - a) % 2 ≡ 0 = omega arith in
    enough_by _ _ (odd_less n a b d e l) (ih y x (b - a) a (omega arith) p r (omega arith))
subtracted n ih x y a b d e false t p q o h =
    let l = ltb-false a b t in
    let r = odd_is a e in
    let even : (a - b) % 2 ≡ 0 = omega arith in
    enough_by _ _ (odd_more n a b d e l) (ih x y (a - b) b (omega arith) q o (omega arith))

step : (n : ℕ) → OddEnough n → (x y a b : ℕ) → (z v : Bool) → eqb a 0 ≡ z → is_even a ≡ v → a < 2 ^ x → b < 2 ^ y → b % 2 ≡ 1 → (x + y) * 2 + a % 2 ≤ suc n → Enough (odd_left (suc n) a b)
step n ih x y a b true v z e p q o h = (suc n, none_done (suc n) a b (eqb-true a 0 z))
step n ih x y a b false true z e p q o h = halved n ih x y a b (eqb-false a 0 z) e p q o h
step n ih x y a b false false z e p q o h = subtracted n ih x y a b (eqb-false a 0 z) e (ltb a b) refl p q o h

-- twice the digits of both numbers in base 2, and one more where the first is odd
odd_enough : (n : ℕ) → OddEnough n
odd_enough zero zero y a b p q o h = (zero, none_done 0 a b (none_below a p))
odd_enough zero (suc x) y a b p q o h = absurd (omega arith)
odd_enough (suc n) x y a b p q o h = step n (odd_enough n) x y a b (eqb a 0) (is_even a) refl refl p q o h

-- ---- a fraction

pub common_even : (n a d : ℕ) → is_even a ≡ true → common_left n a d ≡ odd_left n a d
unfolding common_left
common_even n a d e = rw (e, common_left)

pub common_odd : (n a d : ℕ) → is_even a ≡ false → common_left n a d ≡ odd_left n d a
unfolding common_left
common_odd n a d e = rw (e, common_left)

terms_more : (n a d : ℕ) → both_even a d ≡ true → terms_left (suc (suc n)) a d ≡ terms_left n (a / 2) (d / 2)
unfolding terms_left
terms_more n a d e = rw e

pub terms_last : (n a d : ℕ) → both_even a d ≡ false → terms_left n a d ≡ common_left n a d
unfolding terms_left
terms_last zero a d e = rw e
terms_last (suc zero) a d e = rw e
terms_last (suc (suc n)) a d e = rw e

-- both numbers are halved only where two steps are left
pub terms_some : (n a d : ℕ) → both_even a d ≡ true → Enough (terms_left n a d) → 2 ≤ n
unfolding terms_left
terms_some zero a d e h = absurd (some-ne-none _ (sym (rw e at h.1)))
terms_some (suc zero) a d e h = absurd (some-ne-none _ (sym (rw e at h.1)))
terms_some (suc (suc n)) a d e h = omega arith

both_is : (a d : ℕ) (u v : Bool) → is_even a ≡ u → is_even d ≡ v → both_even a d ≡ (u && v)
unfolding both_even
both_is a d u v e f = rw (e, f)

pub both_of : (a d : ℕ) → both_even a d ≡ true → (is_even a ≡ true) × (is_even d ≡ true)
unfolding both_even
both_of a d h = and_true (is_even a) (is_even d) h

-- of two numbers that are not both even the second is odd where the first is even
pub other_odd : (a d : ℕ) → both_even a d ≡ false → is_even a ≡ true → is_even d ≡ false
unfolding both_even
other_odd a d h e = rw e at h

-- two steps take a digit from each number, and then one is odd
abbrev TermsEnough : ℕ → Type 0
TermsEnough n = (x y a d : ℕ) → a < 2 ^ x → d < 2 ^ y → 0 < d → (x + y) * 2 + 1 ≤ n → Enough (terms_left n a d)

enough_last : (n x y a d : ℕ) (u v : Bool) → is_even a ≡ u → is_even d ≡ v → (u && v) ≡ false → a < 2 ^ x → d < 2 ^ y → (x + y) * 2 + 1 ≤ n → Enough (terms_left n a d)
enough_last n x y a d true true e f k p q h = absurd (false≢true (sym k))
enough_last n x y a d true false e f k p q h =
    enough_by _ _ (terms_last n a d (both_is a d true false e f) ∙ common_even n a d e) (odd_enough n x y a d p q (odd_is d f) (let z = even_is a e in omega arith))
enough_last n x y a d false v e f k p q h =
    let l : d % 2 < 2 = mod-lt d (omega arith) in
    enough_by _ _ (terms_last n a d (both_is a d false v e f) ∙ common_odd n a d e) (odd_enough n y x d a q p (odd_is a e) (omega arith))

enough_halved : (n : ℕ) → TermsEnough n → (x y a d : ℕ) → is_even a ≡ true → is_even d ≡ true → a < 2 ^ x → d < 2 ^ y → 0 < d → (x + y) * 2 + 1 ≤ suc (suc n) → Enough (terms_left (suc (suc n)) a d)
enough_halved n ih x zero a d e f p q s h = absurd (omega (arith, none_below d q))
enough_halved n ih x (suc y) a d e f p q s h =
    let z = even_is d f in
    enough_by _ _ (terms_more n a d (both_is a d true true e f)) (ih x y (a / 2) (d / 2) (omega arith) (half_below y d q) (omega arith) (omega arith))

turn : (n : ℕ) → TermsEnough n → (x y a d : ℕ) (u v : Bool) → is_even a ≡ u → is_even d ≡ v → a < 2 ^ x → d < 2 ^ y → 0 < d → (x + y) * 2 + 1 ≤ suc (suc n) → Enough (terms_left (suc (suc n)) a d)
turn n ih x y a d true true e f p q s h = enough_halved n ih x y a d e f p q s h
turn n ih x y a d true false e f p q s h = enough_last (suc (suc n)) x y a d true false e f refl p q h
turn n ih x y a d false v e f p q s h = enough_last (suc (suc n)) x y a d false v e f refl p q h

terms_enough : (n : ℕ) → TermsEnough n
terms_enough zero x y a d p q s h = absurd (omega arith)
terms_enough (suc zero) x zero a d p q s h = absurd (omega (arith, none_below d q))
terms_enough (suc zero) x (suc y) a d p q s h = absurd (omega arith)
terms_enough (suc (suc n)) x y a d p q s h = turn n (terms_enough n) x y a d (is_even a) (is_even d) refl refl p q s h

-- 149 steps would be enough
pub enough_200 : (a d : ℕ) → a < 2 ^ 59 → 0 < d → d < 2 ^ 15 → Enough (terms_left 200 a d)
enough_200 a d p s q = terms_enough 200 59 15 a d p q s (omega arith)

-- ---- what is left after a step

-- a step is done only where one is left
pub odd_some : (n a b : ℕ) → (a ≡ 0 → ⊥) → Enough (odd_left n a b) → 0 < n
odd_some zero a b d h = absurd (some-ne-none _ (sym h.1 ∙ odd_none a b d))
odd_some (suc n) a b d h = omega arith

module _ (n a b : ℕ) (d : a ≡ 0 → ⊥) (h : Enough (odd_left n a b)) where
  next : (x y : ℕ) → ((m : ℕ) → odd_left (suc m) a b ≡ odd_left m x y) → odd_left n a b ≡ odd_left (n - 1) x y
  next x y by = go n h
    where
      go : (n : ℕ) → Enough (odd_left n a b) → odd_left n a b ≡ odd_left (n - 1) x y
      go zero h = absurd (omega (arith, odd_some zero a b d h))
      go (suc n) h = let z : suc n - 1 ≡ n = omega arith in rw z (by n)

  pub next_even : is_even a ≡ true → odd_left n a b ≡ odd_left (n - 1) (a / 2) b
  next_even e = next (a / 2) b (λ m. odd_even m a b d e)

  pub next_less : is_even a ≡ false → a < b → odd_left n a b ≡ odd_left (n - 1) (b - a) a
  next_less e l = next (b - a) a (λ m. odd_less m a b d e l)

  pub next_more : is_even a ≡ false → b ≤ a → odd_left n a b ≡ odd_left (n - 1) (a - b) b
  next_more e l = next (a - b) b (λ m. odd_more m a b d e l)

pub next_halves : (n a d : ℕ) → both_even a d ≡ true → Enough (terms_left n a d) → terms_left n a d ≡ terms_left (n - 2) (a / 2) (d / 2)
next_halves zero a d e h = absurd (omega (arith, terms_some zero a d e h))
next_halves (suc zero) a d e h = absurd (omega (arith, terms_some (suc zero) a d e h))
next_halves (suc (suc n)) a d e h = let z : suc (suc n) - 2 ≡ n = omega arith in rw z (terms_more n a d e)

-- ---- of one step more one more is left

odd_stepped : (a b : ℕ) (v u : Bool) → (a ≡ 0 → ⊥) → is_even a ≡ v → ltb a b ≡ u → (x : ℕ) × (y : ℕ) × ((n : ℕ) → odd_left (suc n) a b ≡ odd_left n x y)
odd_stepped a b true u d e l = (a / 2, b, λ n. odd_even n a b d e)
odd_stepped a b false true d e l = (b - a, a, λ n. odd_less n a b d e (ltb-true a b l))
odd_stepped a b false false d e l = (a - b, b, λ n. odd_more n a b d e (ltb-false a b l))

done_one_more : (n k a b : ℕ) → a ≡ 0 → odd_left n a b ≡ some k → odd_left (suc n) a b ≡ some (suc k)
done_one_more n k a b e h = none_done (suc n) a b e ∙ ap (λ (m : ℕ). some (suc m)) (some-injective n k (sym (none_done n a b e) ∙ h))

odd_one_more : (n k a b : ℕ) → odd_left n a b ≡ some k → odd_left (suc n) a b ≡ some (suc k)
odd_one_more zero k a b h = go (eqb a 0) refl
  where
    go : (z : Bool) → eqb a 0 ≡ z → odd_left 1 a b ≡ some (suc k)
    go true z = done_one_more zero k a b (eqb-true a 0 z) h
    go false z = absurd (some-ne-none k (sym h ∙ odd_none a b (eqb-false a 0 z)))
odd_one_more (suc n) k a b h = go (eqb a 0) refl (odd_one_more n k)
  where
    go : (z : Bool) → eqb a 0 ≡ z → ((x y : ℕ) → odd_left n x y ≡ some k → odd_left (suc n) x y ≡ some (suc k)) → odd_left (suc (suc n)) a b ≡ some (suc k)
    go true z ih = done_one_more (suc n) k a b (eqb-true a 0 z) h
    go false z ih = let s = odd_stepped a b (is_even a) (ltb a b) (eqb-false a 0 z) refl refl in s.2 (suc n) ∙ ih s.0 s.1 (sym (s.2 n) ∙ h)

common_one_more : (n k a d : ℕ) (v : Bool) → is_even a ≡ v → common_left n a d ≡ some k → common_left (suc n) a d ≡ some (suc k)
common_one_more n k a d true e h = common_even (suc n) a d e ∙ odd_one_more n k a d (sym (common_even n a d e) ∙ h)
common_one_more n k a d false e h = common_odd (suc n) a d e ∙ odd_one_more n k d a (sym (common_odd n a d e) ∙ h)

last-one_more : (n k a d : ℕ) → both_even a d ≡ false → terms_left n a d ≡ some k → terms_left (suc n) a d ≡ some (suc k)
last-one_more n k a d e h = terms_last (suc n) a d e ∙ common_one_more n k a d (is_even a) refl (sym (terms_last n a d e) ∙ h)

few_one_more : (n k a d : ℕ) (v : Bool) → n < 2 → both_even a d ≡ v → terms_left n a d ≡ some k → terms_left (suc n) a d ≡ some (suc k)
few_one_more n k a d true l e h = absurd (omega (arith, l, terms_some n a d e (k, h)))
few_one_more n k a d false l e h = last-one_more n k a d e h

pub terms_one_more : (n k a d : ℕ) → terms_left n a d ≡ some k → terms_left (suc n) a d ≡ some (suc k)
terms_one_more zero k a d h = few_one_more zero k a d (both_even a d) (omega arith) refl h
terms_one_more (suc zero) k a d h = few_one_more (suc zero) k a d (both_even a d) (omega arith) refl h
terms_one_more (suc (suc n)) k a d h = go (both_even a d) refl (terms_one_more n k (a / 2) (d / 2))
  where
    go : (v : Bool) → both_even a d ≡ v → (terms_left n (a / 2) (d / 2) ≡ some k → terms_left (suc n) (a / 2) (d / 2) ≡ some (suc k)) → terms_left (suc (suc (suc n))) a d ≡ some (suc k)
    go true e ih = terms_more (suc n) a d e ∙ ih (sym (terms_more n a d e) ∙ h)
    go false e ih = last-one_more (suc (suc n)) k a d e h
