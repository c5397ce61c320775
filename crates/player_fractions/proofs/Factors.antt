-- The common factor divides both numbers and every common divisor divides it, by induction on the turns; that alone says which number it is, so a subtraction and a halving of an even number beside an odd one leave it as it is.
use mathlib.Core.Path.{◌≡◌, refl, ap, ap₂, sym, ◌∙◌}
use mathlib.Core.Bool.{Bool, true, false}
use Prim.Native.Nat.{ℕ, zero, suc, ◌+◌, ◌-◌, ◌*◌, ◌/◌, ◌%◌, ◌≤◌, ◌<◌, ◌∣◌}
use native.Mathlib.Nat.{mod-add-div', mul-div-mul_right, mul_assoc, zero-mul, mul-pos, mul-suc, mul-mod_left, pos_of_dvd_of_pos, dvd_refl, dvd-zero, dvd-mod_iff, mod-lt, dvd_antisymm, dvd-sub, dvd-add, dvd-mul_left_of_dvd, dvd-mul_right, dvd_trans, mod-eq-zero_of_dvd, dvd_of_mod-eq-zero, add-mul, mul-add, two-mul, one-mul}
use native.Mathlib.Omega.{arith}
use borrow.Author.Tests.{eqb-true, eqb-false, eq-eqb, ne_eqb}
use lib.Dec.{eqb}
use Rattle.player_spec.specs.Fractions.{factor_in, factor}

last_turn : (n a b : ℕ) → eqb b 0 ≡ true → factor_in (suc n) a b ≡ a
unfolding factor_in
last_turn n a b e = rw (e, factor_in)

next_turn : (n a b : ℕ) → eqb b 0 ≡ false → factor_in (suc n) a b ≡ factor_in n b (a % b)
unfolding factor_in
next_turn n a b e = rw (e, factor_in)

-- ---- turns enough

more_turns : (n m a b : ℕ) → b < n → b < m → factor_in n a b ≡ factor_in m a b
more_turns zero m a b h k = absurd (omega arith)
more_turns (suc n) zero a b h k = absurd (omega arith)
more_turns (suc n) (suc m) a b h k = go (eqb b 0) refl (more_turns n m b (a % b))
  where
    go : (v : Bool) → eqb b 0 ≡ v → (a % b < n → a % b < m → factor_in n b (a % b) ≡ factor_in m b (a % b)) → factor_in (suc n) a b ≡ factor_in (suc m) a b
    go true e ih = last_turn n a b e ∙ sym (last_turn m a b e)
    go false e ih =
        let some : 0 < b = let d = eqb-false b 0 e in omega arith in
        let less = mod-lt a some in
        next_turn n a b e ∙ ih (omega (arith, less, h)) (omega (arith, less, k)) ∙ sym (next_turn m a b e)

-- ---- a common divisor

divides_in : (n a b : ℕ) → b < n → (factor_in n a b ∣ a) × (factor_in n a b ∣ b)
divides_in zero a b h = absurd (omega arith)
divides_in (suc n) a b h = go (eqb b 0) refl (divides_in n b (a % b))
  where
    go : (v : Bool) → eqb b 0 ≡ v → (a % b < n → (factor_in n b (a % b) ∣ b) × (factor_in n b (a % b) ∣ a % b)) → (factor_in (suc n) a b ∣ a) × (factor_in (suc n) a b ∣ b)
    go true e ih = rw (last_turn n a b e) (dvd_refl a, rw (eqb-true b 0 e) (dvd-zero a))
    go false e ih =
        let some : 0 < b = let d = eqb-false b 0 e in omega arith in
        let less = mod-lt a some in
        let both = ih (omega (arith, less, h)) in
        rw (next_turn n a b e) ((dvd-mod_iff _ both.0).0 both.1, both.0)

pub factor_divides : (a b : ℕ) → (factor a b ∣ a) × (factor a b ∣ b)
unfolding factor
factor_divides a b = divides_in (suc b) a b (omega arith)

-- ---- and the greatest

greatest_in : (n a b d : ℕ) → b < n → d ∣ a → d ∣ b → d ∣ factor_in n a b
greatest_in zero a b d h p q = absurd (omega arith)
greatest_in (suc n) a b d h p q = go (eqb b 0) refl (greatest_in n b (a % b) d)
  where
    go : (v : Bool) → eqb b 0 ≡ v → (a % b < n → d ∣ b → d ∣ a % b → d ∣ factor_in n b (a % b)) → d ∣ factor_in (suc n) a b
    go true e ih = rw (last_turn n a b e) p
    go false e ih =
        let some : 0 < b = let z = eqb-false b 0 e in omega arith in
        let less = mod-lt a some in
        rw (next_turn n a b e) (ih (omega (arith, less, h)) q ((dvd-mod_iff _ q).1 p))

pub factor-greatest : (a b d : ℕ) → d ∣ a → d ∣ b → d ∣ factor a b
unfolding factor
factor-greatest a b d p q = greatest_in (suc b) a b d (omega arith) p q

-- ---- what it is, without turns

pub factor_unique : (a b g : ℕ) → g ∣ a → g ∣ b → ((d : ℕ) → d ∣ a → d ∣ b → d ∣ g) → g ≡ factor a b
factor_unique a b g p q h = let both = factor_divides a b in dvd_antisymm (factor-greatest a b g p q) (h (factor a b) both.0 both.1)

pub factor-zero : (b : ℕ) → b ≡ factor 0 b
factor-zero b = factor_unique 0 b b (dvd-zero b) (dvd_refl b) (λ d p q. q)

pub factor_swap : (a b : ℕ) → factor b a ≡ factor a b
factor_swap a b = let both = factor_divides b a in factor_unique a b (factor b a) both.1 both.0 (λ d p q. factor-greatest b a d q p)

pub factor_less : (a b : ℕ) → a ≤ b → factor (b - a) a ≡ factor a b
factor_less a b h =
    let both = factor_divides (b - a) a in
    let sum : b - a + a ≡ b = omega arith in
    factor_unique a b (factor (b - a) a) both.1 (rw sum at (dvd-add _ both.0 both.1)) (λ d p q. factor-greatest (b - a) a d (dvd-sub d q p) p)

pub factor-rest : (a b : ℕ) → b ≤ a → factor (a - b) b ≡ factor a b
factor-rest a b h = factor_less b a h ∙ factor_swap a b

-- an odd divisor of twice a number divides the number
odd_divides : (d h : ℕ) → d % 2 ≡ 1 → d ∣ 2 * h → d ∣ h
odd_divides d h o p =
    let k = d / 2 in
    let is : d ≡ k + k + 1 = omega arith in
    let whole : d * h ≡ k * h + k * h + h = ap (λ (x : ℕ). x * h) is ∙ add-mul (k + k) 1 h ∙ ap₂ ◌+◌ (add-mul k k h) (one-mul h) in
    let twice : k * (2 * h) ≡ k * h + k * h = ap (λ (x : ℕ). k * x) (two-mul h) ∙ mul-add k h h in
    let e : d * h - k * (2 * h) ≡ h = omega (arith, whole, twice) in
    rw e at (dvd-sub d (dvd-mul_right d h) (dvd-mul_left_of_dvd d p k))

odd_factors : (d b : ℕ) → b % 2 ≡ 1 → d ∣ b → d % 2 ≡ 1
odd_factors d b o p = go (d % 2) refl (mod-lt d (omega arith))
  where
    go : (r : ℕ) → d % 2 ≡ r → d % 2 < 2 → d % 2 ≡ 1
    go zero e l = let z = mod-eq-zero_of_dvd 2 (dvd_trans 2 (dvd_of_mod-eq-zero 2 e) p) in absurd (omega (arith, z, o))
    go (suc zero) e l = e
    go (suc (suc r)) e l = absurd (omega arith)

pub factor_half : (a b : ℕ) → a % 2 ≡ 0 → b % 2 ≡ 1 → factor (a / 2) b ≡ factor a b
factor_half a b e o =
    let both = factor_divides (a / 2) b in
    let twice : 2 * (a / 2) ≡ a = omega arith in
    factor_unique a b (factor (a / 2) b) (rw twice at (dvd-mul_left_of_dvd _ both.0 2)) both.1
    (λ d p q. factor-greatest (a / 2) b d (odd_divides d (a / 2) (odd_factors d b o q) (rw twice p)) q)

-- ---- both numbers times a third

mod_scaled : (a b k : ℕ) → 0 < k → a * k % (b * k) ≡ a % b * k
mod_scaled a b k h =
    let q = a / b in
    let d : a * k / (b * k) ≡ q = mul-div-mul_right a b h in
    let e : a % b + q * b ≡ a = mod-add-div' a b in
    let f : a * k % (b * k) + q * (b * k) ≡ a * k = ap (λ (x : ℕ). a * k % (b * k) + x * (b * k)) (sym d) ∙ mod-add-div' (a * k) (b * k) in
    let g : a % b * k + q * (b * k) ≡ a * k = ap (λ (x : ℕ). a % b * k + x) (sym (mul_assoc q b k)) ∙ sym (add-mul (a % b) (q * b) k) ∙ ap (λ (x : ℕ). x * k) e in
    omega (arith, f, g)

scaled_in : (n a b k : ℕ) → 0 < k → factor_in n (a * k) (b * k) ≡ factor_in n a b * k
unfolding factor_in
scaled_in zero a b k h = refl
scaled_in (suc n) a b k h = go (eqb b 0) refl (scaled_in n b (a % b) k h)
  where
    go : (v : Bool) → eqb b 0 ≡ v → factor_in n (b * k) (a % b * k) ≡ factor_in n b (a % b) * k → factor_in (suc n) (a * k) (b * k) ≡ factor_in (suc n) a b * k
    go true e ih =
        let z : b * k ≡ 0 = ap (λ (x : ℕ). x * k) (eqb-true b 0 e) ∙ zero-mul k in
        last_turn n (a * k) (b * k) (eq-eqb (b * k) 0 z) ∙ ap (λ (x : ℕ). x * k) (sym (last_turn n a b e))
    go false e ih =
        let some : 0 < b = let d = eqb-false b 0 e in omega arith in
        let more : 0 < b * k = mul-pos some h in
        next_turn n (a * k) (b * k) (ne_eqb (b * k) 0 (λ z. omega arith))
        ∙ ap (λ (x : ℕ). factor_in n (b * k) x) (mod_scaled a b k h)
        ∙ ih
        ∙ ap (λ (x : ℕ). x * k) (sym (next_turn n a b e))

pub factor_scaled : (a b k : ℕ) → 0 < k → factor (a * k) (b * k) ≡ factor a b * k
unfolding factor
factor_scaled a b k h =
    let l : b ≤ b * k = le_of_mul b k h in
    scaled_in (suc (b * k)) a b k h ∙ ap (λ (x : ℕ). x * k) (more_turns (suc (b * k)) (suc b) a b (omega arith) (omega arith))
  where
    le_of_mul : (b k : ℕ) → 0 < k → b ≤ b * k
    le_of_mul b zero h = absurd (omega arith)
    le_of_mul b (suc k) h = let e = mul-suc b k in omega arith

-- a fraction whose numbers are both halved
pub terms_halves : (a d : ℕ) → a % 2 ≡ 0 → d % 2 ≡ 0 → (a / 2 / factor (a / 2) (d / 2) ≡ a / factor a d) × (d / 2 / factor (a / 2) (d / 2) ≡ d / factor a d)
terms_halves a d e o =
    let numerator : a / 2 * 2 ≡ a = omega arith in
    let denominator : d / 2 * 2 ≡ d = omega arith in
    let g = factor (a / 2) (d / 2) in
    let two : 0 < 2 = omega arith in
    let f : factor a d ≡ g * 2 = ap₂ factor (sym numerator) (sym denominator) ∙ factor_scaled (a / 2) (d / 2) 2 two in
    (sym (ap₂ ◌/◌ (sym numerator) f ∙ mul-div-mul_right (a / 2) g two), sym (ap₂ ◌/◌ (sym denominator) f ∙ mul-div-mul_right (d / 2) g two))

pub factor_some : (a b : ℕ) → 0 < b → 0 < factor a b
factor_some a b h = pos_of_dvd_of_pos (factor_divides a b).1 h

-- of a multiple
pub multiple_factor : (a d : ℕ) → 0 < d → factor (a * d) d ≡ d
unfolding factor
multiple_factor a zero h = absurd (omega arith)
multiple_factor a (suc d) h = next_turn (suc d) (a * suc d) (suc d) (ne_eqb (suc d) 0 (λ q. omega arith)) ∙ rw (mul-mod_left a (suc d)) (last_turn d (suc d) 0 refl)
