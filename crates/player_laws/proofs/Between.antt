-- Between two neighbouring keys the sample is not below the smaller value nor above the larger: the line is the first value and a share of the gap.
use mathlib.Core.Path.{◌≡◌, refl, ap, sym, ◌∙◌}
use mathlib.Core.Logic.{◌⊎◌, inl, inr}
use mathlib.Core.Bool.{Bool, true, false, false≢true, true≢false}
use Prim.Native.Nat.{ℕ, zero, suc, ◌+◌, ◌*◌, ◌-◌, ◌/◌, ◌≤◌, ◌<◌}
use native.Mathlib.Nat.{zero-mul, mul-zero, mul-suc, mul-pos, div-mul_cancel}
use native.Mathlib.Omega.{arith}
use borrow.Author.Tests.{leb-true, leb-false, le-leb, lt-ltb, le-ltb}
use lib.Signed.{le_z}
use lib.IntN.{ℤ, pos, negsuc, neg_ℤ, nat_abs, ◌+ℤ◌, ◌-ℤ◌, ◌*ℤ◌, +ℤ_idr, +ℤ_assoc, +ℤ_comm, +ℤ_invl, -ℤ-+ℤ_cancel, *ℤ-zero, *ℤ_comm, suc_ℤ-*ℤ, pos-+ℤ-pos, pos-*ℤ-pos, +ℤ-neg_ℤ_cancel, +ℤ_invr}
use Rattle.player_spec.specs.Fractions.{factor, signed_as, lowest}
use Rattle.tra4_text.specs.Movement.{Key}
use Rattle.player_spec.specs.Samples.{key_frame, key_value, line}
use Rattle.player_fractions.proofs.Factors.{factor_divides, factor_some}
use Rattle.player_laws.specs.Bounds.{AtMost, Bounded, smaller, larger, Between}

-- ---- products with a natural number

times_suc : (a : ℤ) (y : ℕ) → a *ℤ pos (suc y) ≡ a *ℤ pos y +ℤ a
times_suc a y = *ℤ_comm a (pos (suc y)) ∙ suc_ℤ-*ℤ (pos y) a ∙ ap (λ (z : ℤ). z +ℤ a) (*ℤ_comm (pos y) a)

swap : (a b c d : ℤ) → (a +ℤ b) +ℤ (c +ℤ d) ≡ (a +ℤ c) +ℤ (b +ℤ d)
swap a b c d =
    +ℤ_assoc a b (c +ℤ d)
    ∙ ap (λ (z : ℤ). a +ℤ z) (sym (+ℤ_assoc b c d) ∙ ap (λ (z : ℤ). z +ℤ d) (+ℤ_comm b c) ∙ +ℤ_assoc c b d)
    ∙ sym (+ℤ_assoc a c (b +ℤ d))

pub times_sum : (a b : ℤ) (y : ℕ) → (a +ℤ b) *ℤ pos y ≡ a *ℤ pos y +ℤ b *ℤ pos y
times_sum a b zero = *ℤ-zero (a +ℤ b) ∙ sym (ap (λ (z : ℤ). z +ℤ b *ℤ pos 0) (*ℤ-zero a) ∙ ap (λ (z : ℤ). pos 0 +ℤ z) (*ℤ-zero b))
times_sum a b (suc y) =
    times_suc (a +ℤ b) y
    ∙ ap (λ (z : ℤ). z +ℤ (a +ℤ b)) (times_sum a b y)
    ∙ swap (a *ℤ pos y) (b *ℤ pos y) a b
    ∙ sym (ap (λ (z : ℤ). z +ℤ b *ℤ pos (suc y)) (times_suc a y) ∙ ap (λ (z : ℤ). (a *ℤ pos y +ℤ a) +ℤ z) (times_suc b y))

pub times_both : (a : ℤ) (x y : ℕ) → a *ℤ pos (x + y) ≡ a *ℤ pos x +ℤ a *ℤ pos y
times_both a x zero = let e : x + 0 ≡ x = omega arith in ap (λ (n : ℕ). a *ℤ pos n) e ∙ sym (ap (λ (z : ℤ). a *ℤ pos x +ℤ z) (*ℤ-zero a) ∙ +ℤ_idr (a *ℤ pos x))
times_both a x (suc y) =
    let e : x + suc y ≡ suc (x + y) = omega arith in
    ap (λ (n : ℕ). a *ℤ pos n) e
    ∙ times_suc a (x + y)
    ∙ ap (λ (z : ℤ). z +ℤ a) (times_both a x y)
    ∙ +ℤ_assoc (a *ℤ pos x) (a *ℤ pos y) a
    ∙ ap (λ (z : ℤ). a *ℤ pos x +ℤ z) (sym (times_suc a y))

pub times_times : (a : ℤ) (x y : ℕ) → a *ℤ pos x *ℤ pos y ≡ a *ℤ pos (x * y)
times_times a x zero = *ℤ-zero (a *ℤ pos x) ∙ sym (ap (λ (n : ℕ). a *ℤ pos n) (mul-zero x) ∙ *ℤ-zero a)
times_times a x (suc y) = times_suc (a *ℤ pos x) y ∙ ap (λ (z : ℤ). z +ℤ a *ℤ pos x) (times_times a x y) ∙ sym (ap (λ (n : ℕ). a *ℤ pos n) (mul-suc x y) ∙ times_both a (x * y) x)

-- ---- a share of the gap

-- from the first value
pub share_above : (v w : ℤ) (x y : ℕ) → AtMost v w → AtMost (v *ℤ pos (x + y)) (v *ℤ pos x +ℤ w *ℤ pos y)
share_above v w x y h =
    record {
      gap = h.gap * y;
      is =
          ap (λ (z : ℤ). v *ℤ pos x +ℤ z *ℤ pos y) h.is
          ∙ ap (λ (z : ℤ). v *ℤ pos x +ℤ z) (times_sum v (pos h.gap) y ∙ ap (λ (z : ℤ). v *ℤ pos y +ℤ z) (pos-*ℤ-pos h.gap y))
          ∙ sym (+ℤ_assoc (v *ℤ pos x) (v *ℤ pos y) (pos (h.gap * y)))
          ∙ ap (λ (z : ℤ). z +ℤ pos (h.gap * y)) (sym (times_both v x y));
    }

-- to the second
pub share_below : (v w : ℤ) (x y : ℕ) → AtMost v w → AtMost (v *ℤ pos x +ℤ w *ℤ pos y) (w *ℤ pos (x + y))
share_below v w x y h =
    record {
      gap = h.gap * x;
      is =
          times_both w x y
          ∙ ap (λ (z : ℤ). z *ℤ pos x +ℤ w *ℤ pos y) h.is
          ∙ ap (λ (z : ℤ). z +ℤ w *ℤ pos y) (times_sum v (pos h.gap) x ∙ ap (λ (z : ℤ). v *ℤ pos x +ℤ z) (pos-*ℤ-pos h.gap x))
          ∙ +ℤ_assoc (v *ℤ pos x) (pos (h.gap * x)) (w *ℤ pos y)
          ∙ ap (λ (z : ℤ). v *ℤ pos x +ℤ z) (+ℤ_comm (pos (h.gap * x)) (w *ℤ pos y))
          ∙ sym (+ℤ_assoc (v *ℤ pos x) (w *ℤ pos y) (pos (h.gap * x)));
    }

-- ---- one of two is at most the other

by_gap : (a b d : ℤ) → b -ℤ a ≡ d → AtMost a b ⊎ AtMost (b +ℤ pos 1) a
by_gap a b (pos n) e = inl (record { gap = n; is = sym (-ℤ-+ℤ_cancel b a) ∙ ap (λ (z : ℤ). z +ℤ a) e ∙ +ℤ_comm (pos n) a })
by_gap a b (negsuc n) e = inr (record { gap = n; is = sym more })
  where
    less : b ≡ negsuc n +ℤ a
    less = sym (-ℤ-+ℤ_cancel b a) ∙ ap (λ (z : ℤ). z +ℤ a) e

    back : b +ℤ pos (suc n) ≡ a
    back =
        ap (λ (z : ℤ). z +ℤ pos (suc n)) (less ∙ +ℤ_comm (negsuc n) a)
        ∙ +ℤ_assoc a (negsuc n) (pos (suc n))
        ∙ ap (λ (z : ℤ). a +ℤ z) (+ℤ_invl (pos (suc n)))
        ∙ +ℤ_idr a

    more : b +ℤ pos 1 +ℤ pos n ≡ a
    more = let e : 1 + n ≡ suc n = omega arith in +ℤ_assoc b (pos 1) (pos n) ∙ ap (λ (m : ℕ). b +ℤ pos m) e ∙ back

no_gap : (z : ℤ) (m : ℕ) → z ≡ z +ℤ pos m → m ≡ 0
no_gap z m e = number (sym (+ℤ-neg_ℤ_cancel (pos m) z) ∙ ap (λ (y : ℤ). y -ℤ z) (+ℤ_comm (pos m) z ∙ sym e) ∙ +ℤ_invr z)
  where
    number : pos m ≡ pos 0 → m ≡ 0
    number q = cc

-- a common factor is taken out of both sides
cancel : (a b : ℤ) (g : ℕ) → 0 < g → AtMost (a *ℤ pos g) (b *ℤ pos g) → AtMost a b
cancel a b g h l = go (by_gap a b (b -ℤ a) refl)
  where
    go : AtMost a b ⊎ AtMost (b +ℤ pos 1) a → AtMost a b
    go (inl m) = m
    go (inr m) =
        let k = 1 + m.gap in
        let e : a ≡ b +ℤ pos k = m.is ∙ +ℤ_assoc b (pos 1) (pos m.gap) in
        let f : a *ℤ pos g ≡ b *ℤ pos g +ℤ pos (k * g) = ap (λ (z : ℤ). z *ℤ pos g) e ∙ times_sum b (pos k) g ∙ ap (λ (z : ℤ). b *ℤ pos g +ℤ z) (pos-*ℤ-pos k g) in
        let c : b *ℤ pos g ≡ b *ℤ pos g +ℤ pos (k * g + l.gap) = l.is ∙ ap (λ (z : ℤ). z +ℤ pos l.gap) f ∙ +ℤ_assoc (b *ℤ pos g) (pos (k * g)) (pos l.gap) ∙ ap (λ (z : ℤ). b *ℤ pos g +ℤ z) (pos-+ℤ-pos (k * g) l.gap) in
        let z = no_gap (b *ℤ pos g) (k * g + l.gap) c in
        let p : 0 < k * g = mul-pos {m = k} {n = g} (omega arith) h in
        absurd (omega (arith, z, p))

-- ---- lowest terms are the fraction

negative_times : (q g : ℕ) → neg_ℤ (pos q) *ℤ pos g ≡ neg_ℤ (pos (q * g))
negative_times zero g = rw (zero-mul g)
negative_times (suc q) g = refl

signed_times : (z : ℤ) (q g : ℕ) → q * g ≡ nat_abs z → signed_as z q *ℤ pos g ≡ z
unfolding signed_as
signed_times (pos n) q g e = ap pos e
signed_times (negsuc n) q g e = negative_times q g ∙ ap (λ (m : ℕ). neg_ℤ (pos m)) e

module _ (z : ℤ) (d : ℕ) (h : 0 < d) where
  abbrev common : ℕ
  common = factor (nat_abs z) d

  pub numerator-is : (lowest z d).numerator *ℤ pos common ≡ z
  unfolding lowest
  numerator-is = signed_times z (nat_abs z / common) common (div-mul_cancel _ (factor_divides (nat_abs z) d).0)

  pub denominator-is : (lowest z d).denominator * common ≡ d
  unfolding lowest
  denominator-is = div-mul_cancel _ (factor_divides (nat_abs z) d).1

  common_some : 0 < common
  common_some = factor_some (nat_abs z) d h

  pub above : (v : ℤ) → AtMost (v *ℤ pos d) z → AtMost (v *ℤ pos (lowest z d).denominator) (lowest z d).numerator
  above v l = cancel (v *ℤ pos (lowest z d).denominator) (lowest z d).numerator common common_some (record { gap = l.gap; is = numerator-is ∙ l.is ∙ ap (λ (y : ℤ). y +ℤ pos l.gap) (scaled v) })
    where
      scaled : (y : ℤ) → y *ℤ pos d ≡ y *ℤ pos (lowest z d).denominator *ℤ pos common
      scaled y = ap (λ (n : ℕ). y *ℤ pos n) (sym denominator-is) ∙ sym (times_times y (lowest z d).denominator common)

  pub below : (v : ℤ) → AtMost z (v *ℤ pos d) → AtMost (lowest z d).numerator (v *ℤ pos (lowest z d).denominator)
  below v l =
      cancel (lowest z d).numerator (v *ℤ pos (lowest z d).denominator) common common_some
      (record { gap = l.gap; is = times_times v (lowest z d).denominator common ∙ ap (λ (n : ℕ). v *ℤ pos n) denominator-is ∙ l.is ∙ ap (λ (y : ℤ). y +ℤ pos l.gap) (sym numerator-is) })

-- ---- 2. between two neighbouring keys

module _ (k n : Key) (at : ℕ) (h : key_frame k ≤ at) (l : at < key_frame n) where
  span : (key_frame n - at) + (at - key_frame k) ≡ key_frame n - key_frame k
  span = omega arith

  line_rising : AtMost (key_value k) (key_value n) → Bounded (key_value k) (key_value n) (line k n at)
  unfolding line
  line_rising m =
      record {
        above_low = above _ _ (omega arith) (key_value k) (rw span at (share_above (key_value k) (key_value n) (key_frame n - at) (at - key_frame k) m));
        below_high = below _ _ (omega arith) (key_value n) (rw span at (share_below (key_value k) (key_value n) (key_frame n - at) (at - key_frame k) m));
      }

  back : (at - key_frame k) + (key_frame n - at) ≡ key_frame n - key_frame k
  back = omega arith

  line_falling : AtMost (key_value n) (key_value k) → Bounded (key_value n) (key_value k) (line k n at)
  unfolding line
  line_falling m =
      let other = +ℤ_comm (key_value n *ℤ pos (at - key_frame k)) (key_value k *ℤ pos (key_frame n - at)) in
      record {
        above_low = above _ _ (omega arith) (key_value n) (rw (back, other) at (share_above (key_value n) (key_value k) (at - key_frame k) (key_frame n - at) m));
        below_high = below _ _ (omega arith) (key_value k) (rw (back, other) at (share_below (key_value n) (key_value k) (at - key_frame k) (key_frame n - at) m));
      }

-- ---- whichever value is the smaller

at_most : (a b : ℤ) → le_z a b ≡ true → AtMost a b
at_most (pos a) (pos b) e =
    let l = leb-true a b e in
    let g : b ≡ a + (b - a) = omega arith in
    record { gap = b - a; is = ap pos g }
at_most (pos a) (negsuc b) e = absurd (false≢true e)
at_most (negsuc a) (pos b) e =
    let g : b ≡ suc a + b - suc a = omega arith in
    record { gap = suc a + b; is = ap pos g ∙ sym (rw (le-ltb (suc a + b) (suc a) (omega arith))) }
at_most (negsuc a) (negsuc b) e =
    let l = leb-true b a e in
    let g : b ≡ suc a - suc (a - b) = omega arith in
    record { gap = a - b; is = ap negsuc g ∙ sym (rw (lt-ltb (a - b) (suc a) (omega arith))) }

-- if not the one, then the other
turned : (a b : ℤ) → le_z a b ≡ false → le_z b a ≡ true
turned (pos a) (pos b) e = le-leb b a (let l = leb-false a b e in omega arith)
turned (pos a) (negsuc b) e = refl
turned (negsuc a) (pos b) e = absurd (true≢false e)
turned (negsuc a) (negsuc b) e = le-leb a b (let l = leb-false b a e in omega arith)

pub line-between : (k n : Key) (at : ℕ) → key_frame k ≤ at → at < key_frame n → Between (key_value k) (key_value n) (line k n at)
unfolding smaller larger
line-between k n at h l = go (le_z (key_value k) (key_value n)) refl
  where
    go : (v : Bool) → le_z (key_value k) (key_value n) ≡ v → Between (key_value k) (key_value n) (line k n at)
    go true e = rw (e, smaller, larger) (line_rising k n at h l (at_most (key_value k) (key_value n) e))
    go false e = rw (e, smaller, larger) (line_falling k n at h l (at_most (key_value n) (key_value k) (turned (key_value k) (key_value n) e)))
