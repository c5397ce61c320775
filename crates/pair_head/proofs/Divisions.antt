-- Where a figure ends, by the tests on its length.
use mathlib.Core.Path.{◌≡◌, refl, sym, ◌∙◌}
use mathlib.Core.Bool.{Bool, true, false}
use mathlib.Core.List.{List}
use mathlib.Core.Option.{Option, none, some}
use Prim.Native.Nat.{ℕ, ◌+◌, ◌-◌, ◌≤◌, ◌<◌}
use native.Mathlib.Omega.{arith}
use borrow.Author.Tests.{le-leb, lt-leb, leb-true, leb-false}
use lib.Dec.{leb}
use lib.ListN.{length, take, length-take}
use lib.Seq.{take-take, length-take-le}
use Rattle.pair_head.specs.Division.{figure, refused, head_of, divided_at, divided_by, divided}
use Rattle.pair_head.proofs.Heads.{head-size}
use Rattle.pair_head.specs.Answers.{length_named}
use Rattle.std.proofs.Common.{Option as Optional, Some, None}

module _ (left more n : ℕ) where
  pub held : n ≤ 65536 → n ≤ left → divided_at left more n ≡ figure (9 + n)
  unfolding divided_at
  held h k = rw (le-leb n 65536 h, le-leb n left k, divided_at)

  pub past : n ≤ 65536 → left < n → divided_at left more n ≡ refused 2
  unfolding divided_at
  past h k = rw (le-leb n 65536 h, lt-leb n left k, divided_at)

  pub long : 65536 < n → n ≤ left + more → divided_at left more n ≡ refused 1
  unfolding divided_at
  long h k = rw (lt-leb n 65536 h, le-leb n (left + more) k, divided_at)

  pub long_past : 65536 < n → left + more < n → divided_at left more n ≡ refused 2
  unfolding divided_at
  long_past h k = rw (lt-leb n 65536 h, lt-leb n (left + more) k, divided_at)

module _ (text : List ℕ) (more : ℕ) where
  pub too_short : length text < 9 → divided text more ≡ refused 2
  unfolding divided divided_by
  too_short h = rw (head-size (take 9 text) (λ e. omega (arith, length-take 9 text)))

  -- by what is read of the first nine bytes
  module _ (h : Optional ℕ) (e : length_named h ≡ head_of (take 9 text)) where
    pub by_length : (n : ℕ) → h ≡ Some n → divided text more ≡ divided_at (length text - 9) more n
    unfolding divided divided_by length_named
    by_length n q = rw (sym e, q)

    pub by_none : h ≡ None → divided text more ≡ refused 2
    unfolding divided divided_by length_named
    by_none q = rw (sym e, q)

-- a figure's length that the head gives, where k bytes of an input of size are at hand
cut_at : (k size n : ℕ) → 65545 ≤ k → k ≤ size → divided_at (k - 9) (size - k) n ≡ divided_at (size - 9) 0 n
cut_at k size n h l = go (leb n 65536) refl (leb n (size - 9)) refl
  where
    go : (v : Bool) → leb n 65536 ≡ v → (w : Bool) → leb n (size - 9) ≡ w → divided_at (k - 9) (size - k) n ≡ divided_at (size - 9) 0 n
    go true e w f =
        let s : n ≤ 65536 = leb-true n 65536 e in
        held (k - 9) (size - k) n s (omega arith) ∙ sym (held (size - 9) 0 n s (omega arith))
    go false e true f =
        let s : 65536 < n = leb-false n 65536 e in
        let t : n ≤ size - 9 = leb-true n (size - 9) f in
        long (k - 9) (size - k) n s (omega arith) ∙ sym (long (size - 9) 0 n s (omega arith))
    go false e false f =
        let s : 65536 < n = leb-false n 65536 e in
        let t : size - 9 < n = leb-false n (size - 9) f in
        long_past (k - 9) (size - k) n s (omega arith) ∙ sym (long_past (size - 9) 0 n s (omega arith))

-- the first 65,545 bytes of an input, and how many follow, say where its figure ends
pub cut-same : (input : List ℕ) (k : ℕ) → 65545 ≤ k → k ≤ length input → divided (take k input) (length input - k) ≡ divided input 0
unfolding divided
cut-same input k h l = rw (take-take 9 k input (omega arith), length-take-le k input l) (go (head_of (take 9 input)))
  where
    go : (o : Option ℕ) → divided_by (k - 9) (length input - k) o ≡ divided_by (length input - 9) 0 o
    go none = unfold divided_by in refl
    go (some n) = unfold divided_by in cut_at k (length input) n h l
