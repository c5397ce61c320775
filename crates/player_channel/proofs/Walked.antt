-- A pass over rows of a table: each turn is the next row, and the first is tested alone.
use mathlib.Core.Path.{◌≡◌, refl, ap, sym, ◌∙◌}
use mathlib.Core.List.{List, [], ◌∷◌}
use mathlib.Core.Bool.{Bool, true, false, ◌&&◌, and-false}
use mathlib.Core.Option.{Option, none}
use Prim.Native.Nat.{ℕ, suc, ◌+◌, ◌*◌, ◌-◌, ◌≤◌, ◌<◌}
use native.Mathlib.Omega.{arith}
use borrow.Author.Tests.{lt-ltb, eqb-true}
use lib.Dec.{leb, ltb, eqb}
use lib.IntN.{ℤ, pos, negsuc, nat_abs}
use lib.ListN.{get_or}
use Rattle.tra4_text.specs.Movement.{Key, frame_of}
use Rattle.tra4_text.specs.Rules.{is_frame, is_zero, rises, key_fine}
use Rattle.player_channel.specs.declared.pass.Pass.{Pass}
use Rattle.player_spec.specs.Fractions.{Fraction}
use Rattle.player_spec.specs.Samples.{key_value, standing}
use Rattle.table_columns.specs.Parts.{numbers_at, rows_at}
use Rattle.player_spec.specs.Lookups.{is_float}
use Rattle.player_channel.specs.Internal.Pass.{may_follow, or_last, pass_from, pass_over}
use Rattle.player_channel.specs.Internal.Passing.{key_of, known, state_of, then_from, said, finished, Begun, KeyRows}
use Rattle.std.specs.Prelude.{Some, None}
use Rattle.table_columns.proofs.Parts.{two_at}
use Rattle.tra4_text.proofs.Zero.{zero_is}

-- ---- the rows left

rows-one : (keys : List ℤ) (j n m : ℕ) → n ≡ suc m → rows_at 2 keys j n ≡ numbers_at keys j 2 ∷ rows_at 2 keys (j + 2) m
unfolding rows_at
rows-one keys j n m e = rw e

-- ---- a key at frame 0

first_fine : (total f v : ℤ) → total ≡ pos (nat_abs total) → 0 < nat_abs total → key_fine total none (f ∷ v ∷ []) ≡ is_zero f
unfolding key_fine is_frame rises frame_of is_zero
first_fine (negsuc t) f v e h = let z : ◌≡◌ {A = ℕ} 0 1 = cc in absurd (omega (arith, z))
first_fine (pos t) (negsuc n) v e h = refl
first_fine (pos t) (pos n) v e h = go (eqb n 0) refl
  where
    go : (b : Bool) → eqb n 0 ≡ b → (leb 0 n && ltb n t && eqb n 0) ≡ eqb n 0
    go true o = rw (eqb-true n 0 o) (rw (lt-ltb 0 t h))
    go false o = rw o (and-false (leb 0 n && ltb n t))

-- the keys after a first that may be one
unfoldable if_true : Bool → Option Fraction → Option Fraction
if_true true a = a
if_true false a = none

-- a step that ends the pass, or goes on
pub stopped : (total : ℤ) (at : ℕ) (ks : List Key) → none ≡ then_from total at None ks
unfolding then_from
stopped total at ks = refl

pub goes_on : (total : ℤ) (at : ℕ) (r : Pass) (ks : List Key) → then_from total at (Some r) ks ≡ pass_from total at (key_of r) (state_of r) ks
unfolding then_from
goes_on total at r ks = refl

module _ (keys : List ℤ) (count : ℕ) (total : ℤ) (at : ℕ) (k : KeyRows keys count total) where
  abbrev pub left : ℕ → List Key
  left i = rows_at 2 keys (i * 2) (count - i)

  pub left_more : (i : ℕ) → i < count → left i ≡ (get_or keys (i * 2) (pos 0) ∷ get_or keys (i * 2 + 1) (pos 0) ∷ []) ∷ left (i + 1)
  left_more i h =
      let r = k.rows in
      let e : i * 2 + 2 ≡ (i + 1) * 2 = omega arith in
      rows-one keys (i * 2) (count - i) (count - (i + 1)) (omega arith)
      ∙ ap (λ (x : Key). x ∷ rows_at 2 keys (i * 2 + 2) (count - (i + 1))) (two_at keys (i * 2) (omega arith))
      ∙ ap (λ (n : ℕ). (get_or keys (i * 2) (pos 0) ∷ get_or keys (i * 2 + 1) (pos 0) ∷ []) ∷ rows_at 2 keys n (count - (i + 1))) e

  pub left_none : (i : ℕ) → count ≤ i → left i ≡ []
  left_none i h = let e : count - i ≡ 0 = omega arith in ap (λ (n : ℕ). rows_at 2 keys (i * 2) n) e ∙ unfold rows_at in refl

  abbrev pub first : Key
  first = get_or keys 0 (pos 0) ∷ get_or keys 1 (pos 0) ∷ []

  -- ---- the end

  pub ended : (p : Pass) (i : ℕ) → count ≤ i → finished (Some p) ≡ pass_from total at (key_of p) (state_of p) (left i)
  unfolding finished said
  ended p i h = sym (ap (pass_from total at (key_of p) (state_of p)) (left_none i h) ∙ unfold pass_from in refl)

  module _ (channel : ℕ) where
    -- no key
    pub at_rest : (p : Pass) → count ≡ 0 → Begun p (standing channel) → finished (Some p) ≡ pass_over total channel at (rows_at 2 keys 0 count)
    unfolding finished said state_of known or_last key_of key_value pass_over rows_at
    at_rest p e b = rw (e, b.unknown, b.here) refl

    module _ (some-row : count ≡ 0 → ⊥) where
      pub all-rows : rows_at 2 keys 0 count ≡ first ∷ left 1
      all-rows = ap (λ (n : ℕ). rows_at 2 keys 0 n) (let z : count ≡ count - 0 = omega arith in z) ∙ left_more 0 (omega (arith, some-row))

      -- ---- the first key

      over_first : pass_over total channel at (rows_at 2 keys 0 count) ≡ if_true (may_follow total none first) (pass_from total at first none (left 1))
      over_first = ap (pass_over total channel at) all-rows ∙ branch (may_follow total none first) refl
        where
          branch : (b : Bool) → may_follow total none first ≡ b → pass_over total channel at (first ∷ left 1) ≡ if_true (may_follow total none first) (pass_from total at first none (left 1))
          branch true e = unfold pass_over if_true in (rw (e, pass_over))
          branch false e = unfold pass_over if_true in (rw (e, pass_over))

      may_first : may_follow total none first ≡ (is_zero (get_or keys 0 (pos 0)) && is_float (get_or keys 1 (pos 0)))
      may_first = unfold may_follow key_value in (ap (λ (b : Bool). b && is_float (get_or keys 1 (pos 0))) (first_fine total (get_or keys 0 (pos 0)) (get_or keys 1 (pos 0)) k.positive k.above))

      pub first_late : is_zero (get_or keys 0 (pos 0)) ≡ false → none ≡ pass_over total channel at (rows_at 2 keys 0 count)
      first_late h = sym (over_first ∙ ap (λ (b : Bool). if_true b (pass_from total at first none (left 1))) (may_first ∙ ap (λ (b : Bool). b && is_float (get_or keys 1 (pos 0))) h) ∙ unfold if_true in refl)

      pub first_wide : is_zero (get_or keys 0 (pos 0)) ≡ true → is_float (get_or keys 1 (pos 0)) ≡ false → none ≡ pass_over total channel at (rows_at 2 keys 0 count)
      first_wide h g = sym (over_first ∙ ap (λ (b : Bool). if_true b (pass_from total at first none (left 1))) (may_first ∙ ap (λ (b : Bool). b && is_float (get_or keys 1 (pos 0))) h ∙ ap (λ (b : Bool). true && b) g) ∙ unfold if_true in refl)

      pub first_on : (p : Pass) → Begun p (get_or keys 1 (pos 0)) → is_zero (get_or keys 0 (pos 0)) ≡ true → is_float (get_or keys 1 (pos 0)) ≡ true → pass_over total channel at (rows_at 2 keys 0 count) ≡ pass_from total at (key_of p) (state_of p) (left 1)
      first_on p b h g =
          over_first
          ∙ ap (λ (x : Bool). if_true x (pass_from total at first none (left 1))) (may_first ∙ ap (λ (x : Bool). x && is_float (get_or keys 1 (pos 0))) h ∙ ap (λ (x : Bool). true && x) g)
          ∙ unfold if_true in refl
          ∙ ap (λ (x : Key). pass_from total at x none (left 1)) (sym key)
          ∙ ap (λ (x : Option Fraction). pass_from total at (key_of p) x (left 1)) (sym state)
        where
          key : key_of p ≡ first
          key = unfold key_of in (ap (λ (x : ℕ). pos x ∷ p.value ∷ []) b.start ∙ ap (λ (x : ℤ). pos 0 ∷ x ∷ []) b.here ∙ ap (λ (x : ℤ). x ∷ get_or keys 1 (pos 0) ∷ []) (sym (zero_is (get_or keys 0 (pos 0)) h)))

          state : state_of p ≡ none
          state = unfold state_of known in (ap known b.unknown)
