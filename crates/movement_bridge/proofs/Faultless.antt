-- What the rules that are kept say of one channel and of a value: its frames are sound from any row on, and its values are in range; by induction on the lists.
use mathlib.Core.Path.{◌≡◌, refl}
use mathlib.Core.List.{List, [], ◌∷◌, ◌++◌}
use mathlib.Core.Bool.{Bool, true, false}
use mathlib.Core.Option.{Option, none, some}
use Prim.Native.Nat.{ℕ, zero, suc, ◌+◌, ◌≤◌, ◌<◌}
use native.Mathlib.Omega.{arith}
use borrow.Author.Tests.{le-leb, lt-ltb}
use lib.IntN.{ℤ, pos, nat_abs}
use lib.ListN.{length, get_or}
use Rattle.refusal.specs.Faults.{clear, fault, is_clear}
use Rattle.text_numerals.specs.Numbers.{FLOAT, in_form}
use Rattle.parse_spec.proofs.Given.{Every}
use Rattle.refusal.proofs.Rules.{or-first, or_second}
use Rattle.table_references.specs.References.{is_row}
use Rattle.tra4_text.specs.Movement.{Key, Channel, Pattern, frame_of}
use Rattle.tra4_text.specs.Rules.{total_fault, channel_fault, key_fine, keys_fault}
use Rattle.tra4_text.specs.Layout.{first_row}
use Rattle.tra4_text.proofs.Whole.{FloatValue, Flagged}
use Rattle.player_spec.specs.Lookups.{is_float, is_asked, is_range, values_fine}

-- ---- frames

-- the row that counting begins at does not matter where there is no fault
any_row : (total : ℤ) (before : Option ℤ) (i j : ℕ) (ks : List Key) → channel_fault total before i ks ≡ clear → channel_fault total before j ks ≡ clear
unfolding channel_fault
any_row total before i j [] e = refl
any_row total before i j (k ∷ ks) e = go (key_fine total before k) refl (any_row total (some (frame_of k)) (suc i) (suc j) ks)
  where
    go : (v : Bool) → key_fine total before k ≡ v → (channel_fault total (some (frame_of k)) (suc i) ks ≡ clear → channel_fault total (some (frame_of k)) (suc j) ks ≡ clear) → channel_fault total before j (k ∷ ks) ≡ clear
    go true o ih = rw (o, channel_fault) (ih (rw (o, channel_fault) at e))
    go false o ih = let f : fault 15 i ≡ clear = rw (o, channel_fault) at e in let z : ◌≡◌ {A = ℕ} 0 1 = cc in absurd (omega (arith, z))

-- one of the channels
pub one-clear : (total : ℤ) (row : ℕ) (a : List Channel) (c : Channel) (b : List Channel) → keys_fault total row (a ++ (c ∷ b)) ≡ clear → channel_fault total none 0 c ≡ clear
unfolding keys_fault
one-clear total row [] c b e = any_row total none row 0 c (or-first _ _ e)
one-clear total row (x ∷ a) c b e = one-clear total (row + length x) a c b (or_second _ _ e)

-- a frame below a sound total
pub asked_below : (total : ℤ) (at : ℕ) → total_fault total ≡ clear → at < nat_abs total → is_asked total at ≡ true
unfolding is_asked is_clear
asked_below total at e h = rw (e, lt-ltb at (nat_abs total) h)

-- ---- a range, values and flags

pub range-within : (n f c : ℕ) → f + c ≤ n → is_range n (pos (first_row f c)) (pos c) ≡ true
unfolding is_range first_row
range-within n f zero l = refl
range-within n f (suc c) l = le-leb (f + suc c) n l

pub float_in_form : (z : ℤ) → in_form FLOAT z ≡ true → is_float z ≡ true
unfolding is_float
float_in_form z e = e

pub values_fine_lem : (c : List Key) → Every FloatValue c → values_fine c ≡ true
unfolding values_fine
values_fine_lem [] h = refl
values_fine_lem (k ∷ c) h = rw (float_in_form (get_or k 1 (pos 0)) h.0) (values_fine_lem c h.1)

pub flags_in-row : (ps : List Pattern) → Every Flagged ps → Every (λ p. is_row 2 (get_or p 2 (pos 0)) ≡ true) ps
unfolding is_row
flags_in-row [] h = tt
flags_in-row (p ∷ ps) h = (rw h.0.is (lt-ltb h.0.flag 2 h.0.below), flags_in-row ps h.1)
