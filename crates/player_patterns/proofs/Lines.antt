-- One pattern line: that its frame and group are not below 0, and whether it decides, by the code's tests.
use mathlib.Core.Path.{◌≡◌, refl, ap, sym, ◌∙◌}
use mathlib.Core.List.{[], ◌∷◌}
use mathlib.Core.Bool.{Bool, true, false, not, ◌&&◌}
use mathlib.Core.Option.{Option, none, some}
use Prim.Native.Nat.{ℕ, suc, ◌≤◌, ◌<◌}
use native.Mathlib.Omega.{arith}
use borrow.Author.Tests.{le-leb, lt-leb, eq-eqb, ne_eqb}
use lib.Dec.{leb, eqb}
use lib.IntN.{ℤ, pos, negsuc, nat_abs}
use mir.Syntax.{w64}
use mir.Val.{SFits, of_z}
use Rattle.text_numerals.proofs.Numerals.{and_true}
use Rattle.table_references.specs.References.{is_row}
use Rattle.tra4_text.specs.Movement.{Pattern, frame_of, group_of}
use Rattle.tra4_text.specs.Rules.{is_zero, pattern_fine}
use Rattle.tra4_text.proofs.Zero.{zero_bits}
use Rattle.tra4_tests.proofs.Frames.{from-zero_on, frame_is}
use Rattle.player_spec.specs.Deciding.{Line, line_frame, applies, flag_of, not_after, better}
use Rattle.player_spec.proofs.Greatest.{better_yes, better_no}
use Rattle.player_patterns.specs.Internal.Pass.{line_fine, best_frame}

-- ---- a sound line

pub line_naturals : (total : ℤ) (groups : ℕ) (f g flag : ℤ) → line_fine total groups (f ∷ g ∷ flag ∷ []) ≡ true → (f ≡ pos (nat_abs f)) × (g ≡ pos (nat_abs g))
unfolding line_fine pattern_fine frame_of group_of
line_naturals total groups f g flag e =
    let p = and_true _ _ (and_true _ _ (and_true _ _ e).0).0 in
    (frame_is total f p.0, from-zero_on g p.1)

module _ (total : ℤ) (groups : ℕ) (f g flag : ℤ) where
  pub pattern_bad : pattern_fine total (f ∷ g ∷ flag ∷ []) ≡ false → false ≡ line_fine total groups (f ∷ g ∷ flag ∷ [])
  unfolding line_fine
  pattern_bad h = rw h

  pub group_bad : pattern_fine total (f ∷ g ∷ flag ∷ []) ≡ true → is_row groups g ≡ false → false ≡ line_fine total groups (f ∷ g ∷ flag ∷ [])
  unfolding line_fine group_of
  group_bad h e = rw (h, e)

  pub by_flag : pattern_fine total (f ∷ g ∷ flag ∷ []) ≡ true → is_row groups g ≡ true → is_row 2 flag ≡ line_fine total groups (f ∷ g ∷ flag ∷ [])
  unfolding line_fine group_of
  by_flag h e = rw (h, e)

-- the flag by its bits
zero-size : (z : ℤ) → is_zero z ≡ eqb (nat_abs z) 0
unfolding is_zero
zero-size (pos n) = refl
zero-size (negsuc n) = sym (ne_eqb (suc n) 0 (λ e. omega arith))

pub flag_bits : (f g flag : ℤ) → SFits w64 flag → not (eqb (of_z w64 flag) 0) ≡ flag_of (f ∷ g ∷ flag ∷ [])
unfolding flag_of
flag_bits f g flag fits = ap not (zero_bits flag fits ∙ zero-size flag)

-- ---- whether it decides

module _ (group at best : ℕ) (f g flag : ℤ) where
  abbrev decides : Bool
  decides = applies group at (f ∷ g ∷ flag ∷ []) && leb best (line_frame (f ∷ g ∷ flag ∷ []))

  pub other-group : (nat_abs g ≡ group → ⊥) → false ≡ decides
  unfolding applies group_of
  other-group h = rw (ne_eqb _ _ h)

  module _ (same : nat_abs g ≡ group) where
    pub later : at < nat_abs f → false ≡ decides
    unfolding applies line_frame group_of frame_of
    later h = rw (eq-eqb _ _ same, lt-leb _ _ h)

    pub in_time : nat_abs f ≤ at → leb best (nat_abs f) ≡ decides
    unfolding applies line_frame group_of frame_of
    in_time h = rw (eq-eqb _ _ same, le-leb _ _ h)

-- the line that decides so far is not after another exactly if its frame is not above that line's
after_frame : (best : Option Line) (p : Pattern) → not_after best p ≡ leb (best_frame best) (line_frame p)
unfolding not_after best_frame
after_frame none p = sym (le-leb 0 (line_frame p) (omega arith))
after_frame (some l) p = refl

module _ (g at row : ℕ) (best : Option Line) (p : Pattern) where
  pub taken : (applies g at p && leb (best_frame best) (line_frame p)) ≡ true → better g at row best p ≡ some (row, p)
  taken e = better_yes g at row best p (rw (after_frame best p) e)

  pub kept : (applies g at p && leb (best_frame best) (line_frame p)) ≡ false → better g at row best p ≡ best
  kept e = better_no g at row best p (rw (after_frame best p) e)
