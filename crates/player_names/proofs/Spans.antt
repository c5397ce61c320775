-- A name's span by the code's tests on its pair, and by the row that the player lends: a failed test is none, and past them the pair's span is the name's.
use mathlib.Core.Path.{◌≡◌, refl, ap, ◌∙◌}
use mathlib.Core.List.{List}
use mathlib.Core.Bool.{Bool, true, false, ◌&&◌}
use mathlib.Core.Logic.{◌⊎◌, inl, inr}
use mathlib.Core.Option.{Option, none, some}
use Prim.Native.Nat.{ℕ, ◌+◌, ◌*◌, ◌≤◌, ◌<◌}
use native.Mathlib.Omega.{arith}
use borrow.Author.Tests.{ltb-true, ltb-false, leb-true, le-leb, lt-leb}
use lib.Dec.{leb, ltb}
use lib.IntN.{ℤ, pos, negsuc, nat_abs}
use lib.ListN.{length, get_or, drop, length-take, length-drop}
use lib.Seq.{get_or-take, get_or-drop}
use lib.Signed.{lt_z}
use Rattle.text_numerals.proofs.Numerals.{and_true}
use Rattle.table_counts.specs.declared.counts.MovementCounts.{MovementCounts}
use Rattle.table_counts.specs.declared.counts.FigureCounts.{FigureCounts}
use Rattle.table_figure.specs.Sections.{bones_begin, holds_figure}
use Rattle.table_movement.specs.Sections.{holds_movement}
use Rattle.table_columns.specs.Parts.{number_at, numbers_at}
use Rattle.table_bones.specs.Internal.Bones.{row_if, figure_bone, movement_bone}
use Rattle.player_spec.specs.Lookups.{only_if}
use Rattle.player_spec.proofs.OnlyIf.{only_some}
use Rattle.table_figure.proofs.Indices.{bone-place}
use Rattle.table_movement.proofs.Mosts.{movement-room}
use Rattle.player_names.specs.Names.{is_name, name_span, figure_span, movement_span, if_true, figure_named, movement_named}

-- ---- the tests on a pair

module _ (size : ℕ) where
  pub place-below : (place long : ℤ) → lt_z place (pos 0) ≡ true → none ≡ name_span size place long
  unfolding name_span is_name only_if
  place-below (pos p) long e = absurd (let l = ltb-true p 0 e in omega arith)
  place-below (negsuc p) long e = refl

  pub length-below : (place long : ℤ) → lt_z long (pos 0) ≡ true → none ≡ name_span size place long
  unfolding name_span is_name only_if
  length-below (pos p) (pos l) e = absurd (let h = ltb-true l 0 e in omega arith)
  length-below (pos p) (negsuc l) e = refl
  length-below (negsuc p) long e = refl

  pub length_over : (place long : ℤ) → lt_z (pos 255) long ≡ true → none ≡ name_span size place long
  unfolding name_span is_name only_if
  length_over (pos p) (pos l) e = rw (lt-leb l 255 (ltb-true 255 l e))
  length_over (pos p) (negsuc l) e = refl
  length_over (negsuc p) long e = refl

  -- what the last test leaves to see
  fine_but : (place long : ℤ) → lt_z place (pos 0) ≡ false → lt_z long (pos 0) ≡ false → lt_z (pos 255) long ≡ false → is_name size place long ≡ leb (nat_abs place + nat_abs long) size
  unfolding is_name
  fine_but (pos p) (pos l) e f g = rw (le-leb l 255 (ltb-false 255 l g))
  fine_but (pos p) (negsuc l) e f g = let z : ◌≡◌ {A = ℕ} 0 1 = cc in absurd (omega (arith, z))
  fine_but (negsuc p) long e f g = let z : ◌≡◌ {A = ℕ} 0 1 = cc in absurd (omega (arith, z))

  module _ (place long : ℤ) (e : lt_z place (pos 0) ≡ false) (f : lt_z long (pos 0) ≡ false) (g : lt_z (pos 255) long ≡ false) where
    pub end_over : size < nat_abs place + nat_abs long → none ≡ name_span size place long
    unfolding name_span only_if
    end_over h = rw (fine_but place long e f g, lt-leb (nat_abs place + nat_abs long) size h)

    pub end_within : nat_abs place + nat_abs long ≤ size → some (nat_abs place, nat_abs place + nat_abs long) ≡ name_span size place long
    unfolding name_span only_if
    end_within h = rw (fine_but place long e f g, le-leb (nat_abs place + nat_abs long) size h)

-- ---- a name ends within its text

ends-within : (size : ℕ) (place long : ℤ) → is_name size place long ≡ true → nat_abs place + nat_abs long ≤ size
unfolding is_name
ends-within size (pos p) (pos l) e = leb-true (p + l) size (and_true (leb l 255) _ e).1
ends-within size (pos p) (negsuc l) e = let z : ◌≡◌ {A = ℕ} 0 1 = cc in absurd (omega (arith, z))
ends-within size (negsuc p) long e = let z : ◌≡◌ {A = ℕ} 0 1 = cc in absurd (omega (arith, z))

pub span_within : (size : ℕ) (place long : ℤ) (s : ℕ × ℕ) → name_span size place long ≡ some s → s.1 ≤ size
unfolding name_span
span_within size place long s e =
    let o = (only_some (is_name size place long) (nat_abs place, nat_abs place + nat_abs long) s).0 e in
    let h = ends-within size place long o.0 in
    let r : nat_abs place + nat_abs long ≡ s.1 = ap (λ (t : ℕ × ℕ). t.1) o.1 in
    omega arith

-- ---- a row that the player lends

row_some : (b : Bool) (row : List ℤ) → (length (row_if b row) ≡ 0 → ⊥) → (b ≡ true) × (row_if b row ≡ row)
unfolding row_if
row_some true row h = (refl, refl)
row_some false row h = absurd (h refl)

row_none : (b : Bool) (row : List ℤ) → (b ≡ true → 0 < length row) → length (row_if b row) ≡ 0 → b ≡ false
unfolding row_if
row_none true row h e = absurd (let l = h refl in omega arith)
row_none false row h e = refl

numbers-length : (table : List ℤ) (i w : ℕ) → i + w ≤ length table → length (numbers_at table i w) ≡ w
unfolding numbers_at
numbers-length table i w h = rw (length-take w (drop i table), length-drop i table) (omega arith)

number_in_lem : (table : List ℤ) (i w k : ℕ) → k < w → get_or (numbers_at table i w) k (pos 0) ≡ number_at table (i + k)
unfolding numbers_at number_at
number_in_lem table i w k h = get_or-take w (drop i table) k (pos 0) h ∙ get_or-drop i table k (pos 0)

-- such a row is whole, where it is there
row_wide : (b : Bool) (table : List ℤ) (i w : ℕ) → (b ≡ true → i + w ≤ length table) → (length (row_if b (numbers_at table i w)) ≡ 0) ⊎ (length (row_if b (numbers_at table i w)) ≡ w)
unfolding row_if
row_wide true table i w within = inr (numbers-length table i w (within refl))
row_wide false table i w within = inl refl

-- a test and a width above 0, and the pair of a row that begins at i
module _ (b : Bool) (table : List ℤ) (i w : ℕ) (some-width : 0 < w) (within : b ≡ true → i + w ≤ length table) where
  pub no_row : (s : Option (ℕ × ℕ)) → length (row_if b (numbers_at table i w)) ≡ 0 → none ≡ if_true b s
  unfolding if_true
  no_row s h = rw (row_none b (numbers_at table i w) (λ e. let l = numbers-length table i w (within e) in omega arith) h)

  pub row-pair : (size k : ℕ) → k + 1 < w → (length (row_if b (numbers_at table i w)) ≡ 0 → ⊥) → name_span size (get_or (row_if b (numbers_at table i w)) k (pos 0)) (get_or (row_if b (numbers_at table i w)) (k + 1) (pos 0)) ≡ if_true b (name_span size (number_at table (i + k)) (number_at table (i + k + 1)))
  unfolding if_true
  row-pair size k l h =
      let r = row_some b (numbers_at table i w) h in
      let e : i + (k + 1) ≡ i + k + 1 = omega arith in
      rw (r.1, r.0, number_in_lem table i w k (omega arith), number_in_lem table i w (k + 1) l, e)

-- ---- the figure's and the movement's

figure-within : (n : FigureCounts) (table : List ℤ) (bone : ℕ) → (holds_figure n table && ltb bone n.bones) ≡ true → bones_begin n + bone * 14 + 14 ≤ length table
figure-within n table bone e = let h = and_true (holds_figure n table) _ e in (bone-place n table h.0 bone (ltb-true bone n.bones h.1)).0

movement-within : (m : MovementCounts) (table : List ℤ) (bone : ℕ) → (holds_movement m table && ltb bone m.bones) ≡ true → 3 + bone * 22 + 22 ≤ length table
movement-within m table bone e =
    let h = and_true (holds_movement m table) _ e in
    let r = movement-room m table h.0 in
    let l = ltb-true bone m.bones h.1 in
    omega arith

pub figure_wide : (n : FigureCounts) (table : List ℤ) (bone : ℕ) → (length (figure_bone n table bone) ≡ 0) ⊎ (length (figure_bone n table bone) ≡ 14)
unfolding figure_bone
figure_wide n table bone = row_wide _ table _ 14 (figure-within n table bone)

pub movement_wide : (m : MovementCounts) (table : List ℤ) (bone : ℕ) → (length (movement_bone m table bone) ≡ 0) ⊎ (length (movement_bone m table bone) ≡ 22)
unfolding movement_bone
movement_wide m table bone = row_wide _ table _ 22 (movement-within m table bone)

module _ (size : ℕ) (n : FigureCounts) (table : List ℤ) (bone : ℕ) where
  pub figure_none : length (figure_bone n table bone) ≡ 0 → none ≡ figure_named size n table bone
  unfolding figure_bone figure_named
  figure_none h = no_row _ table _ 14 (omega arith) (figure-within n table bone) _ h

  module _ (there : length (figure_bone n table bone) ≡ 0 → ⊥) where
    pub figure-pair : name_span size (get_or (figure_bone n table bone) 12 (pos 0)) (get_or (figure_bone n table bone) 13 (pos 0)) ≡ figure_named size n table bone
    unfolding figure_bone figure_named figure_span
    figure-pair = row-pair _ table _ 14 (omega arith) (figure-within n table bone) size 12 (omega arith) there

module _ (size : ℕ) (m : MovementCounts) (table : List ℤ) (bone : ℕ) where
  pub movement_none : length (movement_bone m table bone) ≡ 0 → none ≡ movement_named size m table bone
  unfolding movement_bone movement_named
  movement_none h = no_row _ table _ 22 (omega arith) (movement-within m table bone) _ h

  module _ (there : length (movement_bone m table bone) ≡ 0 → ⊥) where
    pub movement-pair : name_span size (get_or (movement_bone m table bone) 0 (pos 0)) (get_or (movement_bone m table bone) 1 (pos 0)) ≡ movement_named size m table bone
    unfolding movement_bone movement_named movement_span
    movement-pair = row-pair _ table _ 22 (omega arith) (movement-within m table bone) size 0 (omega arith) there
