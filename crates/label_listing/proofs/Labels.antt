-- A label has at most 255 bytes, whatever the tables hold: it is a part of a text that passed the test on its length.
use mathlib.Core.Path.{◌≡◌, refl}
use mathlib.Core.Bool.{Bool, true, false}
use mathlib.Core.List.{List, [], ◌∷◌}
use mathlib.Core.Option.{Option, none, some}
use Prim.Native.Nat.{ℕ, ◌+◌, ◌≤◌}
use native.Mathlib.Omega.{arith}
use borrow.Author.Tests.{leb-true}
use lib.Dec.{leb}
use lib.IntN.{ℤ, pos, negsuc, nat_abs}
use lib.ListN.{length}
use Rattle.text_runs.proofs.Parts.{part_length}
use Rattle.text_numerals.proofs.Numerals.{and_true}
use Rattle.table_counts.specs.declared.counts.FigureCounts.{FigureCounts}
use Rattle.table_counts.specs.declared.counts.MovementCounts.{MovementCounts}
use Rattle.player_spec.specs.Lookups.{only_if}
use Rattle.player_names.specs.Names.{is_name, name_span, part_at, figure_span, figure_name, movement_span, movement_name, if_true}
use Rattle.player_label.specs.Labels.{label_of, label_from, label_in, or_empty}

long_most : (size : ℕ) (place long : ℤ) → is_name size place long ≡ true → nat_abs long ≤ 255
unfolding is_name
long_most size (pos p) (pos l) e = leb-true l 255 (and_true (leb l 255) _ e).0
long_most size (pos p) (negsuc l) e = let z : ◌≡◌ {A = ℕ} 0 1 = cc in absurd (omega (arith, z))
long_most size (negsuc p) long e = let z : ◌≡◌ {A = ℕ} 0 1 = cc in absurd (omega (arith, z))

span_most : (text : List ℕ) (place long : ℤ) → length (or_empty (part_at text (name_span (length text) place long))) ≤ 255
unfolding name_span only_if part_at or_empty
span_most text place long = go (is_name (length text) place long) refl
  where
    go : (b : Bool) → is_name (length text) place long ≡ b → length (or_empty (part_at text (only_if b (nat_abs place, nat_abs place + nat_abs long)))) ≤ 255
    go true e = omega (arith, part_length text (nat_abs place) (nat_abs place + nat_abs long), long_most (length text) place long e)
    go false e = omega arith

by_most : (figure movement : List ℕ) → length figure ≤ 255 → length movement ≤ 255 → length (label_of figure movement) ≤ 255
unfolding label_of
by_most figure [] h k = h
by_most figure (b ∷ bs) h k = k

from-most : (figure movement : Option (List ℕ)) → length (or_empty figure) ≤ 255 → length (or_empty movement) ≤ 255 → length (or_empty (label_from figure movement)) ≤ 255
unfolding label_from or_empty
from-most none movement h k = omega arith
from-most (some figure) none h k = omega arith
from-most (some figure) (some movement) h k = by_most figure movement h k

only_most : (b : Bool) (o : Option (List ℕ)) → length (or_empty o) ≤ 255 → length (or_empty (if_true b o)) ≤ 255
unfolding if_true or_empty
only_most true o h = h
only_most false o h = omega arith

pub label-most : (F : List ℕ) (n : FigureCounts) (T : List ℤ) (M : List ℕ) (m : MovementCounts) (U : List ℤ) (bone : ℕ) → length (or_empty (label_in F n T M m U bone)) ≤ 255
unfolding label_in figure_name figure_span movement_name movement_span
label-most F n T M m U bone = only_most _ _ (from-most _ _ (span_most F _ _) (span_most M _ _))
