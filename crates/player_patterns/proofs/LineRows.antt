-- The pass over pattern rows of a table: the rows left are the next one and those after it, so each turn is one step of the definition.
use mathlib.Core.Path.{◌≡◌, refl, ap, ◌∙◌}
use mathlib.Core.List.{List, [], ◌∷◌}
use mathlib.Core.Bool.{Bool, true, false, ◌&&◌, ◌||◌}
use mathlib.Core.Option.{Option, none, some}
use Prim.Native.Nat.{ℕ, zero, suc, ◌+◌, ◌*◌, ◌-◌, ◌≤◌, ◌<◌}
use native.Mathlib.Omega.{arith}
use native.Mathlib.Numerals.{add-one}
use lib.Dec.{leb, eqb}
use lib.IntN.{ℤ, pos}
use lib.ListN.{length, get_or}
use Rattle.tra4_text.specs.Movement.{Pattern, frame_of}
use Rattle.tra4_text.specs.Rules.{is_zero}
use Rattle.table_columns.specs.Parts.{numbers_at, rows_at}
use Rattle.table_columns.proofs.Parts.{three-at}
use Rattle.player_spec.specs.Deciding.{Line, line_frame, applies, better}
use Rattle.player_spec.specs.Lookups.{only_if}
use Rattle.player_patterns.specs.Internal.Answers.{decided_in}
use Rattle.player_patterns.specs.Internal.Pass.{line_fine, lines_from, lines_over, best_frame}
use Rattle.player_patterns.proofs.Lines.{taken, kept}
use Rattle.player_patterns.proofs.Passed.{answer_by, pass_fault, pass_on, pass_is}

-- ---- the rows left

abbrev pub line_at : List ℤ → ℕ → Pattern
line_at rows j = get_or rows j (pos 0) ∷ get_or rows (j + 1) (pos 0) ∷ get_or rows (j + 2) (pos 0) ∷ []

rows-one : (rows : List ℤ) (j n m : ℕ) → n ≡ suc m → rows_at 3 rows j n ≡ numbers_at rows j 3 ∷ rows_at 3 rows (j + 3) m
unfolding rows_at
rows-one rows j n m e = rw e

rows_count : (rows : List ℤ) (j n : ℕ) → length (rows_at 3 rows j n) ≡ n
unfolding rows_at
rows_count rows j zero = refl
rows_count rows j (suc n) = ap suc (rows_count rows (j + 3) n)

module _ (rows : List ℤ) (count : ℕ) where
  abbrev left : ℕ → List Pattern
  left i = rows_at 3 rows (i * 3) (count - i)

  left_more : count * 3 ≤ length rows → (i : ℕ) → i < count → left i ≡ line_at rows (i * 3) ∷ left (i + 1)
  left_more r i h =
      let e : i * 3 + 3 ≡ (i + 1) * 3 = omega arith in
      rows-one rows (i * 3) (count - i) (count - (i + 1)) (omega arith)
      ∙ ap (λ (x : Pattern). x ∷ rows_at 3 rows (i * 3 + 3) (count - (i + 1))) (three-at rows (i * 3) (omega arith))
      ∙ ap (λ (n : ℕ). line_at rows (i * 3) ∷ rows_at 3 rows n (count - (i + 1))) e

  left_none : (i : ℕ) → count ≤ i → left i ≡ []
  left_none i h = let e : count - i ≡ 0 = omega arith in ap (λ (n : ℕ). rows_at 3 rows (i * 3) n) e ∙ unfold rows_at in refl

  left-all : rows_at 3 rows 0 count ≡ left 0
  left-all = ap (λ (n : ℕ). rows_at 3 rows 0 n) (let z : count ≡ count - 0 = omega arith in z)

  -- ---- the pass

  module _ (total : ℤ) (groups g at : ℕ) where
    -- from a row on
    unfoldable pub from : ℕ → Bool → Option Line → Option (Option Line)
    from i started best = lines_from total groups g at i started best (left i)

    pub begun : decided_in total groups g at (rows_at 3 rows 0 count) ≡ answer_by (from 0 (eqb count 0) none)
    unfolding from lines_over
    begun = pass_is total groups g at (rows_at 3 rows 0 count) ∙ rw (rows_count rows 0 count, left-all)

    pub ended : (started : Bool) (best : Option Line) (i : ℕ) → count ≤ i → from i started best ≡ only_if started best
    unfolding from
    ended started best i h = ap (lines_from total groups g at i started best) (left_none i h) ∙ unfold lines_from in refl

    module _ (r : count * 3 ≤ length rows) (started : Bool) (i : ℕ) (best : Option Line) (h : i < count) where
      abbrev this : Pattern
      this = line_at rows (i * 3)

      pub turn_fault : line_fine total groups this ≡ false → from i started best ≡ none
      unfolding from
      turn_fault e = ap (lines_from total groups g at i started best) (left_more r i h) ∙ pass_fault total groups g at i started best _ _ e

      turn_on : line_fine total groups this ≡ true → from i started best ≡ from (i + 1) (started || is_zero (get_or rows (i * 3) (pos 0))) (better g at i best this)
      unfolding from frame_of
      turn_on e = ap (lines_from total groups g at i started best) (left_more r i h) ∙ pass_on total groups g at i started best _ _ e ∙ rw (add-one i)

      pub turn_taken : line_fine total groups this ≡ true → (applies g at this && leb (best_frame best) (line_frame this)) ≡ true → from i started best ≡ from (i + 1) (started || is_zero (get_or rows (i * 3) (pos 0))) (some (i, this))
      turn_taken e k = turn_on e ∙ rw (taken g at i best this k)

      pub turn_kept : line_fine total groups this ≡ true → (applies g at this && leb (best_frame best) (line_frame this)) ≡ false → from i started best ≡ from (i + 1) (started || is_zero (get_or rows (i * 3) (pos 0))) best
      turn_kept e k = turn_on e ∙ rw (kept g at i best this k)
