-- A list that is worked off item by item, with a state that each item changes.
use Rattle.std.specs.Prelude.{List, [], ◌∷◌, ℕ, ◌+◌, ◌*◌, ℤ}
use Rattle.table_rows.specs.Internal.Overlay.{overlay_at}
use Rattle.parse_spec.specs.Readers.{Reader, ◌>>=◌, pure, many}

unfoldable pub fold : {A S : Type 0} → (S → A → S) → S → List A → S
fold step s [] = s
fold step s (a ∷ l) = fold step (step s a) l

-- items up to ), from a state to the state after them
unfoldable pub folded : {A S : Type 0} → (S → A → S) → Reader A → S → Reader S
folded step r s = many r >>= λ l. pure (fold step s l)

-- one item
unfoldable pub stepped : {A S : Type 0} → (S → A → S) → Reader A → S → Reader S
stepped step r s = r >>= λ a. pure (step s a)

-- a row of w numbers more in a table, after n rows
unfoldable pub row_step : ℕ → ℕ × List ℤ → List ℤ → ℕ × List ℤ
row_step w s row = (s.0 + 1, overlay_at (s.0 * w) row s.1)
