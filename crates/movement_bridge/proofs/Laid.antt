-- Rows of one width that stand in a table: reading them back by index gives them, by induction on the rows.
use mathlib.Core.Path.{◌≡◌, refl, ap, ap₂, sym, ◌∙◌}
use mathlib.Core.List.{List, [], ◌∷◌, ◌++◌, append_assoc}
use Prim.Native.Nat.{ℕ, zero, suc, ◌+◌, ◌*◌, ◌<◌}
use native.Mathlib.Nat.{zero-mul, suc-mul}
use native.Mathlib.Omega.{arith}
use lib.IntN.{ℤ, pos}
use lib.ListN.{length, get_or, drop, length-append}
use lib.Seq.{take_at, drop_at, get_or-take, get_or-drop}
use Rattle.table_rows.specs.Flat.{flat}
use Rattle.parse_rows.proofs.Widths.{Wide, flat_append, flat-length}
use Rattle.table_columns.specs.Parts.{number_at, numbers_at, rows_at}

-- rows stand in a table from an index on
pub record Laid (rs : List (List ℤ)) (i : ℕ) (table : List ℤ) : Type 0 where
  pub front : List ℤ
  pub rest : List ℤ
  pub here : table ≡ front ++ (flat rs ++ rest)
  pub begins : i ≡ length front

-- rows after some numbers stand from the count of those on
pub laid-after : (front : List ℤ) (rs : List (List ℤ)) (rest : List ℤ) → Laid rs (length front) (front ++ (flat rs ++ rest))
laid-after front rs rest = record { front = front; rest = rest; here = refl; begins = refl }

-- a middle part of rows that stand in a table stands there too
pub laid-part : (w : ℕ) (a b c : List (List ℤ)) {i : ℕ} {table : List ℤ} → Wide w a → Laid (a ++ (b ++ c)) i table → Laid b (i + length a * w) table
laid-part w a b c {i} {table} h s = record { front = s.front ++ flat a; rest = flat c ++ s.rest; here = s.here ∙ parts; begins = ends }
  where
    parts : s.front ++ (flat (a ++ (b ++ c)) ++ s.rest) ≡ s.front ++ flat a ++ (flat b ++ (flat c ++ s.rest))
    parts = rw (flat_append a (b ++ c), flat_append b c) (simp append_assoc)

    ends : i + length a * w ≡ length (s.front ++ flat a)
    ends = rw (length-append s.front (flat a), flat-length w a h) (omega (arith, s.begins))

module _ (w : ℕ) where
  first-row : (front r rest : List ℤ) (i : ℕ) → length r ≡ w → i ≡ length front → numbers_at (front ++ (r ++ rest)) i w ≡ r
  unfolding numbers_at
  first-row front r rest i h e = rw (drop_at front (r ++ rest) i (sym e)) (take_at r rest w h)

  -- the first of some rows, and the others after it
  one-first : (front r : List ℤ) (rs : List (List ℤ)) (rest : List ℤ) → front ++ (flat (r ∷ rs) ++ rest) ≡ front ++ (r ++ (flat rs ++ rest))
  unfolding flat
  one-first front r rs rest = ap (λ (l : List ℤ). front ++ l) (append_assoc r (flat rs) rest)

  one-before : (front r : List ℤ) (rs : List (List ℤ)) (rest : List ℤ) → front ++ (flat (r ∷ rs) ++ rest) ≡ front ++ r ++ (flat rs ++ rest)
  one-before front r rs rest = one-first front r rs rest ∙ sym (append_assoc front r (flat rs ++ rest))

  rows-from : (front : List ℤ) (rs : List (List ℤ)) (rest : List ℤ) (i : ℕ) → Wide w rs → i ≡ length front → rows_at w (front ++ (flat rs ++ rest)) i (length rs) ≡ rs
  unfolding rows_at
  rows-from front [] rest i h e = refl
  rows-from front (r ∷ rs) rest i h e =
      ap₂ ◌∷◌
      (ap (λ (t : List ℤ). numbers_at t i w) (one-first front r rs rest) ∙ first-row front r (flat rs ++ rest) i h.0 e)
      (ap (λ (t : List ℤ). rows_at w t (i + w) (length rs)) (one-before front r rs rest) ∙ rows-from (front ++ r) rs rest (i + w) h.1 (rw (length-append front r) (omega (arith, h.0))))

  row_from : (front : List ℤ) (rs : List (List ℤ)) (rest : List ℤ) (k i : ℕ) → Wide w rs → k < length rs → i ≡ length front + k * w → numbers_at (front ++ (flat rs ++ rest)) i w ≡ get_or rs k []
  row_from front [] rest k i h l e = absurd (omega arith)
  row_from front (r ∷ rs) rest zero i h l e =
      ap (λ (t : List ℤ). numbers_at t i w) (one-first front r rs rest)
      ∙ first-row front r (flat rs ++ rest) i h.0 (let z = zero-mul w in omega arith)
  row_from front (r ∷ rs) rest (suc k) i h l e =
      ap (λ (t : List ℤ). numbers_at t i w) (one-before front r rs rest)
      ∙ row_from (front ++ r) rs rest k i h.1 (omega arith) (let s = suc-mul k w in rw (length-append front r) (omega (arith, h.0)))

  module _ (rs : List (List ℤ)) (h : Wide w rs) {i : ℕ} {table : List ℤ} (s : Laid rs i table) where
    pub rows-laid : rows_at w table i (length rs) ≡ rs
    rows-laid = ap (λ (t : List ℤ). rows_at w t i (length rs)) s.here ∙ rows-from s.front rs s.rest i h s.begins

    pub row_laid : (k : ℕ) → k < length rs → numbers_at table (i + k * w) w ≡ get_or rs k []
    row_laid k l = ap (λ (t : List ℤ). numbers_at t (i + k * w) w) s.here ∙ row_from s.front rs s.rest k (i + k * w) h l (ap (λ (n : ℕ). n + k * w) s.begins)

    pub number-laid : (k j : ℕ) → k < length rs → j < w → number_at table (i + k * w + j) ≡ get_or (get_or rs k []) j (pos 0)
    unfolding number_at numbers_at
    number-laid k j l m = sym (get_or-take w (drop (i + k * w) table) j (pos 0) m ∙ get_or-drop (i + k * w) table j (pos 0)) ∙ ap (λ (r : List ℤ). get_or r j (pos 0)) (row_laid k l)
