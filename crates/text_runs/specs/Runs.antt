-- The longest run of bytes that pass a test, and parts of a text (document 01, "Words").
use Rattle.std.specs.Prelude.{List, [], ◌∷◌, Bool, true, false, ◌&&◌, ℕ, ◌-◌, eqb, take, drop}

-- the bytes up to the first that fails a test
unfoldable pub run : (ℕ → Bool) → List ℕ → List ℕ
run t [] = []
run t (b ∷ bs) = elim (t b) [ true ↦ b ∷ run t bs | false ↦ [] ]

-- the bytes from one offset up to another
unfoldable pub part : List ℕ → ℕ → ℕ → List ℕ
part text start end = take (end - start) (drop start text)

-- whether two lists of bytes are the same
unfoldable pub same : List ℕ → List ℕ → Bool
same [] [] = true
same [] (b ∷ bs) = false
same (a ∷ as') [] = false
same (a ∷ as') (b ∷ bs) = eqb a b && same as' bs
