-- Laws of the longest run of bytes that pass a test, by induction on the bytes.
use mathlib.Core.Path.{◌≡◌, refl, ap}
use mathlib.Core.List.{List, [], ◌∷◌}
use mathlib.Core.Bool.{Bool, true, false}
use Prim.Native.Nat.{ℕ, suc, ◌+◌, ◌≤◌, ◌<◌}
use native.Mathlib.Omega.{arith}
use lib.ListN.{length, take, drop, get_or, length-drop, drop_of_length-le}
use lib.Seq.{drop-cons}
use Rattle.text_runs.specs.Runs.{run}

pub run_yes : (t : ℕ → Bool) (b : ℕ) (bs : List ℕ) → t b ≡ true → run t (b ∷ bs) ≡ b ∷ run t bs
unfolding run
run_yes t b bs e = rw (e, run)

pub run_no : (t : ℕ → Bool) (b : ℕ) (bs : List ℕ) → t b ≡ false → run t (b ∷ bs) ≡ []
unfolding run
run_no t b bs e = rw (e, run)

-- where the byte at i passes, the run from i is one longer than that from i + 1
pub run_more : (t : ℕ → Bool) (text : List ℕ) (i : ℕ) → i < length text → t (get_or text i 0) ≡ true → length (run t (drop i text)) ≡ suc (length (run t (drop (suc i) text)))
run_more t text i h e = rw (drop-cons text i 0 h, run_yes t _ _ e)

-- where it fails, the run from i is empty
pub run-stop : (t : ℕ → Bool) (text : List ℕ) (i : ℕ) → i < length text → t (get_or text i 0) ≡ false → length (run t (drop i text)) ≡ 0
run-stop t text i h e = rw (drop-cons text i 0 h, run_no t _ _ e)

-- past the end it is empty
pub run_past : (t : ℕ → Bool) (text : List ℕ) (i : ℕ) → length text ≤ i → length (run t (drop i text)) ≡ 0
unfolding run
run_past t text i h = rw (drop_of_length-le text h)

-- a run is a part of the bytes
pub run_length : (t : ℕ → Bool) (bs : List ℕ) → length (run t bs) ≤ length bs
unfolding run
run_length t [] = omega arith
run_length t (b ∷ bs) = go (t b) refl (run_length t bs)
  where
    go : (v : Bool) → t b ≡ v → length (run t bs) ≤ length bs → length (run t (b ∷ bs)) ≤ suc (length bs)
    go true e h = rw (run_yes t b bs e) (omega arith)
    go false e h = rw (run_no t b bs e) (omega arith)

-- as many bytes as the run has are the run
pub run_take : (t : ℕ → Bool) (bs : List ℕ) → take (length (run t bs)) bs ≡ run t bs
unfolding run
run_take t [] = refl
run_take t (b ∷ bs) = go (t b) refl (run_take t bs)
  where
    go : (v : Bool) → t b ≡ v → take (length (run t bs)) bs ≡ run t bs → take (length (run t (b ∷ bs))) (b ∷ bs) ≡ run t (b ∷ bs)
    go true e h = rw (run_yes t b bs e) (ap (λ (l : List ℕ). b ∷ l) h)
    go false e h = rw (run_no t b bs e)

-- a run ends within the text
pub run-within : (t : ℕ → Bool) (text : List ℕ) (i : ℕ) → i ≤ length text → i + length (run t (drop i text)) ≤ length text
run-within t text i h = omega (arith, run_length t (drop i text), length-drop i text)
