-- Rows of one width: how many numbers they have, and the part of a table that holds them.
use mathlib.Core.Path.{◌≡◌, refl, ap, ap₂, sym, ◌∙◌}
use mathlib.Core.List.{List, [], ◌∷◌, ◌++◌, append_assoc}
use Prim.Native.Nat.{ℕ, ◌+◌, ◌*◌, ◌≤◌}
use native.Mathlib.Nat.{zero-mul, suc-mul, add_comm, le_trans, mul-le-mul_right}
use native.Mathlib.Omega.{arith}
use lib.ListN.{length, take, drop, length-append}
use lib.Seq.{take_at}
use lib.IntN.{ℤ}
use Rattle.text_bytes.proofs.Every.{every_append}
use Rattle.table_rows.specs.Internal.Overlay.{overlay_at}
use Rattle.table_rows.specs.Flat.{flat}
use Rattle.table_rows.proofs.Chains.{overlay-whole}
use Rattle.parse_spec.proofs.Given.{Every}

abbrev pub Wide : ℕ → List (List ℤ) → Type 0
Wide w rs = Every (λ r. length r ≡ w) rs

pub wide_append : (w : ℕ) (a b : List (List ℤ)) → Wide w a → Wide w b → Wide w (a ++ b)
wide_append w = every_append (λ r. length r ≡ w)

pub flat_append : (a b : List (List ℤ)) → flat (a ++ b) ≡ flat a ++ flat b
unfolding flat
flat_append [] b = refl
flat_append (r ∷ a) b = ap (λ (l : List ℤ). r ++ l) (flat_append a b) ∙ sym (append_assoc r (flat a) (flat b))

pub flat-length : (w : ℕ) (rs : List (List ℤ)) → Wide w rs → length (flat rs) ≡ length rs * w
unfolding flat
flat-length w [] h = sym (zero-mul w)
flat-length w (r ∷ rs) h = length-append r (flat rs) ∙ ap₂ ◌+◌ h.0 (flat-length w rs h.1) ∙ add_comm w (length rs * w) ∙ sym (suc-mul (length rs) w)

-- ---- rows at the start of a table

-- in a table with room for n of them
pub held : (w n : ℕ) (rs : List (List ℤ)) (t : List ℤ) → Wide w rs → length rs ≤ n → n * w ≤ length t → overlay_at 0 (flat rs) t ≡ flat rs ++ drop (length (flat rs)) t
held w n rs t h l k = overlay-whole (flat rs) t (rw (flat-length w rs h) (le_trans (mul-le-mul_right w l) k))

pub rows-part : (w n : ℕ) (rs : List (List ℤ)) (rest t : List ℤ) → Wide w rs → length rs ≡ n → t ≡ flat rs ++ rest → take (n * w) t ≡ flat rs
rows-part w n rs rest t h e s = rw (← e, s) (take_at (flat rs) rest (length rs * w) (flat-length w rs h))

pub rows-room : (w n : ℕ) (rs : List (List ℤ)) (rest t : List ℤ) → Wide w rs → length rs ≡ n → t ≡ flat rs ++ rest → n * w ≤ length t
rows-room w n rs rest t h e s = rw (← e, s, length-append (flat rs) rest, flat-length w rs h) (omega arith)

-- rows that were written over a table's first
module _ (w most n : ℕ) (rs : List (List ℤ)) (t t' : List ℤ) (h : Wide w rs) (l : length rs ≤ most) (r : most * w ≤ length t) (e : (length rs ≡ n) × (overlay_at 0 (flat rs) t ≡ t')) where
  there : t' ≡ flat rs ++ drop (length (flat rs)) t
  there = sym e.1 ∙ held w most rs t h l r

  pub part-is : take (n * w) t' ≡ flat rs
  part-is = rows-part w n rs (drop (length (flat rs)) t) t' h e.0 there

  pub room-is : n * w ≤ length t'
  room-is = rows-room w n rs (drop (length (flat rs)) t) t' h e.0 there
