-- Laws of readers that write over a table: each turn of a loop is one step of its reader, over the table as it then is.
use mathlib.Core.Path.{◌≡◌, ap, sym, ◌∙◌}
use mathlib.Core.List.{List, ◌∷◌}
use Prim.Native.Nat.{ℕ, suc, ◌+◌, ◌≤◌, min}
use native.Mathlib.Omega.{arith}
use native.Mathlib.Numerals.{add-one}
use lib.IntN.{ℤ}
use lib.ListN.{length, set}
use Rattle.text_tokens.specs.Tokens.{Lexeme}
use Rattle.text_numerals.specs.Numbers.{Form, INT}
use Rattle.parse_spec.specs.Readers.{Got, got, refused, after, ◌>>=◌, ◌>>◌, pure, number, numbers, cells, open_bracket, word_of, row_of, opened_of, closed}
use Rattle.parse_cursor.specs.Internal.Cursors.{Cursor, from, reads}
use Rattle.table_rows.specs.Internal.Overlay.{overlay_at}
use Rattle.parse_rows.specs.Internal.Into.{numbers_into, cells_into, row_into, row_tail}
use Rattle.parse_cursor.proofs.Steps.{join, from-same, onto, halt}
use Rattle.parse_spec.proofs.Binds.{after-after, after_same, after_when, then_bind, then_same, then_assoc, closed-map}
use Rattle.parse_spec.proofs.Many.{Keeps, takes_keeps, pure_keeps, bind_keeps, then_keeps, closed_keeps, word_takes, cells_keep}
use Rattle.parse_spec.proofs.Given.{free}
use Rattle.parse_spec.proofs.Ranges.{numbers_give}
use Rattle.table_rows.proofs.Tables.{overlay_at_none, overlay_at-cons, overlay_at_past, overlay_at-append, overlay_at-same}

-- no numbers leave the table as it is
pub numbers_none : (text : List ℕ) (c : Cursor) (f : Form) (left i : ℕ) (t : List ℤ) → left ≤ 0 → from text c (numbers_into f left i t) ≡ reads text c t
unfolding numbers_into numbers ◌>>=◌ pure after
numbers_none text c f left i t h =
    let none : left ≡ 0 = omega arith in
    ap (λ (n : ℕ). from text c (numbers_into f n i t)) none ∙ from-same text c _ (pure t) (λ ms. rw (overlay_at_none i t))

-- one number, and then the others, over a table that has the first
numbers_turn : (f : Form) (m i j : ℕ) (t : List ℤ) (u : ℤ → List ℤ) → ((z : ℤ) (zs : List ℤ) → overlay_at i (z ∷ zs) t ≡ overlay_at j zs (u z)) → (ms : List Lexeme) → numbers_into f (suc m) i t ms ≡ (number f >>= λ z. numbers_into f m j (u z)) ms
unfolding numbers_into numbers ◌>>=◌ pure after
numbers_turn f m i j t u e ms = after-after (number f ms) _ _ ∙ after_same (number f ms) _ _ (λ z l. after-after (numbers f m l) _ _ ∙ after_same (numbers f m l) _ _ (λ zs k. ap (λ (x : List ℤ). got x k) (e z zs)))

-- where the next number is refused, so are all that are wanted
pub numbers_off : (text : List ℕ) (c : Cursor) (f : Form) (left m i : ℕ) (t : List ℤ) {n p : ℕ} → left ≡ suc m → from text c (number f) ≡ refused n p → from text c (numbers_into f left i t) ≡ refused n p
numbers_off text c f left m i t one h =
    ap (λ (n : ℕ). from text c (numbers_into f n i t)) one
    ∙ from-same text c _ _ (numbers_turn f m i (suc i) t (set t i) (λ x zs. overlay_at-cons i x zs t))
    ∙ halt text c (number f) h (λ x. numbers_into f m (suc i) (set t i x))

-- a turn of a reader that stands at cursor c, where d is past the next number
module _ (text : List ℕ) (c d : Cursor) (f : Form) (left m i : ℕ) (t : List ℤ) (z : ℤ) (one : left ≡ suc m) (p : reads text d z ≡ from text c (number f)) where
  numbers_step : (j : ℕ) (u : ℤ → List ℤ) → ((x : ℤ) (zs : List ℤ) → overlay_at i (x ∷ zs) t ≡ overlay_at j zs (u x)) → from text c (numbers_into f left i t) ≡ from text d (numbers_into f m j (u z))
  numbers_step j u e =
      ap (λ (n : ℕ). from text c (numbers_into f n i t)) one
      ∙ from-same text c _ _ (numbers_turn f m i j t u e)
      ∙ onto text c d z (number f) (λ x. numbers_into f m j (u x)) p

  -- within the table the number is stored
  pub numbers_store : from text c (numbers_into f left i t) ≡ from text d (numbers_into f m (i + 1) (set t i z))
  numbers_store = rw add-one (numbers_step (suc i) (set t i) (λ x zs. overlay_at-cons i x zs t))

  -- past its end it is dropped
  pub numbers-drop : length t ≤ i → from text c (numbers_into f left i t) ≡ from text d (numbers_into f m i t)
  numbers-drop h = numbers_step i (λ _. t) (λ x zs. overlay_at_past i (x ∷ zs) t h ∙ sym (overlay_at_past i zs t h))

-- ---- a row's numbers

numbers_index : (f : Form) (w i j : ℕ) (t : List ℤ) → min i (length t) ≡ min j (length t) → (ms : List Lexeme) → numbers_into f w i t ms ≡ numbers_into f w j t ms
unfolding numbers_into ◌>>=◌ pure
numbers_index f w i j t e ms = after_same (numbers f w ms) _ _ (λ zs l. rw (overlay_at-same i j zs t e))

-- those in front, and then the others after them
cells_parts : (lead : ℕ) (f : Form) (w i : ℕ) (t : List ℤ) (ms : List Lexeme) → cells_into lead f w i t ms ≡ (numbers_into INT lead i t >>= λ u. numbers_into f w (i + lead) u) ms
unfolding cells_into cells numbers_into ◌>>=◌ pure after
cells_parts lead f w i t ms =
    after-after (numbers INT lead ms) _ _
    ∙ after_when (numbers INT lead ms) _ _ (λ a l e. after-after (numbers f w l) _ _ ∙ after_same (numbers f w l) _ _ (λ b k. ap (λ (x : List ℤ). got x k) (overlay_at-append i a b t ∙ rw (free (numbers_give INT lead) ms a l e).0)))
    ∙ sym (after-after (numbers INT lead ms) _ _)

module _ (text : List ℕ) (c : Cursor) (lead : ℕ) (f : Form) (w i : ℕ) (t : List ℤ) where
  -- those in front refused
  pub cells_off : {n p : ℕ} → from text c (numbers_into INT lead i t) ≡ refused n p → from text c (cells_into lead f w i t) ≡ refused n p
  cells_off h = from-same text c _ _ (cells_parts lead f w i t) ∙ halt text c (numbers_into INT lead i t) h (λ x. numbers_into f w (i + lead) x)

  pub cells-joined : (d : Cursor) (j : ℕ) (u : List ℤ) {g : Got (List ℤ)} → reads text d u ≡ from text c (numbers_into INT lead i t) → min j (length u) ≡ min (i + lead) (length u) → g ≡ from text d (numbers_into f w j u) → g ≡ from text c (cells_into lead f w i t)
  cells-joined d j u p h q =
      join text c d u (numbers_into INT lead i t) (λ x. numbers_into f w (i + lead) x) p (q ∙ from-same text d _ _ (numbers_index f w j (i + lead) u h)) ∙ sym (from-same text c _ _ (cells_parts lead f w i t))

-- the index past a row, by two steps
pub row_past : (i j r lead w n : ℕ) → min j n ≡ min (i + lead) n → min r n ≡ min (j + w) n → min r n ≡ min (i + (lead + w)) n
row_past i j r lead w n p q = omega arith

-- ---- rows

-- a row is ( and then its keyword, numbers and )
pub row_opens : (k : List ℕ) (lead : ℕ) (f : Form) (w : ℕ) (ms : List Lexeme) → row_of k lead f w ms ≡ (open_bracket >> (word_of k >> closed (cells lead f w))) ms
unfolding row_of opened_of
row_opens k lead f w ms = then_assoc open_bracket (word_of k) (closed (cells lead f w)) ms

pub tail_parts : (k : List ℕ) (lead : ℕ) (f : Form) (w i : ℕ) (t : List ℤ) (ms : List Lexeme) → (word_of k >> closed (cells lead f w) >>= λ zs. pure (overlay_at i zs t)) ms ≡ row_tail k lead f w i t ms
unfolding row_tail cells_into
tail_parts k lead f w i t ms = then_bind (word_of k) (closed (cells lead f w)) _ ms ∙ then_same (word_of k) _ _ (closed-map (cells lead f w) (λ zs. overlay_at i zs t)) ms

pub tail_keeps : (k : List ℕ) (lead : ℕ) (f : Form) (w i : ℕ) (t : List ℤ) → Keeps (row_tail k lead f w i t)
unfolding row_tail cells_into
tail_keeps k lead f w i t = then_keeps (takes_keeps (word_takes k)) (closed_keeps (bind_keeps (cells_keep lead f w) (λ zs. pure_keeps (overlay_at i zs t))))

pub row_parts : (k : List ℕ) (lead : ℕ) (f : Form) (w i : ℕ) (t : List ℤ) (ms : List Lexeme) → row_into k lead f w i t ms ≡ (open_bracket >> row_tail k lead f w i t) ms
unfolding row_into ◌>>=◌
row_parts k lead f w i t ms =
    ap (λ (g : Got (List ℤ)). after g (λ zs. pure (overlay_at i zs t))) (row_opens k lead f w ms)
    ∙ then_bind open_bracket (word_of k >> closed (cells lead f w)) (λ zs. pure (overlay_at i zs t)) ms
    ∙ then_same open_bracket _ _ (tail_parts k lead f w i t) ms
