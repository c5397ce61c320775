-- A list worked off item by item: each turn of a loop is one choice of a bracket and one item.
use mathlib.Core.Path.{◌≡◌, refl, ap, sym, ◌∙◌}
use mathlib.Core.List.{List, [], ◌∷◌}
use native.Mathlib.Omega.{arith}
use mathlib.Core.Bool.{Bool, true, false}
use Prim.Native.Nat.{ℕ, suc, ◌+◌, ◌*◌, ◌<◌, min}
use lib.IntN.{ℤ}
use lib.ListN.{length}
use Rattle.text_tokens.specs.Tokens.{Lexeme, lex_at}
use Rattle.std.proofs.Common.{Ok}
use Rattle.parse_spec.specs.Readers.{Got, got, refused, Reader, after, ◌>>=◌, ◌>>◌, pure, open_bracket, many}
use Rattle.parse_cursor.specs.Internal.Cursors.{Cursor, from, reads}
use Rattle.table_rows.specs.Internal.Overlay.{overlay_at}
use Rattle.parse_spec.specs.Internal.Branches.{item_of}
use Rattle.parse_rows.specs.Internal.Folds.{fold, folded, stepped, row_step}
use Rattle.parse_cursor.proofs.Steps.{join, seq, from-same, onto, onto_then, halt, halt_then}
use Rattle.parse_spec.proofs.Binds.{after-after, after_same, then_bind}
use Rattle.parse_spec.proofs.Many.{Takes, Keeps, pure_keeps, bind_keeps, then_takes}
use Rattle.table_rows.proofs.Tables.{overlay_at_none, overlay_at-append, overlay_at-same}
use Rattle.table_rows.specs.Flat.{flat}
use Rattle.parse_spec.proofs.Given.{Every}
use Rattle.parse_cursor.proofs.Counts.{falls}
use Rattle.parse_cursor.proofs.Branches.{items_end, items_more, items_off, item_takes}

-- items that begin with (, where u reads what stands after that
module _ {A S : Type 0} (step : S → A → S) (r u : Reader A) (t : Takes r) (k : Keeps u) (opens : (ms : List Lexeme) → r ms ≡ (open_bracket >> u) ms) (text : List ℕ) (c : Cursor) where
  -- neither the list's end nor an item's begin
  pub folded_off : (s : S) {n p : ℕ} → from text c item_of ≡ refused n p → from text c (folded step r s) ≡ refused n p
  unfolding folded
  folded_off s e = items_off r u t opens (λ l. pure (fold step s l)) text c e

  module _ (d : Cursor) (v : Bool) (p : reads text d v ≡ from text c item_of) (s : S) where
    pub folded_end : v ≡ true → from text c (folded step r s) ≡ reads text d s
    unfolding folded fold
    folded_end o = items_end r u t opens (λ l. pure (fold step s l)) text c d v p o

    folded_turn : (ms : List Lexeme) → (u >>= λ a. many r >>= λ l. pure (fold step s (a ∷ l))) ms ≡ (stepped step u s >>= λ x. folded step r x) ms
    unfolding folded fold stepped ◌>>=◌ pure after
    folded_turn ms = sym (after-after (u ms) (λ a. pure (step s a)) (λ x. folded step r x))

    folded_into : v ≡ false → from text c (folded step r s) ≡ from text d (stepped step u s >>= λ x. folded step r x)
    unfolding folded
    folded_into o = items_more r u t opens (λ l. pure (fold step s l)) text c d v p o ∙ from-same text d _ _ folded_turn

    -- an item that is refused
    pub folded_stop : v ≡ false → {n q : ℕ} → from text d (stepped step u s) ≡ refused n q → from text c (folded step r s) ≡ refused n q
    folded_stop o h = folded_into o ∙ halt text d (stepped step u s) h (λ y. folded step r y)

    pub folded_more : (e : Cursor) (x : S) → reads text e x ≡ from text d (stepped step u s) → v ≡ false → from text c (folded step r s) ≡ from text e (folded step r x)
    folded_more e x q o = folded_into o ∙ onto text d e x (stepped step u s) (λ y. folded step r y) q

-- fewer tokens are left after an item
pub folded_fall : {A S : Type 0} (step : S → A → S) (u : Reader A) → Keeps u → (text : List ℕ) (at to : ℕ) (d : Cursor) (v : Bool) → reads text d v ≡ from text (Ok at) item_of → (s x : S) → reads text (Ok to) x ≡ from text d (stepped step u s) → length (lex_at text to) < length (lex_at text at)
unfolding stepped
folded_fall step u k text at to d v p s x q = falls text at to (item_of >> stepped step u s) x (then_takes item_takes (bind_keeps k (λ a. pure_keeps (step s a)))) (seq text (Ok at) d v item_of (stepped step u s) p q)

row_same : (u : Reader (List ℤ)) (w n i : ℕ) (t : List ℤ) (ms : List Lexeme) → min i (length t) ≡ min (n * w) (length t) → (u >>= (λ row. pure (overlay_at i row t)) >>= λ (y : List ℤ). pure (n + 1, y)) ms ≡ stepped (row_step w) u (n, t) ms
unfolding stepped row_step ◌>>=◌ pure after
row_same u w n i t ms h =
    after-after (u ms) (λ row. pure (overlay_at i row t)) (λ (y : List ℤ). pure (n + 1, y))
    ∙ after_same (u ms) _ _ (λ row l. ap (λ (y : List ℤ). got (n + 1, y) l) (overlay_at-same i (n * w) row t h))

-- ---- rows of w numbers, one after the other in a table

-- a row set down at an index that is as good as that of row n
module _ (u : Reader (List ℤ)) (w n i : ℕ) (t : List ℤ) (text : List ℕ) (d : Cursor) (h : min i (length t) ≡ min (n * w) (length t)) where
  pub row-stepped : (e : Cursor) (t' : List ℤ) → reads text e t' ≡ from text d (u >>= λ row. pure (overlay_at i row t)) → reads text e (n + 1, t') ≡ from text d (stepped (row_step w) u (n, t))
  row-stepped e t' q =
      join text d e t' (u >>= λ row. pure (overlay_at i row t)) (λ (y : List ℤ). pure (n + 1, y)) q refl
      ∙ from-same text d _ _ (λ ms. row_same u w n i t ms h)

  pub row_refused : {m p : ℕ} → from text d (u >>= λ row. pure (overlay_at i row t)) ≡ refused m p → from text d (stepped (row_step w) u (n, t)) ≡ refused m p
  row_refused q = sym (from-same text d _ _ (λ ms. row_same u w n i t ms h)) ∙ halt text d (u >>= λ row. pure (overlay_at i row t)) q (λ (y : List ℤ). pure (n + 1, y))

-- all of them

no_rows : (w n : ℕ) (t : List ℤ) → ◌≡◌ {A = ℕ × List ℤ} (n, t) (n + 0, overlay_at (n * w) [] t)
no_rows w n t = let z : n + 0 ≡ n = omega arith in rw (overlay_at_none (n * w) t, z)

pub fold-rows : (w n : ℕ) (t : List ℤ) (rs : List (List ℤ)) → Every (λ r. length r ≡ w) rs → fold (row_step w) (n, t) rs ≡ (n + length rs, overlay_at (n * w) (flat rs) t)
unfolding fold row_step flat
fold-rows w n t [] h = no_rows w n t
fold-rows w n t (r ∷ rs) h =
    let e : n * w + length r ≡ (n + 1) * w = omega (arith, h.0) in
    let c : n + 1 + length rs ≡ n + suc (length rs) = omega arith in
    fold-rows w (n + 1) (overlay_at (n * w) r t) rs h.1 ∙ rw (c, overlay_at-append (n * w) r (flat rs) t, e)

-- ---- one item or more

pub stepped_opens : {A S : Type 0} (step : S → A → S) (r u : Reader A) → ((ms : List Lexeme) → r ms ≡ (open_bracket >> u) ms) → (s : S) (ms : List Lexeme) → stepped step r s ms ≡ (open_bracket >> stepped step u s) ms
unfolding stepped ◌>>=◌
stepped_opens step r u opens s ms = ap (λ (g : Got _). after g (λ a. pure (step s a))) (opens ms) ∙ then_bind open_bracket u (λ a. pure (step s a)) ms

-- the first item after its (, and then the others
module _ {A S : Type 0} (step : S → A → S) (r u : Reader A) (opens : (ms : List Lexeme) → r ms ≡ (open_bracket >> u) ms) (text : List ℕ) (c : Cursor) (s : S) where
  first_opens : from text c (stepped step r s) ≡ from text c (open_bracket >> stepped step u s)
  first_opens = from-same text c _ _ (stepped_opens step r u opens s)

  pub folded-first : (d e : Cursor) (x : S) {g : Got S} → reads text d tt ≡ from text c open_bracket → reads text e x ≡ from text d (stepped step u s) → g ≡ from text e (folded step r x) → g ≡ from text c (stepped step r s >>= λ z. folded step r z)
  folded-first d e x p q o =
      join text c e x (stepped step r s) (λ z. folded step r z)
      (seq text c d tt open_bracket (stepped step u s) p q ∙ sym first_opens)
      o

  -- no item
  pub first_closed : {n p : ℕ} → from text c open_bracket ≡ refused n p → from text c (stepped step r s >>= λ z. folded step r z) ≡ refused n p
  first_closed h = halt text c (stepped step r s) (first_opens ∙ halt_then text c open_bracket h (stepped step u s)) (λ z. folded step r z)

  -- a first item that is refused
  pub first_stop : (d : Cursor) {n p : ℕ} → reads text d tt ≡ from text c open_bracket → from text d (stepped step u s) ≡ refused n p → from text c (stepped step r s >>= λ z. folded step r z) ≡ refused n p
  first_stop d o h = halt text c (stepped step r s) (first_opens ∙ onto_then text c d tt open_bracket (stepped step u s) o ∙ h) (λ z. folded step r z)
