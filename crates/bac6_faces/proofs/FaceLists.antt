-- Faces one after the other, each a row more in the table.
use mathlib.Core.Path.{◌≡◌, refl, ap, sym, ◌∙◌}
use mathlib.Core.List.{List, [], ◌∷◌}
use Prim.Native.Nat.{ℕ, zero, suc, ◌+◌, ◌*◌, min}
use lib.IntN.{ℤ}
use lib.ListN.{length}
use Rattle.text_numerals.specs.Numbers.{INT}
use Rattle.text_tokens.specs.Tokens.{Lexeme}
use Rattle.parse_spec.specs.Readers.{got, refused, after, ◌>>=◌, ◌>>◌, pure, open_bracket, one_of}
use Rattle.parse_cursor.specs.Internal.Cursors.{Cursor, reads, from}
use Rattle.table_rows.specs.Internal.Overlay.{overlay_at}
use Rattle.parse_rows.specs.Internal.Folds.{stepped, row_step}
use Rattle.parse_cursor.proofs.Steps.{join, halt, from-same}
use Rattle.parse_spec.proofs.Binds.{after-after, after_same}
use Rattle.table_rows.proofs.Tables.{overlay_at-same}
use Rattle.parse_spec.proofs.Many.{Keeps, Takes, takes_keeps, pure_keeps, bind_keeps, bind_takes, then_keeps, then_takes, keyword_takes, opened_takes, open_takes, close_takes, closed_keeps, number_takes, numbers_keeps, one_of_takes, row_takes}
use Rattle.bac6_text.specs.Grammar.{face, face_of, face_by}
use Rattle.bac6_text.specs.Layout.{face_row}
use Rattle.bac6_faces.specs.Internal.Into.{face_step}
use Rattle.bac6_face.specs.Internal.Into.{face_tail, face_into}

-- ---- a face takes a token

of_keeps : (m : ℤ) (k : ℕ) → Keeps (face_by m k)
unfolding face_by face_of
of_keeps m zero = bind_keeps (closed_keeps (numbers_keeps INT 3)) (λ vs. bind_keeps (takes_keeps (row_takes "i3" INT 3)) (λ ts. then_keeps (takes_keeps close_takes) (pure_keeps _)))
of_keeps m (suc k) = bind_keeps (closed_keeps (numbers_keeps INT 4)) (λ vs. bind_keeps (takes_keeps (row_takes "i4" INT 4)) (λ ts. then_keeps (takes_keeps close_takes) (pure_keeps _)))

inside_keeps : (m : ℤ) → Keeps (open_bracket >> one_of ("i3" ∷ "i4" ∷ []) >>= λ k. face_by m k)
inside_keeps m = bind_keeps (then_keeps (takes_keeps open_takes) (takes_keeps (one_of_takes ("i3" ∷ "i4" ∷ [])))) (λ k. of_keeps m k)

pub face_keeps : Keeps face_tail
unfolding face_tail
face_keeps = bind_keeps (then_keeps (takes_keeps (keyword_takes "face")) (takes_keeps (number_takes INT))) inside_keeps

pub face_takes : Takes face
unfolding face
face_takes = bind_takes (then_takes (opened_takes "face") (takes_keeps (number_takes INT))) inside_keeps

-- ---- a face's row, set down at an index that is as good as that of row n

module _ (g : ℤ) (n i : ℕ) (t : List ℤ) (h : min i (length t) ≡ min (n * 11) (length t)) where
  face-same : (ms : List Lexeme) → (face_into g i t >>= λ (y : List ℤ). pure (n + 1, y)) ms ≡ stepped (face_step g) face_tail (n, t) ms
  unfolding face_into face_step stepped row_step ◌>>=◌ pure after
  face-same ms =
      after-after (face_tail ms) (λ f. pure (overlay_at i (face_row g f) t)) (λ (y : List ℤ). pure (n + 1, y))
      ∙ after_same (face_tail ms) _ _ (λ f l. ap (λ (y : List ℤ). got (n + 1, y) l) (overlay_at-same i (n * 11) (face_row g f) t h))

  pub face-stepped : (text : List ℕ) (d e : Cursor) (t' : List ℤ) → reads text e t' ≡ from text d (face_into g i t) → reads text e (n + 1, t') ≡ from text d (stepped (face_step g) face_tail (n, t))
  face-stepped text d e t' q = join text d e t' (face_into g i t) (λ (y : List ℤ). pure (n + 1, y)) q refl ∙ from-same text d _ _ face-same

  pub face_stopped : (text : List ℕ) (d : Cursor) {k p : ℕ} → from text d (face_into g i t) ≡ refused k p → from text d (stepped (face_step g) face_tail (n, t)) ≡ refused k p
  face_stopped text d h = sym (from-same text d _ _ face-same) ∙ halt text d (face_into g i t) h (λ (y : List ℤ). pure (n + 1, y))
