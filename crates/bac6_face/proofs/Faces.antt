-- A face's row, by its parts, and the readers that make it.
use mathlib.Core.Path.{◌≡◌, refl, ap, sym, ◌∙◌}
use mathlib.Core.List.{List, [], ◌∷◌, ◌++◌, append_assoc}
use Prim.Native.Nat.{ℕ, zero, suc, ◌-◌, ◌^◌, ◌≤◌, ◌<◌}
use native.Mathlib.Omega.{arith}
use mir.Syntax.{w64}
use mir.Val.{SFits, to_z, of_z}
use mir.Facts.{to_z-of_z}
use Rattle.signed.proofs.Signed.{bits_pos}
use lib.IntN.{ℤ, pos, negsuc}
use lib.ListN.{length}
use Rattle.text_numerals.specs.Numbers.{INT}
use Rattle.text_bytes.specs.Bytes.{bytes, in_word}
use Rattle.text_tokens.specs.Tokens.{Lexeme}
use Rattle.parse_spec.specs.Readers.{Got, refused, Reader, after, ◌>>=◌, ◌>>◌, pure, open_bracket, close_bracket, keyword, word_of, opened, opened_of, closed, number, numbers, one_of, row, row_of}
use Rattle.parse_words.specs.Internal.Words.{words, onto, word_in}
use Rattle.parse_rows.specs.Internal.Into.{numbers_into, row_into}
use Rattle.parse_cursor.specs.Internal.Cursors.{Cursor, reads, from}
use Rattle.table_rows.specs.Internal.Overlay.{overlay, overlay_at}
use Rattle.parse_spec.proofs.Binds.{after-after, after_same, after_when, then_assoc, then_bind, closed-map}
use Rattle.parse_cursor.proofs.Steps.{closed_at, join, seq, from-same, onto as past, onto_then, halt}
use Rattle.parse_spec.proofs.Given.{free, closed-gives}
use Rattle.parse_spec.proofs.Ranges.{numbers_give, row_of-gives}
use Rattle.parse_words.proofs.Vocabulary.{word_list, one_word}
use Rattle.bac6_text.specs.Grammar.{face, face_of, face_by}
use Rattle.bac6_text.specs.Layout.{face_row, corners}
use Rattle.bac6_face.specs.Internal.Into.{corners_of, corners_into, face_tail, face_into}

-- ---- the row of eleven

-- corners over unused ones
over_unused : (n : ℕ) (zs rest : List ℤ) → length zs ≤ n → overlay zs (corners n [] ++ rest) ≡ corners n zs ++ rest
unfolding overlay corners
over_unused zero [] rest h = refl
over_unused zero (z ∷ zs) rest h = absurd (omega arith)
over_unused (suc n) [] rest h = refl
over_unused (suc n) (z ∷ zs) rest h = ap (λ (l : List ℤ). z ∷ l) (over_unused n zs rest (omega arith))

-- numbers after corners
past_corners : (n : ℕ) (zs ts rest : List ℤ) → overlay_at n ts (corners n zs ++ rest) ≡ corners n zs ++ overlay ts rest
unfolding overlay_at corners
past_corners zero zs ts rest = refl
past_corners (suc n) [] ts rest = ap (λ (l : List ℤ). negsuc 0 ∷ l) (past_corners n [] ts rest)
past_corners (suc n) (z ∷ zs) ts rest = ap (λ (l : List ℤ). z ∷ l) (past_corners n zs ts rest)

-- a row with no corners yet
unfoldable pub blank : ℤ → ℕ → ℤ → List ℤ
blank m n g = m ∷ pos n ∷ (corners 4 [] ++ (corners 4 [] ++ (g ∷ [])))

row_laid : (m g : ℤ) (n : ℕ) (vs ts : List ℤ) → length vs ≤ 4 → length ts ≤ 4 → overlay_at 6 ts (overlay_at 2 vs (blank m n g)) ≡ face_row g (record { material = m; size = n; vertices = vs; uvs = ts })
unfolding blank face_row overlay_at
row_laid m g n vs ts h k =
    ap (λ (l : List ℤ). m ∷ pos n ∷ l)
    (ap (λ (l : List ℤ). overlay_at 4 ts l) (over_unused 4 vs (corners 4 [] ++ (g ∷ [])) h)
    ∙ past_corners 4 vs ts (corners 4 [] ++ (g ∷ []))
    ∙ ap (λ (l : List ℤ). corners 4 vs ++ l) (over_unused 4 ts (g ∷ []) k)
    ∙ sym (append_assoc (corners 4 vs) (corners 4 ts) (g ∷ [])))

-- the same from its numbers' bits
pub blank_bits : (m g z : ℤ) (n : ℕ) → SFits w64 m → SFits w64 g → z ≡ pos n → n ≤ 4 → (to_z w64 (of_z w64 m) ∷ to_z w64 (of_z w64 z) ∷ negsuc 0 ∷ negsuc 0 ∷ negsuc 0 ∷ negsuc 0 ∷ negsuc 0 ∷ negsuc 0 ∷ negsuc 0 ∷ negsuc 0 ∷ to_z w64 (of_z w64 g) ∷ []) ≡ blank m n g
unfolding blank corners
blank_bits m g z n a b e h =
    let small : n < 2 ^ 63 = omega arith in
    rw (e, to_z-of_z a, to_z-of_z b, bits_pos n small)

-- ---- corners

module _ (m : ℤ) (k : List ℕ) (n : ℕ) (g : ℤ) (i : ℕ) (table : List ℤ) (small : n ≤ 4) where
  -- the numbers go to the row, and the row to the table
  corners_parts : (ms : List Lexeme) → (closed (numbers_into INT n 2 (blank m n g)) >>= λ t. closed (row_into k 0 INT n 6 t) >>= λ u. pure (overlay_at i u table)) ms ≡ corners_into m k n g i table ms
  unfolding corners_into corners_of numbers_into row_into ◌>>=◌ ◌>>◌ closed after pure
  corners_parts ms =
      ap (λ (x : Got (List ℤ)). after x (λ t. closed (row_into k 0 INT n 6 t) >>= λ u. pure (overlay_at i u table))) (sym (closed-map (numbers INT n) (λ vs. overlay_at 2 vs (blank m n g)) ms))
      ∙ after-after (closed (numbers INT n) ms) _ _
      ∙ after_when (closed (numbers INT n) ms) _ _ (λ vs l e. inner vs l (free (closed-gives (numbers_give INT n)) ms vs l e).0)
      ∙ sym (after-after (closed (numbers INT n) ms) _ _)
    where
      inner : (vs : List ℤ) (l : List Lexeme) → length vs ≡ n → (closed (row_into k 0 INT n 6 (overlay_at 2 vs (blank m n g))) >>= λ u. pure (overlay_at i u table)) l ≡ (row_of k 0 INT n >>= (λ ts. close_bracket >> pure (record { material = m; size = n; vertices = vs; uvs = ts })) >>= λ f. pure (overlay_at i (face_row g f) table)) l
      inner vs l h =
          after-after (row_into k 0 INT n 6 (overlay_at 2 vs (blank m n g)) l) _ _
          ∙ after-after (row_of k 0 INT n l) _ _
          ∙ after_when (row_of k 0 INT n l) _ _ (λ ts j e. after-after (close_bracket j) _ _ ∙ ap (λ (z : List ℤ). after (close_bracket j) (λ _. pure (overlay_at i z table))) (row_laid m g n vs ts (omega arith) (omega (arith, (free (row_of-gives k 0 INT n) l ts j e).0))) ∙ sym (after-after (close_bracket j) _ _))
          ∙ sym (after-after (row_of k 0 INT n l) _ _)

  pub corners-joined : (text : List ℕ) (c v d u r : Cursor) (start vs us : List ℤ) (w : ℕ) → start ≡ blank m n g → w ≡ n → reads text v vs ≡ from text c (numbers_into INT w 2 start) → reads text d tt ≡ from text v close_bracket → reads text u us ≡ from text d (row_into k 0 INT w 6 vs) → reads text r tt ≡ from text u close_bracket → reads text r (overlay_at i us table) ≡ from text c (corners_into m k n g i table)
  corners-joined text c v d u r start vs us w b h p q o e =
      join text c d vs (closed (numbers_into INT n 2 (blank m n g))) (λ t. closed (row_into k 0 INT n 6 t) >>= λ x. pure (overlay_at i x table)) (closed_at text c v d vs _ (rw (b, h) at p) q)
      (join text d r us (closed (row_into k 0 INT n 6 vs)) (λ x. pure (overlay_at i x table)) (closed_at text d u r us _ (rw h at o) e) refl)
      ∙ from-same text c _ _ corners_parts

-- ---- a number that is 0, by its bits

pub zero_bits : (z : ℤ) → SFits w64 z → of_z w64 z ≡ 0 → z ≡ pos 0
zero_bits (pos n) f e = ap pos e
zero_bits (negsuc n) f e = let h : n < 2 ^ 63 = f.sfits in let g : 2 ^ 64 - suc n ≡ 0 = e in absurd (omega arith)

pub other_bits : (z : ℤ) → (of_z w64 z ≡ 0 → ⊥) → z ≡ pos 0 → ⊥
other_bits z n e = n (rw e)

-- ---- a face, by the row of its first word

unfoldable pub corners_by : ℤ → ℤ → ℤ → ℕ → List ℤ → Reader (List ℤ)
corners_by m (pos zero) g i table = corners_into m (bytes "i3") 3 g i table
corners_by m (pos (suc k)) g i table = corners_into m (bytes "i4") 4 g i table
corners_by m (negsuc k) g i table = corners_into m (bytes "i4") 4 g i table

by_other : (m z g : ℤ) (i : ℕ) (table : List ℤ) → (z ≡ pos 0 → ⊥) → corners_by m z g i table ≡ corners_into m (bytes "i4") 4 g i table
unfolding corners_by
by_other m (pos zero) g i table e = absurd (e refl)
by_other m (pos (suc k)) g i table e = refl
by_other m (negsuc k) g i table e = refl

module _ (m z g : ℤ) (i : ℕ) (table : List ℤ) (a : SFits w64 m) (b : SFits w64 g) (text : List ℕ) (w : Cursor) {x : Got (List ℤ)} where
  pub by_first : z ≡ pos 0 → x ≡ from text w (corners_into (to_z w64 (of_z w64 m)) (bytes "i3") 3 (to_z w64 (of_z w64 g)) i table) → x ≡ from text w (corners_by m z g i table)
  unfolding corners_by
  by_first e p = rw e (rw (to_z-of_z a, to_z-of_z b) at p)

  pub by_second : (z ≡ pos 0 → ⊥) → x ≡ from text w (corners_into (to_z w64 (of_z w64 m)) (bytes "i4") 4 (to_z w64 (of_z w64 g)) i table) → x ≡ from text w (corners_by m z g i table)
  by_second e p = rw (by_other m z g i table e) (rw (to_z-of_z a, to_z-of_z b) at p)

module _ (g : ℤ) (i : ℕ) (table : List ℤ) where
  by_row : (m : ℤ) (k : ℕ) (ms : List Lexeme) → corners_by m (pos k) g i table ms ≡ (face_by m k >>= λ f. pure (overlay_at i (face_row g f) table)) ms
  unfolding corners_by corners_into corners_of face_by face_of row
  by_row m zero ms = refl
  by_row m (suc k) ms = refl

  by_word : (m : ℤ) (ms : List Lexeme) → (word_in (bytes "i3 i4") 2 >>= λ z. corners_by m z g i table) ms ≡ (one_of ("i3" ∷ "i4" ∷ []) >>= λ k. face_by m k >>= λ f. pure (overlay_at i (face_row g f) table)) ms
  unfolding ◌>>=◌ after pure words onto word_list bytes in_word
  by_word m ms =
      ap (λ (x : Got ℤ). after x (λ z. corners_by m z g i table)) (sym (one_word ("i3" ∷ "i4" ∷ []) (bytes "i3 i4") ms refl))
      ∙ after-after (one_of ("i3" ∷ "i4" ∷ []) ms) _ _
      ∙ after_same (one_of ("i3" ∷ "i4" ∷ []) ms) _ _ (by_row m)

  face_parts : (ms : List Lexeme) → (keyword "face" >> number INT >>= λ m. open_bracket >> word_in (bytes "i3 i4") 2 >>= λ z. corners_by m z g i table) ms ≡ face_into g i table ms
  unfolding face_into face_tail ◌>>=◌ ◌>>◌
  face_parts ms =
      after_same ((keyword "face" >> number INT) ms) _ _ (λ m l. after-after (open_bracket l) _ _ ∙ after_same (open_bracket l) _ _ (λ _. by_word m) ∙ sym (after-after (after (open_bracket l) _) _ _ ∙ after-after (open_bracket l) _ _))
      ∙ sym (after-after ((keyword "face" >> number INT) ms) _ _)

  -- the first number is refused, and what comes after it
  module _ (text : List ℕ) (c k : Cursor) (p : reads text k tt ≡ from text c (word_of (bytes "face"))) where
    pub face_stopped : {j q : ℕ} → from text k (number INT) ≡ refused j q → from text c (face_into g i table) ≡ refused j q
    unfolding keyword
    face_stopped h = sym (from-same text c _ _ face_parts) ∙ halt text c (keyword "face" >> number INT) (onto_then text c k tt (word_of (bytes "face")) (number INT) p ∙ h) _

    module _ (n o : Cursor) (m : ℤ) (q : reads text n m ≡ from text k (number INT)) (u : reads text o tt ≡ from text n open_bracket) where
      face_on : from text c (face_into g i table) ≡ from text o (word_in (bytes "i3 i4") 2 >>= λ z. corners_by m z g i table)
      unfolding keyword
      face_on =
          sym (from-same text c _ _ face_parts)
          ∙ past text c n m (keyword "face" >> number INT) (λ v. open_bracket >> word_in (bytes "i3 i4") 2 >>= λ z. corners_by v z g i table) (seq text c k tt (word_of (bytes "face")) (number INT) p q)
          ∙ from-same text n _ _ (then_bind open_bracket (word_in (bytes "i3 i4") 2) (λ z. corners_by m z g i table))
          ∙ onto_then text n o tt open_bracket (word_in (bytes "i3 i4") 2 >>= λ z. corners_by m z g i table) u

      pub face_balked : {j p : ℕ} → from text o (word_in (bytes "i3 i4") 2) ≡ refused j p → from text c (face_into g i table) ≡ refused j p
      face_balked h = face_on ∙ halt text o (word_in (bytes "i3 i4") 2) h _

      pub face-joined : (w : Cursor) (z : ℤ) {x : Got (List ℤ)} → reads text w z ≡ from text o (word_in (bytes "i3 i4") 2) → x ≡ from text w (corners_by m z g i table) → x ≡ from text c (face_into g i table)
      face-joined w z v e = join text o w z (word_in (bytes "i3 i4") 2) (λ y. corners_by m y g i table) v e ∙ sym face_on

pub face_opens : (ms : List Lexeme) → face ms ≡ (open_bracket >> face_tail) ms
unfolding face face_tail opened opened_of keyword after ◌>>=◌ ◌>>◌
face_opens ms =
    ap (λ (x : Got ℤ). after x (λ m. open_bracket >> one_of ("i3" ∷ "i4" ∷ []) >>= λ k. face_by m k)) (then_assoc open_bracket (word_of (bytes "face")) (number INT) ms)
    ∙ then_bind open_bracket (word_of (bytes "face") >> number INT) (λ m. open_bracket >> one_of ("i3" ∷ "i4" ∷ []) >>= λ k. face_by m k) ms
