-- Pattern lines: a line is its numbers and its flag, one after the other in a row, and the lines are the list's.
use mathlib.Core.Path.{◌≡◌, refl, ap, sym, ◌∙◌}
use mathlib.Core.List.{List, [], ◌∷◌, ◌++◌}
use mathlib.Core.Bool.{Bool, true, false}
use Prim.Native.Nat.{ℕ, ◌+◌, min}
use native.Mathlib.Nat.{zero-add}
use lib.IntN.{ℤ, pos}
use lib.ListN.{length}
use Rattle.text_bytes.specs.Bytes.{bytes, in_word}
use Rattle.text_numerals.specs.Numbers.{INT}
use Rattle.text_tokens.specs.Tokens.{Lexeme}
use Rattle.parse_spec.specs.Readers.{Got, got, refused, Reader, after, ◌>>=◌, ◌>>◌, pure, open_bracket, close_bracket, word_of, opened_of, opened, closed, numbers, trailing, many}
use Rattle.parse_words.specs.Internal.Words.{words, onto, word_in}
use Rattle.parse_spec.specs.Internal.Branches.{last_of}
use Rattle.parse_cursor.specs.Internal.Cursors.{Cursor, from, reads}
use Rattle.table_rows.specs.Internal.Overlay.{overlay_at}
use Rattle.parse_rows.specs.Internal.Into.{numbers_into}
use Rattle.table_rows.specs.Flat.{flat}
use Rattle.parse_rows.specs.Internal.Folds.{fold, folded, row_step}
use Rattle.parse_cursor.proofs.Steps.{join, seq, from-same, onto as past, onto_then, halt}
use Rattle.parse_spec.proofs.Binds.{after-after, after_same, after_when, then_assoc}
use Rattle.parse_cursor.proofs.Branches.{trailing_yes, trailing_no, trailing_off, trailing-map}
use Rattle.parse_words.proofs.Vocabulary.{word_list, one_word}
use Rattle.table_rows.proofs.Tables.{overlay_at-append, overlay_at-same}
use Rattle.parse_rows.proofs.Folds.{fold-rows}
use Rattle.parse_spec.proofs.Given.{Every, free, many-gives, trailing-gives}
use Rattle.parse_spec.proofs.Ranges.{numbers_give}
use Rattle.parse_spec.proofs.Many.{Keeps, Takes, takes_keeps, pure_keeps, bind_keeps, then_keeps, then_takes, word_takes, opened_takes, closed_keeps, numbers_keeps, one_of_takes}
use Rattle.tra4_text.specs.Movement.{Pattern}
use Rattle.tra4_text.specs.Grammar.{word, truth, pattern}
use Rattle.tra4_text.proofs.Whole.{pattern_wide}
use Rattle.tra4_patterns.specs.Internal.Patterns.{pattern_tail, pattern_into, patterns_into}

-- ---- a line begins with ( and takes tokens

pub pattern_opens : (ms : List Lexeme) → pattern ms ≡ (open_bracket >> pattern_tail) ms
unfolding pattern pattern_tail opened opened_of
pattern_opens ms = then_assoc open_bracket (word_of (bytes "kgf")) _ ms

truth_keeps : Keeps truth
unfolding truth word
truth_keeps = bind_keeps (takes_keeps (one_of_takes ("false" ∷ "true" ∷ []))) (λ n. pure_keeps (pos n))

inside_keeps : Keeps (closed (numbers INT 2 >>= λ zs. truth >>= λ z. pure (zs ++ (z ∷ []))))
inside_keeps = closed_keeps (bind_keeps (numbers_keeps INT 2) (λ zs. bind_keeps truth_keeps (λ z. pure_keeps (zs ++ (z ∷ [])))))

pub pattern_keeps : Keeps pattern_tail
unfolding pattern_tail
pattern_keeps = then_keeps (takes_keeps (word_takes (bytes "kgf"))) inside_keeps

pub pattern_takes : Takes pattern
unfolding pattern
pattern_takes = then_takes (opened_takes "kgf") inside_keeps

-- ---- a line, number by number

truth-word : (ms : List Lexeme) → truth ms ≡ word_in (bytes "false true") 2 ms
unfolding truth word words onto in_word bytes word_list
truth-word ms = one_word ("false" ∷ "true" ∷ []) (bytes "false true") ms refl

module _ (at : ℕ) (out : List ℤ) where
  -- the flag after the two numbers, and )
  flag-last : List ℤ → ℤ → Reader (List ℤ)
  flag-last o z = close_bracket >> pure (overlay_at (at + 2) (z ∷ []) o)

  flag_then : List ℤ → Reader (List ℤ)
  flag_then o = word_in (bytes "false true") 2 >>= λ z. flag-last o z

  row-steps : (zs : List ℤ) → length zs ≡ 2 → (z : ℤ) → overlay_at at (zs ++ (z ∷ [])) out ≡ overlay_at (at + 2) (z ∷ []) (overlay_at at zs out)
  row-steps zs h z = overlay_at-append at zs (z ∷ []) out ∙ ap (λ (n : ℕ). overlay_at (at + n) (z ∷ []) (overlay_at at zs out)) h

  pattern-steps : (ms : List Lexeme) → pattern_into at out ms ≡ (word_of (bytes "kgf") >> (numbers_into INT 2 at out >>= λ o. flag_then o)) ms
  unfolding pattern_into pattern_tail closed numbers_into flag_then flag-last ◌>>=◌ ◌>>◌ pure after
  pattern-steps ms =
      after-after (word_of (bytes "kgf") ms) _ _
      ∙ after_same (word_of (bytes "kgf") ms) _ _ (λ _ l.
      after-after (after (numbers INT 2 l) (λ zs. truth >>= λ z. pure (zs ++ (z ∷ [])))) _ _
      ∙ after-after (numbers INT 2 l) _ _
      ∙ after_when (numbers INT 2 l) _ _ (λ zs m e.
      after-after (truth m) _ _
      ∙ ap (λ (g : Got ℤ). after g (λ z. close_bracket >> pure (zs ++ (z ∷ [])) >>= λ row. pure (overlay_at at row out))) (truth-word m)
      ∙ after_same (word_in (bytes "false true") 2 m) _ _ (λ z n. after-after (close_bracket n) _ _ ∙ after_same (close_bracket n) _ _ (λ _ o. ap (λ (t : List ℤ). got t o) (row-steps zs (free (numbers_give INT 2) l zs m e).0 z))))
      ∙ sym (after-after (numbers INT 2 l) _ _))

  module _ (text : List ℕ) (c d e : Cursor) (t : List ℤ) (p : reads text d tt ≡ from text c (word_of (bytes "kgf"))) (q : reads text e t ≡ from text d (numbers_into INT 2 at out)) where
    pub pattern-read : (f r : Cursor) (t' : List ℤ) (z : ℤ) (i : ℕ) → reads text f z ≡ from text e (word_in (bytes "false true") 2) → min i (length t) ≡ min (at + 2) (length t) → t' ≡ overlay_at i (z ∷ []) t → reads text r tt ≡ from text f close_bracket → reads text r t' ≡ from text c (pattern_into at out)
    unfolding flag_then flag-last
    pattern-read f r t' z i u h o v =
        seq text c d tt (word_of (bytes "kgf")) (numbers_into INT 2 at out >>= λ x. flag_then x) p
        (join text d e t (numbers_into INT 2 at out) (λ x. flag_then x) q
        (join text e f z (word_in (bytes "false true") 2) (λ x. flag-last t x) u
        (seq text f r tt close_bracket (pure (overlay_at (at + 2) (z ∷ []) t)) v (ap (λ (x : List ℤ). from text r (pure x)) (o ∙ overlay_at-same i (at + 2) (z ∷ []) t h)))))
        ∙ sym (from-same text c _ _ pattern-steps)

    -- no flag
    pub pattern_off : {n m : ℕ} → from text e (word_in (bytes "false true") 2) ≡ refused n m → from text c (pattern_into at out) ≡ refused n m
    unfolding flag_then
    pattern_off h =
        from-same text c _ _ pattern-steps
        ∙ onto_then text c d tt (word_of (bytes "kgf")) (numbers_into INT 2 at out >>= λ x. flag_then x) p
        ∙ past text d e t (numbers_into INT 2 at out) (λ x. flag_then x) q
        ∙ halt text e (word_in (bytes "false true") 2) h (λ x. flag-last t x)

-- ---- all of them

module _ (table : List ℤ) where
  lines : List Pattern → ℕ × List ℤ
  lines ps = (length ps, overlay_at 0 (flat ps) table)

  fold_lines : (ps : List Pattern) → Every (λ r. length r ≡ 3) ps → fold (row_step 3) (0, table) ps ≡ lines ps
  unfolding lines
  fold_lines ps h = fold-rows 3 0 table ps h ∙ rw (zero-add (length ps))

  patterns-fold : (ms : List Lexeme) → trailing "DynamicPolygons" (0, table) (folded (row_step 3) pattern (0, table)) ms ≡ patterns_into table ms
  unfolding folded fold patterns_into lines ◌>>=◌ pure
  patterns-fold ms =
      sym (trailing-map "DynamicPolygons" [] (many pattern) (λ ps. fold (row_step 3) (0, table) ps) ms)
      ∙ after_when (trailing "DynamicPolygons" [] (many pattern) ms) _ _ (λ ps l e. ap (λ (v : ℕ × List ℤ). got v l) (fold_lines ps (free (trailing-gives "DynamicPolygons" [] tt (many-gives pattern_wide)) ms ps l e)))

  module _ (text : List ℕ) (c d : Cursor) (v : Bool) (p : reads text d v ≡ from text c (last_of (bytes "DynamicPolygons"))) where
    pub patterns_some : v ≡ true → {g : Got (ℕ × List ℤ)} → g ≡ from text d (folded (row_step 3) pattern (0, table)) → g ≡ from text c (patterns_into table)
    patterns_some h q = trailing_yes "DynamicPolygons" (0, table) (folded (row_step 3) pattern (0, table)) text c d v p h q ∙ from-same text c _ _ patterns-fold

    pub patterns_none : v ≡ false → ◌≡◌ {A = Got (ℕ × List ℤ)} (reads text d (0, table)) (from text c (patterns_into table))
    patterns_none h = trailing_no "DynamicPolygons" (0, table) (folded (row_step 3) pattern (0, table)) text c d v p h ∙ from-same text c _ _ patterns-fold

  pub patterns_off : (text : List ℕ) (c : Cursor) {n p : ℕ} → from text c (last_of (bytes "DynamicPolygons")) ≡ refused n p → from text c (patterns_into table) ≡ refused n p
  patterns_off text c h = sym (from-same text c _ _ patterns-fold) ∙ trailing_off "DynamicPolygons" (0, table) (folded (row_step 3) pattern (0, table)) text c h
