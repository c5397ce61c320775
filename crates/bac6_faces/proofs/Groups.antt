-- A group, by its name and its faces.
use mathlib.Core.Path.{◌≡◌, ap, sym, ◌∙◌}
use mathlib.Core.List.{List, [], ◌∷◌}
use Prim.Native.Nat.{ℕ, ◌+◌, ◌*◌, ◌^◌, ◌≤◌, ◌<◌, min}
use native.Mathlib.Omega.{arith}
use mir.Syntax.{w64}
use mir.Val.{to_z}
use lib.IntN.{ℤ, pos}
use lib.ListN.{length}
use Rattle.text_bytes.specs.Bytes.{bytes}
use Rattle.text_tokens.specs.Tokens.{Lexeme, lex_at}
use Rattle.std.proofs.Common.{Result, Ok, Err}
use Rattle.refusal.specs.declared.checked.Refusal.{Refusal}
use Rattle.parse_spec.specs.Readers.{Got, refused, Reader, after, ◌>>=◌, ◌>>◌, pure, open_bracket, keyword, word_of, opened, opened_of, closed, Name, absent, string, optional, many}
use Rattle.parse_cursor.specs.Internal.Cursors.{Cursor, reads, from, parsed}
use Rattle.table_rows.specs.Internal.Overlay.{overlay_at}
use Rattle.parse_spec.specs.Internal.Places.{place_of, optional_name}
use Rattle.parse_rows.specs.Internal.Folds.{folded, stepped, row_step}
use Rattle.signed.proofs.Signed.{bits_pos}
use Rattle.table_rows.proofs.Tables.{overlay_at-same}
use Rattle.parse_cursor.proofs.Forms.{parsed-map}
use Rattle.parse_cursor.proofs.Steps.{seq, onto, onto_then, halt, from-bind, from-same}
use Rattle.parse_spec.proofs.Binds.{after-after, after_same, then_assoc, then_bind}
use Rattle.parse_spec.proofs.Many.{Keeps, Takes, takes_keeps, pure_keeps, bind_keeps, bind_takes, then_keeps, then_takes, keyword_takes, word_takes, opened_takes, closed_keeps, string_takes, optional_keeps, many_keeps}
use Rattle.bac6_text.specs.Figure.{Group}
use Rattle.bac6_text.specs.Grammar.{face, group}
use Rattle.bac6_text.specs.Layout.{name_numbers}
use Rattle.bac6_faces.specs.Internal.Bounds.{Fewer}
use Rattle.bac6_faces.specs.Internal.Into.{face_step, group_tail, group_step}
use Rattle.parse_cursor.proofs.Counts.{short}
use Rattle.parse_names.proofs.NameSteps.{name_keeps}
use Rattle.bac6_faces.proofs.FaceLists.{face_takes}

-- a keyword and a name
pub named-short : (text : List ℕ) (c : ℕ) (k : Cursor) (d : ℕ) (w : List ℕ) (v : ℕ × ℕ) → reads text k tt ≡ from text (Ok c) (word_of w) → reads text (Ok d) v ≡ from text k optional_name → length (lex_at text d) ≤ length (lex_at text c)
named-short text c k d w v p q = short text c d (word_of w >> optional_name) v (then_keeps (takes_keeps (word_takes w)) name_keeps) (seq text (Ok c) k tt (word_of w) optional_name p q)

-- a name's row from its numbers' bits, at an index that is as good as that of row i
pub name-row : (i to p n : ℕ) (ns ns' : List ℤ) → p < 2 ^ 63 → n < 2 ^ 63 → min to (length ns) ≡ min (i * 2) (length ns) → ns' ≡ overlay_at to (to_z w64 p ∷ to_z w64 n ∷ []) ns → ns' ≡ overlay_at (i * 2) (pos p ∷ pos n ∷ []) ns
name-row i to p n ns ns' h k e q = q ∙ rw (bits_pos p h, bits_pos n k) (overlay_at-same to (i * 2) (pos p ∷ pos n ∷ []) ns e)

-- ---- a group takes a token

inside_keeps : (n : Name) → Keeps {A = Group} (many face >>= λ fs. pure (record { name = n; faces = fs }))
inside_keeps n = bind_keeps (many_keeps (takes_keeps face_takes)) (λ fs. pure_keeps _)

pub group_keeps : Keeps group_tail
unfolding group_tail
group_keeps = bind_keeps (then_keeps (takes_keeps (keyword_takes "group")) (optional_keeps "name" absent (closed_keeps (takes_keeps string_takes)))) inside_keeps

pub group_takes : Takes group
unfolding group
group_takes = bind_takes (then_takes (opened_takes "group") (optional_keeps "name" absent (closed_keeps (takes_keeps string_takes)))) inside_keeps

pub group_opens : (ms : List Lexeme) → group ms ≡ (open_bracket >> group_tail) ms
unfolding group group_tail opened opened_of keyword after ◌>>=◌ ◌>>◌
group_opens ms =
    ap (λ (x : Got Name). after x (λ n. many face >>= λ fs. pure (record { name = n; faces = fs }))) (then_assoc open_bracket (word_of (bytes "group")) (optional "name" absent (closed string)) ms)
    ∙ then_bind open_bracket (word_of (bytes "group") >> optional "name" absent (closed string)) (λ n. many face >>= λ fs. pure (record { name = n; faces = fs })) ms

-- ---- its rows

module _ (i : ℕ) (ns : List ℤ) (s : ℕ × List ℤ) where
  -- a name's row, and the faces after it
  abbrev rows_from : ℕ × ℕ → Reader ((ℕ × List ℤ) × (ℕ × List ℤ))
  rows_from v = folded (face_step (pos i)) face s >>= λ x. pure ((i + 1, overlay_at (i * 2) (pos v.0 ∷ pos v.1 ∷ []) ns), x)

  group_parts : (ms : List Lexeme) → (keyword "group" >> optional_name >>= rows_from) ms ≡ stepped group_step group_tail ((i, ns), s) ms
  unfolding optional_name group_tail group_step stepped folded row_step name_numbers place_of ◌>>=◌ after pure
  group_parts ms =
      ap (λ (x : Got (ℕ × ℕ)). after x rows_from) (sym (then_bind (keyword "group") (optional "name" absent (closed string)) (λ n. pure (place_of n)) ms))
      ∙ after-after ((keyword "group" >> optional "name" absent (closed string)) ms) _ _
      ∙ after_same ((keyword "group" >> optional "name" absent (closed string)) ms) _ _ (λ n l. after-after (many face l) _ _ ∙ sym (after-after (many face l) _ _))
      ∙ sym (after-after ((keyword "group" >> optional "name" absent (closed string)) ms) _ _)

  module _ (text : List ℕ) (c k : Cursor) (p : reads text k tt ≡ from text c (word_of (bytes "group"))) where
    -- a name that is refused
    pub group_stopped : {j q : ℕ} → from text k optional_name ≡ refused j q → from text c (stepped group_step group_tail ((i, ns), s)) ≡ refused j q
    unfolding keyword
    group_stopped h = sym (from-same text c _ _ group_parts) ∙ halt text c (keyword "group" >> optional_name) (onto_then text c k tt (word_of (bytes "group")) optional_name p ∙ h) rows_from

    module _ (d : Cursor) (v : ℕ × ℕ) (q : reads text d v ≡ from text k optional_name) where
      on_named : after (from text d (folded (face_step (pos i)) face s)) (λ y. pure ((i + 1, overlay_at (i * 2) (pos v.0 ∷ pos v.1 ∷ []) ns), y)) ≡ from text c (stepped group_step group_tail ((i, ns), s))
      unfolding keyword
      on_named =
          sym (onto text c d v (keyword "group" >> optional_name) rows_from (seq text c k tt (word_of (bytes "group")) optional_name p q) ∙ from-bind text (λ y. pure ((i + 1, overlay_at (i * 2) (pos v.0 ∷ pos v.1 ∷ []) ns), y)) d (folded (face_step (pos i)) face s))
          ∙ from-same text c _ _ group_parts

      pub group-joined : (r : Result (ℕ × ℕ) Refusal) (t ns' : List ℤ) → ns' ≡ overlay_at (i * 2) (pos v.0 ∷ pos v.1 ∷ []) ns → parsed {A = ℕ × List ℤ} text r (λ n. (n, t)) ≡ from text d (folded (face_step (pos i)) face s) → parsed {A = (ℕ × List ℤ) × (ℕ × List ℤ)} text r (λ n. ((i + 1, ns'), (n, t))) ≡ from text c (stepped group_step group_tail ((i, ns), s))
      group-joined r t ns' e h =
          rw e
          (parsed-map text r (λ (n : ℕ). (n, t)) (λ (y : ℕ × List ℤ). ((i + 1, overlay_at (i * 2) (pos v.0 ∷ pos v.1 ∷ []) ns), y))
          ∙ ap (λ (g : Got (ℕ × List ℤ)). after g (λ y. pure ((i + 1, overlay_at (i * 2) (pos v.0 ∷ pos v.1 ∷ []) ns), y))) h
          ∙ on_named)

-- a count from a later offset on, from an earlier one on
pub fewer-since : (text : List ℕ) (start at n : ℕ) (r : Result (ℕ × ℕ) Refusal) → length (lex_at text at) ≤ length (lex_at text start) → Fewer text at n r → Fewer text start n r
fewer-since text start at n (Ok p) h f = omega arith
fewer-since text start at n (Err e) h f = tt
