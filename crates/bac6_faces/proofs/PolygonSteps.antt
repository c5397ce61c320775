-- The end of a figure, by its parts.
use mathlib.Core.Path.{◌≡◌, refl, ap, sym, ◌∙◌}
use mathlib.Core.List.{List, []}
use mathlib.Core.Bool.{Bool, true, false}
use Prim.Native.Nat.{ℕ}
use lib.IntN.{ℤ, negsuc}
use Rattle.text_bytes.specs.Bytes.{bytes}
use Rattle.text_tokens.specs.Tokens.{Lexeme}
use Rattle.std.proofs.Common.{Result}
use Rattle.refusal.specs.declared.checked.Refusal.{Refusal}
use Rattle.bac6_faces.specs.declared.group.Polygons.{Polygons}
use Rattle.parse_spec.specs.Readers.{Got, got, refused, Reader, after, ◌>>=◌, ◌>>◌, pure, opened_of, opened, trailing, many}
use Rattle.parse_spec.specs.Internal.Branches.{last_of}
use Rattle.parse_cursor.specs.Internal.Cursors.{Cursor, reads, from, parsed}
use Rattle.parse_rows.specs.Internal.Folds.{fold, folded}
use Rattle.parse_cursor.proofs.Forms.{parsed-map}
use Rattle.parse_cursor.proofs.Steps.{join, seq, onto_then, halt, halt_then, from-bind, after-reads, from-same}
use Rattle.parse_spec.proofs.Binds.{after-after, after_same, then_bind}
use Rattle.parse_cursor.proofs.Branches.{trailing_yes, trailing_no, trailing_off, trailing-map}
use Rattle.bac6_text.specs.Figure.{Face, Figure}
use Rattle.bac6_text.specs.Grammar.{face, group}
use Rattle.bac6_text.specs.Layout.{face_rows}
use Rattle.bac6_faces.specs.Internal.Into.{face_step, group_step, all_rows, tables_of, polygons_into}
use Rattle.bac6_faces.proofs.Rows.{arrange, tables_closed}

abbrev State : Type 0
State = (ℕ × List ℤ) × (ℕ × List ℤ)

-- the groups after some faces
unfoldable pub groups_after : State → Reader State
groups_after s = trailing "DynamicPolygons" s (folded group_step group s)

module _ (faces names : List ℤ) where
  groups_parts : (ps : List Face) (ms : List Lexeme) → (groups_after ((0, names), fold (face_step (negsuc 0)) (0, faces) ps) >>= λ x. pure (arrange x)) ms ≡ (trailing "DynamicPolygons" [] (many group) >>= λ gs. pure (tables_of faces names ps gs)) ms
  unfolding groups_after folded fold ◌>>=◌ after pure
  groups_parts ps ms =
      ap (λ (g : Got State). after g (λ x. pure (arrange x))) (sym (trailing-map "DynamicPolygons" [] (many group) (λ gs. fold group_step ((0, names), fold (face_step (negsuc 0)) (0, faces) ps) gs) ms))
      ∙ after-after (trailing "DynamicPolygons" [] (many group) ms) _ _
      ∙ after_same (trailing "DynamicPolygons" [] (many group) ms) _ _ (λ gs l. ap (λ (v : ℕ × List ℤ × ℕ × List ℤ). got v l) (tables_closed faces names ps gs))

  polygons_parts : (ms : List Lexeme) → (opened "Polygons" >> folded (face_step (negsuc 0)) face (0, faces) >>= (λ s. groups_after ((0, names), s)) >>= λ x. pure (arrange x)) ms ≡ polygons_into faces names ms
  unfolding polygons_into folded ◌>>=◌ after pure
  polygons_parts ms =
      after-after ((opened "Polygons" >> folded (face_step (negsuc 0)) face (0, faces)) ms) _ _
      ∙ ap (λ (g : Got (ℕ × List ℤ)). after g (λ s. groups_after ((0, names), s) >>= λ x. pure (arrange x))) (sym (then_bind (opened "Polygons") (many face) (λ ps. pure (fold (face_step (negsuc 0)) (0, faces) ps)) ms))
      ∙ after-after ((opened "Polygons" >> many face) ms) _ _
      ∙ after_same ((opened "Polygons" >> many face) ms) _ _ groups_parts

  abbrev polygons_shaped : Reader State
  polygons_shaped = opened "Polygons" >> folded (face_step (negsuc 0)) face (0, faces) >>= λ u. groups_after ((0, names), u)

  module _ (text : List ℕ) (c : Cursor) where
    polygons-by : from text c (polygons_into faces names) ≡ after (from text c polygons_shaped) (λ x. pure (arrange x))
    polygons-by = sym (from-same text c _ _ polygons_parts) ∙ from-bind text (λ x. pure (arrange x)) c polygons_shaped

    shaped_stopped : {k p : ℕ} → from text c polygons_shaped ≡ refused k p → from text c (polygons_into faces names) ≡ refused k p
    unfolding after
    shaped_stopped h = rw h at polygons-by

    pub polygons_unopened : {k p : ℕ} → from text c (opened_of (bytes "Polygons")) ≡ refused k p → from text c (polygons_into faces names) ≡ refused k p
    unfolding opened
    polygons_unopened h = shaped_stopped (halt text c (opened "Polygons" >> folded (face_step (negsuc 0)) face (0, faces)) (halt_then text c (opened "Polygons") h _) _)

    module _ (o : Cursor) (p : reads text o tt ≡ from text c (opened_of (bytes "Polygons"))) where
      pub polygons_stopped : {k q : ℕ} → from text o (folded (face_step (negsuc 0)) face (0, faces)) ≡ refused k q → from text c (polygons_into faces names) ≡ refused k q
      unfolding opened
      polygons_stopped h = shaped_stopped (halt text c (opened "Polygons" >> folded (face_step (negsuc 0)) face (0, faces)) (onto_then text c o tt (opened "Polygons") _ p ∙ h) _)

      module _ (d : Cursor) (s : ℕ × List ℤ) (q : reads text d s ≡ from text o (folded (face_step (negsuc 0)) face (0, faces))) where
        shaped-on : {x : Got State} → x ≡ from text d (groups_after ((0, names), s)) → after x (λ y. pure (arrange y)) ≡ from text c (polygons_into faces names)
        unfolding opened
        shaped-on e =
            ap (λ (g : Got State). after g (λ y. pure (arrange y))) (join text c d s (opened "Polygons" >> folded (face_step (negsuc 0)) face (0, faces)) (λ u. groups_after ((0, names), u)) (seq text c o tt (opened "Polygons") (folded (face_step (negsuc 0)) face (0, faces)) p q) e)
            ∙ sym polygons-by

        pub polygons_balked : {k n : ℕ} → from text d (last_of (bytes "DynamicPolygons")) ≡ refused k n → from text c (polygons_into faces names) ≡ refused k n
        unfolding groups_after after
        polygons_balked h = sym (shaped-on (sym (trailing_off "DynamicPolygons" ((0, names), s) (folded group_step group ((0, names), s)) text d h)))

        module _ (e : Cursor) (v : Bool) (u : reads text e v ≡ from text d (last_of (bytes "DynamicPolygons"))) where
          pub polygons-groups : v ≡ true → (r : Result (Polygons × ℕ) Refusal) (ns t : List ℤ) → parsed {A = State} text r (λ x. ((x.groups, ns), (x.faces, t))) ≡ from text e (folded group_step group ((0, names), s)) → parsed {A = ℕ × List ℤ × ℕ × List ℤ} text r (λ x. (x.faces, t, x.groups, ns)) ≡ from text c (polygons_into faces names)
          unfolding groups_after arrange
          polygons-groups h r ns t g =
              parsed-map text r (λ (x : Polygons). ((x.groups, ns), (x.faces, t))) arrange
              ∙ shaped-on (trailing_yes "DynamicPolygons" ((0, names), s) (folded group_step group ((0, names), s)) text d e v u h g)

          pub polygons_alone : v ≡ false → reads text e (s.0, s.1, 0, names) ≡ from text c (polygons_into faces names)
          unfolding groups_after arrange
          polygons_alone h = sym (after-reads text (λ y. pure (arrange y)) e ((0, names), s)) ∙ shaped-on (trailing_no "DynamicPolygons" ((0, names), s) (folded group_step group ((0, names), s)) text d e v u h)

-- ---- for a figure

-- the rows are those of the layout
pub all-rows : (f : Figure) → all_rows f.polygons f.groups ≡ face_rows f
unfolding all_rows face_rows
all-rows f = refl

-- the shape as the grammar of figures has it
pub polygons-shape : (faces names : List ℤ) (ms : List Lexeme) → polygons_into faces names ms ≡ (opened "Polygons" >> (many face >>= λ ps. trailing "DynamicPolygons" [] (many group) >>= λ gs. pure (tables_of faces names ps gs))) ms
unfolding polygons_into
polygons-shape faces names ms = then_bind (opened "Polygons") (many face) (λ ps. trailing "DynamicPolygons" [] (many group) >>= λ gs. pure (tables_of faces names ps gs)) ms
