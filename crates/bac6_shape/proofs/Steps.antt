-- The bones and the end of a figure over the last part of the table, which is lent.
use mathlib.Core.Path.{◌≡◌, refl, ap, sym, ◌∙◌}
use mathlib.Core.List.{List, ◌++◌}
use Prim.Native.Nat.{ℕ, ◌+◌, ◌-◌, ◌*◌, ◌≤◌, min}
use native.Mathlib.Omega.{arith}
use lib.IntN.{ℤ}
use lib.ListN.{length, take, drop, length-map}
use Rattle.refusal.specs.Faults.{Fault, clear}
use Rattle.text_tokens.specs.Tokens.{Lexeme}
use Rattle.std.proofs.Common.{Result, Ok, Err}
use Rattle.refusal.specs.declared.checked.Refusal.{Refusal}
use Rattle.bac6_bones.specs.declared.list.Boned.{Boned}
use Rattle.bac6_faces.specs.declared.group.Polygons.{Polygons}
use Rattle.parse_spec.specs.Readers.{Got, got, refused, Reader, after, ◌>>=◌, ◌>>◌, pure, opened, close_bracket, text_end, many⁺}
use Rattle.parse_cursor.specs.Internal.Cursors.{Cursor, reads, from, parsed}
use Rattle.parse_cursor.proofs.Steps.{seq, from-same, from-bind, after-reads, onto_then, halt_then}
use Rattle.parse_spec.proofs.Sequences.{inside-bind, into_end}
use Rattle.table_rows.specs.Flat.{flat}
use Rattle.table_rows.specs.Internal.Overlay.{overlay_at}
use Rattle.table_rows.proofs.Tables.{overlay_at-length}
use Rattle.table_rows.proofs.Chains.{middle}
use Rattle.bac6_text.specs.Figure.{Bone, Face, Group}
use Rattle.bac6_text.specs.Grammar.{bone, bone_section, polygon_section}
use Rattle.bac6_text.specs.Layout.{group_names}
use Rattle.bac6_bones.specs.Internal.Into.{fault_of, bones_into}
use Rattle.bac6_owners.specs.Internal.Claims.{claimed_bones}
use Rattle.bac6_faces.specs.Internal.Into.{all_rows, tables_of, polygons_into}
use Rattle.bac6_section.specs.Internal.Lists.{rows_laid}
use Rattle.parse_cursor.proofs.Forms.{reformed}
use Rattle.bac6_section.proofs.Laid.{then_read}
use Rattle.bac6_shape.specs.Internal.Parse.{blank_bones}
use Rattle.bac6_shape.specs.Internal.Steps.{bones_laid, bone_step, faces_laid, end_step}

-- a sequence whose first value is used by a part of it
parted : {A P B : Type 0} (r : Reader A) (p : A → P) (k : P → Reader B) (ms : List Lexeme) → (r >>= λ a. k (p a)) ms ≡ (r >>= (λ a. pure (p a)) >>= k) ms
unfolding ◌>>=◌ pure
parted r p k ms = go (r ms)
  where
    go : (g : Got _) → after g (λ a. k (p a)) ≡ after (after g (λ a. pure (p a))) k
    go (got a l) = unfold after pure in refl
    go (refused n o) = unfold after in refl

-- the whole table, where a part from an index on held some numbers over it
abbrev whole : ℕ → List ℤ → List ℤ → List ℤ
whole at t part = take at t ++ (part ++ drop (length t - at) (drop at t))

module _ (text : List ℕ) (c : Cursor) (at : ℕ) (t : List ℤ) (l : at ≤ length t) where
  pub bones-read : (o : Cursor) (points : ℕ) (k : Result (Boned × ℕ) Refusal) (part owners left : List ℤ) → reads text o tt ≡ from text c (opened "Bones") → parsed {A = ℕ × List ℤ × (Fault × List ℤ)} text k (λ b. (b.count, part, (fault_of b.fault, left))) ≡ from text o (bones_into points (take (length t - at) (drop at t)) owners) → parsed {A = ℕ × (ℕ × List ℤ) × (Fault × List ℤ)} text k (λ b. (b.count, (min (at + b.count * 14) (length (whole at t part)), whole at t part), (fault_of b.fault, left))) ≡ from text c (bone_step points (at, t) owners)
  unfolding bone_step bone_section bones_into bones_laid rows_laid blank_bones
  bones-read o points k part owners left h e =
      then_read text c o tt (opened "Bones") (many⁺ bone) _ h
      (reformed (many⁺ bone) _ (λ x. (x.0, (min (at + x.0 * 14) (length (whole at t x.1)), whole at t x.1), x.2)) (bones_laid points (at, t) owners) same text o k (λ (b : Boned). (b.count, part, (fault_of b.fault, left))) e)
    where
      same : (bs : List Bone) → (length bs, (min (at + length bs * 14) (length (whole at t (overlay_at 0 (flat (blank_bones bs)) (take (length t - at) (drop at t))))), whole at t (overlay_at 0 (flat (blank_bones bs)) (take (length t - at) (drop at t)))), claimed_bones points 0 (clear, owners) bs) ≡ bones_laid points (at, t) owners bs
      same bs = unfold bones_laid rows_laid blank_bones in rw (middle at (length t) (flat (blank_bones bs)) t l (omega arith), overlay_at-length at (flat (blank_bones bs)) t, length-map)

  faces_section : (s g : List ℤ) (ms : List Lexeme) → (polygon_section >>= λ x. pure (tables_of s g x.0 x.1)) ms ≡ polygons_into s g ms
  unfolding polygon_section polygons_into
  faces_section s g ms =
      inside-bind _ _ (λ x. pure (tables_of s g x.0 x.1)) _
      (λ ps. inside-bind _ _ (λ x. pure (tables_of s g x.0 x.1)) (λ gs. pure (tables_of s g ps gs)) (λ gs l. sym (into_end (ps, gs) (λ (x : List Face × List Group). pure (tables_of s g x.0 x.1)) l))) ms

  -- the faces and groups over the whole table, and then the end of the text
  module _ (k : Result (Polygons × ℕ) Refusal) (part names left : List ℤ) (h : parsed {A = ℕ × List ℤ × ℕ × List ℤ} text k (λ q. (q.faces, part, q.groups, left)) ≡ from text c (polygons_into (take (length t - at) (drop at t)) names)) where
    same : (x : List Face × List Group) → (length (all_rows x.0 x.1), whole at t (overlay_at 0 (flat (all_rows x.0 x.1)) (take (length t - at) (drop at t))), length x.1, overlay_at 0 (flat (group_names x.1)) names) ≡ faces_laid (at, t) names x
    unfolding faces_laid
    same x = rw (middle at (length t) (flat (all_rows x.0 x.1)) t l (omega arith))

    faces : parsed {A = ℕ × List ℤ × ℕ × List ℤ} text k (λ q. (q.faces, whole at t part, q.groups, left)) ≡ from text c (polygon_section >>= λ x. pure (faces_laid (at, t) names x))
    unfolding tables_of
    faces = reformed polygon_section (λ x. tables_of (take (length t - at) (drop at t)) names x.0 x.1) (λ v. (v.0, whole at t v.1, v.2, v.3)) (faces_laid (at, t) names) same text c k (λ (q : Polygons). (q.faces, part, q.groups, left)) (h ∙ sym (from-same text c _ _ (faces_section _ _)))

    ends : from text c (end_step (at, t) names) ≡ after (parsed {A = ℕ × List ℤ × ℕ × List ℤ} text k (λ q. (q.faces, whole at t part, q.groups, left))) (λ v. close_bracket >> (text_end >> pure v))
    unfolding end_step
    ends =
        from-same text c _ _ (parted polygon_section (faces_laid (at, t) names) (λ v. close_bracket >> (text_end >> pure v)))
        ∙ from-bind text (λ v. close_bracket >> (text_end >> pure v)) c (polygon_section >>= λ x. pure (faces_laid (at, t) names x))
        ∙ ap (λ (g : Got (ℕ × List ℤ × ℕ × List ℤ)). after g (λ v. close_bracket >> (text_end >> pure v))) (sym faces)

    -- refused before the end
    pub end_stopped : {e : Refusal} → k ≡ Err e → from text c (end_step (at, t) names) ≡ refused e.number e.place
    unfolding after
    end_stopped o = rw o at ends

    module _ {q : Polygons} {d : ℕ} (o : k ≡ Ok (q, d)) (e : Cursor) (u : reads text e tt ≡ from text (Ok d) close_bracket) where
      after_end : from text c (end_step (at, t) names) ≡ from text e (text_end >> pure (q.faces, whole at t part, q.groups, left))
      after_end =
          (rw o at ends)
          ∙ after-reads text (λ v. close_bracket >> (text_end >> pure v)) (Ok d) (q.faces, whole at t part, q.groups, left)
          ∙ onto_then text (Ok d) e tt close_bracket _ u

      pub end_balked : {n p : ℕ} → from text e text_end ≡ refused n p → from text c (end_step (at, t) names) ≡ refused n p
      end_balked w = after_end ∙ halt_then text e text_end w _

      pub end_read : (r : Cursor) → reads text r tt ≡ from text e text_end → reads {A = ℕ × List ℤ × ℕ × List ℤ} text r (q.faces, whole at t part, q.groups, left) ≡ from text c (end_step (at, t) names)
      end_read r w = seq text e r tt text_end (pure (q.faces, whole at t part, q.groups, left)) w refl ∙ sym after_end
