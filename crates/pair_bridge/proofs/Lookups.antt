-- Sample, Corner, Shown and the reason for it on the tables of taken texts, whatever is asked: the texts' own answer, and 21 exactly for what is not in the files; by cases on what exists.
use mathlib.Core.Path.{◌≡◌, refl, ap, sym, ◌∙◌}
use mathlib.Core.List.{List}
use mathlib.Core.Bool.{Bool, true, false, and-false, ◌&&◌}
use mathlib.Core.Option.{Option, none, map}
use Prim.Native.Nat.{ℕ, ◌≤◌, ◌<◌}
use borrow.Author.Tests.{ltb-true, ltb-false}
use lib.Dec.{ltb}
use lib.IntN.{ℤ, pos, nat_abs}
use lib.ListN.{length, get_or, drop}
use Rattle.refusal.specs.Faults.{clear, is_clear}
use Rattle.refusal.specs.Outcomes.{accepted}
use Rattle.bac6_text.specs.Figure.{Face, Figure}
use Rattle.bac6_text.specs.Rules.{faces_of, figure_counts}
use Rattle.bac6_text.specs.Layout.{layout_of}
use Rattle.bac6_text.specs.Answer.{figure_answer, table_after}
use Rattle.tra4_text.specs.Movement.{Movement}
use Rattle.tra4_text.specs.Rules.{total_fault, movement_counts}
use Rattle.tra4_text.specs.Answer.{movement_answer, movement_table}
use Rattle.pair_text.specs.Rules.{groups_fault}
use Rattle.player_spec.specs.Fractions.{Fraction}
use Rattle.table_figure.specs.Sections.{holds_figure}
use Rattle.table_columns.specs.Parts.{number_at}
use Rattle.player_spec.specs.Faces.{CornerOf}
use Rattle.player_corners.specs.Internal.CornerRow.{row_corner}
use Rattle.player_spec.specs.Lookups.{only_if, is_asked, face_sound, face_at, sample_in, corner_in, shown_in, why_in}
use Rattle.player_spec.specs.Reasons.{Reason, why_of}
use Rattle.player_spec.proofs.WhyShown.{is_shown, mapped, shown_of_lem, shown_in_lem}
use Rattle.player_samples.proofs.Sampled as samples
use Rattle.player_corners.proofs.CornerTests as corners
use Rattle.player_why.proofs.WhyTests as why
use Rattle.movement_bridge.proofs.Tables.{movement_holds, total_stands}
use Rattle.movement_bridge.proofs.Sampling.{sample_from-text}
use Rattle.figure_bridge.specs.Rows.{face_of, grouped_face_of}
use Rattle.figure_bridge.proofs.Parts.{counts}
use Rattle.figure_bridge.proofs.Grouped.{group_number, face_grouped}
use Rattle.figure_bridge.proofs.FaceRows.{row-size}
use Rattle.figure_bridge.proofs.Corners.{figure_holds, face_stands}
use Rattle.figure_bridge.proofs.Texts.{counts_are, figure-taken, whole-figure, figure-table, corner-from-text, why-from-text}
use Rattle.pair_bridge.specs.Playing.{frames_of, sample_asked, corner_asked, shown_asked, why_asked}

not-below : (total : ℤ) (at : ℕ) → ltb at (nat_abs total) ≡ false → is_asked total at ≡ false
unfolding is_asked
not-below total at h = rw h (and-false (is_clear (total_fault total)))

-- ---- a movement

module _ (text : List ℕ) (table : List ℤ) (m : Movement) (e : movement_answer text (length table) ≡ accepted m) where
  abbrev sampled : ℕ → ℕ → ℕ → Option Fraction
  sampled bone channel at = sample_in (movement_counts m) (movement_table text table) bone channel at

  -- a frame that is not below the total is not asked
  pub frame_past : (at : ℕ) → ltb at (frames_of m) ≡ false → is_asked (number_at (movement_table text table) 0) at ≡ false
  unfolding frames_of
  frame_past at h = rw (total_stands text table m e) (not-below m.total_frames at h)

  pub sample_asked_lem : (bone channel at : ℕ) → sampled bone channel at ≡ sample_asked m bone channel at
  unfolding sample_asked only_if movement_counts
  sample_asked_lem bone channel at = go (ltb bone (length m.bones)) (ltb channel 10) (ltb at (frames_of m)) refl refl refl
    where
      go : (a b c : Bool) → ltb bone (length m.bones) ≡ a → ltb channel 10 ≡ b → ltb at (frames_of m) ≡ c → sampled bone channel at ≡ sample_asked m bone channel at
      go true true true p q r = sample_from-text text table m e bone channel at (ltb-true _ _ p) (ltb-true _ _ q) (unfold frames_of in ltb-true _ _ r) ∙ rw (p, q, r)
      go false b c p q r = sym (samples.no_bone _ _ bone channel at (movement_holds text table m e) (ltb-false _ _ p)) ∙ rw p
      go true false c p q r = sym (samples.no_channel _ _ bone channel at (movement_holds text table m e) (ltb-true _ _ p) (ltb-false _ _ q)) ∙ rw (p, q)
      go true true false p q r = sym (samples.not_asked _ _ bone channel at (movement_holds text table m e) (ltb-true _ _ p) (ltb-true _ _ q) (frame_past at r)) ∙ rw (p, q, r)

-- ---- Shown by the reason, from the texts

pub asked_shown : (f : Figure) (m : Movement) (face at : ℕ) → shown_asked f m face at ≡ map is_shown (why_asked f m face at)
unfolding shown_asked why_asked
asked_shown f m face at =
    ap (only_if (ltb face (length (faces_of f)) && ltb at (frames_of m))) (shown_of_lem f.bones m.patterns (grouped_face_of f face) at)
    ∙ mapped (ltb face (length (faces_of f)) && ltb at (frames_of m)) (why_of f.bones m.patterns (grouped_face_of f face) at)

-- ---- a figure

module _ (text : List ℕ) (table : List ℤ) (f : Figure) (e : figure_answer text (length table) ≡ accepted f) where
  abbrev rest : List ℤ
  rest = drop (length (layout_of f)) table

  pub figure_holds_read : holds_figure (figure_counts f) (table_after text table) ≡ true
  figure_holds_read = rw (counts_are f, figure-table text table f e) (figure_holds f (whole-figure text table f e) (figure-taken text table f e).shape.clean rest)

  abbrev cornered : ℕ → ℕ → Option CornerOf
  cornered face k = corner_in (figure_counts f) (table_after text table) face k

  -- the size that the row says
  row_sized : (face : ℕ) → face < length (faces_of f) → nat_abs (get_or (face_at (counts f) (table_after text table) face) 1 (pos 0)) ≡ (face_of f face).size
  row_sized face h =
      rw (figure-table text table f e, face_stands f (whole-figure text table f e) (figure-taken text table f e).shape.clean rest face h) (ap nat_abs (row-size (group_number (grouped_face_of f face).1) (grouped_face_of f face).0))
      ∙ ap (λ (x : Face). x.size) (face_grouped f face)

  no_corner : (face k : ℕ) → face < length (faces_of f) → (face_of f face).size ≤ k → none ≡ corner_in (counts f) (table_after text table) face k
  no_corner face k h l = go (face_sound (counts f) (face_at (counts f) (table_after text table) face)) refl ∙ corners.by_row _ _ face k (rw (counts_are f) at figure_holds_read) h
    where
      go : (b : Bool) → face_sound (counts f) (face_at (counts f) (table_after text table) face) ≡ b → none ≡ row_corner (counts f) (table_after text table) (face_at (counts f) (table_after text table) face) k
      go true p = corners.no_corner _ _ _ k p (rw (row_sized face h) l)
      go false p = corners.row_broken _ _ _ k p

  pub corner_asked_lem : (face k : ℕ) → cornered face k ≡ corner_asked f face k
  unfolding corner_asked only_if
  corner_asked_lem face k = go (ltb face (length (faces_of f))) (ltb k (face_of f face).size) refl refl
    where
      go : (a b : Bool) → ltb face (length (faces_of f)) ≡ a → ltb k (face_of f face).size ≡ b → cornered face k ≡ corner_asked f face k
      go true true p q = corner-from-text text table f e face k (ltb-true _ _ p) (ltb-true _ _ q) ∙ rw (p, q)
      go false b p q = rw (counts_are f, p) (sym (corners.no_face_lem _ _ face k (rw (counts_are f) at figure_holds_read) (ltb-false _ _ p)))
      go true false p q = rw (counts_are f, p, q) (sym (no_corner face k (ltb-true _ _ p) (ltb-false _ _ q)))

  -- ---- a pair that rule 20 does not refuse

  module _ (movement_text : List ℕ) (moves : List ℤ) (m : Movement) (d : movement_answer movement_text (length moves) ≡ accepted m) (known : groups_fault (length f.groups) m.patterns ≡ clear) where
    abbrev explained : ℕ → ℕ → Option Reason
    explained face at = why_in (figure_counts f) (table_after text table) (movement_counts m) (movement_table movement_text moves) face at

    pub why_asked_lem : (face at : ℕ) → explained face at ≡ why_asked f m face at
    unfolding why_asked only_if
    why_asked_lem face at = go (ltb face (length (faces_of f))) (ltb at (frames_of m)) refl refl
      where
        held : holds_figure (counts f) (table_after text table) ≡ true
        held = rw (counts_are f) at figure_holds_read

        go : (a b : Bool) → ltb face (length (faces_of f)) ≡ a → ltb at (frames_of m) ≡ b → explained face at ≡ why_asked f m face at
        go true true p q = why-from-text text table f e movement_text moves m d face at (ltb-true _ _ p) (unfold frames_of in ltb-true _ _ q) known ∙ rw (p, q)
        go false b p q = rw (counts_are f, p) (sym (why.no_face_lem _ _ _ _ face at held (movement_holds movement_text moves m d) (ltb-false _ _ p)))
        go true false p q = rw (counts_are f, p, q) (sym (why.not_asked _ _ _ _ face at held (movement_holds movement_text moves m d) (ltb-true _ _ p) (frame_past movement_text moves m d at q)))

    pub shown_asked_lem : (face at : ℕ) → shown_in (figure_counts f) (table_after text table) (movement_counts m) (movement_table movement_text moves) face at ≡ shown_asked f m face at
    shown_asked_lem face at = shown_in_lem _ _ _ _ face at ∙ ap (map is_shown) (why_asked_lem face at) ∙ sym (asked_shown f m face at)
