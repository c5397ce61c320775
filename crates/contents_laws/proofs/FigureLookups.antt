-- Corner, Shown and the reason for it on the tables of two taken texts whose figures differ in name places alone, whatever is asked and whatever the movement's table holds: they are equal, since no name place is read.
use mathlib.Core.Path.{◌≡◌, ap, sym, ◌∙◌}
use mathlib.Core.List.{List}
use mathlib.Core.Bool.{true}
use mathlib.Core.Option.{none, map}
use Prim.Native.Nat.{ℕ, ◌<◌}
use lib.IntN.{ℤ}
use lib.ListN.{length, get_or, drop}
use Rattle.refusal.specs.Outcomes.{accepted}
use Rattle.table_counts.specs.declared.counts.FigureCounts.{FigureCounts}
use Rattle.table_counts.specs.declared.counts.MovementCounts.{MovementCounts}
use Rattle.table_references.specs.References.{is_row}
use Rattle.table_figure.specs.Sections.{holds_figure}
use Rattle.bac6_text.specs.Figure.{Figure}
use Rattle.bac6_text.specs.Rules.{figure_counts, owner_of}
use Rattle.bac6_text.specs.Layout.{layout_of}
use Rattle.bac6_text.specs.Answer.{figure_answer, table_after}
use Rattle.bac6_alike.specs.Renamed.{renamed}
use Rattle.bac6_alike.specs.Internal.Placeless.{placeless}
use Rattle.player_spec.specs.Lookups.{face_at, owner_at, corner_in, shown_in, why_in}
use Rattle.player_spec.proofs.WhyShown.{is_shown, shown_in_lem}
use Rattle.figure_bridge.specs.Rows.{no_face, grouped_face_of}
use Rattle.figure_bridge.proofs.Grouped.{row_of}
use Rattle.figure_bridge.proofs.Corners.{face_stands, owner_of_lem}
use Rattle.figure_bridge.proofs.Texts.{figure-taken, whole-figure, figure-table}
use Rattle.pair_bridge.specs.Playing.{corner_asked}
use Rattle.pair_bridge.proofs.Lookups.{figure_holds_read, corner_asked_lem}
use Rattle.contents_laws.proofs.Through.{through}
use Rattle.contents_laws.proofs.FigureLists.{counts-placeless, owners_placeless, grouped_same, corner-placeless}
use Rattle.contents_laws.proofs.Tables.{why-figure}

-- ---- what is read of one table

module _ (text : List ℕ) (table : List ℤ) (f : Figure) (e : figure_answer text (length table) ≡ accepted f) where
  row_read : (face : ℕ) → face < (figure_counts f).faces → face_at (figure_counts f) (table_after text table) face ≡ row_of (grouped_face_of f face)
  unfolding figure_counts
  row_read face h = rw (figure-table text table f e) (face_stands f (whole-figure text table f e) (figure-taken text table f e).shape.clean (drop (length (layout_of f)) table) face h)

  owner-read : (v : ℤ) → is_row (figure_counts f).points v ≡ true → owner_at (figure_counts f) (table_after text table) v ≡ owner_of f.bones v
  unfolding figure_counts
  owner-read v h = rw (figure-table text table f e) (owner_of_lem f (whole-figure text table f e) (figure-taken text table f e).shape.clean (drop (length (layout_of f)) table) v h)

grouped_placeless : (f : Figure) (face : ℕ) → grouped_face_of (placeless f) face ≡ grouped_face_of f face
unfolding grouped_face_of
grouped_placeless f face = ap (λ l. get_or l face (no_face, none)) (grouped_same f)

owned_placeless : (f : Figure) (v : ℤ) → owner_of (placeless f).bones v ≡ owner_of f.bones v
unfolding renamed
owned_placeless f v = owners_placeless f.bones v

-- ---- two tables

module _ (text text' : List ℕ) (table : List ℤ) (f g : Figure) (e : figure_answer text (length table) ≡ accepted f) (e' : figure_answer text' (length table) ≡ accepted g) (same : placeless g ≡ placeless f) where
  pub counts_same : figure_counts g ≡ figure_counts f
  counts_same = through placeless figure_counts counts-placeless f g same

  pub corner-same : (face i : ℕ) → corner_in (figure_counts g) (table_after text' table) face i ≡ corner_in (figure_counts f) (table_after text table) face i
  corner-same face i =
      corner_asked_lem text' table g e' face i
      ∙ through placeless (λ (x : Figure). corner_asked x face i) (λ x. corner-placeless x face i) f g same
      ∙ sym (corner_asked_lem text table f e face i)

  holds_same : holds_figure (figure_counts f) (table_after text' table) ≡ holds_figure (figure_counts f) (table_after text table)
  holds_same = ap (λ (n : FigureCounts). holds_figure n (table_after text' table)) (sym counts_same) ∙ figure_holds_read text' table g e' ∙ sym (figure_holds_read text table f e)

  row_same : (face : ℕ) → face < (figure_counts f).faces → face_at (figure_counts f) (table_after text' table) face ≡ face_at (figure_counts f) (table_after text table) face
  row_same face h =
      ap (λ (n : FigureCounts). face_at n (table_after text' table) face) (sym counts_same)
      ∙ row_read text' table g e' face (rw counts_same h)
      ∙ ap row_of (through placeless (λ (x : Figure). grouped_face_of x face) (λ x. grouped_placeless x face) f g same)
      ∙ sym (row_read text table f e face h)

  owner-same : (v : ℤ) → is_row (figure_counts f).points v ≡ true → owner_at (figure_counts f) (table_after text' table) v ≡ owner_at (figure_counts f) (table_after text table) v
  owner-same v h =
      ap (λ (n : FigureCounts). owner_at n (table_after text' table) v) (sym counts_same)
      ∙ owner-read text' table g e' v (rw counts_same h)
      ∙ through placeless (λ (x : Figure). owner_of x.bones v) (λ x. owned_placeless x v) f g same
      ∙ sym (owner-read text table f e v h)

  pub why-same : (k : MovementCounts) (moves : List ℤ) (face at : ℕ) → why_in (figure_counts g) (table_after text' table) k moves face at ≡ why_in (figure_counts f) (table_after text table) k moves face at
  why-same k moves face at =
      ap (λ (n : FigureCounts). why_in n (table_after text' table) k moves face at) counts_same
      ∙ why-figure (figure_counts f) (table_after text table) (table_after text' table) owner-same k moves face at holds_same (row_same face)

  pub shown-same : (k : MovementCounts) (moves : List ℤ) (face at : ℕ) → shown_in (figure_counts g) (table_after text' table) k moves face at ≡ shown_in (figure_counts f) (table_after text table) k moves face at
  shown-same k moves face at = shown_in_lem _ _ _ _ face at ∙ ap (map is_shown) (why-same k moves face at) ∙ sym (shown_in_lem _ _ _ _ face at)
