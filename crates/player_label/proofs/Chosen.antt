-- A label by the two names' spans: the tests of both tables parted, then the longer-than-nothing name of the movement goes first.
use mathlib.Core.Path.{◌≡◌, refl, ap, sym, ◌∙◌}
use mathlib.Core.List.{List, [], ◌∷◌}
use mathlib.Core.Bool.{Bool, true, false, ◌&&◌}
use mathlib.Core.Option.{Option, none, some}
use Prim.Native.Nat.{ℕ, ◌-◌, ◌≤◌, ◌<◌}
use native.Mathlib.Omega.{arith}
use lib.Dec.{ltb}
use lib.IntN.{ℤ}
use lib.ListN.{length, drop, length-take, length-drop}
use Rattle.text_runs.specs.Runs.{part}
use Rattle.text_runs.proofs.Parts.{part_none}
use Rattle.table_counts.specs.declared.counts.MovementCounts.{MovementCounts}
use Rattle.table_counts.specs.declared.counts.FigureCounts.{FigureCounts}
use Rattle.table_movement.specs.Sections.{holds_movement}
use Rattle.table_figure.specs.Sections.{holds_figure}
use Rattle.player_names.specs.Names.{part_at, figure_span, movement_span, figure_name, movement_name, if_true, figure_named, movement_named}
use Rattle.player_label.specs.Labels.{label_of, label_from, label_in}
use Rattle.player_names.proofs.Spans.{span_within}

-- ---- the tests parted

no_figure-part : (movement : Option (List ℕ)) → none ≡ label_from none movement
unfolding label_from
no_figure-part movement = refl

no_movement-part : (figure : Option (List ℕ)) → none ≡ label_from figure none
unfolding label_from
no_movement-part none = refl
no_movement-part (some f) = refl

parted : (a b c d : Bool) (F M : List ℕ) (s t : Option (ℕ × ℕ)) → label_from (part_at F (if_true (a && c) s)) (part_at M (if_true (b && d) t)) ≡ if_true (a && b && c && d) (label_from (part_at F s) (part_at M t))
unfolding if_true part_at
parted true true true true F M s t = refl
parted true true true false F M s t = sym (no_movement-part (part_at F s))
parted true true false d F M s t = sym (no_figure-part (part_at M (if_true d t)))
parted true false true d F M s t = sym (no_movement-part (part_at F s))
parted true false false d F M s t = sym (no_figure-part (part_at M none))
parted false b c d F M s t = sym (no_figure-part (part_at M (if_true (b && d) t)))

-- ---- a span that is there

if_some : (b : Bool) (o : Option (ℕ × ℕ)) (s : ℕ × ℕ) → some s ≡ if_true b o → o ≡ some s
unfolding if_true
if_some true o s e = sym e
if_some false o s e = let z : ◌≡◌ {A = ℕ} 0 1 = cc in absurd (omega (arith, z))

named-within : (size : ℕ) (m : MovementCounts) (U : List ℤ) (bone : ℕ) (s : ℕ × ℕ) → some s ≡ movement_named size m U bone → s.1 ≤ size
unfolding movement_named movement_span
named-within size m U bone s e = span_within size _ _ s (if_some _ _ s e)

part_long : (text : List ℕ) (from to : ℕ) → to ≤ length text → length (part text from to) ≡ to - from
unfolding part
part_long text from to h = rw (length-take (to - from) (drop from text), length-drop from text) (omega arith)

goes_first : (figure movement : List ℕ) → 0 < length movement → label_of figure movement ≡ movement
unfolding label_of
goes_first figure [] h = absurd (omega arith)
goes_first figure (b ∷ bs) h = refl

module _ (F : List ℕ) (n : FigureCounts) (T : List ℤ) (M : List ℕ) (m : MovementCounts) (U : List ℤ) (bone : ℕ) where
  by_spans : label_from (part_at F (figure_named (length F) n T bone)) (part_at M (movement_named (length M) m U bone)) ≡ label_in F n T M m U bone
  unfolding figure_named movement_named label_in figure_name movement_name
  by_spans = parted (holds_figure n T) (holds_movement m U) (ltb bone n.bones) (ltb bone m.bones) F M (figure_span (length F) n T bone) (movement_span (length M) U bone)

  pub no_figure-name : none ≡ figure_named (length F) n T bone → none ≡ label_in F n T M m U bone
  unfolding part_at
  no_figure-name e = no_figure-part _ ∙ ap (λ (s : Option (ℕ × ℕ)). label_from (part_at F s) (part_at M (movement_named (length M) m U bone))) e ∙ by_spans

  pub no_movement-name : none ≡ movement_named (length M) m U bone → none ≡ label_in F n T M m U bone
  unfolding part_at
  no_movement-name e = no_movement-part _ ∙ ap (λ (s : Option (ℕ × ℕ)). label_from (part_at F (figure_named (length F) n T bone)) (part_at M s)) e ∙ by_spans

  -- ---- both are names

  module _ (start end from to : ℕ) (e : some (start, end) ≡ figure_named (length F) n T bone) (f : some (from, to) ≡ movement_named (length M) m U bone) where
    both : some (label_of (part F start end) (part M from to)) ≡ label_in F n T M m U bone
    unfolding part_at label_from
    both = ap (λ (s : Option (ℕ × ℕ)). label_from (part_at F s) (part_at M (some (from, to)))) e ∙ ap (λ (s : Option (ℕ × ℕ)). label_from (part_at F (figure_named (length F) n T bone)) (part_at M s)) f ∙ by_spans

    pub by_figure : to ≤ from → some (part F start end) ≡ label_in F n T M m U bone
    unfolding label_of
    by_figure h = ap (λ (l : List ℕ). some (label_of (part F start end) l)) (sym (part_none M from to h)) ∙ both

    pub by_movement : from < to → some (part M from to) ≡ label_in F n T M m U bone
    by_movement h =
        let l = part_long M from to (named-within (length M) m U bone (from, to) f) in
        ap some (sym (goes_first (part F start end) (part M from to) (omega arith))) ∙ both
