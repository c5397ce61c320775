-- Loading a pair, and the same with notes in one of its files, answers alike: the readings are alike and the rules of pairs see names by their bytes, by cases on the two readings; what is loaded differs in name places alone, and is played alike.
use mathlib.Core.Path.{◌≡◌, refl, sym, ◌∙◌}
use mathlib.Core.List.{List}
use mathlib.Core.Option.{Option, none, some}
use Prim.Native.Nat.{ℕ}
use lib.IntN.{ℤ}
use lib.ListN.{length, length-map}
use Rattle.text_check.specs.Faults.{bac, tra}
use Rattle.refusal.specs.Faults.{Fault, clear, fault}
use Rattle.refusal.specs.Outcomes.{Outcome, rejected, accepted}
use Rattle.text_notes.specs.Notes.{Annotates}
use Rattle.table_counts.specs.declared.counts.FigureCounts.{FigureCounts}
use Rattle.bac6_text.specs.Figure.{Figure}
use Rattle.bac6_text.specs.Rules.{figure_counts}
use Rattle.bac6_text.specs.Answer.{figure_answer}
use Rattle.bac6_alike.specs.Renamed.{renamed}
use Rattle.bac6_alike.specs.Internal.Placeless as bac6
use Rattle.bac6_alike.proofs.Shape.{FigureAlike}
use Rattle.tra4_text.specs.Movement.{Movement}
use Rattle.tra4_text.specs.Rules.{movement_counts}
use Rattle.tra4_text.specs.Answer.{movement_answer, movement_table}
use Rattle.tra4_alike.specs.Internal.Placeless as tra4
use Rattle.tra4_alike.proofs.Shape.{MovementAlike}
use Rattle.pair_text.specs.Rules.{figure_names, pair_fault}
use Rattle.pair_text.specs.Answer.{Loaded, refused, loaded, if_paired, with_movement, with_figure, paired, pair_answer, movement_left}
use Rattle.pair_text.proofs.Taken.{refused-not, half_back}
use Rattle.pair_bridge.specs.Playing.{sample_asked, corner_asked, shown_asked, why_asked, label_asked}
use Rattle.player_label.specs.BoneNames.{names_in}
use Rattle.pair_movement.specs.Moved.{with_names, moved_answer}
use Rattle.pair_load.specs.Answers.{pair_reply, reply}
use Rattle.movement_bridge.proofs.Tables.{table-read}
use Rattle.pair_laws.proofs.Parts.{parts_taken}
use Rattle.pair_laws.proofs.Loaded.{every_sample, every_corner, every_shown, every_why, every_label}
use Rattle.contents_laws.proofs.Through.{through}
use Rattle.contents_laws.proofs.FigureLists as figure
use Rattle.contents_laws.proofs.MovementLists as movement
use Rattle.comments.specs.Same.{SameOutcome, SameMovement, PlacesIn, SameLoaded, SamePair}
use Rattle.comments.proofs.Figures as figures
use Rattle.comments.proofs.Figures.{figure-read}
use Rattle.comments.proofs.Movements as movements
use Rattle.comments.proofs.Movements.{movement-read}

-- the two texts' lists, alike
abbrev PairAlike : Figure × Movement → Figure × Movement → Type 0
PairAlike x y = FigureAlike x.0 y.0 × MovementAlike x.1 y.1

-- what is loaded and alike in one way is so in another
loaded_as : {A : Type 0} (noted : ℕ) (text text' : List ℕ) (R S : A → A → Type 0) (x y : Loaded A) → ((a b : A) → x ≡ loaded a → y ≡ loaded b → R a b → S a b) → SameLoaded noted text text' R x y → SameLoaded noted text text' S x y
unfolding SameLoaded
loaded_as noted text text' R S (loaded a) (loaded b) f h = f a b refl refl h
loaded_as noted text text' R S (loaded a) (refused n p file) f h = absurd h
loaded_as noted text text' R S (refused n p file) (loaded b) f h = absurd h
loaded_as noted text text' R S (refused n p file) (refused i q other) f h = h

-- ---- notes in the figure

module _ (F G : List ℕ) (f g : Figure) (same : FigureAlike f g) where
  ruled-pair : (m : Movement) (v : Fault) → SameLoaded 0 F G PairAlike (with_figure f (if_paired m v)) (with_figure g (if_paired m v))
  unfolding with_figure if_paired SameLoaded PlacesIn
  ruled-pair m clear = (same, refl)
  ruled-pair m (fault n p) = (refl, refl, refl)

  with_figure_lem : (names : List (List ℕ)) (groups : ℕ) (q : Outcome Movement) → SameLoaded 0 F G PairAlike (with_figure f (with_movement names groups q)) (with_figure g (with_movement names groups q))
  unfolding with_figure with_movement SameLoaded PlacesIn
  with_figure_lem names groups (rejected n p) = (refl, refl, refl)
  with_figure_lem names groups (accepted m) = ruled-pair m (pair_fault names groups m)

groups-placeless : (f : Figure) → length (bac6.placeless f).groups ≡ length f.groups
unfolding renamed
groups-placeless f = length-map f.groups _

figure-paired : (F G : List ℕ) (x y : Outcome Figure) (q : Outcome Movement) → SameOutcome F G FigureAlike x y → SameLoaded 0 F G PairAlike (paired x q) (paired y q)
unfolding paired SameOutcome SameLoaded PlacesIn
figure-paired F G (accepted f) (accepted g) q h =
    rw (through bac6.placeless figure_names figure.names-placeless f g h, through bac6.placeless (λ (x : Figure). length x.groups) groups-placeless f g h)
    (with_figure_lem F G f g h (figure_names f) (length f.groups) q)
figure-paired F G (accepted f) (rejected n p) q h = absurd h
figure-paired F G (rejected n p) (accepted g) q h = absurd h
figure-paired F G (rejected n p) (rejected i r) q h = (h.0, refl, h.1)

-- ---- notes in the movement

module _ (M N : List ℕ) where
  ruled-movement : (m o : Movement) → MovementAlike m o → (v : Fault) → SameLoaded 1 M N MovementAlike (if_paired m v) (if_paired o v)
  unfolding if_paired SameLoaded PlacesIn
  ruled-movement m o h clear = h
  ruled-movement m o h (fault n p) = (refl, refl, refl)

  with_movement_lem : (names : List (List ℕ)) (groups : ℕ) (x y : Outcome Movement) → SameOutcome M N MovementAlike x y → SameLoaded 1 M N MovementAlike (with_movement names groups x) (with_movement names groups y)
  unfolding with_movement SameOutcome SameLoaded PlacesIn
  with_movement_lem names groups (accepted m) (accepted o) h = rw (through tra4.placeless (pair_fault names groups) (λ x. movement.pair-placeless x names groups) m o h) (ruled-movement m o h (pair_fault names groups m))
  with_movement_lem names groups (accepted m) (rejected n p) h = absurd h
  with_movement_lem names groups (rejected n p) (accepted o) h = absurd h
  with_movement_lem names groups (rejected n p) (rejected i r) h = (h.0, refl, h.1)

  figure_with : (f : Figure) (x y : Loaded Movement) → SameLoaded 1 M N MovementAlike x y → SameLoaded 1 M N PairAlike (with_figure f x) (with_figure f y)
  unfolding with_figure SameLoaded
  figure_with f (loaded m) (loaded o) h = (refl, h)
  figure_with f (loaded m) (refused n p file) h = absurd h
  figure_with f (refused n p file) (loaded o) h = absurd h
  figure_with f (refused n p file) (refused i r other) h = h

  movement-paired : (x : Outcome Figure) (q r : Outcome Movement) → SameOutcome M N MovementAlike q r → SameLoaded 1 M N PairAlike (paired x q) (paired x r)
  unfolding paired SameLoaded PlacesIn
  movement-paired (accepted f) q r h = figure_with f _ _ (with_movement_lem (figure_names f) (length f.groups) q r h)
  movement-paired (rejected n p) q r h = (refl, refl, refl)

  named-movement : (names : Option (List (List ℕ))) (groups : ℕ) (x y : Outcome Movement) → SameOutcome M N MovementAlike x y → SameLoaded 1 M N MovementAlike (with_names names groups x) (with_names names groups y)
  unfolding with_names SameLoaded PlacesIn
  named-movement none groups x y h = (refl, refl, refl)
  named-movement (some names) groups x y h = with_movement_lem names groups x y h

-- ---- what is loaded

module _ (F G : List ℕ) (table : List ℤ) (M N : List ℕ) (moves : List ℤ) (f g : Figure) (m o : Movement) (e : pair_answer F (length table) M (length moves) ≡ loaded (f, m)) (e' : pair_answer G (length table) N (length moves) ≡ loaded (g, o)) (a : FigureAlike f g) (b : MovementAlike m o) where
  by_figure : {B : Type 0} (h : Figure → B) → ((x : Figure) → h (bac6.placeless x) ≡ h x) → h g ≡ h f
  by_figure h k = through bac6.placeless h k f g a

  by_movement : {B : Type 0} (h : Movement → B) → ((x : Movement) → h (tra4.placeless x) ≡ h x) → h o ≡ h m
  by_movement h k = through tra4.placeless h k m o b

  reply-same : reply G table N moves ≡ reply F table M moves
  unfolding pair_reply
  reply-same = rw (e, e', figures.long_same f g a, movements.long_same m o b, by_figure figure_counts figure.counts-placeless, by_movement movement_counts movement.counts-placeless)

  pub pair_same : SamePair F G table M N moves (f, m) (g, o)
  pair_same =
      let x = parts_taken F (length table) M (length moves) f m e in
      let y = parts_taken G (length table) N (length moves) g o e' in
      record {
        figure = figures.same-figure F G table f g x.figure y.figure a;
        movement = movements.same-movement M N moves m o x.movement y.movement b;
        answer = reply-same;
        sample = λ bone channel at. every_sample G table N moves g o e' bone channel at ∙ by_movement (λ (z : Movement). sample_asked z bone channel at) (λ z. movement.sample-placeless z bone channel at) ∙ sym (every_sample F table M moves f m e bone channel at);
        corner = λ face i. every_corner G table N moves g o e' face i ∙ by_figure (λ (z : Figure). corner_asked z face i) (λ z. figure.corner-placeless z face i) ∙ sym (every_corner F table M moves f m e face i);
        shown = λ face at. every_shown G table N moves g o e' face at ∙ by_figure (λ (z : Figure). shown_asked z o face at) (λ z. figure.shown-placeless z o face at) ∙ by_movement (λ (z : Movement). shown_asked f z face at) (λ z. movement.shown-placeless z f face at) ∙ sym (every_shown F table M moves f m e face at);
        why = λ face at. every_why G table N moves g o e' face at ∙ by_figure (λ (z : Figure). why_asked z o face at) (λ z. figure.why-placeless z o face at) ∙ by_movement (λ (z : Movement). why_asked f z face at) (λ z. movement.why-placeless z f face at) ∙ sym (every_why F table M moves f m e face at);
        label = λ bone. every_label G table N moves g o e' bone ∙ by_figure (λ (z : Figure). label_asked z o bone) (λ z. figure.label-placeless z o bone) ∙ by_movement (λ (z : Movement). label_asked f z bone) (λ z. movement.label-placeless z f bone) ∙ sym (every_label F table M moves f m e bone);
      }

pub figure_loads : (F G : List ℕ) → Annotates bac F G → (table : List ℤ) (M : List ℕ) (moves : List ℤ) → SameLoaded 0 F G (SamePair F G table M M moves) (pair_answer F (length table) M (length moves)) (pair_answer G (length table) M (length moves))
figure_loads F G a table M moves =
    loaded_as 0 F G PairAlike (SamePair F G table M M moves) (pair_answer F (length table) M (length moves)) (pair_answer G (length table) M (length moves)) (λ x y e e' h. pair_same F G table M M moves x.0 y.0 x.1 y.1 e e' h.0 h.1)
    (unfold pair_answer in figure-paired F G (figure_answer F (length table)) (figure_answer G (length table)) (movement_answer M (length moves)) (figure-read a (length table)))

pub movement_loads : (M N : List ℕ) → Annotates tra M N → (F : List ℕ) (table moves : List ℤ) → SameLoaded 1 M N (SamePair F F table M N moves) (pair_answer F (length table) M (length moves)) (pair_answer F (length table) N (length moves))
movement_loads M N a F table moves =
    loaded_as 1 M N PairAlike (SamePair F F table M N moves) (pair_answer F (length table) M (length moves)) (pair_answer F (length table) N (length moves)) (λ x y e e' h. pair_same F F table M N moves x.0 y.0 x.1 y.1 e e' h.0 h.1)
    (unfold pair_answer in movement-paired M N (figure_answer F (length table)) (movement_answer M (length moves)) (movement_answer N (length moves)) (movement-read a (length moves)))

-- ---- a movement loaded for a figure in a table

named_back : (names : Option (List (List ℕ))) (groups : ℕ) (q : Outcome Movement) (m : Movement) → with_names names groups q ≡ loaded m → q ≡ accepted m
unfolding with_names
named_back none groups q m e = absurd (refused-not 21 0 0 m e)
named_back (some names) groups q m e = (half_back names groups q m e).0

moved_back : (F : List ℕ) (n : FigureCounts) (t : List ℤ) (M : List ℕ) (space : ℕ) (m : Movement) → moved_answer F n t M space ≡ loaded m → movement_answer M space ≡ accepted m
unfolding moved_answer
moved_back F n t M space m e = named_back (names_in F n t) n.groups (movement_answer M space) m e

pub moved-held : (F : List ℕ) (n : FigureCounts) (t : List ℤ) (M : List ℕ) (moves : List ℤ) (m : Movement) → moved_answer F n t M (length moves) ≡ loaded m → (movement_answer M (length moves) ≡ accepted m) × (movement_left moves (loaded m) ≡ movement_table M moves)
unfolding movement_left
moved-held F n t M moves m e = let q = moved_back F n t M (length moves) m e in (q, sym (table-read M moves m q))

pub movement-moves : (M N : List ℕ) → Annotates tra M N → (F : List ℕ) (n : FigureCounts) (t moves : List ℤ) → SameLoaded 1 M N (SameMovement M N moves) (moved_answer F n t M (length moves)) (moved_answer F n t N (length moves))
movement-moves M N a F n t moves =
    loaded_as 1 M N MovementAlike (SameMovement M N moves) (moved_answer F n t M (length moves)) (moved_answer F n t N (length moves)) (λ m o e e' h. movements.same-movement M N moves m o (moved_back F n t M (length moves) m e) (moved_back F n t N (length moves) o e') h)
    (unfold moved_answer in named-movement M N (names_in F n t) n.groups (movement_answer M (length moves)) (movement_answer N (length moves)) (movement-read a (length moves)))
