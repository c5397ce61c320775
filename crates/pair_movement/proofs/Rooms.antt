-- A text read into a table that holds every layout, and then held against a shorter one: 17 is all that can differ. A taken text's layout is at most so long by rule 8.
use mathlib.Core.Path.{◌≡◌, refl, ap, sym, ◌∙◌}
use mathlib.Core.List.{List, ◌++◌}
use Prim.Native.Nat.{ℕ, ◌+◌, ◌*◌, ◌≤◌, ◌<◌}
use native.Mathlib.Nat.{le_refl}
use native.Mathlib.Omega.{arith}
use lib.IntN.{ℤ}
use lib.ListN.{length, take}
use lib.Seq.{take_at}
use Rattle.text_check.specs.Faults.{bac, tra}
use Rattle.refusal.specs.Faults.{clear}
use Rattle.text_tokens.specs.Tokens.{lex}
use Rattle.table_rows.specs.Internal.Overlay.{overlay_at}
use Rattle.refusal.specs.Outcomes.{Outcome, rejected, accepted, fitted, laid}
use Rattle.parse_text.proofs.Outcomes.{fitted-room, fitted_short, laid-accepted}
use Rattle.refusal.proofs.Rules.{count_clear}
use Rattle.bac6_text.specs.Figure.{Figure}
use Rattle.bac6_text.specs.Grammar.{figure}
use Rattle.bac6_text.specs.Rules as figures
use Rattle.bac6_text.specs.Layout as figures-laid
use Rattle.bac6_text.specs.Answer.{figure_outcome}
use Rattle.bac6_text.proofs.Whole.{figure-whole}
use Rattle.tra4_text.specs.Movement.{Movement}
use Rattle.tra4_text.specs.Grammar.{movement}
use Rattle.tra4_text.specs.Rules as movements
use Rattle.tra4_text.specs.Layout as movements-laid
use Rattle.tra4_text.specs.Answer.{movement_outcome}
use Rattle.tra4_text.proofs.Whole.{movement-whole}
use Rattle.tra4_text.proofs.Layouts.{layout_length}
use Rattle.bac6.specs.Answers as bac6
use Rattle.tra4.specs.Answers as tra4
use Rattle.table_figure.specs.Sections.{points_begin, bones_begin, owners_begin, uvs_begin, faces_begin, groups_begin, figure_end}
use Rattle.movement_bridge.proofs.Taken.{taken}
use Rattle.movement_bridge.proofs.Tables.{counts-clear}
use Rattle.figure_bridge.proofs.Sound.{counts-sound, parents-sound}
use Rattle.figure_bridge.proofs.Parts.{counts, figure_long}
use Rattle.table_counts.specs.Counts.{figure_mosts, figure_lists, movement_mosts, movement_lists}

-- ---- over a format

-- how an answer of the code holds a refusal's number and place, and the total of what is taken
pub record Held {A X : Type 0} (layout : A → List ℤ) (answer_of : Outcome A → X) : Type 0 where
  pub total : X → ℕ
  pub refusal : X → ℕ
  pub place : X → ℕ
  pub of_refused : (n p : ℕ) → (total (answer_of (rejected n p)) ≡ 0) × (refusal (answer_of (rejected n p)) ≡ n) × (place (answer_of (rejected n p)) ≡ p)
  pub of_taken : (a : A) → total (answer_of (accepted a)) ≡ length (layout a)

abbrev pub Small : {A : Type 0} → (A → List ℤ) → ℕ → Outcome A → Type 0
Small {A} layout most o = (a : A) → o ≡ accepted a → (0 < length (layout a)) × (length (layout a) ≤ most)

module _ {A X : Type 0} {layout : A → List ℤ} {answer_of : Outcome A → X} (h : Held layout answer_of) (most : ℕ) where
  -- what was read into a table of the most numbers
  pub record Read (o : Outcome A) (x : X) : Type 0 where
    pub value : A
    pub alone : o ≡ accepted value
    pub answer : x ≡ answer_of (accepted value)

  wide : (o : Outcome A) → Small layout most o → fitted layout most o ≡ o
  unfolding fitted
  wide (rejected n p) small = refl
  wide (accepted a) small = fitted-room layout a most (small a refl).1

  -- what is taken has a total, so that a total of 0 is a refusal's
  pub read-refused : (o : Outcome A) → Small layout most o → (x : X) → x ≡ answer_of (fitted layout most o) → h.total x ≡ 0 → (room : ℕ) → fitted layout room o ≡ rejected (h.refusal x) (h.place x)
  unfolding fitted
  read-refused (rejected n p) small x e z room = let q = h.of_refused n p in rw (e, q.1, q.2)
  read-refused (accepted a) small x e z room =
      let t : h.total x ≡ length (layout a) = ap h.total (e ∙ ap answer_of (wide (accepted a) small)) ∙ h.of_taken a in
      absurd (omega (arith, (small a refl).0))

  pub read_taken : (o : Outcome A) → Small layout most o → (x : X) → x ≡ answer_of (fitted layout most o) → (h.total x ≡ 0 → ⊥) → Read o x
  unfolding fitted
  read_taken (rejected n p) small x e z = absurd (z (ap h.total e ∙ (h.of_refused n p).0))
  read_taken (accepted a) small x e z = record { value = a; alone = refl; answer = e ∙ ap answer_of (wide (accepted a) small) }

  module _ (o : Outcome A) (x : X) (r : Read o x) where
    pub total-is : h.total x ≡ length (layout r.value)
    total-is = ap h.total r.answer ∙ h.of_taken r.value

    pub read_whole : Small layout most o → fitted layout most o ≡ accepted r.value
    read_whole small = ap (fitted layout most) r.alone ∙ fitted-room layout r.value most (small r.value r.alone).1

    pub room-short : (room : ℕ) → room < h.total x → fitted layout room o ≡ rejected 17 (h.total x)
    room-short room l = ap (fitted layout room) r.alone ∙ fitted_short layout r.value room (rw total-is at l) ∙ ap (rejected 17) (sym total-is)

    pub room_enough : (room : ℕ) → h.total x ≤ room → fitted layout room o ≡ accepted r.value
    room_enough room l = ap (fitted layout room) r.alone ∙ fitted-room layout r.value room (rw total-is at l)

    -- the part of the table that is set down, and what it leaves
    pub part-is : (rest : List ℤ) → take (h.total x) (layout r.value ++ rest) ≡ layout r.value
    part-is rest = take_at (layout r.value) rest (h.total x) (sym total-is)

    pub left_is : (rest table : List ℤ) → h.total x ≤ length table → overlay_at 0 (take (h.total x) (layout r.value ++ rest)) table ≡ laid layout table (accepted r.value)
    left_is rest table l = ap (λ (zs : List ℤ). overlay_at 0 zs table) (part-is rest) ∙ laid-accepted layout r.value table (rw total-is at l)

-- ---- a figure

figure-most : (f : Figure) → figures.figure_fault f ≡ clear → figure_end (counts f) ≤ 37026
unfolding figure_end groups_begin faces_begin uvs_begin owners_begin bones_begin points_begin figures.counts_of figures.figure_counts figure_lists figure_mosts
figure-most f c =
    let a = count_clear 0 _ _ _ _ (counts-sound f c) in
    let b = count_clear 1 _ _ _ _ a.1 in
    let d = count_clear 2 _ _ _ _ b.1 in
    let e = count_clear 3 _ _ _ _ d.1 in
    let g = count_clear 4 _ _ _ _ e.1 in
    let h = count_clear 5 _ _ _ _ g.1 in
    let i = count_clear 6 _ _ _ _ h.1 in
    let j = count_clear 7 _ _ _ _ i.1 in
    let k = count_clear 8 _ _ _ _ j.1 in
    omega (arith, a.0, b.0, d.0, e.0, g.0, h.0, i.0, j.0, k.0)

figure_some : (f : Figure) → 0 < figure_end (counts f)
unfolding figure_end groups_begin faces_begin uvs_begin owners_begin bones_begin points_begin
figure_some f = omega arith

pub figure_small : (text : List ℕ) → Small figures-laid.layout_of 37026 (figure_outcome text)
unfolding figure_outcome
figure_small text f e =
    let t = taken bac figure figures.figure_fault figures-laid.layout_of text (length (figures-laid.layout_of f)) f (ap (fitted figures-laid.layout_of (length (figures-laid.layout_of f))) e ∙ fitted-room figures-laid.layout_of f _ (le_refl _)) in
    let w = figure-whole (lex text) f t.shape.left t.shape.gives in
    let long = figure_long f w (parents-sound f t.shape.clean) in
    (omega (arith, figure_some f), omega (arith, figure-most f t.shape.clean))

pub figure-fields : (n p : ℕ) → ((bac6.answer_of (rejected n p)).total ≡ 0) × ((bac6.answer_of (rejected n p)).refusal ≡ n) × ((bac6.answer_of (rejected n p)).place ≡ p)
unfolding bac6.answer_of bac6.refused_with
figure-fields n p = (refl, refl, refl)

pub figure-total : (a : Figure) → (bac6.answer_of (accepted a)).total ≡ length (figures-laid.layout_of a)
unfolding bac6.answer_of
figure-total a = refl

abbrev pub figure-held : Held figures-laid.layout_of bac6.answer_of
figure-held = record { total = λ x. x.total; refusal = λ x. x.refusal; place = λ x. x.place; of_refused = figure-fields; of_taken = figure-total }

-- ---- a movement

movement-most : (m : Movement) → movements.movement_fault m ≡ clear → 3 + length m.bones * 22 + length (movements.key_rows m) * 2 + length m.patterns * 3 ≤ 11779
unfolding movements.counts_of movements.movement_counts movement_lists movement_mosts
movement-most m c =
    let a = count_clear 0 _ _ _ _ (counts-clear m c) in
    let b = count_clear 1 _ _ _ _ a.1 in
    let d = count_clear 2 _ _ _ _ b.1 in
    omega (arith, a.0, b.0, d.0)

pub movement_small : (text : List ℕ) → Small movements-laid.layout_of 11779 (movement_outcome text)
unfolding movement_outcome
movement_small text m e =
    let t = taken tra movement movements.movement_fault movements-laid.layout_of text (length (movements-laid.layout_of m)) m (ap (fitted movements-laid.layout_of (length (movements-laid.layout_of m))) e ∙ fitted-room movements-laid.layout_of m _ (le_refl _)) in
    let w = movement-whole (lex text) m t.shape.left t.shape.gives in
    let long = layout_length m w in
    (omega arith, omega (arith, movement-most m t.shape.clean))

pub movement-fields : (n p : ℕ) → ((tra4.answer_of (rejected n p)).total ≡ 0) × ((tra4.answer_of (rejected n p)).refusal ≡ n) × ((tra4.answer_of (rejected n p)).place ≡ p)
unfolding tra4.answer_of tra4.refused_with
movement-fields n p = (refl, refl, refl)

pub movement-total : (a : Movement) → (tra4.answer_of (accepted a)).total ≡ length (movements-laid.layout_of a)
unfolding tra4.answer_of
movement-total a = refl

abbrev pub movement-held : Held movements-laid.layout_of tra4.answer_of
movement-held = record { total = λ x. x.total; refusal = λ x. x.refusal; place = λ x. x.place; of_refused = movement-fields; of_taken = movement-total }
