-- The names of the bones of a text that is taken stand in it, row by row: a taken text passes the refusals 1 to 4, and its grammar gives the names.
use mathlib.Core.Path.{◌≡◌, ap, ◌∙◌}
use mathlib.Core.List.{List, [], ◌∷◌, map}
use Prim.Native.Nat.{ℕ, zero, suc, ◌<◌}
use native.Mathlib.Nat.{le_refl}
use native.Mathlib.Omega.{arith}
use lib.ListN.{length, get_or}
use Rattle.text_bytes.specs.Internal.Every.{Every}
use Rattle.text_check.specs.Internal.Strings.{StringAt}
use Rattle.text_check.specs.Faults.{bac, tra}
use Rattle.parse_spec.specs.Readers.{Name, absent}
use Rattle.refusal.specs.Outcomes.{accepted, fitted}
use Rattle.parse_text.proofs.Outcomes.{fitted-room, accepted-clear}
use Rattle.bac6_text.specs.Figure as bac6
use Rattle.bac6_text.specs.Grammar.{figure}
use Rattle.bac6_text.specs.Rules.{figure_fault}
use Rattle.bac6_text.specs.Layout as figures
use Rattle.bac6_text.specs.Answer.{figure_outcome}
use Rattle.bac6_text.proofs.Names.{figure-names}
use Rattle.tra4_text.specs.Movement as tra4
use Rattle.tra4_text.specs.Grammar.{movement}
use Rattle.tra4_text.specs.Rules.{movement_fault}
use Rattle.tra4_text.specs.Layout as movements
use Rattle.tra4_text.specs.Answer.{movement_outcome}
use Rattle.tra4_text.proofs.Names.{movement-names}
use Rattle.movement_bridge.proofs.Taken.{taken}
use Rattle.movement_bridge.proofs.Names as moving
use Rattle.figure_bridge.proofs.Names as standing

-- the row of a list of names
module _ {A : Type 0} (P : Name → Type 0) (name : A → Name) where
  name-at : (l : List A) → Every (λ a. P (name a)) l → (i : ℕ) → i < length l → P (get_or (map name l) i absent)
  name-at [] e i h = absurd (omega arith)
  name-at (a ∷ l) e zero h = e.0
  name-at (a ∷ l) e (suc i) h = name-at l e.1 i (omega arith)

module _ (text : List ℕ) (f : bac6.Figure) (e : figure_outcome text ≡ accepted f) where
  abbrev room : ℕ
  room = length (figures.layout_of f)

  figure-fits : fitted figures.layout_of room (figure_outcome text) ≡ accepted f
  figure-fits = ap (fitted figures.layout_of room) e ∙ fitted-room figures.layout_of f room (le_refl _)

  pub figure_stands : (i : ℕ) → i < length f.bones → StringAt text (standing.bone_name f.bones i).at (standing.bone_name f.bones i).bytes
  unfolding figure_outcome
  figure_stands i h =
      let t = taken bac figure figure_fault figures.layout_of text room f figure-fits in
      let n = figure-names text f t.shape.left (accepted-clear bac figure figure_fault figures.layout_of text room f figure-fits) t.shape.gives in
      name-at (λ x. StringAt text x.at x.bytes) (λ (b : bac6.Bone). b.name) f.bones n.bones i h

module _ (text : List ℕ) (m : tra4.Movement) (e : movement_outcome text ≡ accepted m) where
  abbrev space : ℕ
  space = length (movements.layout_of m)

  movement-fits : fitted movements.layout_of space (movement_outcome text) ≡ accepted m
  movement-fits = ap (fitted movements.layout_of space) e ∙ fitted-room movements.layout_of m space (le_refl _)

  pub movement_stands : (i : ℕ) → i < length m.bones → StringAt text (moving.bone_name m.bones i).at (moving.bone_name m.bones i).bytes
  unfolding movement_outcome
  movement_stands i h =
      let t = taken tra movement movement_fault movements.layout_of text space m movement-fits in
      let n = movement-names text m t.shape.left (accepted-clear tra movement movement_fault movements.layout_of text space m movement-fits) t.shape.gives in
      name-at (λ x. StringAt text x.at x.bytes) (λ (b : tra4.Bone). b.name) m.bones n.bones i h
