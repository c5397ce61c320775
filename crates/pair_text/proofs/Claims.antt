-- Worked pairs, by computation: both sides of the rules 18 to 20, each with its place, which of two faults comes first, and the file of each.
use mathlib.Core.Path.{◌≡◌, refl}
use mathlib.Core.List.{List, [], ◌∷◌, map}
use Prim.Native.Nat.{ℕ}
use Prim.Native.String.{String}
use lib.IntN.{ℤ, pos}
use Rattle.text_bytes.specs.Bytes.{bytes}
use Rattle.text_runs.specs.Runs.{same}
use Rattle.refusal.specs.Faults.{Fault, clear, fault}
use Rattle.parse_spec.specs.Readers.{absent}
use Rattle.refusal.specs.Rules.{or_else}
use Rattle.refusal.specs.Outcomes.{rejected, accepted}
use Rattle.bac6_text.specs.Figure.{Figure}
use Rattle.refusal.specs.FirstBad.{first_bad}
use Rattle.table_references.specs.References.{is_row}
use Rattle.tra4_text.specs.Movement.{Bone, Movement, group_of}
use Rattle.pair_text.specs.Rules.{bones_fault, names_agree, names_fault, groups_fault, movement_names, pair_fault}
use Rattle.pair_text.specs.Answer.{refused, with_movement, with_figure, paired}

abbrev named : String → Bone
named s = record { name = record { at = 0; bytes = bytes s }; channels = [] }

-- a movement of so named bones and patterns of these groups
abbrev moved : List String → List ℤ → Movement
moved names groups = record { total_frames = pos 1; name = absent; bones = map named names; patterns = map (λ g. pos 0 ∷ g ∷ pos 1 ∷ []) groups }

-- the names of a figure's bones and how many groups it has; those of a movement's bones and the groups of its patterns; the fault
abbrev cases : List ((List String × ℕ) × (List String × List ℤ) × Fault)
cases =
    -- 18 on either side
    ((("a" ∷ "b" ∷ [], 0), ("a" ∷ "b" ∷ [], []), clear)
    ∷ (("a" ∷ "b" ∷ [], 0), ("a" ∷ [], []), fault 18 1)
    ∷ (("a" ∷ [], 0), ("a" ∷ "b" ∷ [], []), fault 18 2)
    -- 19: a name that is empty agrees with any
    ∷ (("a" ∷ "" ∷ "c" ∷ [], 0), ("" ∷ "b" ∷ "c" ∷ [], []), clear)
    ∷ (("" ∷ [], 0), ("" ∷ [], []), clear)
    ∷ (("a" ∷ "b" ∷ "c" ∷ [], 0), ("a" ∷ "x" ∷ "y" ∷ [], []), fault 19 1)
    ∷ (("hip" ∷ [], 0), ("hips" ∷ [], []), fault 19 0)
    ∷ (("hip" ∷ [], 0), ("Hip" ∷ [], []), fault 19 0)
    -- 20 on either side
    ∷ (("" ∷ [], 2), ("" ∷ [], pos 0 ∷ pos 1 ∷ pos 1 ∷ []), clear)
    ∷ (("" ∷ [], 2), ("" ∷ [], pos 0 ∷ pos 2 ∷ pos 3 ∷ []), fault 20 1)
    ∷ (("" ∷ [], 0), ("" ∷ [], pos 0 ∷ []), fault 20 0)
    -- 18 before 19, 19 before 20
    ∷ (("a" ∷ "b" ∷ [], 0), ("x" ∷ [], pos 0 ∷ []), fault 18 1)
    ∷ (("a" ∷ [], 0), ("x" ∷ [], pos 0 ∷ []), fault 19 0)
    ∷ [])

pub pairs_worked : map (λ c. pair_fault (map bytes c.0.0) c.0.1 (moved c.1.0 c.1.1)) cases ≡ map (λ c. c.2) cases
unfolding bytes same or_else is_row first_bad group_of movement_names bones_fault names_agree names_fault groups_fault pair_fault
pairs_worked = refl

-- the figure's refusal comes before the movement's
pub figure-first : paired (rejected 5 17) (rejected 2 0) ≡ refused 5 17 0
unfolding paired
figure-first = refl

-- the movement's comes before those of both
pub movement_second : (f : Figure) → paired (accepted f) (rejected 14 0) ≡ refused 14 0 1
unfolding paired with_figure with_movement
movement_second f = refl
