-- The rules 18 to 20 of a figure and a movement as a pair, each with its place (document 01, "Refusal numbers").
use Rattle.std.specs.Prelude.{List, [], ◌∷◌, map, Bool, true, false, cond, ℕ, suc, eqb, length}
use Rattle.text_runs.specs.Runs.{same}
use Rattle.refusal.specs.Faults.{Fault, clear, fault}
use Rattle.refusal.specs.Rules.{or_else}
use Rattle.bac6_text.specs.Figure as bac6
use Rattle.refusal.specs.FirstBad.{first_bad}
use Rattle.table_references.specs.References.{is_row}
use Rattle.tra4_text.specs.Movement as tra4
use Rattle.tra4_text.specs.Movement.{Pattern, group_of}

-- the bones' names in row order; an absent name is empty
unfoldable pub figure_names : bac6.Figure → List (List ℕ)
figure_names f = map (λ (b : bac6.Bone). b.name.bytes) f.bones

unfoldable pub movement_names : tra4.Movement → List (List ℕ)
movement_names m = map (λ (b : tra4.Bone). b.name.bytes) m.bones

-- 18: bone counts differ, at the movement's
unfoldable pub bones_fault : ℕ → ℕ → Fault
bones_fault bones moved = cond (eqb bones moved) clear (fault 18 moved)

-- two names of one bone: one is empty, or their bytes are the same
unfoldable pub names_agree : List ℕ → List ℕ → Bool
names_agree [] b = true
names_agree (x ∷ a) [] = true
names_agree (x ∷ a) (y ∷ b) = same (x ∷ a) (y ∷ b)

-- 19: at the first bone row whose names do not agree
unfoldable pub names_fault : ℕ → List (List ℕ) → List (List ℕ) → Fault
names_fault row [] moved = clear
names_fault row (a ∷ names) [] = clear
names_fault row (a ∷ names) (b ∷ moved) = elim (names_agree a b) [ true ↦ names_fault (suc row) names moved | false ↦ fault 19 row ]

-- 20: at the first pattern row whose group is none of so many
unfoldable pub groups_fault : ℕ → List Pattern → Fault
groups_fault groups ps = first_bad 20 (λ (p : Pattern). is_row groups (group_of p)) 0 ps

-- of 18 to 20 the lowest number, with its lowest row, by the names of a figure's bones and how many groups it has
unfoldable pub pair_fault : List (List ℕ) → ℕ → tra4.Movement → Fault
pair_fault names groups m =
    or_else (bones_fault (length names) (length m.bones))
    (or_else (names_fault 0 names (movement_names m))
    (groups_fault groups m.patterns))
