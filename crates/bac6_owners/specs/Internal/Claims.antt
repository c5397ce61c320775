-- Rule 11 over a table of owners, -1 where a vertex is unclaimed.
use Rattle.std.specs.Prelude.{List, [], ◌∷◌, Bool, true, false, ◌&&◌, ℕ, suc, min, length, get_or, set, ℤ, pos, nat_abs}
use Rattle.refusal.specs.Faults.{Fault, clear, fault}
use Rattle.bac6_text.specs.Figure.{Bone}
use Rattle.table_references.specs.References.{is_row, is_none}

-- an entry names one of the first n vertices, and that is unclaimed
unfoldable pub is_free : ℕ → ℤ → List ℤ → Bool
is_free n z owners = is_row (min n (length owners)) z && is_none (get_or owners (nat_abs z) (pos 0))

-- the owners after a bone's claim of an entry: the same where it is not free
unfoldable pub after_claim : ℕ → ℤ → ℤ → List ℤ → List ℤ
after_claim n bone z owners = elim (is_free n z owners) [ true ↦ set owners (nat_abs z) bone | false ↦ owners ]

-- ---- the entries of a figure's bones in order. A state: whether every entry so far was free, and the owners;
-- an entry is tried only while that is so

unfoldable pub claimed_one : ℕ → ℤ → Bool × List ℤ → ℤ → Bool × List ℤ
claimed_one n bone s z = elim s.0 [ true ↦ (is_free n z s.1, after_claim n bone z s.1) | false ↦ s ]

unfoldable pub claimed : ℕ → ℤ → Bool × List ℤ → List ℤ → Bool × List ℤ
claimed n bone s [] = s
claimed n bone s (z ∷ zs) = claimed n bone (claimed_one n bone s z) zs

-- a bone's entries, after the bones before it: the first fault, and the owners
unfoldable pub fault_at : ℕ → Bool → Fault
fault_at row true = clear
fault_at row false = fault 11 row

unfoldable pub after_bone : ℕ → Bool × List ℤ → Fault × List ℤ
after_bone row s = (fault_at row s.0, s.1)

unfoldable pub claimed_bone : ℕ → ℕ → Fault × List ℤ → List ℤ → Fault × List ℤ
claimed_bone n row s zs = elim s.0 [ clear ↦ after_bone row (claimed n (pos row) (true, s.1) zs) | fault k p ↦ s ]

unfoldable pub claimed_bones : ℕ → ℕ → Fault × List ℤ → List Bone → Fault × List ℤ
claimed_bones n row s [] = s
claimed_bones n row s (b ∷ bs) = claimed_bones n (suc row) (claimed_bone n row s b.vertices) bs
