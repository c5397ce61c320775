-- The limits by rule 8, and where the rows end within them.
use mathlib.Core.Path.{◌≡◌, ap}
use Prim.Native.Nat.{ℕ, ◌≤◌, min}
use native.Mathlib.Omega.{arith}
use Rattle.refusal.specs.Faults.{clear}
use Rattle.refusal.specs.Rules.{too_many}
use Rattle.refusal.proofs.Rules.{count_clear, or-first}
use Rattle.table_counts.specs.declared.counts.FigureCounts.{FigureCounts}
use Rattle.table_counts.specs.Counts.{figure_lists, figure_mosts}
use Rattle.bac6_rules.specs.Internal.Order.{counts_fault}
use Rattle.bac6_layout.specs.declared.ends.Ends.{Ends}
use Rattle.bac6_layout.specs.Internal.Places.{rows_end}
use Rattle.bac6_layout.specs.Internal.Ends.{ends_of}
use Rattle.bac6.specs.Internal.Places.{Within}

-- where rule 8 finds no fault, no list has more than its most
pub within_by : (n : FigureCounts) → too_many 0 (figure_lists n) figure_mosts ≡ clear → Within n
unfolding figure_lists figure_mosts
within_by n h =
    let t = count_clear 0 n.textures 16 _ _ h in
    let c = count_clear 1 n.colours 256 _ _ t.1 in
    let m = count_clear 2 n.materials 64 _ _ c.1 in
    let p = count_clear 3 n.points 2048 _ _ m.1 in
    let v = count_clear 4 n.normals 2048 _ _ p.1 in
    let b = count_clear 5 n.bones 128 _ _ v.1 in
    let u = count_clear 6 n.uvs 4096 _ _ b.1 in
    let f = count_clear 7 n.faces 1024 _ _ u.1 in
    let g = count_clear 8 n.groups 32 _ _ f.1 in
    record { textures = t.0; colours = c.0; materials = m.0; points = p.0; normals = v.0; bones = b.0; uvs = u.0; faces = f.0; groups = g.0 }

pub within-counts : (n : FigureCounts) → counts_fault n ≡ clear → Within n
unfolding counts_fault
within-counts n e = within_by n (or-first _ _ e)

-- a table for the most rows of each list holds all of them
pub rows_few : (n : FigureCounts) → Within n → rows_end n ≤ 34912
rows_few n v = omega (arith, v.textures, v.colours, v.materials, v.points, v.normals, v.bones, v.uvs, v.faces)

cut : (a b : ℕ) → b ≡ min a 34912 → a ≤ 34912 → b ≡ a
cut a b e h = omega arith

pub faces_end : (n : FigureCounts) (e : Ends) → Within n → e ≡ ends_of n 34912 → e.faces ≡ rows_end n
unfolding ends_of
faces_end n e v h =
    let f : e.faces ≡ min (rows_end n) 34912 = ap (λ (x : Ends). x.faces) h in
    let k = rows_few n v in
    cut (rows_end n) e.faces f k
