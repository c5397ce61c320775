-- Lists laid over a table from its start on, each from the index after those before it.
use mathlib.Core.Path.{◌≡◌, refl, ap, sym, ◌∙◌}
use mathlib.Core.List.{List, [], ◌∷◌, ◌++◌}
use mathlib.Core.Bool.{Bool, true, false}
use Prim.Native.Nat.{ℕ, ◌+◌, ◌-◌, ◌*◌, ◌≤◌, min}
use native.Mathlib.Nat.{min-eq_left, min-eq_right, le_of_lt, le_refl}
use borrow.Author.Tests.{leb-true, leb-false}
use lib.Dec.{leb}
use native.Mathlib.Omega.{arith}
use lib.IntN.{ℤ}
use lib.ListN.{length, take, drop, length-take, length-drop, length-append}
use lib.Seq.{take_all, drop-length}
use Rattle.table_rows.specs.Internal.Overlay.{overlay_at}
use Rattle.table_rows.proofs.Tables.{overlay_at-length, overlay_at-append, overlay_at-same}
use Rattle.table_counts.specs.declared.counts.FigureCounts.{FigureCounts}
use Rattle.bac6_layout.specs.declared.ends.Ends.{Ends}
use Rattle.bac6_layout.specs.Internal.Places.{materials_from, bones_from, uvs_from, faces_from, rows_end}
use Rattle.bac6_layout.specs.Internal.Ends.{ends_of, Rising}
use Rattle.bac6_layout.specs.Internal.Numbers.{numbers_of}

no_elements : (l : List ℤ) → length l ≡ 0 → l ≡ []
no_elements [] e = refl
no_elements (z ∷ l) e = absurd (omega arith)

-- what a table holds after lists, and an index that is as good as the one after them
abbrev pub Lays : List ℤ → List ℤ → List ℤ → ℕ → Type 0
Lays t zs exit i = (exit ≡ overlay_at 0 zs t) × (min i (length t) ≡ min (length zs) (length t))

pub lays_none : (t : List ℤ) → t ≡ overlay_at 0 [] t → Lays t [] t 0
lays_none t e = (e, refl)

module _ (t zs mid : List ℤ) (i : ℕ) (exit : List ℤ) (k : ℕ) (l : Lays t zs mid i) where
  -- a list more
  next : (b : List ℤ) → exit ≡ overlay_at i b mid → min k (length mid) ≡ min (i + length b) (length mid) → Lays t (zs ++ b) exit k
  next b x e =
      let n : length mid ≡ length t = ap length l.0 ∙ overlay_at-length 0 zs t in
      let a : length (zs ++ b) ≡ length zs + length b = length-append zs b in
      (x ∙ ap (overlay_at i b) l.0 ∙ overlay_at-same i (0 + length zs) b (overlay_at 0 zs t) (rw (overlay_at-length 0 zs t) (omega (arith, l.1))) ∙ sym (overlay_at-append 0 zs b t), omega (arith, l.1, e, n, a))

  pub lays_list : (b : List ℤ) → exit ≡ overlay_at i b mid → k ≡ min (i + length b) (length mid) → Lays t (zs ++ b) exit k
  lays_list b x e = next b x (omega (arith, e))

  -- lists that stand one after the other in another table
  pub lays_part : (s b : ℕ) (rows : List ℤ) → b + s ≤ length rows → exit ≡ overlay_at i (take s (drop b rows)) mid → min k (length mid) ≡ min (i + s) (length mid) → Lays t (zs ++ take s (drop b rows)) exit k
  lays_part s b rows h x e = let n : length (take s (drop b rows)) ≡ s = rw (length-take, length-drop) (omega arith) in next (take s (drop b rows)) x (rw n e)

-- ---- parts that end where their table does

pub take_min : (k : ℕ) (l : List ℤ) → take (min k (length l)) l ≡ take k l
take_min k l = go (leb k (length l)) refl
  where
    go : (v : Bool) → leb k (length l) ≡ v → take (min k (length l)) l ≡ take k l
    go true o = rw (min-eq_left (leb-true _ _ o))
    go false o = let h = le_of_lt (leb-false _ _ o) in rw (min-eq_right h, take_all (length l) l (le_refl (length l)), take_all k l h)

pub drop_min : (k : ℕ) (l : List ℤ) → drop (min k (length l)) l ≡ drop k l
drop_min k l = go (leb k (length l)) refl
  where
    go : (v : Bool) → leb k (length l) ≡ v → drop (min k (length l)) l ≡ drop k l
    go true o = rw (min-eq_left (leb-true _ _ o))
    go false o =
        let h : length l ≤ k = le_of_lt (leb-false _ _ o) in
        let z : length (drop k l) ≡ 0 = rw length-drop (omega arith) in
        rw (min-eq_right h, drop-length l) (sym (no_elements (drop k l) z))

pub part-min : (a b : ℕ) (l : List ℤ) → take (min (a + b) (length l) - min a (length l)) (drop (min a (length l)) l) ≡ take b (drop a l)
part-min a b l =
    let n : length (drop a l) ≡ length l - a = length-drop a l in
    let k : min (min (a + b) (length l) - min a (length l)) (length (drop a l)) ≡ min b (length (drop a l)) = rw n (omega arith) in
    rw (drop_min a l) (sym (take_min (min (a + b) (length l) - min a (length l)) (drop a l)) ∙ ap (λ (k : ℕ). take k (drop a l)) k ∙ take_min b (drop a l))

-- the numbers that are laid
pub numbers_are : (n : FigureCounts) (e : Ends) (o g : ℕ) (name rows owners names table exit : List ℤ) → e ≡ ends_of n (length rows) → o ≡ min (0 + n.points * 1) (length owners) → g ≡ min (0 + n.groups * 2) (length names) → exit ≡ overlay_at 0 (name ++ take e.bones rows ++ take o owners ++ take (e.faces - e.bones) (drop e.bones rows) ++ take g names) table → exit ≡ overlay_at 0 (numbers_of n name rows owners names) table
unfolding numbers_of ends_of
numbers_are n e o g name rows owners names table exit h ho hg x =
    let so : o ≡ min n.points (length owners) = omega (arith, ho) in
    let sg : g ≡ min (n.groups * 2) (length names) = omega (arith, hg) in
    let su : faces_from n + n.faces * 11 ≡ uvs_from n + (n.uvs * 2 + n.faces * 11) = omega arith in
    x ∙ rw (h, so, sg, su, take_min (uvs_from n) rows, take_min n.points owners, part-min (uvs_from n) (n.uvs * 2 + n.faces * 11) rows, take_min (n.groups * 2) names)

pub rising : (n : FigureCounts) (e : Ends) (room : ℕ) → e ≡ ends_of n room → Rising e room
unfolding ends_of
rising n e room h = rw h (record { colours = omega arith; materials = omega arith; points = omega arith; normals = omega arith; bones = omega arith; uvs = omega arith; faces = omega arith; last = omega arith })

-- a sum and a place that are known by other names
pub content_by : (at s u b d : ℕ) (rows table exit : List ℤ) → s ≡ u → b ≡ d → exit ≡ overlay_at at (take s (drop b rows)) table → exit ≡ overlay_at at (take u (drop d rows)) table
content_by at s u b d rows table exit e g h = h ∙ rw (e, g)

pub next_by : (at s u r m : ℕ) → s ≡ u → min r m ≡ min (at + s) m → min r m ≡ min (at + u) m
next_by at s u r m e h = h ∙ rw e

pub part_length : (k n : ℕ) (l : List ℤ) → k ≡ min n (length l) → k ≡ length (take k l)
part_length k n l e = rw (length-take k l) (omega (arith, e))

end_first : (t x room : ℕ) → t ≡ min (0 + x) room → t ≡ min x room
end_first t x room e = omega arith

end_next : (a x y b room : ℕ) → a ≡ min x room → b ≡ min (a + y) room → b ≡ min (x + y) room
end_next a x y b room e h = omega arith

-- the ends, each from the one before it
pub ends_are : (n : FigureCounts) (room t c m p v b u f : ℕ) → t ≡ min (0 + n.textures * 2) room → c ≡ min (t + n.colours * 3) room → m ≡ min (c + n.materials * 9) room → p ≡ min (m + n.points * 3) room → v ≡ min (p + n.normals * 3) room → b ≡ min (v + n.bones * 14) room → u ≡ min (b + n.uvs * 2) room → f ≡ min (u + n.faces * 11) room → record { textures = t; colours = c; materials = m; points = p; normals = v; bones = b; uvs = u; faces = f } ≡ ends_of n room
unfolding ends_of
ends_are n room t c m p v b u f ht hc hm hp hv hb hu hf =
    let et : t ≡ min (n.textures * 2) room = end_first t _ room ht in
    let ec : c ≡ min (materials_from n) room = end_next t (n.textures * 2) _ c room et hc in
    let em : m ≡ min (materials_from n + n.materials * 9) room = end_next c _ _ m room ec hm in
    let ep : p ≡ min (materials_from n + n.materials * 9 + n.points * 3) room = end_next m _ _ p room em hp in
    let ev : v ≡ min (bones_from n) room = end_next p _ _ v room ep hv in
    let eb : b ≡ min (uvs_from n) room = end_next v _ _ b room ev hb in
    let eu : u ≡ min (faces_from n) room = end_next b _ _ u room eb hu in
    let ef : f ≡ min (rows_end n) room = end_next u _ _ f room eu hf in
    rw (et, ec, em, ep, ev, eb, eu, ef)
