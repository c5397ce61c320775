-- What each reason says: a corner is the first without a bone, and a line decides and hides; by what the corners and the deciding line are, both ways.
use mathlib.Core.Path.{◌≡◌, refl, ap, sym, ◌∙◌}
use mathlib.Core.Logic.{◌↔◌, inl, inr}
use mathlib.Core.List.{List, [], ◌∷◌, map}
use mathlib.Core.Bool.{Bool, true, false, false≢true}
use mathlib.Core.Option.{Option, none, some}
use Prim.Native.Nat.{ℕ, zero, suc, ◌+◌, ◌<◌}
use native.Mathlib.Omega.{arith}
use borrow.Author.Tests.{ltb-true, ltb-false}
use lib.Dec.{ltb}
use lib.IntN.{ℤ, pos, negsuc, nat_abs}
use lib.ListN.{length, get_or, take, drop, length-map, length-take}
use lib.Seq.{get_or-take, get_or-drop}
use Rattle.bac6_text.specs.Figure.{Bone, Face, Figure}
use Rattle.bac6_text.specs.Rules.{owner_of}
use Rattle.table_references.specs.References.{is_none}
use Rattle.table_columns.specs.Columns.{face_size, face_vertices, face_vertex, face_group}
use Rattle.table_counts.specs.declared.counts.FigureCounts.{FigureCounts}
use Rattle.table_counts.specs.declared.counts.MovementCounts.{MovementCounts}
use Rattle.tra4_text.specs.Movement.{Pattern}
use Rattle.player_spec.specs.Deciding.{flag_of, Line, deciding, Decides}
use Rattle.player_spec.specs.Reasons.{Reason, shown, by_corner, unset, by_line, first_unowned, line_reason, group_reason, corner_first, reason_of, why_of, Owned, FirstUnowned, Because}
use Rattle.player_spec.specs.Faces.{corner_of}
use Rattle.player_spec.specs.Lookups.{face_at, owner_at, corner_owners, group_named, pattern_rows, can_show, why_in}
use Rattle.player_spec.proofs.Greatest.{deciding-greatest}
use Rattle.player_spec.proofs.OnlyIf.{only_some}

-- ---- the first corner without a bone

module _ (k : ℕ) (o : ℤ) (os : List ℤ) where
  pub first-here : is_none o ≡ true → first_unowned k (o ∷ os) ≡ some k
  unfolding first_unowned
  first-here e = rw (e, first_unowned)

  pub first-after : is_none o ≡ false → first_unowned k (o ∷ os) ≡ first_unowned (suc k) os
  unfolding first_unowned
  first-after e = rw (e, first_unowned)

abbrev First : List ℤ → Option ℕ → Type 0
First os none = Owned os
First os (some k) = FirstUnowned os k

-- the same, with corners counted from one on
abbrev From : ℕ → List ℤ → Option ℕ → Type 0
From k os none = Owned os
From k os (some c) = (i : ℕ) × (c ≡ k + i) × FirstUnowned os i

owned_more : (o : ℤ) (os : List ℤ) → is_none o ≡ false → Owned os → Owned (o ∷ os)
owned_more o os e h zero l = e
owned_more o os e h (suc j) l = h j (omega arith)

later : (o : ℤ) (os : List ℤ) (i : ℕ) → is_none o ≡ false → FirstUnowned os i → FirstUnowned (o ∷ os) (suc i)
later o os i e h = record { exists = omega arith; unowned = h.unowned; before = before }
  where
    before : (j : ℕ) → j < suc i → is_none (get_or (o ∷ os) j (pos 0)) ≡ false
    before zero l = e
    before (suc j) l = h.before j (omega arith)

from_more : (k : ℕ) (o : ℤ) (os : List ℤ) (best : Option ℕ) → is_none o ≡ false → From (suc k) os best → From k (o ∷ os) best
from_more k o os none e h = owned_more o os e h
from_more k o os (some c) e (i, q, h) = (suc i, omega arith, later o os i e h)

from-here : (k : ℕ) (os : List ℤ) → From k os (first_unowned k os)
unfolding first_unowned
from-here k [] = λ j l. absurd (omega arith)
from-here k (o ∷ os) = go (is_none o) refl (from-here (suc k) os)
  where
    go : (v : Bool) → is_none o ≡ v → From (suc k) os (first_unowned (suc k) os) → From k (o ∷ os) (first_unowned k (o ∷ os))
    go true e ih = rw (first-here k o os e) (0, omega arith, record { exists = omega arith; unowned = e; before = λ j l. absurd (omega arith) })
    go false e ih = rw (first-after k o os e) (from_more k o os (first_unowned (suc k) os) e ih)

module _ (os : List ℤ) where
  is-first : First os (first_unowned 0 os)
  is-first = go (first_unowned 0 os) (from-here 0 os)
    where
      go : (best : Option ℕ) → From 0 os best → First os best
      go none h = h
      go (some c) (i, e, h) = let z : c ≡ i = omega arith in rw z h

  unlike : (j k : ℕ) → FirstUnowned os j → FirstUnowned os k → j < k → ⊥
  unlike j k h l less = false≢true (sym (l.before j less) ∙ h.unowned)

  only : (a b : Option ℕ) → First os a → First os b → a ≡ b
  only none none h l = refl
  only none (some k) h l = absurd (false≢true (sym (h k l.exists) ∙ l.unowned))
  only (some k) none h l = absurd (false≢true (sym (l k h.exists) ∙ h.unowned))
  only (some j) (some k) h l = go (ltb j k) (ltb k j) refl refl
    where
      go : (v w : Bool) → ltb j k ≡ v → ltb k j ≡ w → ◌≡◌ {A = Option ℕ} (some j) (some k)
      go true w p q = absurd (unlike j k h l (ltb-true j k p))
      go false true p q = absurd (unlike k j l h (ltb-true k j q))
      go false false p q = let x = ltb-false j k p in let y = ltb-false k j q in let z : j ≡ k = omega arith in ap some z

  first-unowned : (best : Option ℕ) → first_unowned 0 os ≡ best ↔ First os best
  first-unowned best = (λ e. rw e at is-first, λ h. only (first_unowned 0 os) best is-first h)

-- ---- by the corners and the line that decides

line_shows : (l : Line) → flag_of l.1 ≡ true → line_reason (some l) ≡ shown
unfolding line_reason
line_shows l e = rw (e, line_reason)

line_hides : (l : Line) → flag_of l.1 ≡ false → line_reason (some l) ≡ by_line l.0
unfolding line_reason
line_hides l e = rw (e, line_reason)

module _ (os : List ℤ) (g : Option ℕ) (ps : List Pattern) (at : ℕ) where
  abbrev reason : Reason
  reason = reason_of os g ps at

  -- ---- what it is by them

  by_first : (best : Option ℕ) → First os best → reason ≡ corner_first best (group_reason g at ps)
  unfolding reason_of
  by_first best h = ap (λ (b : Option ℕ). corner_first b (group_reason g at ps)) ((first-unowned os best).1 h)

  by_group : Owned os → reason ≡ group_reason g at ps
  unfolding corner_first
  by_group o = by_first none o

  by_line_lem : Owned os → (i : ℕ) → g ≡ some i → (best : Option Line) → Decides i at ps (length ps) best → reason ≡ line_reason best
  unfolding group_reason
  by_line_lem o i e best d = by_group o ∙ ap (λ (x : Option ℕ). group_reason x at ps) e ∙ ap line_reason ((deciding-greatest i at ps best).1 d)

  of_because : (r : Reason) → Because os g ps at r → reason ≡ r
  unfolding corner_first group_reason line_reason
  of_because shown (o, inl e) = by_group o ∙ ap (λ (x : Option ℕ). group_reason x at ps) e
  of_because shown (o, inr (row, d)) = by_line_lem o d.group d.is (some (row, d.line)) d.decides ∙ line_shows (row, d.line) d.flagged
  of_because (by_corner k) h = by_first (some k) h
  of_because unset (o, d) = by_line_lem o d.group d.is none d.decides
  of_because (by_line row) (o, d) = by_line_lem o d.group d.is (some (row, d.line)) d.decides ∙ line_hides (row, d.line) d.flagged

  -- ---- and what they are by it

  because_line : Owned os → (i : ℕ) → g ≡ some i → (best : Option Line) → Decides i at ps (length ps) best → Because os g ps at (line_reason best)
  unfolding line_reason
  because_line o i e none d = (o, record { group = i; is = e; decides = d })
  because_line o i e (some l) d = go (flag_of l.1) refl
    where
      go : (v : Bool) → flag_of l.1 ≡ v → Because os g ps at (line_reason (some l))
      go true f = rw (line_shows l f) (o, inr (l.0, record { group = i; is = e; line = l.1; decides = d; flagged = f }))
      go false f = rw (line_hides l f) (o, record { group = i; is = e; line = l.1; decides = d; flagged = f })

  because_group : Owned os → (x : Option ℕ) → g ≡ x → Because os g ps at (group_reason x at ps)
  unfolding group_reason
  because_group o none e = (o, inl e)
  because_group o (some i) e = because_line o i e (deciding i at ps) ((deciding-greatest i at ps (deciding i at ps)).0 refl)

  because : (best : Option ℕ) → First os best → Because os g ps at (corner_first best (group_reason g at ps))
  unfolding corner_first
  because none o = because_group o g refl
  because (some k) h = h

  pub reason_because : (r : Reason) → reason ≡ r ↔ Because os g ps at r
  unfolding reason_of
  reason_because r = (λ e. rw e at (because (first_unowned 0 os) ((first-unowned os (first_unowned 0 os)).0 refl)), of_because r)

-- ---- the answers, by what they say

pub text_reason : (bs : List Bone) (ps : List Pattern) (f : Face) (g : Option ℕ) (at : ℕ) (r : Reason) → why_of bs ps (f, g) at ≡ r ↔ Because (map (owner_of bs) f.vertices) g ps at r
unfolding why_of
text_reason bs ps f g at r = reason_because (map (owner_of bs) f.vertices) g ps at r

pub table_reason : (n : FigureCounts) (table : List ℤ) (m : MovementCounts) (moves : List ℤ) (face at : ℕ) (r : Reason) → why_in n table m moves face at ≡ some r ↔ ((can_show n table m moves face at ≡ true) × Because (corner_owners n table (face_at n table face)) (group_named (face_group (face_at n table face))) (pattern_rows n table m moves) at r)
unfolding why_in
table_reason n table m moves face at r =
    let by = reason_because (corner_owners n table (face_at n table face)) (group_named (face_group (face_at n table face))) (pattern_rows n table m moves) at r in
    let is = only_some (can_show n table m moves face at) (reason_of (corner_owners n table (face_at n table face)) (group_named (face_group (face_at n table face))) (pattern_rows n table m moves) at) r in
    (λ e. ((is.0 e).0, by.0 (is.0 e).1), λ h. is.1 (h.0, by.1 h.1))

pub map_at : {A B : Type 0} (f : A → B) (l : List A) (i : ℕ) (a : A) (b : B) → i < length l → get_or (map f l) i b ≡ f (get_or l i a)
map_at f [] i a b h = absurd (omega arith)
map_at f (x ∷ l) zero a b h = refl
map_at f (x ∷ l) (suc i) a b h = map_at f l i a b (omega arith)

-- as Corner tells them
pub text_owners : (f : Figure) (face : Face) (k : ℕ) → k < length face.vertices → get_or (map (owner_of f.bones) face.vertices) k (pos 0) ≡ (corner_of f face k).owner
unfolding corner_of
text_owners f face k h = map_at (owner_of f.bones) face.vertices k (negsuc 0) (pos 0) h

pub table_owners : (n : FigureCounts) (table row : List ℤ) (k : ℕ) → k < length (corner_owners n table row) → get_or (corner_owners n table row) k (pos 0) ≡ owner_at n table (face_vertex row k)
unfolding corner_owners
table_owners n table row k h =
    let size = nat_abs (face_size row) in
    let used = take size (face_vertices row) in
    let a = length-map used (owner_at n table) in
    let b = length-take size (face_vertices row) in
    let c = length-take 4 (drop 2 row) in
    map_at (owner_at n table) used k (pos 0) (pos 0) (omega arith)
    ∙ ap (owner_at n table) (get_or-take size (face_vertices row) k (pos 0) (omega arith) ∙ get_or-take 4 (drop 2 row) k (pos 0) (omega arith) ∙ get_or-drop 2 row k (pos 0))
