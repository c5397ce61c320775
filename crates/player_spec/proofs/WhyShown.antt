-- Shown by the reason: it says yes exactly where the reason is that the face is shown, and is 21 where the reason is; each part of Shown's definition is one of the reason's.
use mathlib.Core.Path.{◌≡◌, refl, ap, ap₂, sym, ◌∙◌}
use mathlib.Core.Logic.{◌↔◌}
use mathlib.Core.List.{List, [], ◌∷◌, map}
use mathlib.Core.Bool.{Bool, true, false, false≢true, not, ◌&&◌, ◌||◌}
use mathlib.Core.Option
use mathlib.Core.Option.{Option, none, some, map-eq-none_iff}
use Prim.Native.Nat.{ℕ, zero, suc}
use lib.IntN.{ℤ, nat_abs}
use lib.ListN.{take}
use Rattle.bac6_text.specs.Figure.{Bone, Face}
use Rattle.bac6_text.specs.Rules.{owner_of}
use Rattle.table_references.specs.References.{is_none}
use Rattle.table_counts.specs.declared.counts.FigureCounts.{FigureCounts}
use Rattle.table_counts.specs.declared.counts.MovementCounts.{MovementCounts}
use Rattle.table_columns.specs.Columns.{face_size, face_vertices, face_group}
use Rattle.tra4_text.specs.Movement.{Pattern}
use Rattle.player_spec.specs.Deciding.{flag_of, Line, deciding, state_by}
use Rattle.player_spec.specs.Faces.{all_owned, group_shown, shown_of}
use Rattle.player_spec.specs.Lookups.{only_if, face_at, owner_at, owned_corners, corner_owners, group_named, pattern_rows, can_show, group_flag, shown_in, why_in}
use Rattle.player_spec.specs.Reasons.{Reason, shown, by_corner, unset, by_line, first_unowned, line_reason, group_reason, corner_first, reason_of, why_of}
use Rattle.player_spec.proofs.Reasons.{first-here, first-after}

unfoldable pub is_shown : Reason → Bool
is_shown shown = true
is_shown (by_corner k) = false
is_shown unset = false
is_shown (by_line row) = false

-- ---- the parts

abbrev no_corner_lem : Option ℕ → Bool
no_corner_lem none = true
no_corner_lem (some k) = false

first-shown : (c : Option ℕ) (r : Reason) → (no_corner_lem c && is_shown r) ≡ is_shown (corner_first c r)
unfolding corner_first is_shown
first-shown none r = refl
first-shown (some k) r = refl

line-state : (best : Option Line) → state_by best ≡ is_shown (line_reason best)
unfolding state_by line_reason is_shown
line-state none = refl
line-state (some l) = go (flag_of l.1) refl
  where
    go : (v : Bool) → flag_of l.1 ≡ v → flag_of l.1 ≡ is_shown (line_reason (some l))
    go true e = rw (e, line_reason)
    go false e = rw (e, line_reason)

group-state : (g : Option ℕ) (at : ℕ) (ps : List Pattern) → group_shown g at ps ≡ is_shown (group_reason g at ps)
unfolding group_shown group_reason is_shown
group-state none at ps = refl
group-state (some g) at ps = line-state (deciding g at ps)

pub mapped : (b : Bool) (r : Reason) → only_if b (is_shown r) ≡ Option.map is_shown (only_if b r)
unfolding only_if
mapped true r = refl
mapped false r = refl

-- ---- on the texts' lists

owned_first : (bs : List Bone) (k : ℕ) (vs : List ℤ) → all_owned bs vs ≡ no_corner_lem (first_unowned k (map (owner_of bs) vs))
unfolding all_owned first_unowned
owned_first bs k [] = refl
owned_first bs k (v ∷ vs) = go (is_none (owner_of bs v)) refl (owned_first bs (suc k) vs)
  where
    go : (b : Bool) → is_none (owner_of bs v) ≡ b → all_owned bs vs ≡ no_corner_lem (first_unowned (suc k) (map (owner_of bs) vs)) → all_owned bs (v ∷ vs) ≡ no_corner_lem (first_unowned k (map (owner_of bs) (v ∷ vs)))
    go true e ih = rw (first-here k (owner_of bs v) (map (owner_of bs) vs) e, e, all_owned)
    go false e ih = rw (first-after k (owner_of bs v) (map (owner_of bs) vs) e, e, all_owned) ih

pub shown_of_lem : (bs : List Bone) (ps : List Pattern) (f : Face × Option ℕ) (at : ℕ) → shown_of bs ps f at ≡ is_shown (why_of bs ps f at)
unfolding shown_of why_of reason_of
shown_of_lem bs ps f at = ap₂ ◌&&◌ (owned_first bs 0 f.0.vertices) (group-state f.1 at ps) ∙ first-shown _ _

-- ---- on tables

module _ (n : FigureCounts) (table : List ℤ) where
  corners-first : (k used : ℕ) (vs : List ℤ) → owned_corners n table used vs ≡ no_corner_lem (first_unowned k (map (owner_at n table) (take used vs)))
  unfolding owned_corners first_unowned
  corners-first k zero vs = refl
  corners-first k (suc used) [] = refl
  corners-first k (suc used) (v ∷ vs) = go (is_none (owner_at n table v)) refl (corners-first (suc k) used vs)
    where
      go : (b : Bool) → is_none (owner_at n table v) ≡ b → owned_corners n table used vs ≡ no_corner_lem (first_unowned (suc k) (map (owner_at n table) (take used vs))) → (not (is_none (owner_at n table v)) && owned_corners n table used vs) ≡ no_corner_lem (first_unowned k (owner_at n table v ∷ map (owner_at n table) (take used vs)))
      go true e ih = rw (first-here k _ (map (owner_at n table) (take used vs)) e, e)
      go false e ih = rw (first-after k _ (map (owner_at n table) (take used vs)) e, e) ih

  module _ (m : MovementCounts) (moves : List ℤ) where
    group-flag : (g : ℤ) (at : ℕ) → group_flag n table m moves g at ≡ is_shown (group_reason (group_named g) at (pattern_rows n table m moves))
    unfolding group_flag group_named group_reason is_shown
    group-flag g at = go (is_none g) refl
      where
        go : (b : Bool) → is_none g ≡ b → (is_none g || state_by (deciding (nat_abs g) at (pattern_rows n table m moves))) ≡ is_shown (group_reason (group_named g) at (pattern_rows n table m moves))
        go true e = rw (e, group_named)
        go false e = rw (e, group_named) (line-state (deciding (nat_abs g) at (pattern_rows n table m moves)))

    pub shown_in_lem : (face at : ℕ) → shown_in n table m moves face at ≡ Option.map is_shown (why_in n table m moves face at)
    unfolding shown_in why_in reason_of corner_owners
    shown_in_lem face at =
        ap (only_if (can_show n table m moves face at)) (ap₂ ◌&&◌ (corners-first 0 (nat_abs (face_size (face_at n table face))) (face_vertices (face_at n table face))) (group-flag (face_group (face_at n table face)) at) ∙ first-shown _ _)
        ∙ mapped (can_show n table m moves face at) _

-- ---- exactly where

shown_only : (r : Reason) → is_shown r ≡ true → r ≡ shown
unfolding is_shown
shown_only shown e = refl
shown_only (by_corner k) e = absurd (false≢true e)
shown_only unset e = absurd (false≢true e)
shown_only (by_line row) e = absurd (false≢true e)

pub text-shown : (bs : List Bone) (ps : List Pattern) (f : Face × Option ℕ) (at : ℕ) → shown_of bs ps f at ≡ true ↔ why_of bs ps f at ≡ shown
unfolding is_shown
text-shown bs ps f at = (λ e. shown_only _ (sym (shown_of_lem bs ps f at) ∙ e), λ e. shown_of_lem bs ps f at ∙ rw e)

yes_exactly : (o : Option Reason) → Option.map is_shown o ≡ some true ↔ o ≡ some shown
unfolding is_shown
yes_exactly none = (λ e. absurd (false≢true (cc)), λ e. absurd (false≢true (cc)))
yes_exactly (some r) = (λ e. ap some (shown_only r (cc)), λ e. let s : r ≡ shown = cc in rw s)

module _ (n : FigureCounts) (table : List ℤ) (m : MovementCounts) (moves : List ℤ) (face at : ℕ) where
  pub table-shown : shown_in n table m moves face at ≡ some true ↔ why_in n table m moves face at ≡ some shown
  table-shown = let w = yes_exactly (why_in n table m moves face at) in let s = shown_in_lem n table m moves face at in (λ e. w.0 (sym s ∙ e), λ e. s ∙ w.1 e)

-- Shown is 21 exactly where the reason is
pub refused_by : {s : Option Bool} {o : Option Reason} → s ≡ Option.map is_shown o → s ≡ none ↔ o ≡ none
refused_by {s} {o} e = let w = map-eq-none_iff is_shown o in (λ h. w.0 (sym e ∙ h), λ h. e ∙ w.1 h)
