-- Why a face is shown or hidden at a frame (document 02, (iii)): a corner without a bone, or what the group's pattern lines say. Corners are tried first.
use Rattle.std.specs.Prelude.{◌≡◌, List, [], ◌∷◌, map, ◌⊎◌, Bool, true, false, ℕ, suc, ◌<◌, ℤ, pos, length, get_or}
use Rattle.std.proofs.Math.Option.{Option, none, some}
use Rattle.bac6_text.specs.Figure.{Bone, Face}
use Rattle.bac6_text.specs.Rules.{owner_of}
use Rattle.table_references.specs.References.{is_none}
use Rattle.tra4_text.specs.Movement.{Pattern}
use Rattle.player_spec.specs.Deciding.{flag_of, Line, deciding, Decides}

-- shown; hidden by a corner, with its number; hidden since the group has no line by the frame; hidden by the pattern line in a row
pub data Reason : Type 0 where
  shown : Reason
  by_corner : ℕ → Reason
  unset : Reason
  by_line : ℕ → Reason

-- the first corner without a bone, by the corners' owners from a corner on
unfoldable pub first_unowned : ℕ → List ℤ → Option ℕ
first_unowned k [] = none
first_unowned k (o ∷ os) = elim (is_none o) [ true ↦ some k | false ↦ first_unowned (suc k) os ]

-- by the line that decides of the group, if there is one
unfoldable pub line_reason : Option Line → Reason
line_reason none = unset
line_reason (some l) = elim (flag_of l.1) [ true ↦ shown | false ↦ by_line l.0 ]

-- a face of `Polygons` is in no group
unfoldable pub group_reason : Option ℕ → ℕ → List Pattern → Reason
group_reason none at ps = shown
group_reason (some g) at ps = line_reason (deciding g at ps)

-- a corner without a bone comes before what the group says
unfoldable pub corner_first : Option ℕ → Reason → Reason
corner_first none r = r
corner_first (some k) r = by_corner k

-- by the owners of the face's corners, its group and the pattern lines
unfoldable pub reason_of : List ℤ → Option ℕ → List Pattern → ℕ → Reason
reason_of owners g ps at = corner_first (first_unowned 0 owners) (group_reason g at ps)

-- from the two texts' lists
unfoldable pub why_of : List Bone → List Pattern → Face × Option ℕ → ℕ → Reason
why_of bs ps f at = reason_of (map (owner_of bs) f.0.vertices) f.1 ps at

-- ---- what each reason says

-- every corner has a bone
abbrev pub Owned : List ℤ → Type 0
Owned owners = (j : ℕ) → j < length owners → is_none (get_or owners j (pos 0)) ≡ false

-- a corner has none, and every corner before it has one
pub record FirstUnowned (owners : List ℤ) (k : ℕ) : Type 0 where
  pub exists : k < length owners
  pub unowned : is_none (get_or owners k (pos 0)) ≡ true
  pub before : (j : ℕ) → j < k → is_none (get_or owners j (pos 0)) ≡ false

-- a face in a group of which no line applies by the frame
pub record NoLine (g : Option ℕ) (ps : List Pattern) (at : ℕ) : Type 0 where
  pub group : ℕ
  pub is : g ≡ some group
  pub decides : Decides group at ps (length ps) none

-- a face in a group of which the line in a row decides, and what its flag says
pub record LineDecides (g : Option ℕ) (ps : List Pattern) (at row : ℕ) (flag : Bool) : Type 0 where
  pub group : ℕ
  pub is : g ≡ some group
  pub line : Pattern
  pub decides : Decides group at ps (length ps) (some (row, line))
  pub flagged : flag_of line ≡ flag

abbrev pub Because : List ℤ → Option ℕ → List Pattern → ℕ → Reason → Type 0
Because owners g ps at shown = Owned owners × ((g ≡ none) ⊎ ((row : ℕ) × LineDecides g ps at row true))
Because owners g ps at (by_corner k) = FirstUnowned owners k
Because owners g ps at unset = Owned owners × NoLine g ps at
Because owners g ps at (by_line row) = Owned owners × LineDecides g ps at row false
