-- What each test of `why` says of its definition: a failed one refuses, and past them all it is the corners' answer, and then the group's.
use mathlib.Core.Path.{◌≡◌, refl, ap, sym, ◌∙◌}
use mathlib.Core.List.{List}
use mathlib.Core.Bool.{Bool, true, false, ◌&&◌, ◌||◌}
use mathlib.Core.Option.{Option, none, some}
use Prim.Native.Nat.{ℕ, ◌≤◌, ◌<◌}
use borrow.Author.Tests.{lt-ltb, le-ltb}
use lib.IntN.{ℤ, pos, nat_abs}
use lib.ListN.{get_or, take, drop}
use Rattle.table_references.specs.References.{is_none}
use Rattle.tra4_text.specs.Movement.{Pattern}
use Rattle.tra4_text.specs.Rules.{patterns_fault}
use Rattle.table_references.specs.Index.{is_index}
use Rattle.table_counts.specs.declared.counts.MovementCounts.{MovementCounts}
use Rattle.table_counts.specs.declared.counts.FigureCounts.{FigureCounts}
use Rattle.player_spec.specs.Deciding.{Line, deciding}
use Rattle.player_spec.specs.Reasons.{Reason, shown, line_reason, group_reason, first_unowned, corner_first, reason_of}
use Rattle.refusal.specs.Faults.{is_clear}
use Rattle.table_movement.specs.Sections.{holds_movement}
use Rattle.table_figure.specs.Sections.{holds_figure}
use Rattle.table_columns.specs.Parts.{number_at}
use Rattle.player_spec.specs.Lookups.{only_if, is_asked, size_fine, corners_fine, lines_fine, face_at, owners_fine, corner_owners, group_named, pattern_rows, patterns_fine, can_show, why_in}
use Rattle.player_patterns.specs.Internal.Answers.{row_and_flag, decided_in}
use Rattle.player_spec.specs.Answers.{numbered}
use Rattle.player_spec.proofs.OnlyIf.{only_some}
use Rattle.std.specs.Prelude.{Option as Answer, Some, None}
use Rattle.player_why.specs.declared.reason.Reason.{Reason as Named}
use Rattle.player_why.specs.Internal.Rows.{reason_told, row_owned, row_why, line_named}
use Rattle.player_why.specs.Answers.{explained}

pub explained-is : (r : Answer Named) → explained r ≡ numbered (reason_told r)
unfolding numbered
explained-is None = refl
explained-is (Some r) = refl

-- ---- by the line that decides

line_by : (best : Option Line) → line_named (row_and_flag best) ≡ line_reason best
unfolding row_and_flag line_reason
line_by none = refl
line_by (some l) = refl

-- ---- a test that failed

refused_by : {A : Type 0} (v : Bool) (x : A) → none ≡ only_if v x → v ≡ false
unfolding only_if
refused_by true x e = cc
refused_by false x e = refl

never : {A : Type 0} (v : Bool) (x : A) → none ≡ only_if (v && false) x
unfolding only_if
never true x = refl
never false x = refl

unsettled : {A : Type 0} (s p : Bool) (r : A) → none ≡ only_if (s && false && p) r
unfolding only_if
unsettled true p r = refl
unsettled false p r = refl

-- ---- by a face's row

module _ (n : FigureCounts) (table row : List ℤ) (ps : List Pattern) (total : ℤ) (at : ℕ) where
  abbrev answer : Option Reason
  answer = row_why n table row ps total at

  abbrev group : ℤ
  group = get_or row 10 (pos 0)

  abbrev size : ℤ
  size = get_or row 1 (pos 0)

  abbrev vertices : List ℤ
  vertices = take 4 (drop 2 row)

  -- the corners are sound
  abbrev cornered : Bool
  cornered = size_fine size && corners_fine n.points (nat_abs size) vertices && owners_fine n table (nat_abs size) vertices

  pub no_group : is_index n.groups group ≡ false → none ≡ answer
  unfolding row_why
  no_group h = rw h (unsettled cornered (is_none group || (is_clear (patterns_fault total ps) && lines_fine n.groups ps)) (reason_of (corner_owners n table row) (group_named group) ps at))

  pub not_owned : none ≡ row_owned n table row → none ≡ answer
  unfolding row_why row_owned
  not_owned e = rw (refused_by cornered (first_unowned 0 (corner_owners n table row)) e) (unfold only_if in refl)

  -- the lines are looked at where the face is in a group
  pub no_line : is_none group ≡ false → none ≡ decided_in total n.groups (nat_abs group) at ps → none ≡ answer
  unfolding row_why decided_in
  no_line h e =
      rw (h, refused_by (is_clear (patterns_fault total ps) && lines_fine n.groups ps) (row_and_flag (deciding (nat_abs group) at ps)) e)
      (never (cornered && is_index n.groups group) (reason_of (corner_owners n table row) (group_named group) ps at))

  module _ (known : is_index n.groups group ≡ true) (corner : Option ℕ) (owned : some corner ≡ row_owned n table row) where
    told : (cornered ≡ true) × (first_unowned 0 (corner_owners n table row) ≡ corner)
    unfolding row_owned
    told = (only_some cornered (first_unowned 0 (corner_owners n table row)) corner).0 (sym owned)

    pub of_polygons : is_none group ≡ true → some (corner_first corner shown) ≡ answer
    unfolding row_why reason_of group_named group_reason only_if
    of_polygons h = let o = told in rw (o.0, known, h, group_named, o.1)

    pub in_group_lem : is_none group ≡ false → (line : Option (ℕ × Bool)) → some line ≡ decided_in total n.groups (nat_abs group) at ps → some (corner_first corner (line_named line)) ≡ answer
    unfolding row_why decided_in reason_of group_named group_reason only_if
    in_group_lem h line e =
        let o = told in
        let best = deciding (nat_abs group) at ps in
        let q = (only_some (is_clear (patterns_fault total ps) && lines_fine n.groups ps) (row_and_flag best) line).0 (sym e) in
        rw (o.0, known, h, q.0, group_named, o.1) (ap (λ (r : Reason). some (corner_first corner r)) (ap line_named (sym q.1) ∙ line_by best))

-- ---- by the tables

module _ (n : FigureCounts) (table : List ℤ) (m : MovementCounts) (moves : List ℤ) (face at : ℕ) where
  pub no_figure_lem : holds_figure n table ≡ false → none ≡ why_in n table m moves face at
  unfolding why_in can_show only_if
  no_figure_lem h = rw h

  module _ (figure : holds_figure n table ≡ true) where
    pub no_movement_lem : holds_movement m moves ≡ false → none ≡ why_in n table m moves face at
    unfolding why_in can_show only_if
    no_movement_lem h = rw (figure, h)

    module _ (movement : holds_movement m moves ≡ true) where
      pub no_face_lem : n.faces ≤ face → none ≡ why_in n table m moves face at
      unfolding why_in can_show only_if
      no_face_lem h = rw (figure, movement, le-ltb _ _ h)

      module _ (here : face < n.faces) where
        pub not_asked : is_asked (number_at moves 0) at ≡ false → none ≡ why_in n table m moves face at
        unfolding why_in can_show only_if
        not_asked h = rw (figure, movement, lt-ltb _ _ here, h)

        pub by_row : is_asked (number_at moves 0) at ≡ true → row_why n table (face_at n table face) (pattern_rows n table m moves) (number_at moves 0) at ≡ why_in n table m moves face at
        unfolding why_in can_show row_why patterns_fine
        by_row h = rw (figure, movement, lt-ltb _ _ here, h)
