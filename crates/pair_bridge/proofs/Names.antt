-- The names of the bones in the tables of taken texts are those that the texts write, row by row: each pair says where its name stands in the text.
use mathlib.Core.Path.{◌≡◌, refl, ap, ap₂, sym, ◌∙◌}
use mathlib.Core.List.{List, [], ◌∷◌, ◌++◌, map}
use mathlib.Core.Bool.{true}
use mathlib.Core.Option.{Option, some}
use Prim.Native.Nat.{ℕ, zero, suc, ◌+◌, ◌*◌, ◌<◌}
use native.Mathlib.Omega.{arith}
use borrow.Author.Tests.{le-leb}
use lib.IntN.{ℤ, pos}
use lib.ListN.{length, get_or, length-map}
use Rattle.text_check.specs.Internal.Strings.{StringAt}
use Rattle.refusal.specs.Faults.{clear}
use Rattle.parse_spec.specs.Readers.{Name, absent}
use Rattle.parse_spec.specs.Fields.{is_some}
use Rattle.bac6_text.specs.Figure as bac6
use Rattle.bac6_text.specs.Rules.{figure_fault}
use Rattle.bac6_text.specs.Layout as figures
use Rattle.bac6_text.proofs.Whole.{WholeFigure}
use Rattle.tra4_text.specs.Movement as tra4
use Rattle.tra4_text.specs.Layout as movements
use Rattle.tra4_text.proofs.Whole.{WholeMovement}
use Rattle.pair_text.specs.Rules.{figure_names, movement_names}
use Rattle.table_figure.specs.Sections.{bones_begin}
use Rattle.table_columns.specs.Parts.{number_at}
use Rattle.player_spec.specs.Lookups.{only_if}
use Rattle.player_names.specs.Names.{is_name, name_span, part_at, figure_span, figure_name, movement_span, movement_name}
use Rattle.player_label.specs.Labels.{or_empty}
use Rattle.movement_bridge.proofs.Names as movement
use Rattle.figure_bridge.proofs.Parts.{counts}
use Rattle.figure_bridge.proofs.Corners.{figure_holds}
use Rattle.figure_bridge.proofs.Names as figure
use Rattle.player_label.specs.BoneNames.{names_from, all_named, names_in}

-- a pair that says where a name stands is that name
pub name-read : (text : List ℕ) (p l : ℤ) (n : Name) → StringAt text n.at n.bytes → p ≡ pos n.at → l ≡ pos (length n.bytes) → part_at text (name_span (length text) p l) ≡ some n.bytes
unfolding part_at name_span is_name only_if
name-read text p l n s a b = rw (a, b, le-leb _ _ s.most, le-leb _ _ s.within) (ap some s.is)

-- ---- so many names

module _ (name : ℕ → Option (List ℕ)) where
  pub names-length : (row k : ℕ) → length (names_from name row k) ≡ k
  unfolding names_from
  names-length row zero = refl
  names-length row (suc k) = ap suc (names-length (suc row) k)

  abbrev Read : ℕ → List (List ℕ) → Type 0
  Read row l = (i : ℕ) → i < length l → name (row + i) ≡ some (get_or l i [])

  first_read : (row : ℕ) (a : List ℕ) (l : List (List ℕ)) → Read row (a ∷ l) → name row ≡ some a
  first_read row a l h = let z : row + 0 ≡ row = omega arith in rw z at (h 0 (omega arith))

  rest_read : (row : ℕ) (a : List ℕ) (l : List (List ℕ)) → Read row (a ∷ l) → Read (suc row) l
  rest_read row a l h i k = let z : row + suc i ≡ suc row + i = omega arith in rw z at (h (suc i) (omega arith))

  pub names-read : (row : ℕ) (l : List (List ℕ)) → Read row l → names_from name row (length l) ≡ l
  unfolding names_from or_empty
  names-read row [] h = refl
  names-read row (a ∷ l) h = ap₂ ◌∷◌ (rw (first_read row a l h)) (names-read (suc row) l (rest_read row a l h))

  pub all_read : (row : ℕ) (l : List (List ℕ)) → Read row l → all_named name row (length l) ≡ true
  unfolding all_named is_some
  all_read row [] h = refl
  all_read row (a ∷ l) h = rw (first_read row a l h) (all_read (suc row) l (rest_read row a l h))

-- a list of names, row by row
bytes-at : (ns : List Name) (i : ℕ) → get_or (map (λ (n : Name). n.bytes) ns) i [] ≡ (get_or ns i absent).bytes
unfolding absent
bytes-at [] i = refl
bytes-at (n ∷ ns) zero = refl
bytes-at (n ∷ ns) (suc i) = bytes-at ns i

-- ---- a figure

figure-bytes : (bs : List bac6.Bone) → map (λ (b : bac6.Bone). b.name.bytes) bs ≡ map (λ (n : Name). n.bytes) (map (λ (b : bac6.Bone). b.name) bs)
figure-bytes [] = refl
figure-bytes (b ∷ bs) = ap (◌∷◌ b.name.bytes) (figure-bytes bs)

module _ (text : List ℕ) (f : bac6.Figure) (w : WholeFigure f) (c : figure_fault f ≡ clear) (rest : List ℤ) (stands : (i : ℕ) → i < length f.bones → StringAt text (figure.bone_name f.bones i).at (figure.bone_name f.bones i).bytes) where
  abbrev table : List ℤ
  table = figures.layout_of f ++ rest

  pub figure-named : (i : ℕ) → i < length f.bones → figure_name text (counts f) table i ≡ some (get_or (figure_names f) i [])
  unfolding figure_name figure_span figure_names
  figure-named i h =
      let next : bones_begin (counts f) + i * 14 + 13 ≡ bones_begin (counts f) + i * 14 + 12 + 1 = omega arith in
      name-read text _ _ (figure.bone_name f.bones i) (stands i h) (figure.name-place f w c rest i h) (ap (number_at table) (sym next) ∙ figure.name-size f w c rest i h)
      ∙ ap some (sym (ap (λ (l : List (List ℕ)). get_or l i []) (figure-bytes f.bones) ∙ bytes-at (map (λ (b : bac6.Bone). b.name) f.bones) i))

  names_count : length (figure_names f) ≡ length f.bones
  unfolding figure_names
  names_count = length-map f.bones _

  each_named : (i : ℕ) → i < length (figure_names f) → figure_name text (counts f) table (0 + i) ≡ some (get_or (figure_names f) i [])
  each_named i h = let z : 0 + i ≡ i = omega arith in rw z (figure-named i (rw names_count at h))

  all_are_named : all_named (figure_name text (counts f) table) 0 (length f.bones) ≡ true
  all_are_named = ap (λ (k : ℕ). all_named (figure_name text (counts f) table) 0 k) (sym names_count) ∙ all_read (figure_name text (counts f) table) 0 (figure_names f) each_named

  pub figure_names-from : names_from (figure_name text (counts f) table) 0 (length f.bones) ≡ figure_names f
  figure_names-from = ap (λ (k : ℕ). names_from (figure_name text (counts f) table) 0 k) (sym names_count) ∙ names-read (figure_name text (counts f) table) 0 (figure_names f) each_named

  pub figure_names_in : names_in text (counts f) table ≡ some (figure_names f)
  unfolding names_in only_if
  figure_names_in = rw (figure_holds f w c rest, all_are_named) (ap some figure_names-from)

-- ---- a movement

movement-bytes : (bs : List tra4.Bone) → map (λ (b : tra4.Bone). b.name.bytes) bs ≡ map (λ (n : Name). n.bytes) (map (λ (b : tra4.Bone). b.name) bs)
movement-bytes [] = refl
movement-bytes (b ∷ bs) = ap (◌∷◌ b.name.bytes) (movement-bytes bs)

module _ (text : List ℕ) (m : tra4.Movement) (w : WholeMovement m) (t rest : List ℤ) (e : t ≡ movements.layout_of m ++ rest) (stands : (i : ℕ) → i < length m.bones → StringAt text (movement.bone_name m.bones i).at (movement.bone_name m.bones i).bytes) where
  pub movement-named : (i : ℕ) → i < length m.bones → movement_name text t i ≡ some (get_or (movement_names m) i [])
  unfolding movement_name movement_span movement_names
  movement-named i h =
      let here : 3 + i * 22 + 0 ≡ 3 + i * 22 = omega arith in
      name-read text _ _ (movement.bone_name m.bones i) (stands i h) (ap (number_at t) here ∙ movement.name-place m w t rest e i h) (ap (λ (j : ℕ). number_at t (j + 1)) here ∙ movement.name-size m w t rest e i h)
      ∙ ap some (sym (ap (λ (l : List (List ℕ)). get_or l i []) (movement-bytes m.bones) ∙ bytes-at (map (λ (b : tra4.Bone). b.name) m.bones) i))

  moved_count : length (movement_names m) ≡ length m.bones
  unfolding movement_names
  moved_count = length-map m.bones _

  pub movement_names_in : names_from (movement_name text t) 0 (length m.bones) ≡ movement_names m
  movement_names_in = rw (← moved_count) (names-read (movement_name text t) 0 (movement_names m) (λ i h. let z : 0 + i ≡ i = omega arith in rw z (movement-named i (rw moved_count at h))))
