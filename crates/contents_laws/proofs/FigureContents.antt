-- What the table of a taken figure holds without name places is what its lists say; so texts whose figures differ in name places alone leave the same contents, and the same numbers beyond them.
use mathlib.Core.Path.{◌≡◌, refl, ap, ap₂, sym, ◌∙◌}
use mathlib.Core.List.{List, [], ◌∷◌, ◌++◌, map, map-append}
use mathlib.Core.Option.{Option}
use Prim.Native.Nat.{ℕ, zero, suc, ◌+◌, ◌*◌, ◌<◌}
use native.Mathlib.Omega.{arith}
use lib.IntN.{ℤ, pos}
use lib.ListN.{length, get_or, drop}
use lib.Seq.{take_at, drop_at}
use Rattle.refusal.specs.Outcomes.{accepted}
use Rattle.text_check.specs.Faults.{bac}
use Rattle.parse_spec.specs.Readers.{absent}
use Rattle.parse_spec.specs.Places.{name_numbers}
use Rattle.parse_spec.specs.Internal.Names.{NameStands}
use Rattle.parse_text.proofs.Outcomes.{accepted-clear}
use Rattle.bac6_text.specs.Figure.{Bone, Group, Figure}
use Rattle.bac6_text.specs.Grammar.{figure}
use Rattle.bac6_text.specs.Rules.{flags_of, whole_list, parents_in, figure_counts, figure_fault}
use Rattle.bac6_text.specs.Layout.{group_names, layout_of}
use Rattle.bac6_text.specs.Internal.Names.{NamedFigure}
use Rattle.bac6_text.specs.Answer.{figure_outcome, figure_answer, table_after}
use Rattle.bac6_text.proofs.Names.{figure-names}
use Rattle.bac6_text.proofs.Whole.{WholeFigure}
use Rattle.bac6_alike.specs.Renamed.{renamed_bone, renamed_group, renamed}
use Rattle.bac6_alike.specs.Internal.Placeless.{placeless_bone, placeless_group, placeless}
use Rattle.table_columns.specs.Parts.{number_at}
use Rattle.table_figure.specs.Sections.{bones_begin, groups_begin, figure_end}
use Rattle.table_contents.specs.Contents.{Contents, steps_from, figure_places, unplaced, name_in, contents_of, figure_contents}
use Rattle.movement_bridge.proofs.Laid.{number-laid}
use Rattle.figure_bridge.proofs.Sound.{parents-sound}
use Rattle.figure_bridge.proofs.Parts.{counts, figure_long, names_wide, names_count, groups_stand}
use Rattle.figure_bridge.proofs.Names.{name-place, name-size}
use Rattle.figure_bridge.proofs.Texts.{figure-taken, whole-figure, figure-table}
use Rattle.contents_laws.proofs.Through.{through}
use Rattle.contents_laws.proofs.NameNumbers.{named, named-placeless, named_there, list_there}
use Rattle.contents_laws.proofs.FigureLists.{counts-placeless, long_placeless}
use Rattle.contents_laws.proofs.FigureNumbers.{numbers-same}

-- ---- a figure's names: its own, the bones', the groups'

unfoldable names_of : Figure → List (Option (List ℕ))
names_of f = named f.name ∷ (map (λ (b : Bone). named b.name) f.bones ++ map (λ (g : Group). named g.name) f.groups)

bones-named : (bs : List Bone) → map (λ (b : Bone). named b.name) (map placeless_bone bs) ≡ map (λ (b : Bone). named b.name) bs
unfolding renamed_bone
bones-named [] = refl
bones-named (b ∷ bs) = ap₂ ◌∷◌ (named-placeless b.name) (bones-named bs)

groups-named : (gs : List Group) → map (λ (g : Group). named g.name) (map placeless_group gs) ≡ map (λ (g : Group). named g.name) gs
unfolding renamed_group
groups-named [] = refl
groups-named (g ∷ gs) = ap₂ ◌∷◌ (named-placeless g.name) (groups-named gs)

names_same : (f : Figure) → names_of (placeless f) ≡ names_of f
unfolding names_of renamed
names_same f = rw (named-placeless f.name, bones-named f.bones, groups-named f.groups)

-- ---- contents by the lists

unfoldable content_of : Figure → Contents
content_of f = record { numbers = unplaced (figure_places (figure_counts f)) 0 (layout_of f); names = names_of f }

content-placeless : (f : Figure) → WholeFigure f → length (parents_in (whole_list (flags_of f.bones))) ≡ length f.bones → content_of (placeless f) ≡ content_of f
unfolding content_of
content-placeless f w parents = rw (counts-placeless f, numbers-same f w parents, names_same f)

-- ---- where the names of groups stand

names-placed : (gs : List Group) (k : ℕ) → k < length gs → (get_or (get_or (group_names gs) k []) 0 (pos 0) ≡ pos (get_or (map (λ (g : Group). g.name) gs) k absent).at) × (get_or (get_or (group_names gs) k []) 1 (pos 0) ≡ pos (length (get_or (map (λ (g : Group). g.name) gs) k absent).bytes))
unfolding group_names name_numbers
names-placed [] k h = absurd (omega arith)
names-placed (g ∷ gs) zero h = (refl, refl)
names-placed (g ∷ gs) (suc k) h = names-placed gs k (omega arith)

-- ---- a text that is taken

module _ (text : List ℕ) (table : List ℤ) (f : Figure) (e : figure_answer text (length table) ≡ accepted f) where
  abbrev rest : List ℤ
  rest = drop (length (layout_of f)) table

  abbrev read : List ℤ
  read = layout_of f ++ rest

  sound : length (parents_in (whole_list (flags_of f.bones))) ≡ length f.bones
  sound = parents-sound f (figure-taken text table f e).shape.clean

  stand : NamedFigure (NameStands text) f
  unfolding figure_answer figure_outcome
  stand =
      let t = figure-taken text table f e in
      figure-names text f t.shape.left (accepted-clear bac figure figure_fault layout_of text (length table) f e) t.shape.gives

  own_read : name_in text read 0 ≡ named f.name
  unfolding layout_of name_numbers number_at
  own_read = named_there text read 0 f.name stand.own refl refl

  abbrev bone_places : List ℕ
  bone_places = steps_from (bones_begin (counts f) + 12) 14 (length f.bones)

  abbrev group_places : List ℕ
  group_places = steps_from (groups_begin (counts f)) 2 (length f.groups)

  bones-read : map (name_in text read) bone_places ≡ map (λ (b : Bone). named b.name) f.bones
  bones-read =
      let c = (figure-taken text table f e).shape.clean in
      let w = whole-figure text table f e in
      list_there (λ (b : Bone). b.name) text read (bones_begin (counts f) + 12) 14 f.bones stand.bones
      (λ k h. let o : bones_begin (counts f) + 12 + k * 14 ≡ bones_begin (counts f) + k * 14 + 12 = omega arith in ap (number_at read) o ∙ name-place f w c rest k h)
      (λ k h. let o : suc (bones_begin (counts f) + 12 + k * 14) ≡ bones_begin (counts f) + k * 14 + 13 = omega arith in ap (number_at read) o ∙ name-size f w c rest k h)

  group-number : (k j : ℕ) → k < length f.groups → j < 2 → number_at read (groups_begin (counts f) + k * 2 + j) ≡ get_or (get_or (group_names f.groups) k []) j (pos 0)
  group-number k j h l =
      let n = names_count f.groups in
      number-laid 2 (group_names f.groups) (names_wide f.groups) (groups_stand f (whole-figure text table f e) sound rest) k j (omega arith) l

  groups-read : map (name_in text read) group_places ≡ map (λ (g : Group). named g.name) f.groups
  groups-read =
      list_there (λ (g : Group). g.name) text read (groups_begin (counts f)) 2 f.groups stand.groups
      (λ k h. let o : groups_begin (counts f) + k * 2 ≡ groups_begin (counts f) + k * 2 + 0 = omega arith in ap (number_at read) o ∙ group-number k 0 h (omega arith) ∙ (names-placed f.groups k h).0)
      (λ k h. let o : suc (groups_begin (counts f) + k * 2) ≡ groups_begin (counts f) + k * 2 + 1 = omega arith in ap (number_at read) o ∙ group-number k 1 h (omega arith) ∙ (names-placed f.groups k h).1)

  names-read : map (name_in text read) (figure_places (counts f)) ≡ names_of f
  unfolding figure_places names_of
  names-read = ap₂ ◌∷◌ own_read (map-append (name_in text read) bone_places group_places ∙ ap₂ ◌++◌ bones-read groups-read)

  contents_are : figure_contents text (figure_counts f) (table_after text table) ≡ content_of f
  unfolding figure_contents contents_of content_of figure_counts
  contents_are = rw (figure-table text table f e, take_at (layout_of f) rest (figure_end (counts f)) (sym (figure_long f (whole-figure text table f e) sound)), names-read)

  beyond : drop (figure_end (figure_counts f)) (table_after text table) ≡ drop (length (layout_of f)) table
  unfolding figure_counts
  beyond = rw (figure-table text table f e) (drop_at (layout_of f) rest (figure_end (counts f)) (sym (figure_long f (whole-figure text table f e) sound)))

-- ---- two texts

module _ (text text' : List ℕ) (table : List ℤ) (f g : Figure) (e : figure_answer text (length table) ≡ accepted f) (e' : figure_answer text' (length table) ≡ accepted g) (same : placeless g ≡ placeless f) where
  pub figure-contents : figure_contents text' (figure_counts g) (table_after text' table) ≡ figure_contents text (figure_counts f) (table_after text table)
  figure-contents =
      contents_are text' table g e'
      ∙ sym (content-placeless g (whole-figure text' table g e') (sound text' table g e'))
      ∙ ap content_of same
      ∙ content-placeless f (whole-figure text table f e) (sound text table f e)
      ∙ sym (contents_are text table f e)

  pub figure-beyond : drop (figure_end (figure_counts g)) (table_after text' table) ≡ drop (figure_end (figure_counts f)) (table_after text table)
  figure-beyond =
      let long : length (layout_of g) ≡ length (layout_of f) = through placeless (λ (x : Figure). length (layout_of x)) long_placeless f g same in
      beyond text' table g e' ∙ ap (λ (n : ℕ). drop n table) long ∙ sym (beyond text table f e)
