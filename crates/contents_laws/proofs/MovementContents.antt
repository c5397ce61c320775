-- What the table of a taken movement holds without name places is what its lists say; so texts whose movements differ in name places alone leave the same contents, and the same numbers beyond them.
use mathlib.Core.Path.{◌≡◌, refl, ap, ap₂, sym, ◌∙◌}
use mathlib.Core.List.{List, [], ◌∷◌, ◌++◌, map}
use mathlib.Core.Option.{Option}
use Prim.Native.Nat.{ℕ, suc, ◌+◌, ◌*◌}
use native.Mathlib.Omega.{arith}
use lib.IntN.{ℤ}
use lib.ListN.{length, drop}
use lib.Seq.{take_at, drop_at}
use Rattle.refusal.specs.Outcomes.{accepted}
use Rattle.text_check.specs.Faults.{tra}
use Rattle.parse_spec.specs.Places.{name_numbers}
use Rattle.parse_spec.specs.Internal.Names.{NameStands}
use Rattle.parse_text.proofs.Outcomes.{accepted-clear}
use Rattle.tra4_text.specs.Movement.{Bone, Movement}
use Rattle.tra4_text.specs.Grammar.{movement}
use Rattle.tra4_text.specs.Rules.{movement_counts, movement_fault}
use Rattle.tra4_text.specs.Layout.{layout_of}
use Rattle.tra4_text.specs.Internal.Names.{NamedMovement}
use Rattle.tra4_text.specs.Answer.{movement_outcome, movement_answer, movement_table}
use Rattle.tra4_text.proofs.Names.{movement-names}
use Rattle.tra4_text.proofs.Layouts.{layout_length}
use Rattle.tra4_text.proofs.Whole.{WholeMovement}
use Rattle.tra4_alike.specs.Renamed.{renamed_bone, renamed}
use Rattle.tra4_alike.specs.Internal.Placeless.{placeless_bone, placeless}
use Rattle.table_columns.specs.Parts.{number_at}
use Rattle.table_movement.specs.Sections.{keys_begin, patterns_begin, movement_end}
use Rattle.table_contents.specs.Contents.{Contents, steps_from, movement_places, unplaced, name_in, contents_of, movement_contents}
use Rattle.movement_bridge.proofs.Taken.{taken}
use Rattle.movement_bridge.proofs.Tables.{whole-read, table-read}
use Rattle.movement_bridge.proofs.Names.{name-place, name-size}
use Rattle.contents_laws.proofs.Through.{through}
use Rattle.contents_laws.proofs.NameNumbers.{named, named-placeless, named_there, list_there}
use Rattle.contents_laws.proofs.MovementLists.{counts-placeless, long_placeless}
use Rattle.contents_laws.proofs.MovementNumbers.{numbers-same}

-- ---- a movement's names: its own, the bones'

unfoldable names_of : Movement → List (Option (List ℕ))
names_of m = named m.name ∷ map (λ (b : Bone). named b.name) m.bones

bones-named : (bs : List Bone) → map (λ (b : Bone). named b.name) (map placeless_bone bs) ≡ map (λ (b : Bone). named b.name) bs
unfolding renamed_bone
bones-named [] = refl
bones-named (b ∷ bs) = ap₂ ◌∷◌ (named-placeless b.name) (bones-named bs)

names_same : (m : Movement) → names_of (placeless m) ≡ names_of m
unfolding names_of renamed
names_same m = rw (named-placeless m.name, bones-named m.bones)

-- ---- contents by the lists

unfoldable content_of : Movement → Contents
content_of m = record { numbers = unplaced (movement_places (movement_counts m)) 0 (layout_of m); names = names_of m }

content-placeless : (m : Movement) → WholeMovement m → content_of (placeless m) ≡ content_of m
unfolding content_of
content-placeless m w = rw (counts-placeless m, numbers-same m w, names_same m)

movement_long : (m : Movement) → WholeMovement m → length (layout_of m) ≡ movement_end (movement_counts m)
unfolding movement_end patterns_begin keys_begin movement_counts
movement_long m w = layout_length m w

-- ---- a text that is taken

module _ (text : List ℕ) (table : List ℤ) (m : Movement) (e : movement_answer text (length table) ≡ accepted m) where
  abbrev rest : List ℤ
  rest = drop (length (layout_of m)) table

  abbrev read : List ℤ
  read = layout_of m ++ rest

  stand : NamedMovement (NameStands text) m
  unfolding movement_answer movement_outcome
  stand =
      let t = taken tra movement movement_fault layout_of text (length table) m e in
      movement-names text m t.shape.left (accepted-clear tra movement movement_fault layout_of text (length table) m e) t.shape.gives

  own_read : name_in text read 1 ≡ named m.name
  unfolding layout_of name_numbers number_at
  own_read = named_there text read 1 m.name stand.own refl refl

  bones-read : map (name_in text read) (steps_from 3 22 (length m.bones)) ≡ map (λ (b : Bone). named b.name) m.bones
  bones-read =
      let w = whole-read text table m e in
      list_there (λ (b : Bone). b.name) text read 3 22 m.bones stand.bones
      (λ k h. name-place m w read rest refl k h)
      (λ k h. let o : suc (3 + k * 22) ≡ 3 + k * 22 + 1 = omega arith in ap (number_at read) o ∙ name-size m w read rest refl k h)

  names-read : map (name_in text read) (movement_places (movement_counts m)) ≡ names_of m
  unfolding movement_places movement_counts names_of
  names-read = ap₂ ◌∷◌ own_read bones-read

  contents_are : movement_contents text (movement_counts m) (movement_table text table) ≡ content_of m
  unfolding movement_contents contents_of content_of
  contents_are = rw (table-read text table m e, take_at (layout_of m) rest (movement_end (movement_counts m)) (movement_long m (whole-read text table m e)), names-read)

  beyond : drop (movement_end (movement_counts m)) (movement_table text table) ≡ drop (length (layout_of m)) table
  beyond = rw (table-read text table m e) (drop_at (layout_of m) rest (movement_end (movement_counts m)) (movement_long m (whole-read text table m e)))

-- ---- two texts

module _ (text text' : List ℕ) (table : List ℤ) (m n : Movement) (e : movement_answer text (length table) ≡ accepted m) (e' : movement_answer text' (length table) ≡ accepted n) (same : placeless n ≡ placeless m) where
  pub movement-contents : movement_contents text' (movement_counts n) (movement_table text' table) ≡ movement_contents text (movement_counts m) (movement_table text table)
  movement-contents =
      contents_are text' table n e'
      ∙ sym (content-placeless n (whole-read text' table n e'))
      ∙ ap content_of same
      ∙ content-placeless m (whole-read text table m e)
      ∙ sym (contents_are text table m e)

  pub movement-beyond : drop (movement_end (movement_counts n)) (movement_table text' table) ≡ drop (movement_end (movement_counts m)) (movement_table text table)
  movement-beyond =
      let long : length (layout_of n) ≡ length (layout_of m) = through placeless (λ (x : Movement). length (layout_of x)) long_placeless m n same in
      beyond text' table n e' ∙ ap (λ (k : ℕ). drop k table) long ∙ sym (beyond text table m e)
