-- Two lists of the same tokens are one figure but for its names, which correspond, or are refused alike: the grammar once more, one law a reader. So name places are all that notes change, and offsets that are moved move names alone.
use mathlib.Core.Path.{◌≡◌, refl, ap, sym, ◌∙◌}
use mathlib.Core.List.{List, [], ◌∷◌, map}
use Prim.Native.Nat.{ℕ, zero, suc}
use Prim.Native.String.{String}
use lib.IntN.{ℤ}
use Rattle.text_numerals.specs.Numbers.{Form, INT, FLOAT}
use Rattle.text_tokens.specs.Tokens.{lex}
use Rattle.text_notes.specs.Notes.{moved}
use Rattle.parse_spec.specs.Readers.{Name, absent, ◌>>=◌, pure, closed, string, numbers, optional, many, row, truth}
use Rattle.parse_spec.specs.Fields.{kind}
use Rattle.bac6_text.specs.Figure.{Bone, Face, Group, Figure}
use Rattle.bac6_text.specs.Grammar.{BoneField, blend, material, material_kinds, named, flag, several, bone_kinds, bone_of, bone, face_of, face_by, face, group, name_section, texture_section, colour_section, material_section, point_section, normal_section, bone_section, uv_section, polygon_section, figure}
use Rattle.parse_alike.proofs.Tokens.{Equal}
use Rattle.parse_alike.proofs.Readers.{Alike, Same, each_map, pure_alike, alike_as, bind_alike, bind-same, then_alike, open_same, close_same, opened-same, end_same, closed_alike, head-same, number_same, string_alike, numbers-same, row_same, choice_same, word_same, truth-same, many_alike, some_alike, many-same, some_same, optional_alike, trailing_alike, name_alike}
use Rattle.parse_alike.specs.Moving.{moved_name, moved_got}
use Rattle.parse_alike.proofs.Names.{NameBy, Exchanged, without_places, moved-names, reads-moved}
use Rattle.parse_alike.proofs.Fields.{AllAlike, fields_map, fields_alike, fields-same}
use Rattle.bac6_alike.specs.Renamed.{renamed_bone, renamed_group, renamed}
use Rattle.bac6_alike.specs.Internal.Placeless.{placeless}
use Rattle.bac6_alike.proofs.BoneFields.{renamed_field, bone-renamed}

module _ {W : ℕ → ℕ → Type 0} where
  -- ---- what has no name

  material-same : Same W material
  unfolding material material_kinds kind blend
  material-same =
      let kinds : AllAlike W Equal material_kinds = (closed_alike (word_same _), (closed_alike truth-same, (closed_alike truth-same, (closed_alike truth-same, (closed_alike (number_same INT), (closed_alike (number_same INT), (closed_alike (number_same FLOAT), (closed_alike (number_same FLOAT), (closed_alike (number_same FLOAT), tt))))))))) in
      bind-same (then_alike (opened-same "material") (fields-same W material_kinds kinds)) (λ fs. pure_alike _ _ refl)

  corners-same : (m : ℤ) (k : String) (n : ℕ) → Same W (face_of m k n)
  unfolding face_of
  corners-same m k n = bind-same (closed_alike (numbers-same INT n)) (λ vs. bind-same (row_same k INT n) (λ ts. then_alike close_same (pure_alike _ _ refl)))

  by_same : (m : ℤ) (k : ℕ) → Same W (face_by m k)
  unfolding face_by
  by_same m zero = corners-same m "i3" 3
  by_same m (suc k) = corners-same m "i4" 4

  face-same : Same W face
  unfolding face
  face-same = bind-same (then_alike (opened-same "face") (number_same INT)) (λ m. bind-same (then_alike open_same (choice_same _)) (by_same m))

  -- rows of one width, in a chunk that may be left out
  section_same : (k w : String) (f : Form) (n : ℕ) → Same W (optional k [] (many (row w f n)))
  section_same k w f n = optional_alike k [] refl (many-same (row_same w f n))

  -- ---- what has a name, each exchanged by a function of its own

  module _ {left right : Name → Name} (names : Exchanged W left right) where
    abbrev FieldAlike : BoneField → BoneField → Type 0
    FieldAlike f g = renamed_field right g ≡ renamed_field left f

    abbrev BoneAlike : Bone → Bone → Type 0
    BoneAlike b c = renamed_bone right c ≡ renamed_bone left b

    abbrev GroupAlike : Group → Group → Type 0
    GroupAlike g h = renamed_group right h ≡ renamed_group left g

    own_name : Alike W (NameBy left right) (optional "name" absent (closed string)) (optional "name" absent (closed string))
    own_name = name_alike (names.right_absent ∙ sym names.left_absent) names.strings

    bone_alike : Alike W BoneAlike bone bone
    unfolding bone bone_kinds kind renamed_field
    bone_alike =
        let flags : Alike W FieldAlike (closed truth >>= λ z. pure (flag z)) (closed truth >>= λ z. pure (flag z)) = bind-same (closed_alike truth-same) (λ z. pure_alike {R = FieldAlike} (flag z) (flag z) refl) in
        let three : Alike W FieldAlike (closed (numbers FLOAT 3) >>= λ zs. pure (several zs)) (closed (numbers FLOAT 3) >>= λ zs. pure (several zs)) = bind-same (closed_alike (numbers-same FLOAT 3)) (λ zs. pure_alike {R = FieldAlike} (several zs) (several zs) refl) in
        let kinds : AllAlike W FieldAlike bone_kinds = (bind_alike (closed_alike (string_alike names.strings)) (λ m n e. pure_alike {R = FieldAlike} (named m) (named n) (ap named e)), (flags, (flags, (three, (three, (three, (bind-same (many-same (number_same INT)) (λ zs. pure_alike {R = FieldAlike} (several zs) (several zs) refl), tt))))))) in
        bind_alike (then_alike (opened-same "bone") (fields_alike W FieldAlike bone_kinds kinds)) (λ fs gs e. pure_alike {R = BoneAlike} (bone_of fs) (bone_of gs) (sym (bone-renamed right names.right_absent gs) ∙ ap bone_of (fields_map (renamed_field left) (renamed_field right) fs gs e) ∙ bone-renamed left names.left_absent fs))

    group_alike : Alike W GroupAlike group group
    unfolding group renamed_group
    group_alike =
        bind_alike (then_alike (opened-same "group") own_name) (λ m n e. bind-same (many-same face-same) (λ fs. pure_alike {R = GroupAlike} _ _ (ap (λ (x : Name). record { name = x; faces = fs }) e)))

    abbrev PolygonsAlike : List Face × List Group → List Face × List Group → Type 0
    PolygonsAlike x y = (y.0 ≡ x.0) × (map (renamed_group right) y.1 ≡ map (renamed_group left) x.1)

    polygons_alike : Alike W PolygonsAlike polygon_section polygon_section
    unfolding polygon_section
    polygons_alike =
        bind-same (then_alike (opened-same "Polygons") (many-same face-same)) (λ fs.
        bind_alike (trailing_alike "DynamicPolygons" [] tt (many_alike group_alike)) (λ gs hs e.
        pure_alike {R = PolygonsAlike} (fs, gs) (fs, hs) (refl, each_map (renamed_group left) (renamed_group right) gs hs e)))

    pub figure-renamed : Alike W (λ f g. renamed right g ≡ renamed left f) figure figure
    unfolding figure name_section texture_section colour_section material_section point_section normal_section bone_section uv_section renamed
    figure-renamed =
        bind_alike (then_alike (then_alike (head-same "bacVersion" "6.0") (opened-same "Figure")) own_name) (λ m n en.
        bind-same (section_same "Textures" "i2" INT 2) (λ ts.
        bind-same (section_same "Colors" "f3" FLOAT 3) (λ cs.
        bind-same (then_alike (opened-same "Materials") (some_same material-same)) (λ mats.
        bind-same (then_alike (then_alike (opened-same "Vertices") (opened-same "coords")) (some_same (row_same "pnt" FLOAT 3))) (λ ps.
        bind-same (then_alike (opened-same "normals") (closed_alike (many-same (row_same "vct" FLOAT 3)))) (λ vs.
        bind_alike (then_alike (opened-same "Bones") (some_alike bone_alike)) (λ bs ds eb.
        bind-same (section_same "TextureCoords" "f2" FLOAT 2) (λ us.
        bind_alike polygons_alike (λ x y e.
        then_alike close_same (then_alike end_same
        (pure_alike {R = λ f g. renamed right g ≡ renamed left f} _ _ (rw (en, each_map (renamed_bone left) (renamed_bone right) bs ds eb, e.0, e.1)))))))))))))

-- ---- but for name places

abbrev pub FigureAlike : Figure → Figure → Type 0
FigureAlike f g = placeless g ≡ placeless f

pub figure_alike : {W : ℕ → ℕ → Type 0} → Alike W FigureAlike figure figure
figure_alike {W} = figure-renamed (without_places W)

-- ---- however the offsets of a text are moved

bones-kept : (bs : List Bone) → map (renamed_bone (λ n. n)) bs ≡ bs
unfolding renamed_bone
bones-kept [] = refl
bones-kept (b ∷ bs) = ap (◌∷◌ b) (bones-kept bs)

groups-kept : (gs : List Group) → map (renamed_group (λ n. n)) gs ≡ gs
unfolding renamed_group
groups-kept [] = refl
groups-kept (g ∷ gs) = ap (◌∷◌ g) (groups-kept gs)

kept : (f : Figure) → renamed (λ n. n) f ≡ f
unfolding renamed
kept f = rw (bones-kept f.bones, groups-kept f.groups)

pub figure-moved : (to : ℕ → ℕ) (text : List ℕ) → figure (moved to (lex text)) ≡ moved_got to (renamed (moved_name to)) (figure (lex text))
figure-moved to text = reads-moved to (renamed (moved_name to)) (alike_as (figure-renamed (moved-names to)) (λ f g e. sym (kept g) ∙ e)) text
