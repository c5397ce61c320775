-- What every figure is that the grammar reads: rows as wide as their columns, points and uvs in FLOAT's range, bones with three numbers each, faces with a vertex and a uv at each corner, and names that are strings of the text; by one law a reader.
use mathlib.Core.Path.{◌≡◌, refl, ap, ◌∙◌}
use mathlib.Core.List.{List, [], ◌∷◌, map}
use mathlib.Core.Logic.{◌⊎◌, inl, inr}
use mathlib.Core.Option.{Option, none, some}
use Prim.Native.Nat.{ℕ, zero, suc}
use Prim.Native.String.{String}
use lib.IntN.{ℤ, pos}
use lib.ListN.{length, get_or, length-map}
use Rattle.text_bytes.specs.Internal.Every.{Every}
use Rattle.text_numerals.specs.Numbers.{Form, INT, FLOAT}
use Rattle.text_tokens.specs.Tokens.{Lexeme}
use Rattle.text_bytes.proofs.Every.{every_as, every_append}
use Rattle.parse_spec.specs.Readers.{Name, absent, ◌>>=◌, pure, closed, number, numbers, optional, many, row}
use Rattle.parse_spec.specs.Fields.{kind, fields}
use Rattle.parse_spec.specs.Internal.Fields.{needed_of}
use Rattle.parse_spec.proofs.Given.{GivesOn, LeavesOn, Gives, free, Naming, AnyToken, AnyName, any_names, pure-gives, bind-gives, then_gives, gives_as, leaves_on, closed-gives, open_leaves, close_leaves, opened_leaves, end_leaves, head_leaves, many-gives, some_give, optional-gives, trailing-gives, string-gives, name-gives}
use Rattle.parse_spec.proofs.FieldFits.{AllGive, AllFit, Whole, Stands, fields_fit, fields_stand}
use Rattle.parse_spec.proofs.Ranges.{AllIn, Numbers, number-gives, numbers_give, row_gives, choice_below}
use Rattle.parse_rows.proofs.Widths.{Wide}
use Rattle.bac6_text.specs.Figure.{Bone, Face, Group, Figure}
use Rattle.bac6_text.specs.Grammar.{word, truth, blend, BoneField, flag, several, bone_kinds, bone_of, name_in, numbers_in, bone, face_of, face_by, face, group, material, material_kinds, or_zero, name_section, texture_section, colour_section, material_section, point_section, normal_section, bone_section, uv_section, polygon_section, figure}
use Rattle.bac6_text.specs.Internal.Names.{NamedFigure}
use Rattle.bac6_text.specs.Rules.{group_faces, faces_of}

-- ---- what is read

-- a bone: three numbers each
pub record WholeBone (b : Bone) : Type 0 where
  pub translate : length b.translate ≡ 3
  pub rotate : length b.rotate ≡ 3
  pub handle : length b.handle ≡ 3

abbrev pub WholeBones : List Bone → Type 0
WholeBones bs = Every WholeBone bs

-- a face: 3 or 4 corners, each with a vertex and a uv
pub record WholeFace (f : Face) : Type 0 where
  pub sizes : (f.size ≡ 3) ⊎ (f.size ≡ 4)
  pub vertices : length f.vertices ≡ f.size
  pub uvs : length f.uvs ≡ f.size

abbrev pub WholeFaces : List Face → Type 0
WholeFaces fs = Every WholeFace fs

pub record WholeFigure (f : Figure) : Type 0 where
  pub textures : Wide 2 f.textures
  pub colours : Wide 3 f.colours
  pub materials : Wide 9 f.materials
  pub points : Wide 3 f.points
  pub normals : Wide 3 f.normals
  pub bones : WholeBones f.bones
  pub uvs : Wide 2 f.uvs
  pub polygons : WholeFaces f.polygons
  pub groups : Every (λ g. WholeFaces g.faces) f.groups
  pub point_floats : Every (AllIn FLOAT) f.points
  pub uv_floats : Every (AllIn FLOAT) f.uvs

-- ---- what has no name, of any tokens

module _ {Q : Lexeme → Type 0} where
  choice_leaves : (ks : List String) → LeavesOn Q (word ks)
  unfolding word
  choice_leaves ks = bind-gives (choice_below ks) (λ n _. pure-gives (pos n) tt)

  truth_leaves : LeavesOn Q (closed truth)
  unfolding truth
  truth_leaves = closed-gives (choice_leaves _)

  blend_leaves : LeavesOn Q (closed blend)
  unfolding blend
  blend_leaves = closed-gives (choice_leaves _)

  number_leaves : (f : Form) → LeavesOn Q (closed (number f))
  number_leaves f = closed-gives (leaves_on (number-gives f))

  pub material-gives : GivesOn Q (λ r. length r ≡ 9) material
  unfolding material material_kinds kind
  material-gives =
      let kinds : AllGive (λ _ _. Unit {0}) Q 0 material_kinds = (blend_leaves, (truth_leaves, (truth_leaves, (truth_leaves, (number_leaves INT, (number_leaves INT, (number_leaves FLOAT, (number_leaves FLOAT, (number_leaves FLOAT, tt))))))))) in
      bind-gives (then_gives (opened_leaves "material") (fields_fit (λ _ _. Unit {0}) material_kinds kinds)) (λ fs w. pure-gives {P = λ r. length r ≡ 9} (map or_zero fs) (length-map fs or_zero ∙ w.count))

  corners_give : (m : ℤ) (k : String) (n : ℕ) → (n ≡ 3) ⊎ (n ≡ 4) → GivesOn Q WholeFace (face_of m k n)
  unfolding face_of
  corners_give m k n h = bind-gives (closed-gives (numbers_give INT n)) (λ vs p. bind-gives (row_gives k INT n) (λ ts q. then_gives close_leaves (pure-gives _ (record { sizes = h; vertices = p.0; uvs = q.0 }))))

  by_gives : (m : ℤ) (k : ℕ) → GivesOn Q WholeFace (face_by m k)
  unfolding face_by
  by_gives m zero = corners_give m "i3" 3 (inl refl)
  by_gives m (suc k) = corners_give m "i4" 4 (inr refl)

  face-gives : GivesOn Q WholeFace face
  unfolding face
  face-gives = bind-gives (then_gives (opened_leaves "face") (number-gives INT)) (λ m _. bind-gives (then_gives open_leaves (choice_below _)) (λ k _. by_gives m k))

  -- rows of one width, in a chunk that may be left out
  section_gives : (k w : String) (f : Form) (n : ℕ) → GivesOn Q (Every (Numbers f n)) (optional k [] (many (row w f n)))
  section_gives k w f n = optional-gives k [] tt (many-gives (row_gives w f n))

wide : (f : Form) (n : ℕ) (rs : List (List ℤ)) → Every (Numbers f n) rs → Wide n rs
wide f n = every_as (λ _ h. h.0)

floats : (n : ℕ) (rs : List (List ℤ)) → Every (Numbers FLOAT n) rs → Every (AllIn FLOAT) rs
floats n = every_as (λ _ h. h.1)

-- ---- what has a name, of tokens whose strings are names of P

module _ (P : Name → Type 0) where
  -- a bone's fields: the first is a name, 3 to 5 are three numbers
  abbrev Field : ℕ → BoneField → Type 0
  Field zero f = P (name_in (some f))
  Field (suc zero) f = Unit {0}
  Field (suc (suc zero)) f = Unit {0}
  Field (suc (suc (suc zero))) f = length (numbers_in (some f)) ≡ 3
  Field (suc (suc (suc (suc zero)))) f = length (numbers_in (some f)) ≡ 3
  Field (suc (suc (suc (suc (suc zero))))) f = length (numbers_in (some f)) ≡ 3
  Field (suc (suc (suc (suc (suc (suc k)))))) f = Unit {0}

  abbrev pub NamedBone : Bone → Type 0
  NamedBone b = WholeBone b × P b.name

  module _ (empty : P absent) where
    name_of : (fs : List (Option BoneField)) → AllFit Field 0 fs → P (name_in (get_or fs 0 none))
    unfolding name_in
    name_of [] h = empty
    name_of (none ∷ fs) h = empty
    name_of (some f ∷ fs) h = h.0

    module _ (fs : List (Option BoneField)) (w : Whole Field bone_kinds fs) where
      three_of : (k : ℕ) → (s : Stands Field 0 k fs) → length (numbers_in (some s.value)) ≡ 3 → length (numbers_in (get_or fs k none)) ≡ 3
      three_of k s h = ap (λ (o : Option BoneField). length (numbers_in o)) s.here ∙ h

      bone_of_lem : NamedBone (bone_of fs)
      unfolding bone_of needed_of bone_kinds kind
      bone_of_lem =
          let a = fields_stand Field bone_kinds fs 3 w refl in
          let b = fields_stand Field bone_kinds fs 4 w refl in
          let c = fields_stand Field bone_kinds fs 5 w refl in
          (record { translate = three_of 3 a a.fits; rotate = three_of 4 b b.fits; handle = three_of 5 c c.fits }, name_of fs w.fit)

    module _ {Q : Lexeme → Type 0} (h : Naming Q P) where
      three_give : GivesOn Q (λ f. length (numbers_in (some f)) ≡ 3) (closed (numbers FLOAT 3) >>= λ zs. pure (several zs))
      unfolding numbers_in
      three_give = bind-gives (closed-gives (numbers_give FLOAT 3)) (λ zs p. pure-gives {P = λ f. length (numbers_in (some f)) ≡ 3} (several zs) p.0)

      flag_leaves : LeavesOn Q (closed truth >>= λ z. pure (flag z))
      flag_leaves = bind-gives truth_leaves (λ z _. pure-gives (flag z) tt)

      bone_kinds_lem : AllGive Field Q 0 bone_kinds
      unfolding bone_kinds kind name_in
      bone_kinds_lem =
          (bind-gives (closed-gives (string-gives h)) (λ n p. pure-gives {P = Field 0} _ p), (flag_leaves, (flag_leaves, (three_give, (three_give, (three_give, (bind-gives (many-gives (number-gives INT)) (λ zs _. pure-gives (several zs) tt), tt)))))))

      fields_give : GivesOn Q (λ fs. NamedBone (bone_of fs)) (fields bone_kinds)
      fields_give = gives_as (fields_fit Field bone_kinds bone_kinds_lem) bone_of_lem

      bone-gives : GivesOn Q NamedBone bone
      unfolding bone
      bone-gives = bind-gives (then_gives (opened_leaves "bone") fields_give) (λ fs p. pure-gives (bone_of fs) p)

      group-gives : GivesOn Q (λ g. WholeFaces g.faces × P g.name) group
      unfolding group
      group-gives = bind-gives (then_gives (opened_leaves "group") (name-gives empty h)) (λ n p. bind-gives (many-gives face-gives) (λ fs q. pure-gives {P = λ g. WholeFaces g.faces × P g.name} (record { name = n; faces = fs }) (q, p)))

      polygons_give : GivesOn Q (λ x. WholeFaces x.0 × Every (λ g. WholeFaces g.faces × P g.name) x.1) polygon_section
      unfolding polygon_section
      polygons_give =
          bind-gives (then_gives (opened_leaves "Polygons") (many-gives face-gives)) (λ fs hfs.
          bind-gives (trailing-gives "DynamicPolygons" [] tt (many-gives group-gives)) (λ gs hgs.
          pure-gives {P = λ x. WholeFaces x.0 × Every (λ g. WholeFaces g.faces × P g.name) x.1} (fs, gs) (hfs, hgs)))

      pub figure-gives : GivesOn Q (λ f. WholeFigure f × NamedFigure P f) figure
      unfolding figure name_section texture_section colour_section material_section point_section normal_section bone_section uv_section polygon_section
      figure-gives =
          bind-gives (then_gives (then_gives (head_leaves "bacVersion" "6.0") (opened_leaves "Figure")) (name-gives empty h)) (λ n hn.
          bind-gives (section_gives "Textures" "i2" INT 2) (λ ts hts.
          bind-gives (section_gives "Colors" "f3" FLOAT 3) (λ cs hcs.
          bind-gives (then_gives (opened_leaves "Materials") (some_give material-gives)) (λ mats hmats.
          bind-gives (then_gives (then_gives (opened_leaves "Vertices") (opened_leaves "coords")) (some_give (row_gives "pnt" FLOAT 3))) (λ ps hps.
          bind-gives (then_gives (opened_leaves "normals") (closed-gives (many-gives (row_gives "vct" FLOAT 3)))) (λ vs hvs.
          bind-gives (then_gives (opened_leaves "Bones") (some_give bone-gives)) (λ bs hbs.
          bind-gives (section_gives "TextureCoords" "f2" FLOAT 2) (λ us hus.
          bind-gives polygons_give (λ x hx.
          then_gives close_leaves (then_gives end_leaves
          (pure-gives _
          (record { textures = wide INT 2 ts hts; colours = wide FLOAT 3 cs hcs; materials = hmats; points = wide FLOAT 3 ps hps; normals = wide FLOAT 3 vs hvs; bones = every_as (λ _ p. p.0) bs hbs; uvs = wide FLOAT 2 us hus; polygons = hx.0; groups = every_as (λ _ p. p.0) x.1 hx.1; point_floats = floats 3 ps hps; uv_floats = floats 2 us hus }, record { own = hn; bones = every_as (λ _ p. p.1) bs hbs; groups = every_as (λ _ p. p.1) x.1 hx.1 }))))))))))))

-- ---- of any tokens, whatever the names

pub fields-whole : GivesOn AnyToken (λ fs. WholeBone (bone_of fs)) (fields bone_kinds)
fields-whole = gives_as (fields_give AnyName tt any_names) (λ _ h. h.0)

pub bone-whole : GivesOn AnyToken WholeBone bone
bone-whole = gives_as (bone-gives AnyName tt any_names) (λ _ h. h.0)

pub figure-whole : Gives WholeFigure figure
figure-whole ms f l e = (free (figure-gives AnyName tt any_names) ms f l e).0

-- all its faces, group by group

groups-whole : (gs : List Group) → Every (λ g. WholeFaces g.faces) gs → WholeFaces (group_faces gs)
unfolding group_faces
groups-whole [] h = tt
groups-whole (g ∷ gs) h = every_append WholeFace g.faces (group_faces gs) h.0 (groups-whole gs h.1)

pub faces-whole : (f : Figure) → WholeFigure f → WholeFaces (faces_of f)
unfolding faces_of
faces-whole f w = every_append WholeFace f.polygons (group_faces f.groups) w.polygons (groups-whole f.groups w.groups)
