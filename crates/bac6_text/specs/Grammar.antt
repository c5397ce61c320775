-- The shape of a figure's text (Figure 1 of document 000, with document 01's "Figure shape").
use Rattle.std.specs.Prelude.{List, [], ◌∷◌, map, true, false, ℕ, zero, suc, ℤ, pos, get_or}
use Rattle.std.proofs.Math.Option.{Option, none, some}
use Prim.Native.String.{String}
use Rattle.text_numerals.specs.Numbers.{INT, FLOAT}
use Rattle.parse_spec.specs.Readers.{Reader, Name, absent, ◌>>=◌, ◌>>◌, pure, open_bracket, close_bracket, opened, closed, number, numbers, string, one_of, optional, trailing, many, many⁺, row, head, text_end}
unfoldable pub use Rattle.parse_spec.specs.Readers.{word, truth}
use Rattle.parse_spec.specs.Fields.{Kind, kind, fields}
use Rattle.bac6_text.specs.Figure.{Bone, Face, Group, Figure}

unfoldable pub blend : Reader ℤ
blend = word ("normal" ∷ "add" ∷ "sub" ∷ "half" ∷ [])

-- the columns of a material, in 01's order
unfoldable pub material_kinds : List (Kind ℤ)
material_kinds =
    kind "blendMode" true (closed blend)
    ∷ kind "doubleFace" true (closed truth)
    ∷ kind "transparent" true (closed truth)
    ∷ kind "lighting" true (closed truth)
    ∷ kind "textureIndex" true (closed (number INT))
    ∷ kind "colorIndex" true (closed (number INT))
    ∷ kind "specular" true (closed (number FLOAT))
    ∷ kind "alpha" false (closed (number FLOAT))
    ∷ kind "shininess" false (closed (number FLOAT))
    ∷ []

-- an absent number is 0
unfoldable pub or_zero : Option ℤ → ℤ
or_zero none = pos 0
or_zero (some z) = z

unfoldable pub material : Reader (List ℤ)
material = opened "material" >> fields material_kinds >>= λ fs. pure (map or_zero fs)

-- what a chunk of a bone holds: a name, a flag, or numbers
pub data BoneField : Type 0 where
  named : Name → BoneField
  flag : ℤ → BoneField
  several : List ℤ → BoneField

unfoldable pub bone_kinds : List (Kind BoneField)
bone_kinds =
    kind "name" false (closed string >>= λ n. pure (named n))
    ∷ kind "hasChild" true (closed truth >>= λ z. pure (flag z))
    ∷ kind "hasBrother" true (closed truth >>= λ z. pure (flag z))
    ∷ kind "translate" true (closed (numbers FLOAT 3) >>= λ zs. pure (several zs))
    ∷ kind "rotate" true (closed (numbers FLOAT 3) >>= λ zs. pure (several zs))
    ∷ kind "handle" true (closed (numbers FLOAT 3) >>= λ zs. pure (several zs))
    ∷ kind "vertexIndices" false (many (number INT) >>= λ zs. pure (several zs))
    ∷ []

unfoldable pub name_in : Option BoneField → Name
name_in none = absent
name_in (some (named n)) = n
name_in (some (flag z)) = absent
name_in (some (several zs)) = absent

unfoldable pub flag_in : Option BoneField → ℤ
flag_in none = pos 0
flag_in (some (named n)) = pos 0
flag_in (some (flag z)) = z
flag_in (some (several zs)) = pos 0

unfoldable pub numbers_in : Option BoneField → List ℤ
numbers_in none = []
numbers_in (some (named n)) = []
numbers_in (some (flag z)) = []
numbers_in (some (several zs)) = zs

unfoldable pub bone_of : List (Option BoneField) → Bone
bone_of fs =
    record {
      name = name_in (get_or fs 0 none);
      child = flag_in (get_or fs 1 none);
      brother = flag_in (get_or fs 2 none);
      translate = numbers_in (get_or fs 3 none);
      rotate = numbers_in (get_or fs 4 none);
      handle = numbers_in (get_or fs 5 none);
      vertices = numbers_in (get_or fs 6 none);
    }

unfoldable pub bone : Reader Bone
bone = opened "bone" >> fields bone_kinds >>= λ fs. pure (bone_of fs)

-- a face after its first i3 or i4: its numbers, and the same word with as many
unfoldable pub face_of : ℤ → String → ℕ → Reader Face
face_of m k n =
    closed (numbers INT n) >>= λ vs. row k INT n >>= λ ts. close_bracket >> pure (record { material = m; size = n; vertices = vs; uvs = ts })

unfoldable pub face_by : ℤ → ℕ → Reader Face
face_by m zero = face_of m "i3" 3
face_by m (suc k) = face_of m "i4" 4

unfoldable pub face : Reader Face
face = opened "face" >> number INT >>= λ m. open_bracket >> one_of ("i3" ∷ "i4" ∷ []) >>= λ k. face_by m k

unfoldable pub group : Reader Group
group = opened "group" >> optional "name" absent (closed string) >>= λ n. many face >>= λ fs. pure (record { name = n; faces = fs })

-- ---- the sections of a figure, in the text's order

-- the head, the figure's opening, and its name
unfoldable pub name_section : Reader Name
name_section = head "bacVersion" "6.0" >> opened "Figure" >> optional "name" absent (closed string)

unfoldable pub texture_section : Reader (List (List ℤ))
texture_section = optional "Textures" [] (many (row "i2" INT 2))

unfoldable pub colour_section : Reader (List (List ℤ))
colour_section = optional "Colors" [] (many (row "f3" FLOAT 3))

unfoldable pub material_section : Reader (List (List ℤ))
material_section = opened "Materials" >> many⁺ material

unfoldable pub point_section : Reader (List (List ℤ))
point_section = opened "Vertices" >> opened "coords" >> many⁺ (row "pnt" FLOAT 3)

-- with the bracket that closes the vertices
unfoldable pub normal_section : Reader (List (List ℤ))
normal_section = opened "normals" >> closed (many (row "vct" FLOAT 3))

unfoldable pub bone_section : Reader (List Bone)
bone_section = opened "Bones" >> many⁺ bone

unfoldable pub uv_section : Reader (List (List ℤ))
uv_section = optional "TextureCoords" [] (many (row "f2" FLOAT 2))

-- faces without a group, and groups
unfoldable pub polygon_section : Reader (List Face × List Group)
polygon_section =
    opened "Polygons" >> many face >>= λ ps. trailing "DynamicPolygons" [] (many group) >>= λ gs. pure (ps, gs)

unfoldable pub figure : Reader Figure
figure = do
  n ← name_section
  textures ← texture_section
  colours ← colour_section
  materials ← material_section
  points ← point_section
  normals ← normal_section
  bones ← bone_section
  uvs ← uv_section
  x ← polygon_section
  close_bracket
  text_end
  pure (record { name = n; textures = textures; colours = colours; materials = materials; points = points; normals = normals; bones = bones; uvs = uvs; polygons = x.0; groups = x.1 })
