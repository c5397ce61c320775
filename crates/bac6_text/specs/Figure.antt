-- What a figure's text says: lists in text order, no table (document 01's "point" is a vertex, its "texture coordinate" a uv).
use Rattle.std.specs.Prelude.{List, ℕ, ℤ}
use Rattle.parse_spec.specs.Readers.{Name}

-- flags are 0 and 1; `vertices` are the vertex numbers that the bone names, as written
pub record Bone : Type 0 where
  pub name : Name
  pub child : ℤ
  pub brother : ℤ
  pub translate : List ℤ
  pub rotate : List ℤ
  pub handle : List ℤ
  pub vertices : List ℤ

-- `size` is 3 or 4, and `vertices` and `uvs` have so many numbers
pub record Face : Type 0 where
  pub material : ℤ
  pub size : ℕ
  pub vertices : List ℤ
  pub uvs : List ℤ

pub record Group : Type 0 where
  pub name : Name
  pub faces : List Face

-- the rows of textures, colours, materials, points, normals and uvs are their numbers in 01's columns
pub record Figure : Type 0 where
  pub name : Name
  pub textures : List (List ℤ)
  pub colours : List (List ℤ)
  pub materials : List (List ℤ)
  pub points : List (List ℤ)
  pub normals : List (List ℤ)
  pub bones : List Bone
  pub uvs : List (List ℤ)
  pub polygons : List Face
  pub groups : List Group
