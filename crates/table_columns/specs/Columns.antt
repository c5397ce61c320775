-- Columns of a table's rows, by name (document 01, "The tables").
use Rattle.std.specs.Prelude.{List, true, false, ℕ, ◌+◌, ltb, ℤ, pos, negsuc, get_or, take, drop}

-- ---- a material's row: blend mode, double face, transparent, lighting, texture, colour, specular, alpha, shininess

abbrev pub material_texture : List ℤ → ℤ
material_texture m = get_or m 4 (pos 0)

abbrev pub material_colour : List ℤ → ℤ
material_colour m = get_or m 5 (pos 0)

abbrev pub material_specular : List ℤ → ℤ
material_specular m = get_or m 6 (pos 0)

abbrev pub material_alpha : List ℤ → ℤ
material_alpha m = get_or m 7 (pos 0)

abbrev pub material_shininess : List ℤ → ℤ
material_shininess m = get_or m 8 (pos 0)

-- ---- a face's row: material, size, four vertices, four texture coordinates, group

abbrev pub face_material : List ℤ → ℤ
face_material f = get_or f 0 (pos 0)

abbrev pub face_size : List ℤ → ℤ
face_size f = get_or f 1 (pos 0)

abbrev pub face_vertices : List ℤ → List ℤ
face_vertices f = take 4 (drop 2 f)

abbrev pub face_uvs : List ℤ → List ℤ
face_uvs f = take 4 (drop 6 f)

abbrev pub face_group : List ℤ → ℤ
face_group f = get_or f 10 (pos 0)

-- the vertex and the texture coordinate of a corner
abbrev pub face_vertex : List ℤ → ℕ → ℤ
face_vertex f k = get_or f (2 + k) (pos 0)

abbrev pub face_uv : List ℤ → ℕ → ℤ
face_uv f k = get_or f (6 + k) (pos 0)

-- the same by the column where the corners begin; none past the fourth
unfoldable pub corner_at : ℕ → List ℤ → ℕ → ℤ
corner_at from f k = elim (ltb k 4) [ true ↦ get_or f (from + k) (pos 0) | false ↦ negsuc 0 ]

-- ---- a key: frame, value; and a pattern line: frame, group, flag

abbrev pub value_of : List ℤ → ℤ
value_of k = get_or k 1 (pos 0)

abbrev pub pattern_flag : List ℤ → ℤ
pattern_flag p = get_or p 2 (pos 0)
