-- What the answers of the code say.
use Rattle.std.specs.Prelude.{List, ℤ}
use Rattle.bac6_front.specs.declared.opening.Front.{Front}
use Rattle.bac6_front.specs.Internal.Front.{FrontValue}

unfoldable pub front_value : Front → List ℤ → FrontValue
front_value r rows =
    record { name = (r.place, r.length); textures = r.textures; colours = r.colours; materials = r.materials; points = r.points; normals = r.normals; table = (r.end, rows) }
