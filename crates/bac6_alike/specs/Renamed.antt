-- A figure with each of its names exchanged: its own, the bones' and the groups'.
use Rattle.std.specs.Prelude.{map}
use Rattle.parse_spec.specs.Readers.{Name}
use Rattle.bac6_text.specs.Figure.{Bone, Group, Figure}

unfoldable pub renamed_bone : (Name → Name) → Bone → Bone
renamed_bone h b = record { name = h b.name; child = b.child; brother = b.brother; translate = b.translate; rotate = b.rotate; handle = b.handle; vertices = b.vertices }

unfoldable pub renamed_group : (Name → Name) → Group → Group
renamed_group h g = record { name = h g.name; faces = g.faces }

unfoldable pub renamed : (Name → Name) → Figure → Figure
renamed h f =
    record {
      name = h f.name;
      textures = f.textures;
      colours = f.colours;
      materials = f.materials;
      points = f.points;
      normals = f.normals;
      bones = map (renamed_bone h) f.bones;
      uvs = f.uvs;
      polygons = f.polygons;
      groups = map (renamed_group h) f.groups;
    }
