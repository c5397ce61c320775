-- What parsing answers, with the tables that it leaves.
use Rattle.std.specs.Prelude.{List, ℤ}
use Rattle.bac6_bones.specs.Internal.Into.{fault_of}
use Rattle.bac6_shape.specs.declared.shape.Parsed.{Parsed}
use Rattle.bac6_shape.specs.Internal.Parse.{Kept}

unfoldable pub kept_by : Parsed → List ℤ → List ℤ → List ℤ → Kept
kept_by p rows owners names =
    record { name = (p.place, p.length); counts = p.counts; claims = (fault_of p.fault, owners); rows = rows; names = names }
