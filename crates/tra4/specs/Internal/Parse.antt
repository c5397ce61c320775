-- What parsing keeps of a movement.
use Rattle.std.specs.Prelude.{List, ℤ, length}
use Rattle.std.proofs.Math.Option.{some}
use Rattle.parse_spec.specs.Internal.Places.{place_of}
use Rattle.table_rows.specs.Flat.{flat}
use Rattle.table_rows.specs.Internal.Overlay.{overlay_at}
use Rattle.parse_rows.specs.Internal.Folds.{fold}
use Rattle.tra4_text.specs.Movement.{Movement}
use Rattle.tra4_bones.specs.Internal.Into.{bone_step}
use Rattle.tra4_parse.specs.Internal.Parse.{MovementValue, movement_value}

unfoldable pub value_of : List ℤ → List ℤ → List ℤ → Movement → MovementValue
value_of bones keys patterns m =
    movement_value m.total_frames (place_of m.name) (fold bone_step (0, some (bones, 0, keys)) m.bones) (length m.patterns, overlay_at 0 (flat m.patterns) patterns)
