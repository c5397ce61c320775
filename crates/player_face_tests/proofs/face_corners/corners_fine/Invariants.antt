-- `corners_fine` tests one corner a turn: the corners left are as sound as all.
use Rattle.std.proofs.Common.{◌≡◌, ◌-◌, drop}
use Rattle.player_spec.specs.Lookups.{corners_fine}
use Rattle.player_face_tests.proofs.face_corners.corners_fine.Given as goal

abbrev pub invariant-loop-i : goal.invariant-loop-i
invariant-loop-i l = corners_fine l.n l.used l.corners ≡ corners_fine l.n (l.used - l.i) (drop l.i l.corners)
