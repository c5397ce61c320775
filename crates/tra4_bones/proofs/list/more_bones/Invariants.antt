-- The bones left, over the state as it is, are all of them over the state as it came; each takes a token, so their count fits.
use Rattle.std.proofs.Common.{◌≡◌, ◌+◌, ◌*◌, ◌≤◌, Ok, length}
use Prim.Native.Nat.{min}
use Rattle.text_tokens.specs.Tokens.{lex_at}
use Rattle.parse_cursor.specs.Internal.Cursors.{from}
use Rattle.tra4_bone.specs.Internal.Into.{kept}
use Rattle.tra4_bones.specs.Internal.Into.{more_into}
use Rattle.tra4_bones.proofs.list.more_bones.Given as goal

abbrev pub invariant-loop-stands : goal.invariant-loop-stands
invariant-loop-stands l = record {
  same : from l.text (Ok l.at) (more_into (l.initial.so_far.count, kept l.initial.so_far.keys l.initial.bone_rows l.initial.key_rows)) ≡ from l.text (Ok l.d) (more_into (l.so_far.count, kept l.so_far.keys l.bone_rows l.key_rows));
  bones_long : length l.bone_rows ≡ length l.initial.bone_rows;
  keys_long : length l.key_rows ≡ length l.initial.key_rows;
  index : min l.i (length l.bone_rows) ≡ min (l.so_far.count * 22) (length l.bone_rows);
  few : l.so_far.count + length (lex_at l.text l.d) ≤ 2 + length l.text;
}

abbrev pub decreases-loop-stands : goal.decreases-loop-stands
decreases-loop-stands l = length (lex_at l.text l.d)
