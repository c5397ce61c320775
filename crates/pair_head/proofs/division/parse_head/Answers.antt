-- `parse_head` by its tests: eight digits are an INT, so a refusal of theirs does not occur.
use Rattle.std.proofs.Common.{ap, sym, ◌∙◌, nat_abs, rules}
use mir.Syntax.{w64}
use mir.Val.{SFits}
use mir.Facts.{to_z-of_z}
use Rattle.pair_head.specs.Answers.{length_named}
use Rattle.pair_head.proofs.Heads.{head-size, too_few, no_feed, head-value, never_refused}
use Rattle.pair_head.proofs.division.parse_head.Goals as goal
use Rattle.pair_head.proofs.division.parse_head.Goals.{then-run_end-lt8-via-then-run_end-lt8, then-run_end-lt8-via-else-run_end-lt8+then-bytes-ne10}

pub returns-then-bytes-ne9 : goal.returns-then-bytes-ne9
unfolding length_named
returns-then-bytes-ne9 c = sym (head-size c.args.bytes.now c.if-bytes-ne9.true)

pub returns-then-run_end-lt8 : goal.returns-then-run_end-lt8
unfolding length_named
returns-then-run_end-lt8 c = elim c.then-run_end-lt8.branch [
  | then-run_end-lt8-via-then-run_end-lt8 w ↦ sym (too_few c.args.bytes.now c.if-bytes-ne9.false _ c.run_end.ensures w.if-run_end-lt8.true)
  | then-run_end-lt8-via-else-run_end-lt8+then-bytes-ne10 w ↦ sym (no_feed c.args.bytes.now c.if-bytes-ne9.false _ c.run_end.ensures w.if-run_end-lt8.false w.if-bytes-ne10.true)
]

pub returns-in-Ok : goal.returns-in-Ok
unfolding length_named
returns-in-Ok c =
    let fits : SFits w64 c.in-Ok.value = search rules in
    sym (head-value c.args.bytes.now c.if-bytes-ne9.false _ c.run_end.ensures c.if-run_end-lt8.false c.int.result c.in-Ok.value _ c.if-bytes-ne10.false c.int.ensures c.in-Ok.is (c.magnitude.ensures ∙ ap nat_abs (to_z-of_z fits)))

pub returns-in-Err : goal.returns-in-Err
returns-in-Err c =
    absurd (never_refused c.args.bytes.now c.if-bytes-ne9.false _ c.run_end.ensures c.if-run_end-lt8.false c.int.result c.in-Err.field-0 c.int.ensures c.in-Err.is)
