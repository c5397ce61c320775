-- Each turn by the law of a list that is put; the array's lists are the figure's.
use Rattle.std.proofs.Common.{◌≡◌, drop, length, refl, ap, sym, ◌∙◌, arith}
use Rattle.text_bytes.specs.Bytes.{bytes}
use Rattle.report_text.specs.Output.{output}
use Rattle.report_lists.specs.Lists.{reached}
use Rattle.report_lists.proofs.Texts.{all_listed, put_of, all_lines}
use Rattle.bac6_listing.specs.Figures.{figure_lists}
use Rattle.bac6_listing.proofs.Rows.{next_item, all_put}
use Rattle.bac6_listing.proofs.append_lists.Goals as goal

pub loop-word-init : goal.loop-word-init
loop-word-init c = refl

pub loop-word-preserved : goal.loop-word-preserved
loop-word-preserved c = next_item _ c.loop-word.word-index _ _ _ c.loop-word-test.true c.append_list-p.ensures ∙ c.loop-word.invariant

pub returns : goal.returns
unfolding put_of reached all_listed figure_lists bytes
returns c =
    let a = c.args in
    ap put_of (all_put _ c.loop-word.word-index _ _ c.loop-word-test.false c.loop-word.invariant) ∙ all_lines (output a.start a.buf.now) a.table.now (figure_lists a.n)
