-- `section` goes by whether its chunk stands.
use Rattle.std.proofs.Common.{Ok, sym}
use Rattle.parse_lists.specs.Internal.ListsInto.{rows_into}
use Rattle.parse_cursor.proofs.Steps.{parsed_exit}
use Rattle.bac6_section.specs.Internal.Lists.{rows_if}
use Rattle.bac6_section.proofs.Laid.{list_read, ended, ends-within, section_read, section_off, none_read}
use Rattle.bac6_section.proofs.rows.section.Goals as goal

pub returns-in_err-present-clause-content : goal.returns-in_err-present-clause-content
returns-in_err-present-clause-content c = parsed_exit _ _ _ _ c.from_residual.ensures.1 (section_off _ _ _ _ _ _ _ (sym c.in_err-present.ensures))

pub returns-then-present-clause-content : goal.returns-then-present-clause-content
unfolding rows_if rows_into
returns-then-present-clause-content c =
    ended _ _ _ _ _ c.with_end.ensures _ (section_read _ _ _ _ _ _ _ _ _ _ c.in_ok-present.ensures c.if-present.true (list_read _ _ _ _ _ c.args.at c.args.out.now _ c.rows-rows.ensures.meaning))

pub returns-then-present-clause-within : goal.returns-then-present-clause-within
returns-then-present-clause-within c = ends-within _ _ _ _ _ c.with_end.ensures

pub returns-clause-content : goal.returns-clause-content
unfolding rows_if
returns-clause-content c =
    ended _ _ _ _ _ c.with_end-2.ensures _ (section_read _ _ _ _ _ _ _ _ _ _ c.in_ok-present.ensures c.if-present.false (list_read _ _ (Ok (0, _)) _ _ c.args.at c.args.out.now _ (none_read _ _ c.args.at c.args.out.now)))

pub returns-clause-within : goal.returns-clause-within
returns-clause-within c = ends-within _ _ _ _ _ c.with_end-2.ensures
