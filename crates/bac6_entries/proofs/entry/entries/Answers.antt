-- Each way out of a turn by the law of the closing bracket, of an entry that is refused or of one that was tried.
use Rattle.std.proofs.Common.{rules, sym, ◌∙◌}
use Rattle.text_tokens.specs.Tokens.{lexeme}
use Rattle.text_tokens.specs.Internal.Answers.{lexeme_of}
use Rattle.parse_numbers.specs.Internal.Answers.{form_named}
use Rattle.parse_cursor.proofs.Steps.{parsed_exit, from-same}
use Rattle.bac6_entries.proofs.EntrySteps.{entries_end, entries_more, entries_off, entry_falls, entries_bits, entries_tried}
use Rattle.bac6_entries.proofs.entry.entries.Goals as goal

pub returns-then-is_closing : goal.returns-then-is_closing
unfolding lexeme_of lexeme
returns-then-is_closing c = entries_end _ _ _ _ _ _ c.next-t.ensures (sym (c.is_closing.ensures _) ∙ c.if-is_closing.true) ∙ sym c.loop-t.invariant ∙ from-same _ _ _ _ (λ ms. entries_bits _ _ _ ms c.ranges.bone)

pub returns-in_err-z : goal.returns-in_err-z
unfolding lexeme_of lexeme form_named
returns-in_err-z c = parsed_exit _ _ _ _ c.from_residual.ensures.1 (sym (from-same _ _ _ _ (λ ms. entries_bits _ _ _ ms c.ranges.bone)) ∙ c.loop-t.invariant ∙ entries_off _ _ _ _ _ _ c.next-t.ensures (sym (c.is_closing.ensures _) ∙ c.if-is_closing.false) (sym c.in_err-z.ensures))

pub loop-t-smaller : goal.loop-t-smaller
unfolding form_named
loop-t-smaller c = entry_falls _ _ _ _ c.in_ok-z.ensures

pub loop-t-preserved : goal.loop-t-preserved
unfolding lexeme_of lexeme form_named
loop-t-preserved c = c.loop-t.invariant ∙ entries_more _ _ _ _ _ _ c.next-t.ensures (sym (c.is_closing.ensures _) ∙ c.if-is_closing.false) _ _ c.in_ok-z.ensures ∙ from-same _ _ _ _ (λ ms. entries_tried _ _ c.in_ok-z.z _ _ ms (search rules) c.tried-free.ensures)
