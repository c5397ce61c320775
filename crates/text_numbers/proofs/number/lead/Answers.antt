-- `lead` finds a word's sign and its digits, by whether there is a minus sign.
use Rattle.std.proofs.Common.{◌≡◌, ◌≤◌, ℕ, Bool, true, false, List, length, drop, sym, arith}
use mir.Val.{bool_byte}
use Rattle.text_runs.specs.Internal.Answers.{test_named}
use Rattle.text_numerals.specs.Numbers.{negative, unsigned_part}
use Rattle.text_numerals.proofs.Numerals.{lead_order, lead_within, unsigned_yes, unsigned_no, negative_some}
use Rattle.text_numbers.proofs.number.lead.Goals as goal

begins : (word : List ℕ) (s : Bool) (start : ℕ) → s ≡ negative word → start ≡ bool_byte s → (drop start word ≡ unsigned_part word) × (start ≤ length word)
begins word true start e b = (rw b (sym (unsigned_yes word (sym e))), rw b (negative_some word (sym e)))
begins word false start e b = (rw b (sym (unsigned_no word (sym e))), omega arith)

pub returns : goal.returns
unfolding test_named
returns c =
    let s = c.is_negative-negative in
    let b = begins c.args.word.now s.result c.from-start.result s.ensures c.from-start.ensures in
    let e = c.run_end.ensures in
    record { sign = s.ensures; digits = b.0; ends = e; order = lead_order _ _ _ b.0 e; within = lead_within _ _ _ b.0 e b.1 }
