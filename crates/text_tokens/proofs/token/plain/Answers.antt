-- `plain` is the next token: the run of letters from its first byte.
use Rattle.std.proofs.Common.{◌≡◌, ◌+◌, ◌∷◌, suc, length, drop, get_or, refl, arith, add-one}
use Rattle.text_runs.specs.Runs.{run}
use Rattle.text_bytes.specs.Bytes.{is_letter}
use Rattle.text_tokens.specs.Tokens.{plain, width_of, bytes_of}
use Rattle.text_tokens.specs.Internal.Answers.{kind_of}
use Rattle.text_runs.specs.Internal.Answers.{test_named}
use Rattle.text_runs.proofs.Runs.{run-within}
use Rattle.text_tokens.proofs.Spans.{spanned, next_plain}
use Rattle.text_tokens.proofs.token.plain.Goals as goal

pub returns : goal.returns
unfolding kind_of width_of bytes_of test_named
returns c =
    let a = c.args in
    let text = a.text.now in
    let within = run-within is_letter text (suc a.at) c.requires.at_in_bounds in
    let end : c.run_end-end.result ≡ suc a.at + length (run is_letter (drop (suc a.at) text)) = rw (← add-one a.at) c.run_end-end.ensures in
    spanned text a.at (plain (get_or text a.at 0 ∷ run is_letter (drop (suc a.at) text))) _ _ _ refl (omega arith) (omega arith)
    (next_plain text a.at c.requires.at_in_bounds c.requires.at_value)
