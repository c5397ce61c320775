-- `quoted` is the next token: the run of content from after its quote, and the closing quote where there is one.
use Rattle.std.proofs.Common.{◌≡◌, ◌+◌, suc, length, drop, refl, arith, add-one}
use Rattle.text_runs.specs.Runs.{run}
use Rattle.text_bytes.specs.Bytes.{in_string}
use Rattle.text_tokens.specs.Tokens.{quoted, width_of, bytes_of}
use Rattle.text_tokens.specs.Internal.Answers.{kind_of}
use Rattle.text_runs.specs.Internal.Answers.{test_named}
use Rattle.text_runs.proofs.Runs.{run-within}
use Rattle.text_tokens.proofs.Spans.{spanned, next_quoted}
use Rattle.text_tokens.proofs.token.quoted.Goals as goal
use Rattle.text_tokens.proofs.token.quoted.Goals.{then-last-text, else-last-text}

pub returns : goal.returns
unfolding kind_of width_of bytes_of test_named
returns c =
    let a = c.args in
    let text = a.text.now in
    let within = run-within in_string text (suc a.at) c.requires.at_in_bounds in
    let last : c.run_end-last.result ≡ suc a.at + length (run in_string (drop (suc a.at) text)) = rw (← add-one a.at) c.run_end-last.ensures in
    spanned text a.at (quoted (run in_string (drop (suc a.at) text))) _ _ _ refl
    (elim c.if-last-text.branch [ then-last-text w ↦ omega arith | else-last-text w ↦ omega arith ])
    (omega arith)
    (next_quoted text a.at c.requires.at_in_bounds c.requires.at_value)
