-- `word_index` is the definition: a word is the token's, or the rest of the list has its row.
use mathlib.Core.Path.{◌≡◌, sym, ap, ◌∙◌}
use mathlib.Core.List.{List}
use Prim.Native.Nat.{ℕ, ◌+◌}
use native.Mathlib.Omega.{arith}
use native.Mathlib.Numerals.{add-one}
use lib.ListN.{length, drop}
use Rattle.text_runs.specs.Runs.{part, run}
use Rattle.text_bytes.specs.Bytes.{in_word}
use Rattle.text_tokens.specs.Tokens.{is_keyword}
use Rattle.text_tokens.specs.Internal.Answers.{lexeme_of}
use Rattle.text_runs.specs.Internal.Answers.{test_named}
use Rattle.parse_words.proofs.Vocabulary.{first_yes, last_no, more_no}
use Rattle.parse_words.proofs.words.word_index.Goals as goal
use Rattle.parse_words.proofs.words.word_index.Goals.{After-is_keyword}

-- once a word has been compared: where it ends, and whether the token is it
ended : (k : After-is_keyword) → k.run_end-end.result ≡ k.loop-t.start + length (run in_word (drop k.loop-t.start k.args.list.now))
unfolding test_named
ended k = k.run_end-end.ensures

compared : (k : After-is_keyword) → is_keyword (part k.args.list.now k.loop-t.start k.run_end-end.result) (lexeme_of k.args.text.now k.args.t).token ≡ k.is_keyword.result
compared k = ap (λ (w : List ℕ). is_keyword w (lexeme_of k.args.text.now k.args.t).token) (sym k.part.ensures) ∙ sym k.is_keyword.ensures

pub returns-then-is_keyword : goal.returns-then-is_keyword
returns-then-is_keyword c =
    let k = (goal.at.returns-then-is_keyword c).After-is_keyword in
    let l = c.loop-t.invariant in
    omega (arith, l.2, first_yes c.args.list.now _ _ _ (ended k) l.0 (compared k ∙ c.if-is_keyword.true))

pub returns-then-list-end : goal.returns-then-list-end
returns-then-list-end c =
    let k = (goal.at.returns-then-list-end c).After-is_keyword in
    omega (arith, c.loop-t.invariant.2, last_no c.args.list.now _ _ _ (ended k) c.if-list-end.true (compared k ∙ c.if-is_keyword.false))

pub loop-t-preserved : goal.loop-t-preserved
loop-t-preserved c =
    let k = (goal.at.loop-t-preserved c).After-is_keyword in
    let l = c.loop-t.invariant in
    let more = more_no c.args.list.now _ _ _ (ended k) c.if-list-end.false (compared k ∙ c.if-is_keyword.false) in
    (omega (arith, c.if-list-end.false), omega (arith, ended k, l.1), rw (add-one c.run_end-end.result) (omega (arith, l.2, more)))
