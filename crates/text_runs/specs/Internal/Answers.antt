-- What the code's runs of bytes are in the definitions' terms.
use Rattle.std.specs.Prelude.{Bool, ℕ}
use Rattle.text_runs.specs.declared.run.Run.{Run}
use Rattle.text_runs.specs.declared.run.Run.TheVariants.{Letters, Line, Content, Digits, Word}
use Rattle.text_bytes.specs.Bytes.{is_letter, in_line, in_string, in_word, is_digit}

-- the test that a run's bytes pass
unfoldable pub test_named : Run → ℕ → Bool
test_named Letters = is_letter
test_named Line = in_line
test_named Content = in_string
test_named Digits = is_digit
test_named Word = in_word
