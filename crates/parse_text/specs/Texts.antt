-- What reading a text answers, in document 01's order: 1; 2; 3 and 4; 5, 6, 7; the format's rules.
use Rattle.std.specs.Prelude.{List, ℕ}
use Rattle.text_check.specs.Faults.{Format, text_fault}
use Rattle.refusal.specs.Faults.{Fault, clear, fault}
use Rattle.text_tokens.specs.Tokens.{lex}
use Rattle.parse_spec.specs.Readers.{Got, got, refused, Reader}
use Rattle.refusal.specs.Outcomes.{Outcome, rejected, ruled}

-- by the rules of what was read
unfoldable pub shaped : {A : Type 0} → (A → Fault) → Got A → Outcome A
shaped rules (got a ms) = ruled a (rules a)
shaped rules (refused n p) = rejected n p

-- by a format's grammar
unfoldable pub checked : {A : Type 0} → Reader A → (A → Fault) → List ℕ → Fault → Outcome A
checked grammar rules text clear = shaped rules (grammar (lex text))
checked grammar rules text (fault n p) = rejected n p

unfoldable pub outcome : {A : Type 0} → Format → Reader A → (A → Fault) → List ℕ → Outcome A
outcome f grammar rules text = checked grammar rules text (text_fault f text)
