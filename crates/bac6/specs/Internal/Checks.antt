-- The rules over what was parsed, and what is known of it.
use Rattle.std.specs.Prelude.{◌≡◌, List, ℕ, ◌≤◌, ℤ, negsuc, length, replicate}
use Rattle.refusal.specs.Faults.{Fault}
use Rattle.text_tokens.specs.Tokens.{Lexeme, lex}
use Rattle.parse_spec.specs.Readers.{got}
use Rattle.bac6_text.specs.Figure.{Figure}
use Rattle.bac6_text.specs.Grammar.{figure}
use Rattle.bac6_bones.specs.Internal.Into.{fault_of}
use Rattle.bac6_shape.specs.declared.shape.Parsed.{Parsed}
use Rattle.bac6_shape.specs.Internal.Parse.{kept_of}
use Rattle.bac6_shape.specs.Internal.Answers.{kept_by}
use Rattle.bac6_check.specs.Internal.Rows.{rows_fault}

-- the first fault of the rules
unfoldable pub rules_fault : Parsed → List ℤ → Fault
rules_fault p rows = rows_fault p.counts (fault_of p.fault) rows

-- a figure that a text says, and what parsing kept of it over tables for the most rows of each list, with no vertex claimed
pub record Held (p : Parsed) (rows owners names : List ℤ) : Type 0 where
  pub text : List ℕ
  pub short : length text ≤ 65536
  pub read : Figure
  pub left : List Lexeme
  pub gives : figure (lex text) ≡ got read left
  pub rows_entry : List ℤ
  pub names_entry : List ℤ
  pub rows_most : length rows_entry ≡ 34912
  pub names_most : length names_entry ≡ 64
  pub kept : kept_of rows_entry (replicate 2048 (negsuc 0)) names_entry read ≡ kept_by p rows owners names
