-- The rules over what was parsed, and what is known of it.
use Rattle.std.specs.Prelude.{◌≡◌, List, ℕ, ◌≤◌, ℤ, length, unwrap_or}
use Rattle.refusal.specs.Faults.{Fault}
use Rattle.text_tokens.specs.Tokens.{Lexeme, lex}
use Rattle.parse_spec.specs.Readers.{got}
use Rattle.tra4_text.specs.Movement.{Movement}
use Rattle.tra4_text.specs.Grammar.{movement}
use Rattle.tra4_bone.specs.Internal.Into.{kept}
use Rattle.tra4_parse.specs.declared.shape.Shape.{Shape}
use Rattle.tra4_parse.specs.Internal.Parse.{MovementValue, movement_value}
use Rattle.tra4_rules.specs.Internal.Order.{tables_fault}
use Rattle.tra4.specs.Internal.Parse.{value_of}

-- the first fault of the rules; where there are too many keys, how many is not known, and one more than the most stands for it
unfoldable pub rules_fault : Shape → List ℤ → List ℤ → List ℤ → Fault
rules_fault p b k g = tables_fault p.total p.bones (unwrap_or p.keys 4097) p.patterns b k g

-- what parsing answers, with the tables that it leaves
unfoldable pub parsed_as : Shape → List ℤ → List ℤ → List ℤ → MovementValue
parsed_as p b k g = movement_value p.total (p.place, p.length) (p.bones, kept p.keys b k) (p.patterns, g)

-- a movement that a text says, and what parsing kept of it over tables for the most rows of each list
pub record Held (p : Shape) (b k g : List ℤ) : Type 0 where
  pub text : List ℕ
  pub short : length text ≤ 65536
  pub read : Movement
  pub left : List Lexeme
  pub gives : movement (lex text) ≡ got read left
  pub bones_entry : List ℤ
  pub keys_entry : List ℤ
  pub patterns_entry : List ℤ
  pub bones_most : length bones_entry ≡ 2816
  pub keys_most : length keys_entry ≡ 8192
  pub patterns_most : length patterns_entry ≡ 768
  pub kept_as : value_of bones_entry keys_entry patterns_entry read ≡ parsed_as p b k g
