-- `material_value` reads what stands in the chunk of its column.
use Rattle.std.proofs.Common.{◌≡◌, [], ◌∷◌, refl, arith}
use Rattle.text_bytes.specs.Bytes.{bytes, in_word}
use Rattle.parse_numbers.specs.Internal.Answers.{form_named}
use Rattle.parse_spec.specs.Fields.{kind}
use Rattle.parse_spec.specs.Internal.Fields.{inside_at}
use Rattle.parse_words.specs.Internal.Words.{words, onto}
use Rattle.parse_words.proofs.Vocabulary.{word_list}
use Rattle.bac6_text.specs.Grammar.{material_kinds, blend, truth}
use Rattle.bac6_materials.proofs.Closings.{close_join, close_word}
use Rattle.bac6_materials.proofs.Chunks.{inside-truth, inside_index, inside_level}
use Rattle.bac6_materials.proofs.material.material_value.Goals as goal

pub returns-in-0 : goal.returns-in-0
unfolding inside_at material_kinds kind blend words onto word_list bytes in_word
returns-in-0 c = let e : c.args.k ≡ 0 = omega arith in rw e (close_word _ _ ("normal" ∷ "add" ∷ "sub" ∷ "half" ∷ []) _ refl c.one_of.ensures c.close.ensures)

pub returns-in-1-to-3 : goal.returns-in-1-to-3
unfolding truth words onto word_list bytes in_word
returns-in-1-to-3 c = rw (inside-truth c.args.k (λ z. omega arith) (omega arith)) (close_word _ _ ("false" ∷ "true" ∷ []) _ refl c.one_of-in-1-to-3.ensures c.close-in-1-to-3.ensures)

pub returns-in-4 : goal.returns-in-4
unfolding form_named
returns-in-4 c = rw (inside_index c.args.k (omega arith) (omega arith)) (close_join _ _ _ c.number.ensures c.close-in-4.ensures)

pub returns-in_default : goal.returns-in_default
unfolding form_named
returns-in_default c = rw (inside_level c.args.k (omega arith) c.requires) (close_join _ _ _ c.number-in_default.ensures c.close-in_default.ensures)
