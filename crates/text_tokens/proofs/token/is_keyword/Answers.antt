-- `is_keyword` is the definition at each kind.
use Rattle.std.proofs.Common.{◌≡◌, ℕ, List, true, false, refl, sym, ap, ◌∙◌}
use denote.Enum.Bare.{sameb}
use Rattle.text_tokens.specs.contracts.token.Kind.{the_type}
use Rattle.text_tokens.specs.declared.token.Kind.{Kind}
use Rattle.text_tokens.specs.declared.token.Kind.TheVariants.{Opening, Closing, Quoted, Plain, Ending}
use Rattle.text_runs.specs.Runs.{part, same}
use Rattle.text_tokens.specs.Tokens.{is_keyword, lexeme}
use Rattle.text_tokens.specs.Internal.Answers.{lexeme_of, token_of, held_bytes}
use Rattle.text_tokens.proofs.token.is_keyword.Goals as goal

module _ (text w : List ℕ) (start end n : ℕ) where
  word : (k : Kind) → sameb the_type k Plain ≡ true → same (part text start end) w ≡ is_keyword w (token_of k (held_bytes text k start end n))
  unfolding is_keyword token_of held_bytes
  word Plain e = refl
  word Opening e = cc
  word Closing e = cc
  word Quoted e = cc
  word Ending e = cc

  no-word : (k : Kind) → sameb the_type k Plain ≡ false → false ≡ is_keyword w (token_of k (held_bytes text k start end n))
  unfolding is_keyword token_of held_bytes
  no-word Plain e = cc
  no-word Opening e = refl
  no-word Closing e = refl
  no-word Quoted e = refl
  no-word Ending e = refl

pub returns-then-eq : goal.returns-then-eq
unfolding lexeme_of lexeme
returns-then-eq c =
    let t = c.args.t in
    c.same.ensures ∙ ap (λ (l : List ℕ). same l c.args.keyword.now) c.part.ensures
    ∙ word c.args.text.now c.args.keyword.now t.start t.end t.length t.kind (sym c.eq.ensures ∙ c.if-eq.true)

pub returns-else-eq : goal.returns-else-eq
unfolding lexeme_of lexeme
returns-else-eq c =
    let t = c.args.t in
    c.if-eq.false ∙ no-word c.args.text.now c.args.keyword.now t.start t.end t.length t.kind (sym c.eq.ensures ∙ c.if-eq.false)
