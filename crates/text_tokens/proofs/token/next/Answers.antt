-- Each step by the law of the tokens at a byte of its class.
use Rattle.std.proofs.Common.{◌≡◌, ◌+◌, ◌<◌, ℕ, List, suc, length, drop, get_or, refl, sym, ap, ◌∙◌, arith, rules, add-one}
use mathlib.Core.Logic.{◌⊎◌, ⊎_elim}
use Rattle.text_bytes.specs.declared.bytes.Class.{Class}
use Rattle.text_bytes.specs.declared.bytes.Class.TheVariants.{Blank, Other}
use Rattle.text_bytes.specs.Bytes.{class_of, in_line}
use Rattle.text_bytes.specs.Internal.Answers.{class_named}
use Rattle.text_runs.specs.Runs.{run}
use Rattle.text_runs.specs.Internal.Answers.{test_named}
use Rattle.text_tokens.specs.Tokens.{lex_at, opening, closing, width_of, bytes_of}
use Rattle.text_tokens.specs.Internal.Answers.{kind_of}
use Rattle.text_tokens.proofs.Lexing.{lex_at-blank, lex_at-other, lex_at-comment}
use Rattle.text_tokens.proofs.Spans.{spanned, next_opening, next_closing, next_ending, next_earlier}
use Rattle.text_tokens.proofs.token.next.Goals as goal

-- the byte's class, by name
named : (b : ℕ) (r v : Class) → class_named r ≡ class_of b → r ≡ v → class_of b ≡ class_named v
named b r v c e = sym c ∙ ap class_named e

-- a byte that is passed over alone
passed : (text : List ℕ) (i : ℕ) (r : Class) → i < length text → class_named r ≡ class_of (get_or text i 0) → (r ≡ Blank) ⊎ (r ≡ Other) → lex_at text i ≡ lex_at text (i + 1)
unfolding class_named
passed text i r h c e = ⊎_elim (λ b. lex_at-blank text i h (named (get_or text i 0) r Blank c b)) (λ o. lex_at-other text i h (named (get_or text i 0) r Other c o)) e

pub loop-i-preserved-in-Blank : goal.loop-i-preserved-in-Blank
loop-i-preserved-in-Blank c =
    (c.loop-i.invariant.0 ∙ passed c.args.text.now c.loop-i.i c.class_of.result c.loop-i-test.true c.class_of.ensures c.in-Blank.is, search rules)

pub loop-i-preserved : goal.loop-i-preserved
unfolding class_named test_named
loop-i-preserved c =
    let i = c.loop-i.i in
    let end : c.run_end-i.result ≡ suc i + length (run in_line (drop (suc i) c.args.text.now)) = rw (← add-one i) c.run_end-i.ensures in
    (c.loop-i.invariant.0 ∙ rw end (lex_at-comment _ _ c.loop-i-test.true (named _ _ _ c.class_of.ensures c.in-Semicolon.is)), search rules)

pub returns-in-Opener : goal.returns-in-Opener
unfolding class_named kind_of width_of bytes_of
returns-in-Opener c =
    let l = c.loop-i in
    next_earlier _ _ l.i _ l.invariant.0 l.invariant.1
    (spanned _ l.i opening _ _ _ refl (omega arith) refl (next_opening _ l.i c.loop-i-test.true (named _ _ _ c.class_of.ensures c.in-Opener.is)))

pub returns-in-Closer : goal.returns-in-Closer
unfolding class_named kind_of width_of bytes_of
returns-in-Closer c =
    let l = c.loop-i in
    next_earlier _ _ l.i _ l.invariant.0 l.invariant.1
    (spanned _ l.i closing _ _ _ refl (omega arith) refl (next_closing _ l.i c.loop-i-test.true (named _ _ _ c.class_of.ensures c.in-Closer.is)))

pub quoted-requires-clause-at_value : goal.quoted-requires-clause-at_value
unfolding class_named
quoted-requires-clause-at_value c = named _ _ _ c.class_of.ensures c.in-Quote.is

pub returns-in-Quote : goal.returns-in-Quote
returns-in-Quote c = let l = c.loop-i in next_earlier _ _ l.i _ l.invariant.0 l.invariant.1 c.quoted.ensures

pub plain-requires-clause-at_value : goal.plain-requires-clause-at_value
unfolding class_named
plain-requires-clause-at_value c = named _ _ _ c.class_of.ensures c.in-Letter.is

pub returns-in-Letter : goal.returns-in-Letter
returns-in-Letter c = let l = c.loop-i in next_earlier _ _ l.i _ l.invariant.0 l.invariant.1 c.plain.ensures

pub returns : goal.returns
returns c = let l = c.loop-i in next_earlier _ _ l.i _ l.invariant.0 l.invariant.1 (next_ending _ l.i c.loop-i-test.false)
