-- `float` is the definition, by the laws of a word read from left to right at each return.
use Rattle.std.proofs.Common.{◌≡◌, ◌+◌, ◌-◌, ℕ, List, suc, drop, take, length, sym, ap, ◌∙◌, arith}
use Rattle.text_runs.specs.Runs.{part}
use Rattle.text_numerals.specs.Numbers.{Number, FLOAT, number_of, float_of, exponent_of, times_power}
use Rattle.text_numbers.specs.declared.number.Leading.{Leading}
use Rattle.text_numbers.specs.declared.number.Fraction.{Fraction}
use Rattle.text_numbers.specs.Internal.Answers.{number_named, Leads, Fractional}
use Rattle.text_numerals.specs.Internal.Parts.{ends_in, whole_in}
use Rattle.text_numerals.proofs.Numerals.{lead_all}
use Rattle.text_numerals.proofs.Reading.{lead_none, lead_float, fraction_all, ends_end, ends-other, ends_exponent, rest-after}
use Rattle.text_numerals.proofs.Raised.{float_within, exponent_whole, exponent_within}
use Rattle.text_numbers.proofs.number.float.Goals as goal

-- what is known once the mantissa is read
read : (word : List ℕ) (n : Leading) (f : Fraction) (m : Number) → Leads word n → Fractional word n.end f → (n.end ≡ n.start → ⊥) → m ≡ float_of n.negative (part word n.start n.end) (part word f.from f.last) → number_of FLOAT word ≡ ends_in m (drop f.last word)
read word n f m l d some e = rw (e, l.sign, d.digits, d.after) (lead_float word n.start n.end l.digits l.ends (omega (arith, l.order)))

-- the exponent
powered : (word : List ℕ) (last : ℕ) (e : Number) → e ≡ whole_in 1 6 6 (take (length word - (last + 1)) (drop (last + 1) word)) → e ≡ exponent_of (drop (suc last) word)
powered word last e h = h ∙ exponent_whole _ ∙ ap exponent_of (rest-after word last)

pub returns-then-n : goal.returns-then-n
unfolding number_named
returns-then-n c = let l = c.lead-n.ensures in sym (lead_none _ _ _ l.digits l.ends c.if-n.true)

pub float_of-mantissa-requires-clause-digits_all : goal.float_of-mantissa-requires-clause-digits_all
unfolding part
float_of-mantissa-requires-clause-digits_all c = let l = c.lead-n.ensures in lead_all _ _ _ l.digits l.ends

pub float_of-mantissa-requires-clause-fraction_all : goal.float_of-mantissa-requires-clause-fraction_all
unfolding part
float_of-mantissa-requires-clause-fraction_all c = rw c.fraction_at-f.ensures.digits (fraction_all _)

pub returns-then-word-last : goal.returns-then-word-last
unfolding part
returns-then-word-last c =
    sym (read _ _ _ _ c.lead-n.ensures c.fraction_at-f.ensures c.if-n.false c.float_of-mantissa.ensures ∙ ends_end _ _ _ c.if-word-last.true)

pub returns-then-word-last-ne101 : goal.returns-then-word-last-ne101
unfolding number_named part
returns-then-word-last-ne101 c =
    sym (read _ _ _ _ c.lead-n.ensures c.fraction_at-f.ensures c.if-n.false c.float_of-mantissa.ensures ∙ ends-other _ _ _ c.if-word-last.false c.if-word-last-ne101.true)

pub times_power-requires-clause-n_value : goal.times_power-requires-clause-n_value
unfolding part
times_power-requires-clause-n_value c =
    let l = c.lead-n.ensures in
    rw c.float_of-mantissa.ensures (float_within _ _ _ (lead_all _ _ _ l.digits l.ends) (rw c.fraction_at-f.ensures.digits (fraction_all _)))

pub times_power-requires-clause-exponent_value : goal.times_power-requires-clause-exponent_value
times_power-requires-clause-exponent_value c = rw (powered c.args.word.now c.fraction_at-f.result.last (number_named c.whole.result) c.whole.ensures) (exponent_within _)

pub returns : goal.returns
unfolding part
returns c =
    c.times_power.ensures ∙ ap (times_power (number_named c.float_of-mantissa.result)) (powered c.args.word.now c.fraction_at-f.result.last (number_named c.whole.result) c.whole.ensures)
    ∙ sym (read _ _ _ _ c.lead-n.ensures c.fraction_at-f.ensures c.if-n.false c.float_of-mantissa.ensures ∙ ends_exponent _ _ _ c.if-word-last.false c.if-word-last-ne101.false)
