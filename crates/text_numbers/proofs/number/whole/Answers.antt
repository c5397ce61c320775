-- `whole` is the definition, by the laws of a word's digits at each return.
use Rattle.std.proofs.Common.{◌≡◌, ◌<◌, ◌≤◌, ◌-◌, ◌^◌, ℕ, Bool, true, false, List, cond, length, sym, ◌∙◌, arith}
use Rattle.std.proofs.Math.Nat.{lt_of_le_of_lt}
use Rattle.text_runs.specs.Runs.{part}
use Rattle.text_numerals.specs.Numbers.{whole_of}
use Rattle.text_numbers.specs.declared.number.Leading.{Leading}
use Rattle.text_numbers.specs.Internal.Answers.{number_named, Leads}
use Rattle.text_numerals.specs.Internal.Parts.{whole_in}
use Rattle.text_runs.proofs.Parts.{part-whole}
use Rattle.text_numerals.proofs.Numerals.{lead_all, whole_none, whole_more, whole-all, whole_long, whole_large, whole-value}
use Rattle.text_numbers.proofs.Signed.{signed_back}
use Rattle.text_numbers.proofs.number.whole.Goals as goal
use Rattle.text_numbers.proofs.number.whole.Goals.{then-n-via-then-n, then-n-via-else-n+then-n-word}

-- a word of digits alone
digits : (word : List ℕ) (n : Leading) (ds most least : ℕ) → Leads word n → (n.end ≡ n.start → ⊥) → length word ≤ n.end → whole_in ds most least word ≡ whole_of ds (cond n.negative least most) n.negative (part word n.start n.end)
digits word n ds most least l some all = rw l.sign (whole-all _ _ _ l.digits l.ends _ _ _ (omega (arith, l.order)) all)

count : (word : List ℕ) (n : Leading) → Leads word n → length (part word n.start n.end) ≡ n.end - n.start
count word n l = part-whole _ _ _ l.within

-- either bound is small
small : (s : Bool) (least most n : ℕ) → most < n → least < n → cond s least most < n
small true least most n p q = q
small false least most n p q = p

pub returns-then-n : goal.returns-then-n
unfolding number_named
returns-then-n c = let l = c.lead-n.ensures in elim c.then-n.branch [
  | then-n-via-then-n w ↦ sym (whole_none _ _ _ l.digits l.ends _ _ _ w.if-n.true)
  | then-n-via-else-n+then-n-word w ↦ sym (whole_more _ _ _ l.digits l.ends _ _ _ w.if-n-word.true)
]

pub returns-then-digits-n : goal.returns-then-digits-n
unfolding number_named
returns-then-digits-n c =
    let l = c.lead-n.ensures in
    sym (digits _ _ _ _ _ l c.if-n.false c.if-n-word.false ∙ whole_long _ _ _ _ (rw (count _ _ l) c.if-digits-n.true))

pub decimal-value-requires-clause-all : goal.decimal-value-requires-clause-all
unfolding part
decimal-value-requires-clause-all c = let l = c.lead-n.ensures in lead_all _ _ _ l.digits l.ends

pub returns-then-greatest-value : goal.returns-then-greatest-value
unfolding number_named part
returns-then-greatest-value c =
    let l = c.lead-n.ensures in
    sym (digits _ _ _ _ _ l c.if-n.false c.if-n-word.false ∙ whole_large _ _ _ _ (rw (count _ _ l) c.if-digits-n.false) (rw (← c.greatest.ensures, ← c.decimal-value.ensures) c.if-greatest-value.true))

pub returns : goal.returns
unfolding number_named part
returns c =
    let l = c.lead-n.ensures in
    let a = c.args in
    let e = rw c.greatest.ensures at c.if-greatest-value.false in
    let h = lt_of_le_of_lt e (small c.lead-n.result.negative a.least a.most (2 ^ 63) c.requires.1 c.requires.2) in
    rw (c.with_sign.ensures, signed_back c.lead-n.result.negative c.decimal-value.result h, c.decimal-value.ensures)
    (sym (digits _ _ _ _ _ l c.if-n.false c.if-n-word.false ∙ whole-value _ _ _ _ (rw (count _ _ l) c.if-digits-n.false) (rw c.decimal-value.ensures at e)))
