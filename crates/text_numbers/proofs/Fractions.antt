-- The fraction that a word goes on with at an offset: found by the point and the run of digits after it.
use mathlib.Core.Path.{◌≡◌, refl, ap, sym, ◌∙◌}
use mathlib.Core.List.{List, [], ◌∷◌}
use Prim.Native.Nat.{ℕ, suc, ◌+◌, ◌≤◌, ◌<◌}
use native.Mathlib.Nat.{add-sub_cancel_left}
use native.Mathlib.Omega.{arith}
use borrow.Author.Tests.{eq-eqb, ne_eqb}
use lib.ListN.{length, drop, get_or, drop_of_length-le}
use lib.Seq.{drop-cons, drop-drop}
use Rattle.text_bytes.specs.Bytes.{is_digit}
use Rattle.text_runs.specs.Runs.{run, part}
use Rattle.text_runs.proofs.Runs.{run_take, run-within}
use Rattle.text_runs.proofs.Parts.{part_none}
use Rattle.text_numerals.specs.Numbers.{not_empty}
use Rattle.text_numbers.specs.Internal.Answers.{Fractional}
use Rattle.text_numerals.specs.Internal.Parts.{fraction_of}
use Rattle.text_numerals.proofs.Numerals.{not_empty_some}
use Rattle.text_numerals.proofs.Reading.{fraction_point, fraction_none, after_some, after_none}

-- where there is none, it is the empty part at the offset
pub no_fraction : (word : List ℕ) (at : ℕ) → at ≤ length word → fraction_of (drop at word) ≡ [] → Fractional word at record { from = at; last = at }
unfolding not_empty
no_fraction word at h e =
    record {
      order = omega arith;
      within = h;
      digits = part_none word at at (omega arith) ∙ sym e;
      after = sym (after_none (drop at word) (ap not_empty e));
    }

pub fraction_end : (word : List ℕ) (at : ℕ) → length word ≤ at → fraction_of (drop at word) ≡ []
unfolding fraction_of
fraction_end word at h = rw (drop_of_length-le word h)

pub fraction_other : (word : List ℕ) (at : ℕ) → at < length word → (get_or word at 0 ≡ 46 → ⊥) → fraction_of (drop at word) ≡ []
fraction_other word at h k = rw (drop-cons word at 0 h) (fraction_none _ _ (ne_eqb _ _ k))

-- a point, and digits up to `last`
module _ (word : List ℕ) (at last : ℕ) (h : at < length word) (p : get_or word at 0 ≡ 46) (l : last ≡ suc at + length (run is_digit (drop (suc at) word))) where
  digits-after : fraction_of (drop at word) ≡ run is_digit (drop (suc at) word)
  digits-after = rw (drop-cons word at 0 h) (fraction_point _ _ (eq-eqb _ _ p))

  pub fraction_bare : last ≡ suc at → fraction_of (drop at word) ≡ []
  fraction_bare k = digits-after ∙ none (run is_digit (drop (suc at) word)) (omega arith)
    where
      none : (bs : List ℕ) → length bs ≡ 0 → bs ≡ []
      none [] e = refl
      none (b ∷ bs) e = absurd (omega arith)

  sum : at + suc (length (run is_digit (drop (suc at) word))) ≡ suc at + length (run is_digit (drop (suc at) word))
  sum = omega arith

  pub fraction_digits : suc at < last → Fractional word at record { from = suc at; last = last }
  unfolding part
  fraction_digits k =
      record {
        order = omega arith;
        within = rw l (run-within is_digit word (suc at) h);
        digits = rw (digits-after, l, add-sub_cancel_left) (run_take is_digit (drop (suc at) word));
        after = sym (after_some (drop at word) (rw digits-after (not_empty_some (run is_digit (drop (suc at) word)) (omega arith))) ∙ rw (digits-after, drop-drop (suc (length (run is_digit (drop (suc at) word)))) at word) (ap (λ (k : ℕ). drop k word) (sum ∙ sym l)));
      }
