-- A reply's line by whether there is a refusal, and how long it is at most.
use mathlib.Core.Path.{◌≡◌, refl, ap, sym, ◌∙◌}
use mathlib.Core.Bool.{Bool, true, false}
use mathlib.Core.List.{List, [], ◌∷◌, map}
use Prim.Native.Nat.{ℕ, ◌≤◌}
use native.Mathlib.Omega.{arith}
use borrow.Author.Tests.{eq-eqb, ne_eqb}
use lib.Dec.{eqb}
use lib.ListN.{length, take}
use lib.Seq.{length-take-le}
use Rattle.io.specs.Counts.{IsPrefixLen}
use Rattle.text_bytes.specs.Bytes.{bytes}
use Rattle.report_text.specs.Text.{line}
use Rattle.report_text.specs.Output.{output, appended}
use Rattle.report_lists.specs.Lists.{shown}
use Rattle.report_text.proofs.Appending.{within, filled_then}
use Rattle.report_lists.proofs.Texts.{counts-most}
use Rattle.pair_listing.specs.Lines.{reply_line}

module _ (refusal place file figure movement : ℕ) where
  abbrev reply : List ℕ
  reply = reply_line refusal place file figure movement

  reply-taken : eqb refusal 0 ≡ true → reply ≡ line (bytes "pair") (map shown (figure ∷ movement ∷ []))
  unfolding reply_line
  reply-taken e = rw (e, reply_line)

  reply-refused : eqb refusal 0 ≡ false → reply ≡ line (bytes "refused") (map shown (refusal ∷ place ∷ file ∷ []))
  unfolding reply_line
  reply-refused e = rw (e, reply_line)

  pub reply-most : length reply ≤ 71
  unfolding bytes
  reply-most = go (eqb refusal 0) refl
    where
      go : (v : Bool) → eqb refusal 0 ≡ v → length reply ≤ 71
      go true e = rw (reply-taken e) (omega (arith, counts-most (bytes "pair") (figure ∷ movement ∷ [])))
      go false e = rw (reply-refused e) (omega (arith, counts-most (bytes "refused") (refusal ∷ place ∷ file ∷ [])))

  -- what is said of how many bytes are filled and of the buffer
  abbrev Put : ℕ → List ℕ → List ℕ → Type 0
  Put m buf buf' = (output m buf' ≡ appended (output 0 buf) reply) × (IsPrefixLen m buf' × (71 ≤ length buf → take m buf' ≡ reply))

  put : (m : ℕ) (buf buf' : List ℕ) → output m buf' ≡ appended (output 0 buf) reply → Put m buf buf'
  put m buf buf' e =
      let w = (within 0 m buf buf' reply e (omega arith)).0 in
      (e, ((w, sym (length-take-le m buf' w)), λ h. filled_then 0 m buf buf' reply e (omega (arith, reply-most))))

  pub taken_put : (m : ℕ) (buf buf' : List ℕ) → refusal ≡ 0 → output m buf' ≡ appended (output 0 buf) (line (bytes "pair") (shown figure ∷ shown movement ∷ [])) → Put m buf buf'
  taken_put m buf buf' e p = put m buf buf' (p ∙ ap (appended (output 0 buf)) (sym (reply-taken (eq-eqb refusal 0 e))))

  pub refused_put : (m : ℕ) (buf buf' : List ℕ) → (refusal ≡ 0 → ⊥) → output m buf' ≡ appended (output 0 buf) (line (bytes "refused") (shown refusal ∷ shown place ∷ shown file ∷ [])) → Put m buf buf'
  refused_put m buf buf' e p = put m buf buf' (p ∙ ap (appended (output 0 buf)) (sym (reply-refused (ne_eqb refusal 0 e))))
