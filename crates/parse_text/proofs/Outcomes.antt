-- What a text's outcome is at each end of its reading: refused, or taken and set down where it fits.
use mathlib.Core.Path.{◌≡◌, refl, sym, ◌∙◌}
use mathlib.Core.List.{List}
use Prim.Native.Nat.{ℕ, ◌≤◌, ◌<◌}
use native.Mathlib.Omega.{arith}
use lib.ListN.{length}
use lib.IntN.{ℤ}
use borrow.Author.Tests.{le-leb, lt-leb}
use Rattle.text_check.specs.Faults.{Format, text_fault}
use Rattle.refusal.specs.Faults.{Fault, clear, fault}
use Rattle.text_tokens.specs.Tokens.{Lexeme, lex}
use Rattle.text_check.proofs.Strings.{text-passes}
use Rattle.parse_spec.specs.Readers.{Got, got, refused, Reader}
use Rattle.table_rows.specs.Internal.Overlay.{overlay_at}
use Rattle.refusal.specs.Outcomes.{Outcome, rejected, accepted, ruled, fitted, laid}
use Rattle.parse_text.specs.Texts.{shaped, checked, outcome}
use Rattle.table_rows.proofs.Chains.{overlay-whole}

-- ---- the check of the bytes

-- a text without a fault is not too long
pub text-short : (f : Format) (text : List ℕ) → text_fault f text ≡ clear → length text ≤ 65536
text-short f text e = (text-passes f text e).0

module _ {A : Type 0} (f : Format) (grammar : Reader A) (rules : A → Fault) (text : List ℕ) where
  pub text-refused : {n p : ℕ} → text_fault f text ≡ fault n p → outcome f grammar rules text ≡ rejected n p
  unfolding outcome checked
  text-refused e = rw e

  pub text-clear : text_fault f text ≡ clear → outcome f grammar rules text ≡ shaped rules (grammar (lex text))
  unfolding outcome checked
  text-clear e = rw e

-- ---- the shape and the rules

module _ {A : Type 0} (rules : A → Fault) {g : Got A} where
  pub shape-rejected : {n p : ℕ} → g ≡ refused n p → shaped rules g ≡ rejected n p
  unfolding shaped
  shape-rejected e = rw e

  pub rule-rejected : {a : A} {l : List Lexeme} {n p : ℕ} → g ≡ got a l → rules a ≡ fault n p → shaped rules g ≡ rejected n p
  unfolding shaped ruled
  rule-rejected e h = rw (e, h)

  pub all-taken : {a : A} {l : List Lexeme} → g ≡ got a l → rules a ≡ clear → shaped rules g ≡ accepted a
  unfolding shaped ruled
  all-taken e h = rw (e, h)

-- ---- the table

module _ {A : Type 0} (layout : A → List ℤ) where
  pub fitted-rejected : {o : Outcome A} {n p : ℕ} → o ≡ rejected n p → (room : ℕ) → fitted layout room o ≡ rejected n p
  unfolding fitted
  fitted-rejected e room = rw e

  pub fitted-room : (a : A) (room : ℕ) → length (layout a) ≤ room → fitted layout room (accepted a) ≡ accepted a
  unfolding fitted
  fitted-room a room h = rw (le-leb (length (layout a)) room h, fitted)

  pub fitted_short : (a : A) (room : ℕ) → room < length (layout a) → fitted layout room (accepted a) ≡ rejected 17 (length (layout a))
  unfolding fitted
  fitted_short a room h = rw (lt-leb (length (layout a)) room h, fitted)

  pub laid-rejected : {o : Outcome A} {n p : ℕ} → o ≡ rejected n p → (table : List ℤ) → table ≡ laid layout table o
  unfolding laid
  laid-rejected e table = rw e

  pub laid-accepted : (a : A) (table : List ℤ) → length (layout a) ≤ length table → overlay_at 0 (layout a) table ≡ laid layout table (accepted a)
  unfolding laid
  laid-accepted a table h = overlay-whole (layout a) table h

-- ---- back from a text that is taken

pub rejected_no : {A : Type 0} (n p : ℕ) (a : A) → rejected n p ≡ accepted a → ⊥
rejected_no n p a e = let z : ◌≡◌ {A = ℕ} 0 1 = cc in omega arith

-- it passes the refusals 1 to 4
pub accepted-clear : {A : Type 0} (f : Format) (grammar : Reader A) (rules : A → Fault) (layout : A → List ℤ) (text : List ℕ) (room : ℕ) (a : A) → fitted layout room (outcome f grammar rules text) ≡ accepted a → text_fault f text ≡ clear
accepted-clear f grammar rules layout text room a e = go (text_fault f text) refl
  where
    go : (v : Fault) → text_fault f text ≡ v → text_fault f text ≡ clear
    go clear o = o
    go (fault n p) o = absurd (rejected_no n p a (sym (fitted-rejected layout (text-refused f grammar rules text o) room) ∙ e))
