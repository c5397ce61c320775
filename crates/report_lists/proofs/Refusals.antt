-- A refusal's line is short.
use mathlib.Core.List.{[], ◌∷◌}
use Prim.Native.Nat.{ℕ, ◌≤◌}
use native.Mathlib.Omega.{arith}
use lib.ListN.{length}
use Rattle.text_bytes.specs.Bytes.{bytes}
use Rattle.report_lists.specs.Lists.{shown}
use Rattle.report_lists.proofs.Texts.{AllFit, line-most, shown-fits}
use Rattle.report_lists.specs.Refusals.{refused_line}

pub refused-most : (n p : ℕ) → length (refused_line n p) ≤ 69
unfolding refused_line bytes AllFit
refused-most n p = omega (arith, line-most (bytes "refused") (shown n ∷ shown p ∷ []) (shown-fits n, (shown-fits p, tt)))
