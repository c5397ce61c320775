-- A buffer that every figure's listing fits in.
use mathlib.Core.Path.{refl}
use mathlib.Core.List.{List}
use Prim.Native.Nat.{◌+◌, ◌*◌, ◌≤◌}
use native.Mathlib.Omega.{arith}
use lib.IntN.{ℤ}
use lib.ListN.{length}
use Rattle.text_bytes.specs.Bytes.{bytes}
use Rattle.report_lists.proofs.Texts.{AllFit, narrow}
use Rattle.report_lists.proofs.Listings.{listing-most}
use Rattle.bac6.specs.declared.setting.FigureAnswer.{FigureAnswer}
use Rattle.bac6_listing.specs.Figures.{figure_lists, figure_lines, figure_text}

-- 28 bytes for each number and for two more: 229,432 bytes with a table of 8,192 numbers
pub figure-most : (a : FigureAnswer) (zs : List ℤ) → AllFit zs → length (figure_text a zs) ≤ 28 * (length zs + 2)
unfolding figure_text figure_lines figure_lists bytes narrow
figure-most a zs fit = listing-most (bytes "figure") a.refusal a.place a.total (figure_lists a.counts) zs (omega arith) refl fit
