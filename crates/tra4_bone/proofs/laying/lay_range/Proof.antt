-- `lay_range` is the definition: the part that is lent to `store` is the range's rows.
use mathlib.Core.Path.{◌≡◌, ap, ◌∙◌}
use mathlib.Core.List.{List}
use Prim.Native.Nat.{ℕ, ◌+◌, ◌*◌}
use native.Mathlib.Omega.{arith}
use borrow.Author.Rules.{rules}
use lib.IntN.{ℤ, pos, nat_abs}
use lib.ListN.{get_or, set}
use mir.Syntax.{w64}
use mir.Val.{to_z, of_z}
use Rattle.signed.proofs.Signed.{bits_pos, pos-fits}
use Rattle.table_rows.specs.Internal.Overlay.{overlay_at}
use Rattle.tra4_text.specs.Layout.{first_row}
use Rattle.tra4_bone.proofs.Ranges.{cast_is, cast_fits, part-is, first_small}
use Rattle.tra4_bone.proofs.laying.lay_range.Statement.{statement}
use Rattle.tra4_bone.proofs.laying.lay_range.Tie as tie

-- the two numbers, as the casts give them
first-is : (c : tie.After-first-1) → nat_abs (to_z w64 (of_z w64 (get_or c.args.ranges.now c.args.at (pos 0)))) ≡ nat_abs (get_or c.args.ranges.now c.args.at (pos 0))
first-is c = cast_is _ (record { sfits = c.first-1.given }) c.requires.1.first_is

count_is : (c : tie.After-count-1) → nat_abs (to_z w64 (of_z w64 (get_or c.args.ranges.now (c.args.at + 1) (pos 0)))) ≡ nat_abs (get_or c.args.ranges.now (c.args.at + 1) (pos 0))
count_is c = cast_is _ (record { sfits = c.count-1.given }) c.requires.1.count_is

mul-first : tie.Need-offset_bounds-ranges-at
mul-first c = search rules

slice-copy-out-first : tie.Need-slice_copy_out-first
slice-copy-out-first c = search rules

cast-first : tie.Need-overflow_cast-first
cast-first c = cast_fits _ (record { sfits = c.first-1.given }) c.requires.1.first_is

add-count : tie.Need-overflow_add-count
add-count c = search rules

mul-count : tie.Need-offset_bounds-ranges-at-2
mul-count c = search rules

slice-copy-out-count : tie.Need-slice_copy_out-count
slice-copy-out-count c = search rules

cast-count : tie.Need-overflow_cast-count
cast-count c = cast_fits _ (record { sfits = c.count-1.given }) c.requires.1.count_is

mul-from : tie.Need-overflow_mul-from
mul-from c = let e = first-is c.before in let b = c.requires.1.below in record { fits = omega arith }

mul-size : tie.Need-overflow_mul-size
mul-size c = let e = count_is c in let b = c.requires.1.below in record { fits = omega arith }

mul-store : tie.Need-overflow_mul-row
mul-store c = search rules

add-store : tie.Need-overflow_add-from
add-store c =
    let a = c.before in
    let e = first-is a.before in
    let f = count_is a in
    let b = a.requires.1.below in
    record { fits = omega arith }

mul-store-2 : tie.Need-offset_bounds-keys-from
mul-store-2 c = let e = first-is c.before.before in let b = c.requires.1.below in record { fits = omega arith }

sub-store : tie.Need-slice_bounds-store-count
sub-store c = search rules

part-store-start : tie.Need-slice_bounds-store-start
part-store-start c = search rules

part-store-end : tie.Need-slice_bounds-store-end
part-store-end c =
    let a = c.before in
    let e = first-is a.before in
    let f = count_is a in
    let b = a.requires.1.below in
    let l = a.requires.2 in
    omega arith

store-requires : tie.Need-store-requires
store-requires c κs = search rules

first-row-requires : tie.Need-first_row-requires
first-row-requires c κs = search rules

cast-ranges : tie.Need-overflow_cast-ranges
cast-ranges c =
    pos-fits _ (omega (arith, first_small _ _ _ c.first_row.ensures c.requires.3))

mul-t18 : tie.Need-offset_bounds-ranges-at-3
mul-t18 c = search rules

slice-set-from-ranges : tie.Need-bounds-ranges-at
slice-set-from-ranges c = search rules

add-result : tie.Need-overflow_add-result
add-result c =
    let a = c.before.before.before.before.before in
    let e = first-is a.before in
    let f = count_is a in
    let b = a.requires.1.below in
    let r = a.requires.3 in
    record { fits = omega arith }

same_length : tie.Need-shape_of-ranges
same_length c = search rules

same-length-2 : tie.Need-shape_of-table
same-length-2 c = search rules

returns : tie.Need-returns
returns c =
    let a = c.before.before.before.before.before in
    let s = a.before.before in
    let x = s.args in
    let r = s.requires.3 in (
      ap (λ (n : ℕ). x.row + n) (count_is a),
      (
        ap (λ (z : ℤ). set x.ranges.now x.at z) (bits_pos _ (omega (arith, first_small _ _ _ c.first_row.ensures r)) ∙ ap pos (c.first_row.ensures ∙ ap (first_row x.row) (count_is a))),
        c.store.ensures ∙ ap (λ (l : List ℤ). overlay_at (x.row * 2) l x.table.now) (part-is _ _ x.keys.now _ _ (first-is a.before) (count_is a)),
      ),
    )

pub lay_range_spec : {M : Type 1} → statement M
lay_range_spec = tie.close (tie.spec mul-first slice-copy-out-first cast-first add-count mul-count slice-copy-out-count cast-count mul-from mul-size mul-store add-store mul-store-2 sub-store part-store-start part-store-end store-requires first-row-requires cast-ranges mul-t18 slice-set-from-ranges add-result same_length same-length-2 returns)
