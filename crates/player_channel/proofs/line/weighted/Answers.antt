-- `weighted` is the sum: each product and the sum fit 64 bits.
use Rattle.std.proofs.Common.{arith}
use Rattle.std.proofs.lemmas.Int.{to_z-of_z}
use Rattle.signed.proofs.Signed.{bits_pos}
use Rattle.player_channel.proofs.Sizes.{first_fits, second_fits, sum_fits}
use Rattle.player_channel.proofs.line.weighted.Goals as goal

pub overflow_mul-result : goal.overflow_mul-result
overflow_mul-result c =
    let a = c.args in
    let r = c.requires in
    rw (to_z-of_z _ _ c.ranges.v, bits_pos a.x (omega arith)) (first_fits a.v a.w a.x a.y r.0 r.1 r.2)

pub overflow_mul-result-2 : goal.overflow_mul-result-2
overflow_mul-result-2 c =
    let a = c.args in
    let r = c.requires in
    rw (to_z-of_z _ _ c.ranges.w, bits_pos a.y (omega arith)) (second_fits a.v a.w a.x a.y r.0 r.1 r.2)

pub overflow_add-result : goal.overflow_add-result
overflow_add-result c =
    let a = c.args in
    let r = c.requires in
    let f = to_z-of_z _ _ (first_fits a.v a.w a.x a.y r.0 r.1 r.2) in
    let g = to_z-of_z _ _ (second_fits a.v a.w a.x a.y r.0 r.1 r.2) in
    rw (to_z-of_z _ _ c.ranges.v, to_z-of_z _ _ c.ranges.w, bits_pos a.x (omega arith), bits_pos a.y (omega arith), f, g) (sum_fits a.v a.w a.x a.y r.0 r.1 r.2)

pub returns : goal.returns
returns c =
    let a = c.args in
    let r = c.requires in
    let f = to_z-of_z _ _ (first_fits a.v a.w a.x a.y r.0 r.1 r.2) in
    let g = to_z-of_z _ _ (second_fits a.v a.w a.x a.y r.0 r.1 r.2) in
    rw (to_z-of_z _ _ c.ranges.v, to_z-of_z _ _ c.ranges.w, bits_pos a.x (omega arith), bits_pos a.y (omega arith), f, g, to_z-of_z _ _ (sum_fits a.v a.w a.x a.y r.0 r.1 r.2))
