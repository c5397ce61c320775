-- `channel_keys` reads one key or more, and says where they stand, where there is room: by the laws of each branch.
use Rattle.std.proofs.Common.{◌<◌, ◌^◌, sym, arith}
use Rattle.std.proofs.lemmas.Result.{err_from_is_err_and}
use Rattle.text_bytes.specs.Bytes.{bytes}
use Rattle.signed.proofs.Signed.{bits_pos}
use Rattle.parse_numbers.specs.Internal.Answers.{form_named}
use Rattle.tra4_channels.proofs.Reading.{keys-refused, keys-over, keys-many, keys_more}
use Rattle.tra4_channels.proofs.channel.channel_keys.Goals as goal

pub returns-in_err-n : goal.returns-in_err-n
unfolding bytes form_named
returns-in_err-n c =
    let p = err_from_is_err_and c.from_residual.result c.from_residual.ensures.1 in
    rw (p.1, p.2) (keys-refused _ _ _ _ _ c.args.count c.requires.0 _ (sym (rw c.unwrap_or-row.ensures at c.in_err-n.ensures.meaning)) (c.args.ranges.now, c.args.keys.now))

pub returns-then-is_none : goal.returns-then-is_none
unfolding bytes form_named
returns-then-is_none c = keys-over _ _ _ _ _ c.args.count c.requires.0 _ _ _ (rw c.unwrap_or-row.ensures at c.in_ok-n.ensures.meaning) (rw (c.is_none.ensures, c.if-is_none.true))

pub returns-then-row-n : goal.returns-then-row-n
unfolding bytes form_named
returns-then-row-n c = keys-many _ _ _ _ _ c.args.count c.requires.0 _ _ _ (rw c.unwrap_or-row.ensures at c.in_ok-n.ensures.meaning) (rw (c.is_none.ensures, c.if-is_none.false)) (rw c.unwrap_or-row.ensures at c.if-row-n.true)

pub returns : goal.returns
unfolding bytes form_named
returns c =
    let first : c.unwrap_or-row.result < 2 ^ 63 = omega arith in
    let size : c.in_ok-n.n < 2 ^ 63 = omega arith in
    rw c.unwrap_or-row.ensures (keys_more _ _ _ _ _ c.args.count c.requires.0 _ _ _ (rw c.unwrap_or-row.ensures at c.in_ok-n.ensures.meaning) _ (rw (c.is_none.ensures, c.if-is_none.false)) (rw c.unwrap_or-row.ensures at c.if-row-n.false) (rw (bits_pos c.unwrap_or-row.result first, bits_pos c.in_ok-n.n size, c.unwrap_or-row.ensures) at c.store.ensures))
