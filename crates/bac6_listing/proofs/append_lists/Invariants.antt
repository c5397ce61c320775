-- `append_lists` puts one list after the other: the lists left, put after what is put, give all of them.
use Rattle.std.proofs.Common.{◌≡◌, drop, map}
use Rattle.report_lists.specs.Lists.{reached}
use Rattle.report_lists.proofs.Texts.{all_listed}
use Rattle.bac6_listing.proofs.Rows.{list_of}
use Rattle.bac6_listing.proofs.append_lists.Given as goal

abbrev pub invariant-loop-word : goal.invariant-loop-word
invariant-loop-word l =
    all_listed (reached l.p l.buf l.table) (map list_of (drop l.word-index l.word-items))
    ≡ all_listed (reached l.initial.p l.initial.buf l.table) (map list_of l.word-items)
