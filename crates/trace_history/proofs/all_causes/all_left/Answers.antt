use Rattle.std.proofs.Common.{refl}
use Rattle.book_store.specs.Older.{whole}
use Rattle.trace_history.proofs.CausesLaws.{sorted_of, left_all}
use Rattle.trace_history.proofs.all_causes.all_left.Goals as goal

pub file_older-requires-clause-sorted : goal.file_older-requires-clause-sorted
file_older-requires-clause-sorted c =
    sorted_of c.channels_tell_what_is_met.ensures (whole c.args.older.now.table c.args.numbered.now)
    c.args.numbered.now c.requires.all refl refl
    c.in_ok-met.met.keys.keys c.in_ok-met.ensures c.in_ok-sorted.sorted.waited.keys.keys
    c.in_ok-sorted.sorted.ready.keys.keys c.in_ok-sorted.ensures

pub file_newest-requires-clause-sorted : goal.file_newest-requires-clause-sorted
file_newest-requires-clause-sorted c =
    sorted_of c.channels_tell_what_is_met.ensures (whole c.args.older.now.table c.args.numbered.now)
    c.args.numbered.now c.requires.all refl refl
    c.in_ok-met.met.keys.keys c.in_ok-met.ensures c.in_ok-sorted.sorted.waited.keys.keys
    c.in_ok-sorted.sorted.ready.keys.keys c.in_ok-sorted.ensures

pub returns : goal.returns
returns c = left_all (whole c.args.older.now.table c.args.numbered.now)
    c.requires.all c.to_lefts.result c.file_newest.new.lefts c.to_lefts.ensures.same
    c.to_lefts.ensures.rising c.in_ok-file_newest.ensures
