-- The rules that are filed at the channel of one message more were looked at.
use Rattle.std.specs.Option.{option_copied}
use Rattle.book_store.specs.Older.{whole}
use Rattle.trace_history.proofs.Looked.{none_so_far, next_so_far, newest_at_end}
use Rattle.trace_history.proofs.search.best_of_newest.Goals as goal

pub best_of_next-best-requires-clause-last : goal.best_of_next-best-requires-clause-last
best_of_next-best-requires-clause-last c = c.loop-atom.invariant.channel

pub loop-atom-init : goal.loop-atom-init
loop-atom-init c =
    none_so_far (whole c.args.sight.older.now.table c.args.sight.numbered.now) c.args.sight.from
    c.args.waiting.now c.as_slice-atom-items.result.now
    (option_copied c.best_of_rest-best.result)
    c.best_of_rest-best.ensures.better c.best_of_rest-best.ensures.passed

pub loop-atom-preserved : goal.loop-atom-preserved
loop-atom-preserved c =
    next_so_far (whole c.args.sight.older.now.table c.args.sight.numbered.now) c.args.sight.from
    c.args.waiting.now c.as_slice-atom-items.result.now
    c.loop-atom.atom-index c.loop-atom.last (option_copied c.loop-atom.best)
    (option_copied c.best_of_next-best.result) c.atom-item.result c.channel_of-channel.result
    c.loop-atom-test.true c.atom-item.is c.channel_of-channel.ensures.is
    c.best_of_next-best.ensures.better c.best_of_next-best.ensures.passed c.loop-atom.invariant

pub returns : goal.returns
returns c =
    newest_at_end (whole c.args.sight.older.now.table c.args.sight.numbered.now) c.args.sight.from
    c.args.waiting.now c.args.sight.numbered.now.atoms c.as_slice-atom-items.result.now
    c.loop-atom.atom-index c.loop-atom.last (option_copied c.loop-atom.best)
    c.as_slice-atom-items.ensures.members c.loop-atom-test.false c.loop-atom.invariant
