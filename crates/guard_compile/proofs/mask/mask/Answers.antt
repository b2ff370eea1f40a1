use Rattle.std.proofs.Common.{◌+◌, drop, get_or}
use Rattle.guard_compile.proofs.Loops.{drop_number, bits_more}
use Rattle.guard_compile.proofs.mask.mask.Goals as goal

pub loop-channel-preserved : goal.loop-channel-preserved
loop-channel-preserved c =
    let items = c.as_slice-channel-items.result.now in
    let i = c.loop-channel.channel-index in
    bits_more c.loop-channel.words c.set.new.self (drop i items) (drop (i + 1) items)
    (get_or items i 0) _ (drop_number items i c.loop-channel-test.true) c.in_ok-set.ensures.ok
    c.loop-channel.invariant
