use Rattle.std.proofs.Common.{refl, get_or}
use Rattle.site_turn.proofs.Dropping.{dropping_first, dropping_chan, dropping_next, dropped_all}
use Rattle.site_turn.proofs.picks.drop_fronts.Goals as goal

pub loop-chan-init : goal.loop-chan-init
loop-chan-init c =
    dropping_first c.args.group c.args.chans.now c.args.site.now c.requires.group c.requires.chans

pub drop_front-requires-clause-group : goal.drop_front-requires-clause-group
drop_front-requires-clause-group c = c.loop-chan.invariant.group

pub drop_front-requires-clause-chan : goal.drop_front-requires-clause-chan
drop_front-requires-clause-chan c =
    dropping_chan c.args.group c.args.chans.now c.loop-chan.chan-index c.args.site.now
    c.loop-chan.site (get_or c.args.chans.now c.loop-chan.chan-index 0) c.loop-chan-test.true refl
    c.loop-chan.invariant

pub loop-chan-preserved : goal.loop-chan-preserved
loop-chan-preserved c = dropping_next c.args.group c.args.chans.now c.loop-chan.chan-index
    c.args.site.now c.loop-chan.site (get_or c.args.chans.now c.loop-chan.chan-index 0)
    c.loop-chan-test.true refl c.loop-chan.invariant c.drop_front.new.site c.drop_front.ensures

pub returns : goal.returns
returns c = dropped_all c.args.group c.args.chans.now c.loop-chan.chan-index c.args.site.now
    c.loop-chan.site c.loop-chan-test.false c.loop-chan.invariant
