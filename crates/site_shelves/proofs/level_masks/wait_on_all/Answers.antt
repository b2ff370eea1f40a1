use Rattle.std.proofs.Common.{◌+◌, drop, inr, arith}
use Rattle.site_shelves.proofs.Drops.{drop-here}
use Rattle.site_shelves.proofs.Walked.{drop-past}
use Rattle.site_shelves.proofs.WaitLemmas.{waits-next, waits-all}
use Rattle.site_shelves.proofs.level_masks.wait_on_all.Goals as goal

pub loop-chan-init : goal.loop-chan-init
loop-chan-init c = record { yet = λ d e. inr e; kept = λ d i e. e }

pub loop-chan-preserved : goal.loop-chan-preserved
loop-chan-preserved c =
    let i = c.loop-chan.chan-index in
    let inv = c.loop-chan.invariant in
    record {
      yet = waits-next c.loop-chan.waits.items c.wait_on.new.waits.items c.args.place
          c.args.chans.now (drop i c.args.chans.now) (drop (i + 1) c.args.chans.now) _
          (drop-here c.args.chans.now i 0 c.loop-chan-test.true) inv.yet
          c.in_ok-wait_on.ensures.kept c.in_ok-wait_on.ensures.here;
      kept = λ d n e. c.in_ok-wait_on.ensures.kept d n (inv.kept d n e);
    }

pub returns-in_err-wait_on-clause-kept : goal.returns-in_err-wait_on-clause-kept
returns-in_err-wait_on-clause-kept c = λ d n e.
    c.in_err-wait_on.ensures.kept d n (c.loop-chan.invariant.kept d n e)

pub returns-clause-here : goal.returns-clause-here
returns-clause-here c =
    waits-all c.loop-chan.waits.items c.args.place c.args.chans.now
    (drop c.loop-chan.chan-index c.args.chans.now)
    (drop-past c.args.chans.now c.loop-chan.chan-index (omega (arith, c.loop-chan-test.false)))
    c.loop-chan.invariant.yet
