-- The line of one site more.
use Rattle.ring_source.specs.Ring.{site_text, ring_text}
use Rattle.ring_source.proofs.Loops.{next_number}
use Rattle.ring_source.proofs.ring.ring_text.Goals as goal

pub loop-i-preserved : goal.loop-i-preserved
loop-i-preserved c =
    next_number (site_text c.args.n) c.loop-i.text c.push_site.new.text (ring_text c.args.n)
    c.loop-i.i c.args.n c.loop-i-test.true c.in_ok-push_site.ensures c.loop-i.invariant
