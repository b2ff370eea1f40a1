use Rattle.std.proofs.Common.{refl}
use Rattle.std.specs.HashMap as hash
use Rattle.site_shelves.specs.inside.Index.{same_key, key_of}
use Rattle.site_shelves.proofs.Left.{none-forgotten, one-forgotten}
use Rattle.site_shelves.proofs.forgetting.forget_queues.Goals as goal

pub loop-chan-init : goal.loop-chan-init
loop-chan-init c = record {
  named = λ site k at. none-forgotten c.args.first.site c.args.first.k site k c.args.home at
      (hash.get same_key c.args.spots.now.marks (key_of site k at));
  serials = refl;
  next = refl;
}

pub loop-chan-preserved : goal.loop-chan-preserved
loop-chan-preserved c = record {
  named = λ site k at. one-forgotten c.args.first.site c.args.first.k c.loop-chan.chan site k
      c.args.home at (hash.get same_key c.args.spots.now.marks (key_of site k at))
      (hash.get same_key c.loop-chan.spots.marks (key_of site k at))
      (hash.get same_key c.remove.new.self (key_of site k at))
      (c.remove.ensures.updates.0 (key_of site k at)) (c.loop-chan.invariant.named site k at);
  serials = c.loop-chan.invariant.serials;
  next = c.loop-chan.invariant.next;
}
