use Rattle.std.proofs.Common.{◌<◌, arith}
use Rattle.std.specs.HashMap as hash
use Rattle.std.specs.HashMap.{spare}
use Rattle.site_shelves.specs.inside.Index.{same_key, key_of}
use Rattle.site_shelves.proofs.Naming.{named-more, from_ok}
use Rattle.site_shelves.proofs.finding.name_queues.Goals as goal

pub loop-chan-preserved : goal.loop-chan-preserved
loop-chan-preserved c =
    let room = c.loop-chan.invariant.room in
    let wide = c.requires.room in
    let some : 0 < spare c.loop-chan.spots.marks = omega arith in
    let put = from_ok c.insert.result _ (c.insert.ensures.succeeds some) c.insert.ensures.updates in
    record {
      named = λ site k at. named-more c.args.first.site c.args.first.k c.args.home c.loop-chan.chan
          c.args.serial site k at (hash.get same_key c.args.spots.now.marks (key_of site k at))
          (hash.get same_key c.loop-chan.spots.marks (key_of site k at))
          (hash.get same_key c.insert.new.self (key_of site k at)) (put.0 (key_of site k at))
          (c.loop-chan.invariant.named site k at);
      room = omega (arith, c.insert.ensures.spare);
      serials = c.loop-chan.invariant.serials;
      next = c.loop-chan.invariant.next;
    }
