-- A request has no key, and the messages keep theirs.
use Rattle.std.proofs.Common.{◌≡◌, true}
use Rattle.book_store.specs.Older.{are_queued}
use Rattle.book_store.specs.inside.Table.{Adds}
use Rattle.book_store.proofs.TableLaws.{either_way}
use Rattle.book_store.proofs.KeptKeys.{request_queued, queued_same}
use Rattle.book_store.proofs.older.Older.add_request.Goals as goal

pub invariant_of-self : goal.invariant_of-self
invariant_of-self c =
    let old = c.args.self.now.table in
    let now = c.insert.new.self in
    let ks = c.args.self.now.keys.keys in
    record {
      queued = either_way c.insert.result (Adds c.args.atom old now) (now ≡ old)
          (are_queued now ks ≡ true) c.insert.ensures.ok c.insert.ensures.err
          (λ adds. request_queued old now c.args.atom ks c.are_different.ensures
          c.requires.absent c.requires.channel adds c.args.self.now.queued)
          (λ same. queued_same old now ks same c.args.self.now.queued);
    }
