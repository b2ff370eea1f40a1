-- The message has its key, and the others keep theirs.
use Rattle.std.proofs.Common.{◌≡◌, true}
use Rattle.book_store.specs.Older.{are_queued}
use Rattle.book_store.specs.inside.Table.{Adds}
use Rattle.book_store.proofs.TableLaws.{either_way}
use Rattle.book_store.proofs.KeptKeys.{message_queued, queued_same, queued_kept}
use Rattle.book_store.proofs.older.Older.add_message.Goals as goal

pub invariant_of-self : goal.invariant_of-self
invariant_of-self c = record {
  queued = queued_kept c.args.self.now.table c.args.self.now.keys.keys c.add_key.new.keys.keys
      c.in_err-add_key.ensures.kept c.args.self.now.queued;
}

pub invariant_of-self-2 : goal.invariant_of-self-2
invariant_of-self-2 c =
    let old = c.args.self.now.table in
    let now = c.insert.new.self in
    let ks = c.args.self.now.keys.keys in
    let new = c.add_key.new.keys.keys in
    let added = c.in_ok-add_key.ensures in
    record {
      queued = either_way c.insert.result (Adds c.args.atom old now) (now ≡ old)
          (are_queued now new ≡ true) c.insert.ensures.ok c.insert.ensures.err
          (λ adds. message_queued old now c.args.atom c.args.channel ks new
          c.are_different.ensures c.requires.absent c.requires.channel adds added.kept
          added.there c.args.self.now.queued)
          (λ same. queued_same old now new same
          (queued_kept old ks new added.kept c.args.self.now.queued));
    }
