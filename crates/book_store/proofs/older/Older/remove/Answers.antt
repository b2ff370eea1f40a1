-- Its key alone goes.
use Rattle.std.proofs.Common.{◌≡◌, sym}
use Rattle.book_store.proofs.ByNumber.{atom_has}
use Rattle.book_store.proofs.KeptKeys.{rest_queued, keeps_but_all, but_here}
use Rattle.book_store.proofs.older.Older.remove.Goals as goal

pub invariant_of-self : goal.invariant_of-self
invariant_of-self c =
    let old = c.args.self.now.table in
    let ks = c.args.self.now.keys.keys in
    let new = c.forget_key.new.keys.keys in
    let out = c.in-Some.atom in
    let has : out.id ≡ c.args.id = atom_has old c.args.id out (sym c.in-Some.ensures.found) in
    record {
      queued = rest_queued old c.remove.new.self c.args.id ks new c.are_different.ensures
          c.remove.ensures.left (but_here c.args.id out.id ks new has c.forget_key.ensures.kept)
          c.args.self.now.queued;
    }

pub invariant_of-self-in-None : goal.invariant_of-self-in-None
invariant_of-self-in-None c =
    let old = c.args.self.now.table in
    let ks = c.args.self.now.keys.keys in
    record {
      queued = rest_queued old c.remove.new.self c.args.id ks ks c.are_different.ensures
          c.remove.ensures.left (keeps_but_all c.args.id ks) c.args.self.now.queued;
    }
