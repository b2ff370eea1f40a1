use Rattle.std.proofs.Common.{refl, sym, subst}
use Rattle.chem_causes.specs.declared.cause.Cause.{Cause}
use Rattle.chem_causes.specs.Cause.{IsCause}
use Rattle.book_store.specs.Older.{whole}
use Rattle.trace_history.proofs.causes.left_of.Goals as goal

pub returns : goal.returns
returns c =
    let n = whole c.args.older.now.table c.args.numbered.now in
    let found = c.found_of-ready.result in
    record {
      atom = refl;
      loc = refl;
      cause = subst (λ (d : Cause). IsCause n c.args.atom.now d) (sym c.cause_by.ensures)
          (c.causes_are_decided.ensures n
          c.requires.all c.args.atom.now c.requires.there c.is_live-live.result found.0 found.1
          c.is_live-live.ensures c.found_of-ready.ensures.ready c.found_of-ready.ensures.waited);
    }
