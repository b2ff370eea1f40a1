-- All members were looked at.
use Rattle.std.proofs.Common.{List, ap, sym, ◌∙◌}
use Rattle.std.specs.Option.{option_copied}
use Rattle.std.proofs.lemmas.List.{drop_all}
use Rattle.chem_model.specs.declared.numbered.NumberedAtom.{NumberedAtom}
use Rattle.trace_history.specs.inside.Search.{first_of}
use Rattle.chem_causes.specs.Ready.{receives}
use Rattle.book_store.specs.Older.{atom_before}
use Rattle.trace_history.proofs.search.least_of.Goals as goal

pub returns : goal.returns
returns c = sym c.loop-atom.invariant
    ∙ ap (λ (l : List NumberedAtom).
    first_of (receives c.args.at c.args.pat.now) atom_before (option_copied c.loop-atom.least) l)
    (drop_all c.loop-atom.atom-index c.args.atoms.now c.loop-atom-test.false)
