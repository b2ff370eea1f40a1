use Rattle.std.proofs.Common.{ap, ◌∙◌}
use Rattle.chem_model.specs.Apply.{atom_at}
use Rattle.book_store.proofs.TableLaws.{lookup_atom}
use Rattle.book_store.proofs.table.AtomTable.get.Goals as goal

pub returns : goal.returns
returns c = c.get.ensures.value ∙ lookup_atom c.args.id c.self.inside.map.entries c.self.invariant
    ∙ ap (λ l. atom_at l c.args.id) c.self.view_is
