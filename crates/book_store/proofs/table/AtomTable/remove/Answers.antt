use Rattle.std.proofs.Common.{ap, sym, ◌∙◌, subst}
use Rattle.std.specs.Map.{values_of}
use Rattle.chem_model.specs.Apply.{atom_at, without}
use Rattle.book_store.specs.inside.Table.{AreKeyed}
use Rattle.book_store.proofs.TableLaws.{lookup_atom, values_without, keyed_without}
use Rattle.book_store.proofs.table.AtomTable.remove.Goals as goal

pub invariant_of-self : goal.invariant_of-self
invariant_of-self c = subst AreKeyed (sym c.remove.ensures.entries)
    (keyed_without c.args.id c.self.inside.map.entries c.self.invariant)

pub returns-clause-found : goal.returns-clause-found
returns-clause-found c =
    c.remove.ensures.value ∙ lookup_atom c.args.id c.self.inside.map.entries c.self.invariant
    ∙ ap (λ l. atom_at l c.args.id) c.self.view_is

pub returns-clause-left : goal.returns-clause-left
returns-clause-left c = ap values_of c.remove.ensures.entries
    ∙ values_without c.args.id c.self.inside.map.entries c.self.invariant
    ∙ ap (without c.args.id) c.self.view_is
