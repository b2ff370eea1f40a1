use Rattle.std.proofs.Common.{◌≡◌, ◌+◌, cond, Some, None, ap, sym, ◌∙◌, subst}
use Rattle.std.specs.Map.{values_of}
use Rattle.std.specs.BTreeMap.{insert_entry}
use Rattle.chem_model.specs.Bag.{one, bag}
use Rattle.chem_model.specs.NewNames.{coded_pair}
use Rattle.chem_model.specs.Numbered.{atom_pairs}
use Rattle.chem_model.specs.Apply.{same_atom, atom_at}
use Rattle.book_store.specs.inside.Table.{AreKeyed}
use Rattle.book_store.proofs.TableLaws.{pair_cmp, key_of, keyed_insert, lookup_insert, pairs_insert}
use Rattle.book_store.proofs.TableLaws.{either_way}
use Rattle.book_store.proofs.table.AtomTable.insert.Goals as goal

pub invariant_of-self : goal.invariant_of-self
invariant_of-self c =
    let old = c.self.inside.map.entries in
    let new = c.insert.new.self.entries in
    either_way c.insert.result (new ≡ insert_entry pair_cmp old (key_of c.args.atom.id) c.args.atom)
    (new ≡ old) (AreKeyed new) c.insert.ensures.entries c.insert.ensures.err
    (λ e. subst AreKeyed (sym e) (keyed_insert c.args.atom old c.self.invariant))
    (λ e. subst AreKeyed (sym e) c.self.invariant)

pub returns-in-Ok-clause-ok : goal.returns-in-Ok-clause-ok
returns-in-Ok-clause-ok c =
    let a = c.args.atom in
    let es = c.self.inside.map.entries in
    let none : atom_at (values_of es) a.id ≡ None =
    ap (λ l. atom_at l a.id) c.self.view_is ∙ c.requires in
    record {
      finds = λ i.
          ap (λ fs. atom_at (values_of fs) i) c.in-Ok.ensures.entries
          ∙ lookup_insert a es c.self.invariant none i
          ∙ ap (λ l. cond (same_atom a.id i) (Some a) (atom_at l i)) c.self.view_is;
      pairs = λ p.
          ap (λ fs. bag coded_pair (atom_pairs (values_of fs)) p) c.in-Ok.ensures.entries
          ∙ pairs_insert a es c.self.invariant none p
          ∙ ap (λ l. one coded_pair (a.id.site, a.id.k) p + bag coded_pair (atom_pairs l) p)
          c.self.view_is;
    }
