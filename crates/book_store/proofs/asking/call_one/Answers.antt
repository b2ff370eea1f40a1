-- The request is a candidate.
use Rattle.chem_model.specs.Numbered.{standing}
use Rattle.book_store.specs.declared.asking.Asking.{Asking}
use Rattle.book_store.proofs.AskLaws.{called_here}
use Rattle.book_store.proofs.asking.call_one.Goals as goal

pub returns-then-is_within-clause-called : goal.returns-then-is_within-clause-called
returns-then-is_within-clause-called c =
    let new : Asking = record c.args.asking.now { ready = c.add_candidate.new.candidates } in
    called_here (standing c.args.numbered.now.places) new c.args.of c.args.table.now c.args.id
    c.in-Some.atom.now c.root_of-site.result c.add_candidate.result c.in-Some.ensures
    c.root_of-site.ensures c.add_candidate.ensures.at_site c.add_candidate.ensures.at_place
