-- A key that stands for no request at its site isn't needed.
use Rattle.std.proofs.Common.{sym}
use Rattle.chem_model.specs.Numbered.{standing}
use Rattle.book_store.specs.declared.asking.Asking.{Asking}
use Rattle.book_store.proofs.ByNumber.{found_in}
use Rattle.book_store.proofs.AskLaws.{id_of, older_differ, asked_elsewhere, at_other_site}
use Rattle.book_store.proofs.AskLaws.{at_no_site}
use Rattle.book_store.proofs.asking.look_again.Goals as goal

pub judge_again-requires-clause-there : goal.judge_again-requires-clause-there
judge_again-requires-clause-there c =
    found_in c.args.table.now (id_of c.args.key.1) c.in-Some.atom.now (sym c.in-Some.ensures)

pub returns-else-site-key : goal.returns-else-site-key
returns-else-site-key c =
    let n = c.args.numbered.now in
    let old = c.args.asking.now in
    let atoms = c.args.table.now in
    let new : Asking = record {
      awaits = old.awaits;
      ready = record { sites = c.drop_key.new.keys; places = old.ready.places };
    } in
    asked_elsewhere n.version (standing n.places) old new atoms c.args.key
    (older_differ n atoms c.requires.sound) (λ k at. at) c.drop_key.ensures.kept (λ k at. at)
    (at_other_site (standing n.places) atoms c.args.key c.in-Some.atom.now c.root_of-site.result
    c.in-Some.ensures c.root_of-site.ensures c.if-site-key.false) c.requires.asked

pub returns-in-None : goal.returns-in-None
returns-in-None c =
    let n = c.args.numbered.now in
    let old = c.args.asking.now in
    let atoms = c.args.table.now in
    let new : Asking = record {
      awaits = old.awaits;
      ready = record { sites = c.drop_key-in-None.new.keys; places = old.ready.places };
    } in
    asked_elsewhere n.version (standing n.places) old new atoms c.args.key
    (older_differ n atoms c.requires.sound) (λ k at. at) c.drop_key-in-None.ensures.kept
    (λ k at. at) (at_no_site (standing n.places) atoms c.args.key c.in-None.ensures)
    c.requires.asked
