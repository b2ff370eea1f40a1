-- What can't be met waits for a failure, where it is filed, or never can be.
use Rattle.std.proofs.Common.{ℕ, inr, sym, ◌∙◌, subst}
use Rattle.chem_model.specs.Each.{IsIn}
use Rattle.chem_model.specs.Numbered.{standing}
use Rattle.book_store.specs.Keys.{Key}
use Rattle.book_store.specs.Asked.{atom_pair, KeepsAskingBut, KeepsAsking}
use Rattle.book_store.specs.declared.asking.Asking.{Asking}
use Rattle.book_store.proofs.Resting.{rests}
use Rattle.book_store.proofs.AskLaws.{older_atom, older_differ, keeps_ready, are_asked_kept}
use Rattle.book_store.proofs.AskLaws.{asked_again, asked_filed, asked_never}
use Rattle.book_store.proofs.asking.judge_again.Goals as goal

pub returns-in-Ok : goal.returns-in-Ok
returns-in-Ok c =
    let n = c.args.numbered.now in
    let old = c.args.asking.now in
    let new : Asking =
    record { awaits = c.add_key.new.keys; ready = c.drop_candidate.new.candidates } in
    let atoms = c.args.table.now in
    let a = c.args.atom.now in
    let kept : KeepsAskingBut a.id old new = record {
      awaits = λ k at. inr (c.in-Ok.ensures.kept k at);
      sites = c.drop_candidate.ensures.sites;
      places = c.drop_candidate.ensures.places;
    } in
    asked_again n.version (standing n.places) old new atoms a
    (older_differ n atoms c.requires.sound) c.requires.there kept c.requires.asked
    (asked_filed n.version (standing n.places) new a c.in-Some.of c.in-Some.ensures
    (rests n a (older_atom n atoms a c.requires.sound c.requires.there)
    (sym c.can_act.ensures ∙ c.if-can_act.false))
    (subst (λ (m : ℕ). IsIn {X = Key} (m, atom_pair a.id) c.add_key.new.keys.keys)
    c.place_number.ensures.is c.in-Ok.ensures.there))

pub returns-in-Err : goal.returns-in-Err
returns-in-Err c =
    let n = c.args.numbered.now in
    let old = c.args.asking.now in
    let new : Asking = record { awaits = c.add_key.new.keys; ready = old.ready } in
    let kept : KeepsAsking old new =
    record { awaits = c.in-Err.ensures.kept; ready = keeps_ready old.ready } in
    are_asked_kept n.version (standing n.places) old new kept c.args.table.now c.requires.asked

pub returns-in-None : goal.returns-in-None
returns-in-None c =
    let n = c.args.numbered.now in
    let old = c.args.asking.now in
    let new : Asking =
    record { awaits = old.awaits; ready = c.drop_candidate-in-None.new.candidates } in
    let atoms = c.args.table.now in
    let a = c.args.atom.now in
    let kept : KeepsAskingBut a.id old new = record {
      awaits = λ k at. inr at;
      sites = c.drop_candidate-in-None.ensures.sites;
      places = c.drop_candidate-in-None.ensures.places;
    } in
    asked_again n.version (standing n.places) old new atoms a
    (older_differ n atoms c.requires.sound) c.requires.there kept c.requires.asked
    (asked_never n.version (standing n.places) new a c.in-None.ensures
    (rests n a (older_atom n atoms a c.requires.sound c.requires.there)
    (sym c.can_act.ensures ∙ c.if-can_act.false)))
