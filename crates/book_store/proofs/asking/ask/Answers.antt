-- What can't be met and waits for nothing never can be.
use Rattle.std.proofs.Common.{sym, ◌∙◌}
use Rattle.chem_model.specs.Numbered.{standing}
use Rattle.book_store.proofs.Resting.{rests}
use Rattle.book_store.proofs.AskLaws.{asked_never}
use Rattle.book_store.proofs.asking.ask.Goals as goal

pub returns-in-None-clause-asked : goal.returns-in-None-clause-asked
returns-in-None-clause-asked c =
    let n = c.args.numbered.now in
    asked_never n.version (standing n.places) c.args.asking.now c.args.atom.now c.in-None.ensures
    (rests n c.args.atom.now c.requires.there (sym c.can_act.ensures ∙ c.if-can_act.false))
