-- Reactions and detections leave all as it is.
use Rattle.std.proofs.Common.{sym, subst}
use Rattle.chem_model.specs.declared.event.Event.{Event}
use Rattle.book_store.specs.Stored.{IsStoredAfter}
use Rattle.book_store.proofs.EventLaws.{after_react, after_detect}
use Rattle.book_store.proofs.store.ready_for.Goals as goal

pub returns-in-React-clause-after : goal.returns-in-React-clause-after
returns-in-React-clause-after c =
    subst (λ (e : Event). IsStoredAfter c.args.solution.now e c.args.store.now)
    (sym c.in-React.is)
    (after_react c.args.solution.now c.args.store.now c.requires.sound c.in-React.rule
    c.in-React.took c.requires.stored)

pub returns-in-Detect-clause-after : goal.returns-in-Detect-clause-after
returns-in-Detect-clause-after c =
    subst (λ (e : Event). IsStoredAfter c.args.solution.now e c.args.store.now)
    (sym c.in-Detect.is)
    (after_detect c.args.solution.now c.args.store.now c.requires.sound c.in-Detect.atom
    c.requires.stored)
