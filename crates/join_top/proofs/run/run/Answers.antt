-- What the run leaves, in the words of its book.
use Rattle.std.proofs.Common.{List, sym, subst}
use Rattle.chem_model.specs.declared.event.Event.{Event}
use Rattle.chem_model.specs.ProgramFacts.{ProgramTerms}
use Rattle.trace_history.specs.Kept.{BookKept}
use Rattle.join_top.specs.inside.Ran.{IsEnded}
use Rattle.join_top.proofs.Leaving.{ended}
use Rattle.join_top.proofs.run.run.Goals as goal

pub returns-clause-ended : goal.returns-clause-ended
returns-clause-ended g c =
    let k : BookKept = c.in_ok-done.done.book in
    let how = c.in_ok-done.done.how in
    let left = ended c.args.asked.now c.args.source.now c.args.program.now k how
    c.quiet.result c.ending_of-ending.result c.in-Ok.text
    c.in_ok-done.ensures c.replays.ensures c.is_a_run.ensures c.quiet.ensures.stuck
    c.quiet.ensures.machine c.ending_of-ending.ensures c.in-Ok.ensures in
    let at_program = subst (λ (p : ProgramTerms). IsEnded c.args.asked.now c.args.source.now
    (record { program = p; journal = k.journal; how = how }) c.in-Ok.text c.ending_of-ending.result)
    (sym c.into_parts-program.ensures.program) left in
    subst (λ (j : List Event). IsEnded c.args.asked.now c.args.source.now
    (record { program = c.into_parts-program.result.0; journal = j; how = how })
    c.in-Ok.text c.ending_of-ending.result) (sym c.into_parts-program.ensures.journal) at_program
