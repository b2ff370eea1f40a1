-- The journal leads from a sound opening to the solution that the book holds.
use Rattle.std.proofs.Common.{◌∙◌, subst}
use Rattle.chem_model.specs.ProgramFacts.{IsProgram}
use Rattle.trace_text.proofs.Taking.{journal_takes}
use Rattle.trace_text.proofs.log.each_reaction_takes.Goals as goal

pub returns : goal.returns
returns c =
    let program : IsProgram c.args.book.now.program =
    subst IsProgram (c.program.view_is ∙ c.program-program.ensures) c.program.invariant in
    journal_takes c.event_is_a_reduction.ensures c.opening_is_a_start.ensures
    c.args.book.now.program program c.args.book.now.journal c.replays.ensures.0 c.replays.ensures.1
