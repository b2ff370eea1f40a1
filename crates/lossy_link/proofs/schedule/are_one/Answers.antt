use Rattle.std.proofs.Common.{◌∙◌, subst}
use Rattle.chem_model.specs.ProgramFacts.{IsProgram}
use Rattle.lossy_link.proofs.Coming.{as_one}
use Rattle.lossy_link.proofs.schedule.are_one.Goals as goal

pub returns : goal.returns
returns c = as_one c.args.book.now c.args.net.now c.requires c.replays.ensures
    (subst IsProgram (c.program.view_is ∙ c.program-program.ensures) c.program.invariant)
    c.code_is_kept.ensures
