use Rattle.std.proofs.Common.{subst}
use Rattle.chem_model.specs.ProgramFacts.{IsProgram}
use Rattle.guard_compile.proofs.CodeIs.{reads_too}
use Rattle.guard_compile.proofs.program.compile.Goals as goal

pub returns-clause-reads : goal.returns-clause-reads
returns-clause-reads c = reads_too c.code.result c.args.program.now
    (subst IsProgram c.program.view_is c.program.invariant) c.code.ensures
