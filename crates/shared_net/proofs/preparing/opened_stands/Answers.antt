use Rattle.std.proofs.Common.{subst}
use Rattle.chem_model.specs.ProgramFacts.{IsProgram}
use Rattle.env_store.specs.CodeFacts.{IsCode}
use Rattle.net_laws.proofs.Opened.{opened_stands}
use Rattle.shared_net.proofs.preparing.opened_stands.Goals as goal

pub returns-clause-stands : goal.returns-clause-stands
returns-clause-stands c =
    let ok : IsProgram c.args.program.now = subst IsProgram c.program.view_is c.program.invariant in
    let kept : IsCode c.args.code.now = subst IsCode c.code.view_is c.code.invariant in
    (opened_stands c.args.program.now c.args.code.now ok kept c.requires).0
