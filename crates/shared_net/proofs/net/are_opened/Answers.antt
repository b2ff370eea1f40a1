use Rattle.std.proofs.Common.{arith, subst}
use Rattle.chem_model.specs.ProgramFacts.{IsProgram}
use Rattle.chem_laws.proofs.Limits.{sites-few}
use Rattle.shared_net.proofs.Starting.{sites_long}
use Rattle.shared_net.proofs.net.are_opened.Goals as goal

pub returns-clause-count : goal.returns-clause-count
returns-clause-count c = sites_long c.args.program.now c.args.code.now c.args.tree.now
    c.args.sites.now c.args.mail.now c.requires.code c.requires.opened

pub returns-clause-some : goal.returns-clause-some
returns-clause-some c =
    let ok : IsProgram c.args.program.now = subst IsProgram c.program.view_is c.program.invariant in
    (omega (arith, ok.some_site), omega (arith, ok.few_sites, sites-few c.args.program.now.version))
