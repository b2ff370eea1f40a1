-- The rounds from the beginning.
use Rattle.std.proofs.Common.{subst}
use Rattle.chem_model.specs.ProgramFacts.{IsProgram}
use Rattle.join_top.proofs.Made.{rounds_made}
use Rattle.join_top.proofs.making.in_rounds.Goals as goal

pub returns : goal.returns
returns g c =
    let fine : IsProgram c.args.program.now =
    subst IsProgram c.program.view_is c.program.invariant in
    rounds_made c.args.program.now c.args.asked.now.workers c.args.asked.now.budget
    c.args.asked.now.loss fine
    c.rounds_replay.ensures c.in_ok-net.net c.in_ok-net.ensures.opened c.in_ok-net.ensures.code
    c.in_ok-net.book c.rounds.result c.in_ok-net.ensures.book c.rounds.ensures.run
    c.rounds.ensures.whole c.rounds.ensures.how
