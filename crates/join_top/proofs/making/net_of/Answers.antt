-- The network is opened from the code of the program.
use Rattle.std.proofs.Common.{subst}
use Rattle.env_store.specs.CodeParts.{CodeParts}
use Rattle.env_store.specs.CodeFacts.{IsCode}
use Rattle.join_top.proofs.Made.{net_begun}
use Rattle.join_top.proofs.making.net_of.Goals as goal

pub returns : goal.returns
returns c =
    let code : CodeParts = c.in_ok-code.code in
    let is_code : IsCode code = subst IsCode c.code.view_is c.code.invariant in
    net_begun c.args.program.now code c.in_ok-code.ensures.is is_code c.in_ok-code.ensures.reads
    c.start-net.result c.start-net.ensures.opened c.start-net.ensures.froms c.start-net.ensures.code
    c.start-net.ensures.events c.start-net.ensures.stands c.start-net.ensures.runs
