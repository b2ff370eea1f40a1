use Rattle.std.proofs.Common.{rules, arith}
use Rattle.net_core.proofs.OpeningHere.{opens_none, opens_some}
use Rattle.net_core.proofs.SiteReactions.{member_at}
use Rattle.net_core.proofs.searching.opening_of.Goals as goal

pub returns-then-births-eq0-clause-none : goal.returns-then-births-eq0-clause-none
returns-then-births-eq0-clause-none c = λ net parts.
    opens_none c.args.code.now c.args.tree.now c.index-sites-number.result c.in_ok-pick.pick
    c.in_ok-pick.ensures.some c.births.result c.births.ensures c.args.sites.now c.args.number
    (member_at c.args.sites.now c.args.number c.index-sites-number.result c.requires.number
    c.index-sites-number.is) net parts (search (rules, c.if-births-eq0.true))

pub returns-clause-some : goal.returns-clause-some
returns-clause-some c = λ net parts.
    opens_some c.args.code.now c.args.tree.now c.index-sites-number.result c.in_ok-pick.pick
    c.in_ok-pick.ensures.some c.births.result c.births.ensures c.args.sites.now c.args.number
    (member_at c.args.sites.now c.args.number c.index-sites-number.result c.requires.number
    c.index-sites-number.is) net parts (let more = c.if-births-eq0.false in omega arith)
