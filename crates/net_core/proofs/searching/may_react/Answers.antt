use Rattle.net_core.proofs.SiteReactions.{member_at, may_fire_reacts}
use Rattle.net_core.proofs.searching.may_react.Goals as goal

pub returns : goal.returns
returns c = λ net parts.
    may_fire_reacts c.args.code.now c.args.sites.now c.args.tree.now c.code_is_kept.ensures net
    parts c.args.number c.index-sites-at.result c.args.pick.now c.may_fire.result
    (member_at c.args.sites.now c.args.number c.index-sites-at.result c.if-at-sites.false
    c.index-sites-at.is) c.may_fire.ensures
