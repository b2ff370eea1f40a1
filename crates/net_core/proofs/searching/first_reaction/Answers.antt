use Rattle.net_core.proofs.SiteReactions.{member_at, none_next, none_reacts, first_reacts}
use Rattle.net_core.proofs.searching.first_reaction.Goals as goal

pub returns-in-Some-clause-some : goal.returns-in-Some-clause-some
returns-in-Some-clause-some c =
    first_reacts c.args.code.now c.args.sites.now c.args.tree.now c.code_is_kept.ensures
    c.loop-number.number c.index-sites-number.result c.in-Some.pick
    (member_at c.args.sites.now c.loop-number.number c.index-sites-number.result
    c.loop-number-test.true c.index-sites-number.is) c.loop-number.invariant c.in-Some.ensures.some

pub loop-number-preserved : goal.loop-number-preserved
loop-number-preserved c =
    none_next c.args.code.now c.args.sites.now c.args.tree.now c.code_is_kept.ensures
    c.loop-number.number c.index-sites-number.result
    (member_at c.args.sites.now c.loop-number.number c.index-sites-number.result
    c.loop-number-test.true c.index-sites-number.is)
    c.loop-number.invariant c.in_default.ensures.none

pub returns-clause-none : goal.returns-clause-none
returns-clause-none c = none_reacts c.args.code.now c.args.sites.now c.args.tree.now
    c.code_is_kept.ensures c.loop-number.number c.loop-number-test.false c.loop-number.invariant
