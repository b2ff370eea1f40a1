use Rattle.net_core.proofs.Fitting.{none_set}
use Rattle.net_core.proofs.ReactAt.{reacts_at, may_fire, ready_here}
use Rattle.net_core.proofs.reacting.react_at.Goals as goal

pub react_by-requires-clause-fires : goal.react_by-requires-clause-fires
react_by-requires-clause-fires c = may_fire c.args.code.now c.args.tree.now c.args.sites.now
    c.args.number c.index-sites-number.result c.args.pick.now c.requires.may

pub react_by-requires-clause-fit : goal.react_by-requires-clause-fit
react_by-requires-clause-fit c = ready_here c.args.code.now c.args.tree.now c.args.sites.now
    c.args.number c.index-sites-number.result c.args.pick.now c.requires.may c.requires.fit

pub returns-clause-ok : goal.returns-clause-ok
returns-clause-ok c = reacts_at c.args.code.now c.args.tree.now c.args.sites.now c.args.number
    c.index-sites-number.result c.args.pick.now c.react_by.new.site c.react_by.result
    c.react_by.ensures.ok

pub returns-clause-err : goal.returns-clause-err
returns-clause-err c =
    none_set c.args.sites.now c.args.number c.requires.may.site c.index-sites-number.result
    c.react_by.new.site c.react_by.result c.requires.may.site_is c.react_by.ensures.err
