use Rattle.std.proofs.Common.{◌≡◌, true, rules}
use Rattle.reducer.proofs.Levels.{level_at}
use Rattle.reducer.proofs.Guards.{group_in}
use Rattle.reducer.proofs.firing.may_fire.Goals as goal

pub is_pick-requires : goal.is_pick-requires
is_pick-requires c =
    λ g held. level_at c.args.code.now c.args.tree.now c.args.site.now c.args.pick.now.group g
    c.requires.code held

pub is_covered-requires-clause-level : goal.is_covered-requires-clause-level
is_covered-requires-clause-level c =
    λ g held. level_at c.args.code.now c.args.tree.now c.args.site.now c.args.pick.now.group g
    c.requires.code held

pub is_live-requires-clause-group : goal.is_live-requires-clause-group
is_live-requires-clause-group c =
    let holds : c.is_pick.result ≡ true = search rules in
    group_in c.args.code.now c.args.site.now c.args.pick.now (c.is_pick.ensures.0 holds)
