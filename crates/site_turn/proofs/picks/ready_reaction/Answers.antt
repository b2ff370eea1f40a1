use Rattle.std.proofs.Common.{arith}
use Rattle.site_turn.proofs.Acting.{same_room}
use Rattle.site_turn.proofs.Choices.{may_fire}
use Rattle.site_turn.proofs.picks.ready_reaction.Goals as goal

pub count_births-requires-clause-fires : goal.count_births-requires-clause-fires
count_births-requires-clause-fires c = may_fire c.args.code.now c.args.tree.now c.args.site.now
    c.args.pick.now c.requires.0 c.requires.1

pub returns-clause-ready : goal.returns-clause-ready
returns-clause-ready c = record {
  room = c.in_ok-born.born;
  tree = c.in_ok-reserve.ensures.ok;
  births = λ x picks. omega (arith, c.in_ok-born.ensures x picks);
}

pub returns-clause-tree : goal.returns-clause-tree
returns-clause-tree c = same_room c.args.code.now c.args.tree.now c.args.site.now c.in_ok-born.born
    c.reserve.new.self c.in_ok-reserve.ensures.ok
