use Rattle.std.proofs.Common.{refl}
use Rattle.site_shelves.specs.inside.Begun.{IsBegunAt}
use Rattle.site_shelves.proofs.Begins.{key-added, where-ok}
use Rattle.site_shelves.proofs.FiredBy.{not-itself}
use Rattle.site_shelves.proofs.firsts.begin.Goals as goal

pub returns-clause-begun : goal.returns-clause-begun
returns-clause-begun c =
    where-ok (IsBegunAt c.insert.new.self c.args.level c.args.rules) c.remember.result (record {
      begin = (c.args.rules.site, c.args.rules.k, c.args.level);
      there = c.in_ok-insert.ensures.updates.1;
      level_is = refl;
      no_later = not-itself c.args.rules;
    })

pub returns-clause-kept : goal.returns-clause-kept
returns-clause-kept c =
    key-added c.args.firsts.now.keys c.insert.new.self
    (c.args.rules.site, c.args.rules.k, c.args.level) c.in_ok-insert.ensures.updates
