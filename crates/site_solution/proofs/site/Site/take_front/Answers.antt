use Rattle.net_laws.specs.Site.{Site}
use Rattle.site_solution.specs.inside.Stored.{seen}
use Rattle.site_solution.proofs.Keeping.{front-site, front-stored}
use Rattle.site_solution.proofs.Knowing.{known-front}
use Rattle.site_solution.proofs.site.Site.take_front.Goals as goal

pub invariant_of-self : goal.invariant_of-self
invariant_of-self c =
    let s : Site = seen c.self.inside in
    let h = c.self.invariant in
    record {
      stored = front-stored s c.drop_fronts.new.self c.args.group c.args.chan h.stored
          c.drop_fronts.ensures.groups c.drop_fronts.ensures.stuck;
      known = known-front c.self.inside.known s c.drop_fronts.new.self c.args.group c.args.chan
          h.stored.kept c.drop_fronts.ensures.groups c.drop_fronts.ensures.stuck h.known;
    }

pub returns : goal.returns
returns c = λ g here.
    let there = rw (← c.self.view_is) at here in
    rw (← c.self.view_is)
    (front-site (seen c.self.inside) c.drop_fronts.new.self c.args.group c.args.chan g there
    c.drop_fronts.ensures.groups c.drop_fronts.ensures.stuck)
