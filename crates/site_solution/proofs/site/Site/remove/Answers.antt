use Rattle.std.proofs.Common.{◌∙◌, List, ap, sym, subst}
use Rattle.net_laws.specs.Site.{Group, Site}
use Rattle.net_laws.specs.Parcels.{remove}
use Rattle.site_solution.specs.inside.Stored.{seen, IsStored}
use Rattle.site_limits.specs.Knows.{IsKnown}
use Rattle.site_solution.proofs.Knowing.{known-removed}
use Rattle.site_solution.proofs.Removed.{removed-stored}
use Rattle.site_solution.specs.Staying.{StillFits}
use Rattle.site_solution.proofs.Staying.{removed_fits}
use Rattle.site_solution.proofs.site.Site.remove.Goals as goal

pub invariant_of-self : goal.invariant_of-self
invariant_of-self c =
    let was : Site = seen c.self.inside in
    let is =
    ap (λ ls. record was {
      locs = ls;
      groups = c.remove.new.self.groups;
      stuck = c.remove.new.self.stuck;
      requests = c.drop_at.new.self.items;
    }) c.remove-2.ensures
    ∙ ap (λ (gs : List Group). record (remove c.args.loc.now was) {
      groups = gs;
      stuck = c.remove.new.self.stuck;
      requests = c.drop_at.new.self.items;
    }) c.remove.ensures.groups
    ∙ ap
    (λ ws. record (remove c.args.loc.now was) { stuck = ws; requests = c.drop_at.new.self.items })
    c.remove.ensures.stuck
    ∙ ap (λ qs. record (remove c.args.loc.now was) { requests = qs }) c.drop_at.ensures in
    record {
      stored = subst IsStored (sym is)
          (removed-stored c.args.loc.now was c.self.invariant.stored);
      known = subst (IsKnown c.self.inside.known) (sym is)
          (known-removed c.args.loc.now c.self.inside.known was c.self.invariant.known);
    }

pub returns-clause-keeps : goal.returns-clause-keeps
returns-clause-keeps c = λ code t u agree no_root.
    let was : Site = seen c.self.inside in
    let is =
    ap (λ ls. record was {
      locs = ls;
      groups = c.remove.new.self.groups;
      stuck = c.remove.new.self.stuck;
      requests = c.drop_at.new.self.items;
    }) c.remove-2.ensures
    ∙ ap (λ (gs : List Group). record (remove c.args.loc.now was) {
      groups = gs;
      stuck = c.remove.new.self.stuck;
      requests = c.drop_at.new.self.items;
    }) c.remove.ensures.groups
    ∙ ap
    (λ ws. record (remove c.args.loc.now was) { stuck = ws; requests = c.drop_at.new.self.items })
    c.remove.ensures.stuck
    ∙ ap (λ qs. record (remove c.args.loc.now was) { requests = qs }) c.drop_at.ensures
    ∙ ap (remove c.args.loc.now) c.self.view_is in
    subst (λ (v : Site). StillFits code t c.args.self.now u v) (sym is)
    (removed_fits c.args.loc.now code t u c.args.self.now agree no_root)
