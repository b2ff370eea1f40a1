use Rattle.std.proofs.Common.{List, ℕ, sym, ap, subst, ◌∙◌}
use Rattle.net_laws.specs.Site.{Group, told_in}
use Rattle.site_shelves.specs.inside.Index.{groups_of, IsIndex}
use Rattle.site_shelves.specs.inside.Covered.{HasSerials}
use Rattle.site_shelves.proofs.Noting.{serials-known}
use Rattle.site_shelves.proofs.StillHeld.{fronts-still}
use Rattle.site_shelves.proofs.Shelving.{as-indexed, same-indexed, told-gone, index-gone}
use Rattle.site_shelves.proofs.shelves.Shelves.drop_fronts.Goals as goal

pub refresh_empty-requires-clause-serials : goal.refresh_empty-requires-clause-serials
refresh_empty-requires-clause-serials c =
    subst (λ (n : ℕ). HasSerials c.self.inside.spots n) (sym c.take_fronts.ensures.many)
    (serials-known c.self.inside.spots c.self.inside.groups.groups c.self.invariant.index)

pub refresh_empty-requires-clause-is : goal.refresh_empty-requires-clause-is
refresh_empty-requires-clause-is c =
    fronts-still c.self.inside.covering c.self.inside.spots.serials.items
    (groups_of c.self.inside.groups.groups) (groups_of c.take_fronts.new.groups.groups)
    c.args.group c.args.chans.now c.take_fronts.ensures.groups c.self.invariant.covering

pub invariant_of-self : goal.invariant_of-self
invariant_of-self c =
    let gs = groups_of c.self.inside.groups.groups in
    let fronts = c.take_fronts.ensures.groups in
    let index = subst (λ (hs : List Group). IsIndex c.self.inside.spots hs) (sym fronts)
    (index-gone c.self.inside.spots gs c.args.group c.args.chans.now c.self.invariant.index) in
    let all = same-indexed c.self.inside.spots c.self.inside.firsts.keys c.self.inside.groups.groups
    c.take_fronts.new.groups.groups (as-indexed c.self.inside c.self.invariant) index
    (ap told_in fronts ∙ told-gone gs c.args.group c.args.chans.now) in
    record {
      index = all.index;
      numbers = all.numbers;
      few = all.few;
      covering = c.refresh_empty.ensures;
      begun = all.begun;
    }
