use Rattle.std.proofs.Common.{List, length, ap, sym, subst, arith}
use Rattle.chem_model.specs.Each.{Each}
use Rattle.net_laws.specs.Site.{Group, told_in}
use Rattle.net_laws.proofs.Parcels.{each_laid_but}
use Rattle.site_shelves.specs.CanLay.{HasNumbers}
use Rattle.site_shelves.specs.inside.Index.{groups_of}
use Rattle.site_shelves.specs.inside.Begun.{IsBegun}
use Rattle.site_shelves.proofs.Queueing.{groups-many}
use Rattle.site_shelves.proofs.Shelving.{length-groups_but}
use Rattle.site_shelves.proofs.shelves.Shelves.remove.Goals as goal

pub invariant_of-self : goal.invariant_of-self
invariant_of-self c =
    let gs = groups_of c.self.inside.groups.groups in
    record {
      index = c.drop_groups.ensures.index;
      numbers = subst (λ (hs : List Group). Each HasNumbers (told_in hs))
          (sym c.drop_groups.ensures.groups)
          (each_laid_but c.args.loc HasNumbers gs c.self.invariant.numbers);
      few = omega (
        arith,
        c.self.invariant.few,
        groups-many c.drop_groups.new.groups.groups,
        ap (λ (hs : List Group). length hs) c.drop_groups.ensures.groups,
        length-groups_but c.args.loc gs,
        groups-many c.self.inside.groups.groups,
      );
      covering = c.drop_groups.ensures.covering;
      begun = subst (λ (hs : List Group). Each (IsBegun c.self.inside.firsts.keys) (told_in hs))
          (sym c.drop_groups.ensures.groups)
          (each_laid_but c.args.loc (IsBegun c.self.inside.firsts.keys) gs
          c.self.invariant.begun);
    }
