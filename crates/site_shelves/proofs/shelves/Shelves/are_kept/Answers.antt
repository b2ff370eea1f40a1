use Rattle.std.proofs.Common.{subst}
use Rattle.chem_model.specs.Each.{Each}
use Rattle.net_laws.specs.Site.{told_in}
use Rattle.site_shelves.specs.CanLay.{HasNumbers}
use Rattle.site_shelves.specs.Shelved.{Shelved}
use Rattle.site_shelves.proofs.shelves.Shelves.are_kept.Goals as goal

pub returns : goal.returns
returns c =
    subst (λ (h : Shelved). Each HasNumbers (told_in h.groups)) c.self.view_is
    c.self.invariant.numbers
