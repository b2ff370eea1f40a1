use Rattle.std.proofs.Common.{◌≤◌, ◌<◌, ◌^◌, length, subst}
use Rattle.chem_model.specs.declared.event.AtomId.{AtomId}
use Rattle.site_shelves.specs.Counted.{times, waiting_in}
use Rattle.chem_model.specs.Each.{Each}
use Rattle.net_laws.specs.Site.{Site, told_in}
use Rattle.net_laws.specs.Kept.{IsKept}
use Rattle.site_shelves.specs.CanLay.{HasNumbers}
use Rattle.site_solution.proofs.site.site_is_kept.Goals as goal

pub returns-clause-kept : goal.returns-clause-kept
returns-clause-kept c = subst IsKept c.site.view_is c.site.invariant.stored.kept

pub returns-clause-numbers : goal.returns-clause-numbers
returns-clause-numbers c =
    subst (λ (s : Site). Each HasNumbers (told_in s.groups)) c.site.view_is c.are_kept.ensures

pub returns-clause-once : goal.returns-clause-once
returns-clause-once c =
    subst (λ (s : Site). (i : AtomId) → times i s ≤ 1) c.site.view_is c.site.invariant.stored.once

pub returns-clause-few_waiting : goal.returns-clause-few_waiting
returns-clause-few_waiting c =
    subst (λ (s : Site). waiting_in s < 2 ^ 32) c.site.view_is c.site.invariant.stored.few_waiting

pub returns-clause-few_locs : goal.returns-clause-few_locs
returns-clause-few_locs c =
    subst (λ (s : Site). length s.locs < 2 ^ 32) c.site.view_is c.are_few.ensures
