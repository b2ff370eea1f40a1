use Rattle.std.proofs.Common.{◌≡◌, true, refl}
use Rattle.std.specs.Prelude.{slice_set, slice_index_or}
use Rattle.env_store.specs.CodeParts.{CodeParts}
use Rattle.net_laws.specs.Site.{Site}
use Rattle.site_solution.specs.declared.effects.Effects.{Effects}
use Rattle.migration.specs.Moves.{can_go}
use Rattle.migration.specs.Within.{leads_into, IsMoveWithin, FitWithin}
use Rattle.net_core.specs.inside.AtSites.{AllStayFit, MovesAt}
use Rattle.net_core.specs.Whole.{AllFit}
use Rattle.net_core.proofs.AtSite.{asked_at, made_at}
use Rattle.net_core.proofs.Fitting.{all_still, fit_stays, stay_set, none_set}
use Rattle.net_core.proofs.ReactAt.{fits_or}
use Rattle.net_core.proofs.Crossing.{ok_one}
use Rattle.net_core.proofs.moving.move_at.Goals as goal

pub move_within-requires : goal.move_within-requires
move_within-requires c =
    let t = c.args.tree.now in
    let sites = c.args.sites.now in
    let n = c.args.number in
    let i = c.args.atom.now in
    let d = c.index-sites-number.result in
    let may = c.requires.may in
    let fit = fits_or c.requires.fit.0 t sites n may.site d c.requires.fit.1 may.site_is in
    record {
      in_tree = fit.in_tree;
      draws = fit.draws;
      may = asked_at sites n d (λ (s : Site). can_go 2 t i s ≡ true) may.site may.site_is may.can;
      hosted = asked_at sites n d (λ (s : Site). leads_into i s s ≡ true) may.site may.site_is
          may.hosted;
    }

pub returns-clause-ok : goal.returns-clause-ok
returns-clause-ok c =
    let t = c.args.tree.now in
    let u = c.move_within.new.tree in
    let sites = c.args.sites.now in
    let n = c.args.number in
    let a = c.args.atom.now in
    let d = c.index-sites-number.result in
    let new = c.move_within.new.site in
    made_at sites n d (λ e. IsMoveWithin c.args.counts.now a t (slice_index_or sites n d) u new e)
    (λ s e. MovesAt c.args.counts.now t u n a s sites (slice_set sites n new) e)
    (λ (e : Effects) moves. record { after = new; moves = moves; sites = refl })
    c.move_within.result c.move_within.ensures.ok

pub returns-clause-fit : goal.returns-clause-fit
returns-clause-fit c =
    let t = c.args.tree.now in
    let u = c.move_within.new.tree in
    let sites = c.args.sites.now in
    let n = c.args.number in
    let new = c.move_within.new.site in
    let here = slice_index_or sites n c.index-sites-number.result in
    ok_one (FitWithin t here u new)
    ((code : CodeParts) → AllFit code t sites → AllStayFit code u (slice_set sites n new))
    c.move_within.result
    (λ is code fit.
    stay_set code u sites n new
    (fit_stays code u sites (all_still code t u sites (is.others code) fit))
    (record {
      all_there = is.site.all_there;
      in_code = is.in_code code (fits_or code t sites n
          c.requires.may.site c.index-sites-number.result fit c.requires.may.site_is).in_code;
      drawn = is.site.drawn;
      fresh = is.site.fresh;
    }))
    c.move_within.ensures.fit

pub returns-clause-err : goal.returns-clause-err
returns-clause-err c =
    none_set c.args.sites.now c.args.number c.requires.may.site c.index-sites-number.result
    c.move_within.new.site c.move_within.result c.requires.may.site_is c.move_within.ensures.err

pub returns-clause-err_tree : goal.returns-clause-err_tree
returns-clause-err_tree c = c.move_within.ensures.err_tree
