use Rattle.std.proofs.Common.{◌≡◌, true, refl}
use Rattle.std.specs.Prelude.{slice_set, slice_index_or, is_some}
use Rattle.net_laws.specs.Site.{Site}
use Rattle.site_solution.specs.InCode.{is_in_code}
use Rattle.site_solution.specs.Pours.{HasEmitted}
use Rattle.site_solution.specs.declared.effects.Effects.{Effects}
use Rattle.failure.specs.Deaths.{dead_for}
use Rattle.failure.specs.Detects.{IsDetection}
use Rattle.net_core.specs.inside.AtSites.{AllStayFit, DetectsAt}
use Rattle.net_core.specs.Whole.{AllFit}
use Rattle.env_store.specs.CodeParts.{CodeParts}
use Rattle.net_core.proofs.AtSite.{asked_at, made_at}
use Rattle.net_core.proofs.Fitting.{ok_both, fit_stays, stay_set, none_set}
use Rattle.net_core.proofs.ReactAt.{fits_or}
use Rattle.net_core.proofs.meeting.detect_at.Goals as goal

pub detect-requires-clause-in_tree : goal.detect-requires-clause-in_tree
detect-requires-clause-in_tree c =
    (fits_or c.requires.fit.0 c.args.tree.now c.args.sites.now c.args.number c.requires.may.site
    c.index-sites-number.result c.requires.fit.1 c.requires.may.site_is).in_tree

pub detect-requires-clause-can_draw : goal.detect-requires-clause-can_draw
detect-requires-clause-can_draw c =
    (fits_or c.requires.fit.0 c.args.tree.now c.args.sites.now c.args.number c.requires.may.site
    c.index-sites-number.result c.requires.fit.1 c.requires.may.site_is).draws

pub detect-requires-clause-dead : goal.detect-requires-clause-dead
detect-requires-clause-dead c = asked_at c.args.sites.now c.args.number c.index-sites-number.result
    (λ (s : Site). is_some (dead_for c.args.tree.now c.args.atom.now s) ≡ true)
    c.requires.may.site c.requires.may.site_is c.requires.may.can

pub returns-clause-ok : goal.returns-clause-ok
returns-clause-ok c =
    let t = c.args.tree.now in
    let sites = c.args.sites.now in
    let n = c.args.number in
    let a = c.args.atom.now in
    let d = c.index-sites-number.result in
    let new = c.detect.new.site in
    made_at sites n d (λ e. IsDetection c.args.counts.now a t (slice_index_or sites n d) new e)
    (λ s e. DetectsAt c.args.counts.now t n a s sites (slice_set sites n new) e)
    (λ (e : Effects) detects. record { after = new; detects = detects; sites = refl })
    c.detect.result c.detect.ensures.ok

pub returns-clause-fit : goal.returns-clause-fit
returns-clause-fit c =
    ok_both (HasEmitted c.args.tree.now c.detect.new.site) ((code : CodeParts)
    → is_in_code code
    c.args.tree.now (slice_index_or c.args.sites.now c.args.number c.index-sites-number.result)
    ≡ true → is_in_code code c.args.tree.now c.detect.new.site ≡ true)
    ((code : CodeParts) → AllFit code c.args.tree.now c.args.sites.now
    → AllStayFit code c.args.tree.now (slice_set c.args.sites.now c.args.number c.detect.new.site))
    c.detect.result
    (λ emitted coded code fit. stay_set code c.args.tree.now c.args.sites.now c.args.number
    c.detect.new.site (fit_stays code c.args.tree.now c.args.sites.now fit)
    (record {
      all_there = emitted.all_there;
      in_code = coded code (fits_or code c.args.tree.now c.args.sites.now c.args.number
          c.requires.may.site c.index-sites-number.result fit c.requires.may.site_is).in_code;
      drawn = emitted.drawn;
      fresh = emitted.fresh;
    }))
    c.detect.ensures.keeps c.detect.ensures.in_code

pub returns-clause-err : goal.returns-clause-err
returns-clause-err c =
    none_set c.args.sites.now c.args.number c.requires.may.site c.index-sites-number.result
    c.detect.new.site c.detect.result c.requires.may.site_is c.detect.ensures.err
