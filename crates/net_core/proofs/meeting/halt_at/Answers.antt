use Rattle.std.proofs.Common.{◌≡◌, true, refl, subst}
use Rattle.std.proofs.lemmas.Option.{get_or_from_slice_get}
use Rattle.std.specs.Prelude.{slice_index_or}
use Rattle.net_laws.specs.Site.{Site}
use Rattle.failure.specs.Halts.{can_halt, IsHalt}
use Rattle.site_turn.proofs.Bringing.{still_acts}
use Rattle.net_core.proofs.AtSite.{asked_at}
use Rattle.net_core.proofs.Fitting.{all_fit_set, all_still}
use Rattle.net_core.proofs.ReactAt.{fits_or}
use Rattle.net_core.proofs.meeting.halt_at.Goals as goal

pub halt-requires-clause-in_tree : goal.halt-requires-clause-in_tree
halt-requires-clause-in_tree c =
    (fits_or c.requires.fit.0 c.args.tree.now c.args.sites.now c.args.number c.requires.may.site
    c.index-sites-number.result c.requires.fit.1 c.requires.may.site_is).in_tree

pub halt-requires-clause-ready : goal.halt-requires-clause-ready
halt-requires-clause-ready c = asked_at c.args.sites.now c.args.number c.index-sites-number.result
    (λ (s : Site). can_halt c.args.tree.now c.args.atom.now s ≡ true)
    c.requires.may.site c.requires.may.site_is c.requires.may.can

pub returns-clause-halts : goal.returns-clause-halts
returns-clause-halts c = λ s at. record {
  after = c.halt.new.site;
  halts =
      subst (λ (u : Site). IsHalt c.args.atom.now c.args.tree.now u c.halt.new.tree c.halt.new.site)
      (get_or_from_slice_get c.args.sites.now c.args.number s c.index-sites-number.result at)
      c.halt.ensures.halt;
  sites = refl;
}

pub returns-clause-fit : goal.returns-clause-fit
returns-clause-fit c = λ code fit.
    all_fit_set code c.halt.new.tree c.args.sites.now c.args.number c.halt.new.site (all_still code
    c.args.tree.now c.halt.new.tree c.args.sites.now (λ s. c.halt.ensures.others_keep code s) fit)
    (still_acts code c.args.tree.now c.halt.new.tree
    (slice_index_or c.args.sites.now c.args.number c.index-sites-number.result) c.halt.new.site
    (c.halt.ensures.fits code) (fits_or code c.args.tree.now c.args.sites.now c.args.number
    c.requires.may.site c.index-sites-number.result fit c.requires.may.site_is))
