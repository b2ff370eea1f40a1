use Rattle.std.proofs.Common.{◌∙◌, sym}
use Rattle.std.specs.Prelude.{IsTrue}
use Rattle.net_laws.specs.Site.{Site}
use Rattle.site_solution.specs.InTree.{is_in_tree}
use Rattle.net_core.proofs.FirstRequests.{meets_next}
use Rattle.net_core.proofs.SiteReactions.{member_at, holds_at}
use Rattle.net_core.proofs.searching.meeting_site.Goals as goal

pub meets-requires : goal.meets-requires
meets-requires c = holds_at (λ (s : Site). IsTrue (is_in_tree c.args.tree.now s))
    c.args.sites.now c.loop-number.number c.index-sites-number.result c.requires
    c.loop-number-test.true c.index-sites-number.is

pub returns-then-meets-clause-some : goal.returns-then-meets-clause-some
returns-then-meets-clause-some c = record {
  site = c.index-sites-number.result;
  site_is = member_at c.args.sites.now c.loop-number.number c.index-sites-number.result
      c.loop-number-test.true c.index-sites-number.is;
  met = sym c.meets.ensures ∙ c.if-meets.true;
}

pub loop-number-preserved : goal.loop-number-preserved
loop-number-preserved c =
    meets_next c.args.version c.args.sites.now c.args.tree.now c.args.choice.now
    c.loop-number.number c.index-sites-number.result
    (member_at c.args.sites.now c.loop-number.number c.index-sites-number.result
    c.loop-number-test.true c.index-sites-number.is) (sym c.meets.ensures ∙ c.if-meets.false)
    c.loop-number.invariant
