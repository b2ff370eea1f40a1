use Rattle.std.proofs.Common.{◌≡◌, ◌∙◌, [], Some, slice_get, sym, ap, arith}
use Rattle.net_laws.specs.Site.{Site}
use Rattle.net_core.specs.Asking.{in_order}
use Rattle.net_core.proofs.Members.{get_is}
use Rattle.net_core.proofs.Requests.{one_site, all_listed, listed_in_order}
use Rattle.net_core.proofs.asking.all_requests.Goals as goal

pub loop-site-preserved : goal.loop-site-preserved
loop-site-preserved c =
    let sites = c.args.sites.now in
    let at : slice_get sites c.loop-site.site-index ≡ Some c.site-item.result =
    get_is sites c.loop-site.site-index c.site-item.result (omega (arith, c.loop-site-test.true))
    ∙ ap (λ (s : Site). Some s) (sym c.site-item.is) in
    one_site sites c.loop-site.requests.items c.add_requests.new.requests.items
    c.loop-site.site-index c.site-item.result at c.loop-site.invariant c.in_ok-add_requests.ensures

pub returns : goal.returns
returns c =
    let sites = c.args.sites.now in
    c.in_ok-put_in_order.ensures
    ∙ ap (λ rs. in_order rs []) (all_listed sites c.loop-site.requests.items
    c.loop-site.site-index (omega (arith, c.loop-site-test.false)) c.loop-site.invariant)
    ∙ listed_in_order sites
