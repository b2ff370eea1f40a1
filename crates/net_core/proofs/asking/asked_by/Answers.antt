use Rattle.std.proofs.Common.{◌≡◌, ◌∙◌, ◌++◌, ◌∷◌, [], Some, slice_get, sym, ap, arith}
use Rattle.net_laws.specs.Site.{Site}
use Rattle.net_core.proofs.Members.{get_is}
use Rattle.net_core.proofs.Requests.{one_counted, all_counted}
use Rattle.net_core.proofs.asking.asked_by.Goals as goal

pub loop-site-preserved : goal.loop-site-preserved
loop-site-preserved c =
    let sites = c.args.sites.now in
    let at : slice_get sites c.loop-site.site-index ≡ Some c.site-item.result =
    get_is sites c.loop-site.site-index c.site-item.result (omega (arith, c.loop-site-test.true))
    ∙ ap (λ (s : Site). Some s) (sym c.site-item.is) in
    one_counted sites c.loop-site.asked.items c.push.new.self.items c.loop-site.site-index
    c.site-item.result at c.loop-site.invariant
    (c.in_ok-push.ensures.items ∙ ap (λ n. c.loop-site.asked.items ++ n ∷ []) c.count_requests.ensures)

pub returns : goal.returns
returns c =
    let sites = c.args.sites.now in
    all_counted sites c.loop-site.asked.items c.loop-site.site-index
    (omega (arith, c.loop-site-test.false)) c.loop-site.invariant
