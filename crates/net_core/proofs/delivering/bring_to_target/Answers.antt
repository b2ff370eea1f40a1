use Rattle.std.specs.Prelude.{◌≡◌, slice_set}
use Rattle.net_core.proofs.Deliveries.{text_brought, brought_fit}
use Rattle.net_core.proofs.Fitting.{on_err, unchanged_set}
use Rattle.net_core.proofs.Leading.{get_some}
use Rattle.net_core.proofs.delivering.bring_to_target.Goals as goal

pub returns-clause-ok : goal.returns-clause-ok
returns-clause-ok c = text_brought c.args.tree.now c.args.sites.now c.args.target c.args.bytes.now
    c.index-sites-target.result c.bring_text.new.site c.new-more.result c.bring_text.new.on
    c.new-more.ensures c.in_ok-bring_text.ensures.ok

pub returns-clause-fit : goal.returns-clause-fit
returns-clause-fit c = brought_fit c.args.tree.now c.args.sites.now c.args.target c.args.bytes.now
    c.index-sites-target.result c.bring_text.new.site c.requires.target
    c.in_ok-bring_text.ensures.fit

pub returns-in_err-bring_text-clause-err : goal.returns-in_err-bring_text-clause-err
returns-in_err-bring_text-clause-err c =
    let sites = c.args.sites.now in
    let at = get_some sites c.args.target c.requires.target in
    let new = c.bring_text.new.site in
    on_err (slice_set sites c.args.target new ≡ sites) c.from_residual.result
    (unchanged_set sites c.args.target at.0 c.index-sites-target.result new at.1
    c.in_err-bring_text.ensures.err)
