use Rattle.std.proofs.Common.{◌∙◌}
use Rattle.scope_check.proofs.Sites.{drop-next, own-step, spell-step, tables-step}
use Rattle.scope_check.proofs.naming.walk_sites.Goals as goal

pub loop-site-preserved : goal.loop-site-preserved
loop-site-preserved c =
    let next = drop-next c.args.sites.now c.loop-site.site-index c.site-item.result
    c.loop-site-test.true c.site-item.is in
    let e = c.in_ok-end.ensures in
    let inv = c.loop-site.invariant in
    record {
      own = own-step c.loop-site.end c.in_ok-end.end c.loop-site.tables.spell
          c.walk_place.new.tables.spell
          c.loop-site.own c.walk_place.new.own c.site-item.result _ _ next e.own e.spell e.place
          ∙ inv.own;
      tables = tables-step c.loop-site.end c.in_ok-end.end c.loop-site.tables.spell
          c.walk_place.new.tables.spell
          c.loop-site.own c.walk_place.new.own c.site-item.result _ _
          c.loop-site.tables.scopes.items c.walk_place.new.tables.scopes.items next
          e.own e.spell e.place e.scopes
          ∙ inv.tables;
      spell = spell-step c.loop-site.end c.in_ok-end.end c.loop-site.tables.spell
          c.walk_place.new.tables.spell
          c.loop-site.own c.walk_place.new.own c.site-item.result _ _ next e.own e.spell e.place
          ∙ inv.spell;
    }
