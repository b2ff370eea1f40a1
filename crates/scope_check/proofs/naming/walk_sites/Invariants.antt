use Rattle.std.proofs.Common.{◌≡◌, ◌++◌, drop}
use Rattle.scope_check.specs.Blocks.{sites_of}
use Rattle.scope_check.specs.inside.Naming.{walk_level}
use Rattle.scope_check.proofs.naming.walk_sites.Given as goal

abbrev pub invariant-loop-site : goal.invariant-loop-site
invariant-loop-site l = record {
  own :
      (walk_level 0 l.end l.tables.spell l.own (sites_of (drop l.site-index l.sites))).own
      ≡ (walk_level 0 1 l.initial.tables.spell l.initial.own (sites_of l.sites)).own;
  tables :
      l.tables.scopes.items
      ++ (walk_level 0 l.end l.tables.spell l.own (sites_of (drop l.site-index l.sites))).tables
      ≡ l.initial.tables.scopes.items
      ++ (walk_level 0 1 l.initial.tables.spell l.initial.own (sites_of l.sites)).tables;
  spell :
      (walk_level 0 l.end l.tables.spell l.own (sites_of (drop l.site-index l.sites))).spell
      ≡ (walk_level 0 1 l.initial.tables.spell l.initial.own (sites_of l.sites)).spell;
}
