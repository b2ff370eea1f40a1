use Rattle.std.proofs.Common.{◌≡◌, ◌+◌, ◌++◌, drop}
use Rattle.scope_check.specs.inside.Order.{first_of}
use Rattle.scope_check.specs.Blocks.{sites_of, scopes_in_defs}
use Rattle.scope_check.specs.inside.Twin.{site_terms_in, level_uses_in}
use Rattle.scope_check.proofs.translate.sites.Given as goal

abbrev pub invariant-loop-tree : goal.invariant-loop-tree
invariant-loop-tree l = record {
  end :
      l.end + scopes_in_defs (sites_of (drop l.tree-index l.list))
      ≡ 1 + scopes_in_defs (sites_of l.list);
  value :
      l.terms ++ site_terms_in l.by.scopes.now l.own l.env l.end (drop l.tree-index l.list)
      ≡ site_terms_in l.by.scopes.now l.own l.env 1 l.list;
  least :
      first_of l.least
      (level_uses_in l.by.scopes.now l.env l.end (sites_of (drop l.tree-index l.list)))
      ≡ first_of l.initial.least (level_uses_in l.by.scopes.now l.env 1 (sites_of l.list));
}
