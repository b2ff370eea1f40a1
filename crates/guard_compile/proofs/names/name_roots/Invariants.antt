use Rattle.std.proofs.Common.{◌≡◌, ◌++◌, drop}
use Rattle.chem_model.specs.Opening.{root_names}
use Rattle.guard_compile.proofs.names.name_roots.Given as goal

abbrev pub invariant-loop-site : goal.invariant-loop-site
invariant-loop-site l =
    l.names ++ root_names l.site (drop l.site l.sites) ≡ l.initial.names ++ root_names 0 l.sites
