use Rattle.std.proofs.Common.{◌≡◌, ◌++◌, drop}
use Rattle.chem_model.specs.Opening.{level_names}
use Rattle.guard_compile.proofs.names.name_levels.Given as goal

abbrev pub invariant-loop-site : goal.invariant-loop-site
invariant-loop-site l =
    l.names ++ level_names l.site (drop l.site l.sites) ≡ l.initial.names ++ level_names 0 l.sites
