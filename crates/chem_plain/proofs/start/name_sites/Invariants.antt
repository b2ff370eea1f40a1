use Rattle.std.proofs.Common.{◌≡◌, ◌++◌, drop}
use Rattle.chem_model.specs.Opening.{level_names, level_counts}
use Rattle.chem_plain.proofs.start.name_sites.Given as goal

abbrev pub invariant-loop-site : goal.invariant-loop-site
invariant-loop-site l =
    (l.names ++ level_names l.site (drop l.site l.sites) ≡ l.initial.names ++ level_names 0 l.sites)
    × (l.counts ++ level_counts l.site (drop l.site l.sites)
    ≡ l.initial.counts ++ level_counts 0 l.sites)
