use Rattle.std.proofs.Common.{◌≡◌, ◌++◌, drop}
use Rattle.chem_model.specs.Opening.{level_births}
use Rattle.chem_plain.specs.inside.Names.{names_of}
use Rattle.chem_plain.proofs.start.add_site_births.Given as goal

abbrev pub invariant-loop-site : goal.invariant-loop-site
invariant-loop-site l = l.places ++ level_births l.site (names_of l.names) (drop l.site l.sites)
    ≡ l.initial.places ++ level_births 0 (names_of l.names) l.sites
