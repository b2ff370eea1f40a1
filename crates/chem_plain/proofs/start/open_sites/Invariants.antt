use Rattle.std.proofs.Common.{◌≡◌, drop}
use Rattle.chem_model.specs.Opening.{open_sites}
use Rattle.chem_plain.specs.inside.Names.{names_of}
use Rattle.chem_plain.proofs.start.open_sites.Given as goal

abbrev pub invariant-loop-site : goal.invariant-loop-site
invariant-loop-site l = open_sites (names_of l.names) l.site (drop l.site l.sites) l.solution
    ≡ open_sites (names_of l.names) 0 l.sites l.initial.solution
