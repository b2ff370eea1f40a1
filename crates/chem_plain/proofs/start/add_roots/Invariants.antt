use Rattle.std.proofs.Common.{◌≡◌, ◌++◌, drop}
use Rattle.chem_model.specs.Opening.{roots}
use Rattle.chem_plain.proofs.start.add_roots.Given as goal

abbrev pub invariant-loop-site : goal.invariant-loop-site
invariant-loop-site l =
    l.places ++ roots l.site (drop l.site l.sites) ≡ l.initial.places ++ roots 0 l.sites
