use Rattle.std.proofs.Common.{◌≡◌, drop}
use Rattle.std.specs.List.{list_all}
use Rattle.site_shelves.specs.Draws.{is_drawn}
use Rattle.site_limits.specs.Hosted.{locs_of}
use Rattle.chem_model.specs.declared.name.Loc.{Loc}
use Rattle.site_limits.proofs.places.locs_are_drawn.Given as goal

abbrev pub invariant-loop-pair : goal.invariant-loop-pair
invariant-loop-pair l = list_all (λ (x : Loc). is_drawn l.count.number l.count.made x.site x.k)
    (locs_of (drop l.pair-index l.pairs))
    ≡ list_all (λ (x : Loc). is_drawn l.count.number l.count.made x.site x.k) (locs_of l.pairs)
