use Rattle.chem_model.specs.declared.name.Loc.{Loc}
use Rattle.site_limits.specs.Limits.{Limits, loc_within}
use Rattle.site_limits.specs.Knows.{Noted}
use Rattle.site_limits.proofs.Learned.{Left}
use Rattle.site_limits.proofs.known.note_homes.Given as goal

abbrev pub invariant-loop-loc : goal.invariant-loop-loc
invariant-loop-loc l = Noted l.fn.known l.known
    (Left (λ (d : Limits) (x : Loc). loc_within d l.number x) l.locs 0 l.loc-index)
