use Rattle.chem_model.specs.declared.name.Loc.{Loc}
use Rattle.site_limits.specs.Limits.{Limits, loc_within}
use Rattle.site_limits.proofs.Learned.{left-first, left-next, left-none, member-at}
use Rattle.site_limits.proofs.Stays.{loc-stays}
use Rattle.site_limits.proofs.known.note_homes.Goals as goal

pub loop-loc-init : goal.loop-loc-init
loop-loc-init c = left-first (λ (d : Limits) (x : Loc). loc_within d c.args.number x)
    c.args.locs.now 0 c.args.known.now

pub loop-loc-preserved : goal.loop-loc-preserved
loop-loc-preserved c =
    left-next (λ (d : Limits) (x : Loc). loc_within d c.args.number x) c.args.locs.now 0
    c.loop-loc.loc-index _ c.args.known.now c.loop-loc.known c.note_home.new.known
    (loc-stays c.args.number _)
    (member-at c.args.locs.now c.loop-loc.loc-index _ c.loop-loc-test.true)
    c.loop-loc.invariant c.note_home.ensures

pub returns : goal.returns
returns c =
    left-none (λ (d : Limits) (x : Loc). loc_within d c.args.number x) c.args.locs.now 0
    c.loop-loc.loc-index c.args.known.now c.loop-loc.known c.loop-loc-test.false
    c.loop-loc.invariant
