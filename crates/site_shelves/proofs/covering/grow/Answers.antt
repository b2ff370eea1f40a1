use Rattle.std.proofs.Common.{sym, subst}
use Rattle.site_shelves.specs.inside.Covered.{Levels, SameLevels}
use Rattle.site_shelves.proofs.Noting.{levels-more}
use Rattle.site_shelves.proofs.covering.grow.Goals as goal

pub returns-in_err-push : goal.returns-in_err-push
returns-in_err-push c = subst (λ (ls : Levels). SameLevels c.args.levels.now.items ls)
    (sym c.in_err-push.ensures.items) c.loop-at.invariant

pub loop-at-preserved : goal.loop-at-preserved
loop-at-preserved c =
    subst (λ (ls : Levels). SameLevels c.args.levels.now.items ls) (sym c.in_ok-push.ensures.items)
    (levels-more c.args.levels.now.items c.loop-at.levels.items c.loop-at.invariant)

pub returns-in_ok-push : goal.returns-in_ok-push
returns-in_ok-push c =
    subst (λ (ls : Levels). SameLevels c.args.levels.now.items ls) (sym c.in_ok-push.ensures.items)
    (levels-more c.args.levels.now.items c.loop-at.levels.items c.loop-at.invariant)
