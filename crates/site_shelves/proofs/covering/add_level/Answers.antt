use Rattle.std.proofs.Common.{sym, subst}
use Rattle.site_shelves.specs.inside.Covered.{Levels, KeepsLevels}
use Rattle.site_shelves.proofs.Noting.{level-set}
use Rattle.site_shelves.proofs.covering.add_level.Goals as goal

pub returns-in_err-grow : goal.returns-in_err-grow
returns-in_err-grow c = λ v ms at. (c.grow.ensures v ms).0 at

pub returns-in_err-masks : goal.returns-in_err-masks
returns-in_err-masks c = λ v ms at. (c.grow.ensures v ms).0 at

pub returns-in-Ok : goal.returns-in-Ok
returns-in-Ok c = subst (λ (ls : Levels). KeepsLevels c.args.levels.now.items ls)
    (sym c.set_level.ensures) (level-set c.args.levels.now.items c.grow.new.levels.items
    c.args.number c.copy_masks.new.masks c.requires c.grow.ensures)

pub returns-in-Err : goal.returns-in-Err
returns-in-Err c = λ v ms at. (c.grow.ensures v ms).0 at
