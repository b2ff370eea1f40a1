use Rattle.std.proofs.Common.{sym, ap, ◌∙◌}
use Rattle.std.specs.List.{list_all}
use Rattle.site_limits.specs.Shapes.{is_in_levels}
use Rattle.site_limits.proofs.Tested.{shaped-told}
use Rattle.site_limits.proofs.within.levels_are_known.Goals as goal

pub returns-clause-all : goal.returns-clause-all
returns-clause-all c = λ e d h.
    shaped-told c.args.code.now c.args.known.now.shapes.items d
    (ap (list_all (is_in_levels c.args.code.now)) (sym c.deref.ensures.value)
    ∙ sym c.are_in_levels.ensures ∙ e) h
